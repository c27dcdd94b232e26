use mathlib.Core.Path.{refl}
use Rattle.frame.specs.Scrambler.{upper_bits, next_state}
use Rattle.frame.proofs.scrambler.advance.Goals as goal

pub returns : goal.returns
unfolding next_state upper_bits
returns c = refl
