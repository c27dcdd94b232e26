use mathlib.Core.Path.{refl}
use Rattle.lane_rules.specs.Sender.{alignment_permitted}
use Rattle.lane_sender.proofs.sender.alignment_permitted.Goals as goal

pub returns : goal.returns
unfolding alignment_permitted
returns c = refl
