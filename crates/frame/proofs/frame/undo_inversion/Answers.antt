use native.Mathlib.Omega.{arith}
use Rattle.frame.proofs.Inversion.{uninverted_xor}
use Rattle.frame.proofs.frame.undo_inversion.Goals as goal

pub returns : goal.returns
returns c = uninverted_xor c.args.frame _ c.ranges.frame.fits (omega arith)
