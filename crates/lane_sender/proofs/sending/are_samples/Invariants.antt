use mathlib.Core.Path.{◌≡◌}
use mathlib.Core.Bool.{◌&&◌}
use lib.ListN.{drop}
use Rattle.lane_rules.specs.Sending.{are_samples}
use Rattle.lane_sender.proofs.sending.are_samples.Given as goal

abbrev pub invariant-loop-x : goal.invariant-loop-x
invariant-loop-x l = are_samples l.samples ≡ (l.good && are_samples (drop l.x-index l.samples))
