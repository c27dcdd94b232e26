use mir.Facts.{to_z-of_z}
use Rattle.frame.specs.Frame.{within}
use Rattle.lane.proofs.summing.is_small.Goals as goal

pub returns-then-sum-geminus1073741824 : goal.returns-then-sum-geminus1073741824
unfolding within
returns-then-sum-geminus1073741824 c = let e = to_z-of_z c.ranges.sum in rw (e, rw e at c.if-sum-geminus1073741824.true)

pub returns-else-sum-geminus1073741824 : goal.returns-else-sum-geminus1073741824
unfolding within
returns-else-sum-geminus1073741824 c = let e = to_z-of_z c.ranges.sum in rw (e, rw e at c.if-sum-geminus1073741824.false)
