use mir.Facts.{to_z-of_z}
use Rattle.frame.specs.Frame.{within}
use Rattle.frame.proofs.frame.is_running_disparity.Goals as goal

pub returns-then-r-geminus16 : goal.returns-then-r-geminus16
unfolding within
returns-then-r-geminus16 c = let e = to_z-of_z c.ranges.r in rw (e, rw e at c.if-r-geminus16.true)

pub returns-else-r-geminus16 : goal.returns-else-r-geminus16
unfolding within
returns-else-r-geminus16 c = let e = to_z-of_z c.ranges.r in rw (e, rw e at c.if-r-geminus16.false)
