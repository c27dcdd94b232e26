use mathlib.Core.Path.{◌≡◌, ap, ◌∙◌}
use native.Mathlib.Omega.{arith}
use lib.IntN.{ℤ}
use mir.Facts.{to_z-of_z}
use Rattle.frame.proofs.Machine.{read_back, within_fits}
use Rattle.lane_rules.specs.Sums.{with_frame, sums_by}
use Rattle.lane_rules.specs.Outcomes.{IsDisparity}
use Rattle.lane_rules.specs.declared.Sums.{Sums}
use Rattle.lane.proofs.summing.summed.Goals as goal

-- the sums with a frame, whose disparity is read from the bits that a local holds
frame_sums : (s t : Sums) (d : ℤ) → IsDisparity d → t ≡ with_frame s (read_back d) → t ≡ with_frame s d
frame_sums s t d h e = e ∙ ap (with_frame s) (to_z-of_z (within_fits 16 d (omega arith) h))

pub returns-in-Sample : goal.returns-in-Sample
unfolding sums_by
returns-in-Sample c =
    rw c.in-Sample.is (frame_sums _ _ _ (rw c.in-Sample.is at c.requires).1 c.with_frame.ensures)

pub returns-in-Gap : goal.returns-in-Gap
unfolding sums_by
returns-in-Gap c =
    rw c.in-Gap.is (frame_sums _ _ _ (rw c.in-Gap.is at c.requires) c.with_frame-in-Gap.ensures)

pub returns-in-Loss : goal.returns-in-Loss
unfolding sums_by
returns-in-Loss c =
    rw c.in-Loss.is (frame_sums _ _ _ (rw c.in-Loss.is at c.requires) c.with_frame-in-Loss.ensures)
