use mathlib.Core.Path.{sym}
use native.Mathlib.Omega.{arith}
use Rattle.lane_rules.proofs.Feeding.RunningTotals.{total_0}
use Rattle.lane.proofs.Steps.CountedOutcomes.{saturated_total, none_added, counted_one}
use Rattle.lane.proofs.feeding.count.Goals as goal

pub returns-in-Nothing : goal.returns-in-Nothing
returns-in-Nothing c =
    let o = none_added c.args.outcome c.in-Nothing.is in
    counted_one _ _ _ _ _ _ _ c.summed.ensures (rw o (sym (total_0 _))) (rw o (sym (total_0 _))) (rw o (sym (total_0 _)))

pub returns-in-Sample : goal.returns-in-Sample
returns-in-Sample c =
    let o = c.in-Sample.is in
    rw o (counted_one _ _ _ _ _ _ _ (rw o at c.summed.ensures) (saturated_total _ _ _ (omega arith) c.saturating_add.ensures) (sym (total_0 _)) (sym (total_0 _)))

pub returns-in-Gap : goal.returns-in-Gap
returns-in-Gap c =
    let o = c.in-Gap.is in
    rw o (counted_one _ _ _ _ _ _ _ (rw o at c.summed.ensures) (sym (total_0 _)) (saturated_total _ _ _ (omega arith) c.saturating_add-in-Gap.ensures) (sym (total_0 _)))

pub returns-in-Loss : goal.returns-in-Loss
returns-in-Loss c =
    let o = c.in-Loss.is in
    rw o (counted_one _ _ _ _ _ _ _ (rw o at c.summed.ensures) (sym (total_0 _)) (saturated_total _ _ _ (omega arith) c.saturating_add-in-Loss.ensures) (saturated_total _ _ _ (omega arith) c.saturating_add-in-Loss-2.ensures))
