use mathlib.Core.Path.{sym, ◌∙◌}
use Rattle.lane_modes.proofs.Steps.JudgedFrames.{balance_read, locked_lost, locked_gap, locked_sample}
use Rattle.lane_modes.proofs.judging.judge_locked.Goals as goal

pub returns-in_default : goal.returns-in_default
returns-in_default c =
    locked_lost _ _ _ _ _ c.read-content.ensures _ (balance_read _ c.read-content.ensures) (sym c.fault_rule.ensures ∙ c.in_default.is)

pub returns-then-faulty : goal.returns-then-faulty
returns-then-faulty c =
    locked_gap _ _ _ _ _ c.read-content.ensures _ _ (sym c.fault_rule.ensures ∙ c.in-Some.is) c.advance-stepped.ensures _ (balance_read _ c.read-content.ensures) c.if-faulty.true-raw

pub returns : goal.returns
returns c =
    locked_sample _ _ _ _ _ c.read-content.ensures _ _ (sym c.fault_rule.ensures ∙ c.in-Some.is) c.advance-stepped.ensures _ (balance_read _ c.read-content.ensures) c.if-faulty.false-raw _ c.scramble-sample.ensures
