use mathlib.Core.Path.{◌∙◌}
use Rattle.lane_rules.proofs.Modes.ModeRecord.{admitted_facts}
use Rattle.lane_modes.proofs.Steps.CollectingModes.{collecting_step}
use Rattle.lane_modes.proofs.admission.Admitted.step.Goals as goal

pub returns-in_default : goal.returns-in_default
returns-in_default c = c.collect_bit.ensures ∙ collecting_step _ _ c.in_default.not-Hunt

pub hunt-requires : goal.hunt-requires
hunt-requires c =
    let a = admitted_facts _ (rw c.in-Hunt.is at c.args.self.in_range) in (a.0, a.1, c.requires)
