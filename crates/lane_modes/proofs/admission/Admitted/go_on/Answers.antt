use mathlib.Core.Path.{sym, ◌∙◌}
use native.Mathlib.Omega.{arith}
use Rattle.lane_rules.proofs.Modes.ModeRecord.{part_in}
use Rattle.lane_modes.proofs.Steps.CollectingModes.{others_collect}
use Rattle.lane_modes.proofs.Bytes.HeldBits.{rest_mode}
use Rattle.lane_modes.proofs.admission.Admitted.go_on.Goals as goal

pub returns-in_default : goal.returns-in_default
returns-in_default c =
    let p = part_in _ c.requires.bits_value in
    c.hold.ensures
    ∙ sym (rest_mode _ (others_collect _ c.in_default.not-Hunt) c.requires.no_bits_held _ _ (omega (arith, p.0)) p.1)
