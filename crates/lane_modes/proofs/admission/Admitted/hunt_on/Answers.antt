use mathlib.Core.Path.{◌∙◌}
use native.Mathlib.Omega.{arith}
use Rattle.lane_rules.proofs.Modes.ModeRecord.{part_in, admitted_facts}
use Rattle.lane_modes.proofs.Steps.CollectingModes.{others_collect}
use Rattle.lane_modes.proofs.Bytes.RestLoop.{rest_holds, rest_again, rest_kept, rest_ends}
use Rattle.lane_modes.proofs.admission.Admitted.hunt_on.Goals as goal

pub overflow_shr-rest : goal.overflow_shr-rest
overflow_shr-rest c = omega (arith, (part_in _ c.requires.bits_value).0)

pub loop-taken-init : goal.loop-taken-init
loop-taken-init c = rest_holds _ c.args.bits c.args.self.in_range c.requires.no_bits_held c.requires.bits_value

pub returns-in_default : goal.returns-in_default
returns-in_default c = c.hold.ensures ∙ rest_kept c.loop-taken.invariant
    (others_collect c.loop-taken.mode c.in_default.not-Hunt)

pub hunt-mode-requires : goal.hunt-mode-requires
hunt-mode-requires c =
    let a = admitted_facts _ (rw c.in-Hunt.is at c.loop-taken.invariant.good) in
    (a.0, a.1, omega arith)

pub loop-taken-preserved : goal.loop-taken-preserved
loop-taken-preserved c =
    rest_again _ _ _ _ _ _ c.loop-taken.invariant (omega arith) _ _
    c.in-Hunt.is _ c.hunt-mode.ensures

pub returns : goal.returns
returns c = rest_ends c.loop-taken.invariant (omega arith)
