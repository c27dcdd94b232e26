use native.Mathlib.Omega.{arith}
use mathlib.Core.Path.{◌∙◌}
use Rattle.lane_rules.proofs.Modes.FaultRule.{results_range}
use Rattle.lane_modes.proofs.Steps.FaultCounts.{bit_of_fault, rule_told}
use Rattle.lane_modes.proofs.judging.fault_rule.Goals as goal

pub overflow_mul-after : goal.overflow_mul-after
overflow_mul-after c = omega (arith, results_range _ c.requires)

pub overflow_add-after : goal.overflow_add-after
overflow_add-after c = omega (arith, results_range _ c.requires, bit_of_fault c.args.faulty, c.from.ensures)

pub returns : goal.returns
returns c =
    c.then_some.ensures
    ∙ rule_told _ _ _ _ _ c.from.ensures (omega (arith, bit_of_fault c.args.faulty, c.from.ensures)) (omega arith)
