use native.Mathlib.Omega.{arith}
use Rattle.lane_rules.specs.Sender.{next_position}
use Rattle.lane_rules.specs.Sending.{in_sequence}
use Rattle.lane_rules.proofs.Sending.SenderRecord.{admitted_facts}
use Rattle.lane_sender.proofs.sender.Admitted.next_position.Goals as goal

pub overflow_add-result : goal.overflow_add-result
overflow_add-result c =
    let a = admitted_facts c.args.self.tx c.args.self.admitted in
    record { fits = omega (arith, a.position_max, a.alignment_max) }

pub returns-then-in_sequence : goal.returns-then-in_sequence
unfolding next_position in_sequence
returns-then-in_sequence c = rw (← c.in_sequence.ensures, c.if-in_sequence.true)

pub returns-else-in_sequence : goal.returns-else-in_sequence
unfolding next_position in_sequence
returns-else-in_sequence c = rw (← c.in_sequence.ensures, c.if-in_sequence.false)
