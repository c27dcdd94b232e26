use Rattle.lane_rules.specs.Sending.{all_sent}
use Rattle.lane_sender.proofs.sender.Admitted.all_sent.Goals as goal

pub returns-then-not-in_sequence : goal.returns-then-not-in_sequence
unfolding all_sent
returns-then-not-in_sequence c = rw (← c.in_sequence.ensures, c.if-not-in_sequence.true)

pub returns-else-not-in_sequence : goal.returns-else-not-in_sequence
unfolding all_sent
returns-else-not-in_sequence c = rw (← c.in_sequence.ensures, c.if-not-in_sequence.false)
