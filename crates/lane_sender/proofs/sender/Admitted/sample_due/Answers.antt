use native.Mathlib.Nat.{add-zero}
use native.Mathlib.Omega.{arith}
use lib.Seq.{get_or-drop}
use Rattle.lane_rules.specs.Sending.{samples_due, sample_due}
use Rattle.lane_sender.proofs.sender.Admitted.sample_due.Goals as goal

pub bounds-samples-at : goal.bounds-samples-at
unfolding samples_due
bounds-samples-at c =
    omega (arith, rw (← c.in_sequence.ensures, c.if-in_sequence.false) at c.requires)

pub returns-then-in_sequence : goal.returns-then-in_sequence
unfolding sample_due
returns-then-in_sequence c = rw (← c.in_sequence.ensures, c.if-in_sequence.true)

pub returns-else-in_sequence : goal.returns-else-in_sequence
unfolding sample_due
returns-else-in_sequence c = rw (← c.in_sequence.ensures, c.if-in_sequence.false, get_or-drop, add-zero)
