use borrow.Author.Tests.{eq-eqb, ne_eqb}
use Rattle.lane_rules.specs.Sender.{alignment_frame}
use Rattle.lane_sender.proofs.sending.alignment_frame.Goals as goal

pub returns-then-position-eq0 : goal.returns-then-position-eq0
unfolding alignment_frame
returns-then-position-eq0 c = rw (eq-eqb _ _ c.if-position-eq0.true)

pub returns-else-position-eq0 : goal.returns-else-position-eq0
unfolding alignment_frame
returns-else-position-eq0 c = rw (ne_eqb _ _ c.if-position-eq0.false)
