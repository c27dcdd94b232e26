use borrow.Author.Tests.{le-leb, lt-leb}
use Rattle.frame.specs.Scrambler.{is_state}
use Rattle.frame.proofs.scrambler.is_state.Goals as goal

pub returns-then-state-ge1 : goal.returns-then-state-ge1
unfolding is_state
returns-then-state-ge1 c = simp (le-leb _ _ c.if-state-ge1.true)

pub returns-else-state-ge1 : goal.returns-else-state-ge1
unfolding is_state
returns-else-state-ge1 c = simp (lt-leb _ _ c.if-state-ge1.false)
