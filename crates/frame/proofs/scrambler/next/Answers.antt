use mathlib.Core.Path.{sym, ◌∙◌}
use Rattle.frame.specs.Scrambler.{next_answer}
use Rattle.frame.proofs.scrambler.next.Goals as goal

pub returns-then-not-is_state : goal.returns-then-not-is_state
unfolding next_answer
returns-then-not-is_state c = rw (sym c.is_state.ensures ∙ c.if-not-is_state.true)

pub returns : goal.returns
unfolding next_answer
returns c =
    rw (c.advance.ensures, sym c.is_state.ensures ∙ c.if-not-is_state.false)
