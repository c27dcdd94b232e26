use mathlib.Core.Path.{sym, ◌∙◌}
use Rattle.frame.specs.Frame.{sample_answer}
use Rattle.frame.proofs.frame.read_sample.Goals as goal

pub returns-then-not-is_state : goal.returns-then-not-is_state
unfolding sample_answer
returns-then-not-is_state c = rw (sym c.is_state.ensures ∙ c.if-not-is_state.true)

pub returns : goal.returns
unfolding sample_answer
returns c =
    rw (c.scramble.ensures, c.read-content.ensures, sym c.is_state.ensures ∙ c.if-not-is_state.false)
