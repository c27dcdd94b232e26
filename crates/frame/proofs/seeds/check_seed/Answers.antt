use mathlib.Core.Path.{sym, ◌∙◌}
use borrow.Author.Tests.{eq-eqb, ne_eqb}
use Rattle.frame.specs.Seeds.{seed_answer}
use Rattle.frame.proofs.seeds.check_seed.Goals as goal

pub returns-then-not-is_state : goal.returns-then-not-is_state
unfolding seed_answer
returns-then-not-is_state c = rw (sym c.is_state.ensures ∙ c.if-not-is_state.true)

pub returns-then-word-eq255 : goal.returns-then-word-eq255
unfolding seed_answer
returns-then-word-eq255 c =
    rw (sym c.is_state.ensures ∙ c.if-not-is_state.false, eq-eqb _ _ c.if-word-eq255.true)

pub returns : goal.returns
unfolding seed_answer
returns c =
    rw (sym c.is_state.ensures ∙ c.if-not-is_state.false, ne_eqb _ _ c.if-word-eq255.false)
