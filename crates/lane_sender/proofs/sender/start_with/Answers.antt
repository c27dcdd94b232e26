use Rattle.std.specs.Prelude.{Err}
use mathlib.Core.Path.{sym, ap, ◌∙◌}
use Rattle.std.proofs.lemmas.Result.{err_from_is_err_and}
use Rattle.lane_rules.specs.Sender.{fresh_sender, ready_with, started_with, start_with_answer}
use Rattle.lane_sender.proofs.sender.start_with.Goals as goal

pub returns-in_err-check_seed : goal.returns-in_err-check_seed
unfolding start_with_answer started_with
returns-in_err-check_seed c =
    let passed_on = err_from_is_err_and _ c.from_residual.ensures.1 in
    rw (sym c.check_seed.ensures ∙ c.in_err-check_seed.was) (passed_on.1 ∙ ap Err passed_on.2)

pub returns-then-not-alignment_permitted : goal.returns-then-not-alignment_permitted
unfolding start_with_answer started_with ready_with
returns-then-not-alignment_permitted c =
    rw (sym c.check_seed.ensures ∙ c.in_ok-check_seed.was, sym c.alignment_permitted.ensures ∙ c.if-not-alignment_permitted.true)

pub returns : goal.returns
unfolding start_with_answer started_with ready_with fresh_sender
returns c =
    rw (sym c.check_seed.ensures ∙ c.in_ok-check_seed.was, sym c.alignment_permitted.ensures ∙ c.if-not-alignment_permitted.false)
