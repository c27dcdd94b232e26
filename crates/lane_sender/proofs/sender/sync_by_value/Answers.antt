use mathlib.Core.Path.{◌≡◌, ap, sym, ◌∙◌}
use mathlib.Core.Bool.{true}
use Rattle.std.specs.Prelude.{Ok, Err}
use Rattle.std.proofs.lemmas.Result.{MatchResult-at_ok, MatchResult-at_err, err_from_is_err_and}
use Rattle.frame.proofs.Machine.{read_back}
use Rattle.lane_rules.specs.Sender.{sender_admitted, synced, sync_answer}
use Rattle.lane_rules.specs.declared.Sender.{Sender}
use Rattle.lane_rules.proofs.Sending.SenderRecord.{sync_taken}
use Rattle.lane_sender.proofs.Steps.SenderAnswers.{r_read_back}
use Rattle.lane_sender.proofs.sender.sync_by_value.Goals as goal

pub returns-in_err-tx : goal.returns-in_err-tx
unfolding sync_answer
returns-in_err-tx c =
    let refused = MatchResult-at_err _ _ _ c.in_err-tx.was c.try_from.ensures in
    let passed_on = err_from_is_err_and _ c.from_residual.ensures.1 in
    rw refused.1 (passed_on.1 ∙ ap Err (passed_on.2 ∙ refused.0))

-- the record after SYNC, as the code makes it
at_start : (t : Sender) → sender_admitted t ≡ true
    → record { seed = t.seed; state = t.seed; clock = 0; r = read_back t.r; position = 0; alignment = t.alignment } ≡ synced t
unfolding synced
at_start t h = λ i. record {
  seed = t.seed;
  state = t.seed;
  clock = 0;
  r = r_read_back t h i;
  position = 0;
  alignment = t.alignment;
}

pub returns : goal.returns
returns c =
    let taken = MatchResult-at_ok _ _ _ c.in_ok-tx.was c.try_from.ensures in
    ap Ok (at_start _ c.in_ok-tx.field-0.admitted ∙ ap synced taken.0) ∙ sym (sync_taken c.args.tx taken.1)
