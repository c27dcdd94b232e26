use Prim.Native.Nat.{◌/◌}
use mathlib.Core.Path.{ap, sym, ◌∙◌}
use lib.ListN.{length}
use Rattle.std.specs.Prelude.{Ok, Err}
use Rattle.std.proofs.lemmas.Result.{MatchResult-at_ok, MatchResult-at_err, err_from_is_err_and}
use Rattle.lane_rules.specs.Line.{frame_bytes}
use Rattle.lane_rules.specs.Sending.{frames_sent, sent_frames, over}
use Rattle.lane_rules.specs.declared.Sender.{Sender}
use Rattle.lane_rules.proofs.Sending.SendingLaws.{sent_is, send_taken, send_refused_4, send_refused_3, buffer_taken}
use Rattle.lane_sender.proofs.Steps.SenderAnswers.{buffer_refused_4, buffer_refused_3}
use Rattle.lane_sender.proofs.sending.send.Goals as goal

pub returns-in_err-tx : goal.returns-in_err-tx
returns-in_err-tx c =
    let a = c.args in
    let refused = MatchResult-at_err _ _ _ c.in_err-tx.was c.try_from.ensures in
    let passed_on = err_from_is_err_and _ c.from_residual.ensures.1 in
    record {
      answer = passed_on.1 ∙ ap Err (passed_on.2 ∙ refused.0) ∙ sym (send_refused_3 a.tx a.samples.now (length a.buf.now) refused.1);
      buffer = sym (buffer_refused_3 a.tx a.samples.now a.buf.now refused.1);
    }

pub returns-then-not-are_samples : goal.returns-then-not-are_samples
returns-then-not-are_samples c =
    let a = c.args in
    let taken = MatchResult-at_ok _ _ _ c.in_ok-tx.was c.try_from.ensures in
    let no = sym c.are_samples.ensures ∙ c.if-not-are_samples.true in
    record {
      answer = sym (send_refused_4 a.tx a.samples.now (length a.buf.now) taken.1 no);
      buffer = sym (buffer_refused_4 a.tx a.samples.now a.buf.now taken.1 no);
    }

pub returns : goal.returns
returns c =
    let a = c.args in
    let taken = MatchResult-at_ok _ _ _ c.in_ok-tx.was c.try_from.ensures in
    let good = sym c.are_samples.ensures ∙ c.if-not-are_samples.false in
    let room = length a.buf.now / 2 in
    record {
      answer =
          ap Ok (c.send_frames.ensures.answer ∙ ap (λ (t : Sender). sent_frames (frames_sent room t a.samples.now)) taken.0 ∙ sent_is _)
          ∙ sym (send_taken a.tx a.samples.now (length a.buf.now) taken.1 good);
      buffer =
          c.send_frames.ensures.buffer
          ∙ ap (λ (t : Sender). over (frame_bytes (frames_sent room t a.samples.now).frames) a.buf.now) taken.0
          ∙ sym (buffer_taken a.tx a.samples.now a.buf.now taken.1 good);
    }
