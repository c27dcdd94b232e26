-- Lists of the sender's calls: an admitted record stays admitted, and only bad samples are refused. Assumes nothing.
use Prim.Native.Nat.{ℕ, zero, suc, ◌/◌}
use mathlib.Core.Path.{◌≡◌, refl}
use mathlib.Core.Bool.{Bool, true, false, cond}
use mathlib.Core.List.{List, [], ◌∷◌}
use lib.ListN.{length, drop}
use Rattle.lane_rules.specs.Sender.{sender_admitted, next_frame}
use Rattle.lane_rules.specs.Sending.{samples_due, sample_due, all_sent, Frames, stopped, before, frames_sent, are_samples}
use Rattle.lane_rules.specs.SenderCalls.{SenderCall, sync, send, sender_after, sender_refusal, sender_at_end, sender_refusals}
use Rattle.lane_rules.specs.SenderCalls.{refusal_due, refusals_due}
use Rattle.lane_rules.specs.Promise.{SenderAdmittedKept}
use Rattle.lane_rules.specs.declared.Sender.{Sender}
use Rattle.lane_rules.specs.declared.Stop.TheVariants as Stop
use Rattle.lane_rules.proofs.Sending.SenderRecord.{Admitted, admitted_facts, facts_admitted, sync_taken, sync_admitted, frame_admitted}
use Rattle.lane_rules.proofs.Sending.SendingLaws.{sample_due_good, samples_later, send_taken, send_refused_4}

-- the record after the frames of a call
frames_admitted : (room : ℕ) (t : Sender) (xs : List ℕ) → Admitted t → are_samples xs ≡ true → Admitted (frames_sent room t xs).sender
unfolding frames_sent stopped before
frames_admitted zero t xs a good = a
frames_admitted (suc room) t xs a good =
    go (all_sent t (length xs))
    (frames_admitted room (next_frame t (sample_due t xs)).sender (drop (samples_due t) xs)
    (frame_admitted t (sample_due t xs) a (sample_due_good t xs 0 good)) (samples_later xs (samples_due t) good))
  where
    later : Frames
    later = frames_sent room (next_frame t (sample_due t xs)).sender (drop (samples_due t) xs)

    go : (b : Bool) → Admitted later.sender
        → Admitted (cond b (stopped t Stop.AllSent) (before (samples_due t) (next_frame t (sample_due t xs)).frame later)).sender
    go true h = a
    go false h = h

-- one call
abbrev CallKept : Sender → SenderCall → Type 0
CallKept t c = (sender_admitted (sender_after t c) ≡ true) × (sender_refusal t c ≡ refusal_due c)

sync_kept : (t : Sender) → sender_admitted t ≡ true → CallKept t sync
unfolding sender_after sender_refusal refusal_due
sync_kept t h = rw (sync_taken t h) (facts_admitted _ (sync_admitted t (admitted_facts t h)), refl)

send_kept : (t : Sender) (xs buf : List ℕ) → sender_admitted t ≡ true → CallKept t (send xs buf)
unfolding sender_after sender_refusal refusal_due
send_kept t xs buf h = go (are_samples xs) refl
  where
    go : (b : Bool) → are_samples xs ≡ b → CallKept t (send xs buf)
    go true k =
        rw (send_taken t xs (length buf) h k, k) (facts_admitted _ (frames_admitted (length buf / 2) t xs (admitted_facts t h) k), refl)
    go false k = rw (send_refused_4 t xs (length buf) h k, k) (h, refl)

call_kept : (t : Sender) (c : SenderCall) → sender_admitted t ≡ true → CallKept t c
call_kept t sync h = sync_kept t h
call_kept t (send xs buf) h = send_kept t xs buf h

pub sender_admitted_kept : SenderAdmittedKept
unfolding sender_at_end sender_refusals refusals_due
sender_admitted_kept t [] h = record { admitted = h; refusals = refl }
sender_admitted_kept t (c ∷ cs) h =
    let k = call_kept t c h in
    let later = sender_admitted_kept (sender_after t c) cs k.0 in
    record { admitted = later.admitted; refusals = λ i. k.1 i ∷ later.refusals i }
