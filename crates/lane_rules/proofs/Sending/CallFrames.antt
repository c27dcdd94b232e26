-- What a sender's calls write: frame by frame the next frame of the record then, with the samples taken in their order.
-- A property of a record, of frames that follow it and of their samples, kept by each kind of frame, holds over whole lists of
-- calls. Assumes nothing.
use Prim.Native.Nat.{ℕ, zero, suc, ◌+◌, ◌/◌, ◌≤◌, ◌<◌}
use mathlib.Core.Path.{◌≡◌, refl, sym, ◌∙◌}
use mathlib.Core.Bool.{Bool, true, false, cond, true≢false}
use mathlib.Core.List.{List, [], ◌∷◌, ◌++◌}
use native.Mathlib.Nat.{zero-add}
use native.Mathlib.Numerals.{one-add}
use native.Mathlib.Omega.{arith}
use lib.Dec.{ltb}
use lib.ListN.{length, get_or, take, drop}
use lib.Seq.{take-append_seam}
use borrow.Author.Tests.{ltb-true, ltb-false}
use Rattle.frame.specs.Frame.{is_sample}
use Rattle.std.specs.Cmp.{first_so}
use Rattle.lane_rules.specs.Line.{frame_bytes}
use Rattle.std.specs.Prelude.{Err}
use Rattle.refusal.specs.declared.Refusal.{Refusal}
use Rattle.lane_rules.specs.Sender.{sender_admitted, sender_synced, alignment_next, scrambled_next, next_frame}
use Rattle.lane_rules.specs.Sending.{in_sequence, samples_due, sample_due, all_sent, Frames, stopped, before, frames_sent}
use Rattle.lane_rules.specs.Sending.{are_samples}
use Rattle.lane_rules.specs.Sending.{send_answer, told_written, over}
use Rattle.lane_rules.specs.SenderCalls.{SenderCall, sync, send, sender_after, bytes_written, samples_taken, all_written, all_taken}
use Rattle.lane_rules.specs.SenderCalls.{OnlySending}
use Rattle.lane_rules.specs.declared.Sender.{Sender}
use Rattle.lane_rules.specs.declared.Stop.{Stop}
use Rattle.lane_rules.proofs.Basics.Bits.{bytes_append}
use Rattle.lane_rules.proofs.Sending.SenderRecord.{frame_of_alignment, frame_of_sample}
use Rattle.lane_rules.proofs.Sending.SendingLaws.{in_sequence_lem, samples_later, send_taken, send_refused_4, send_refused_3}
use Rattle.lane_rules.proofs.Sending.SendingLaws.{buffer_taken}

module _
    (P : Sender → List ℕ → List ℕ → Type 0)
    (none : (t : Sender) → P t [] [])
    (alignment : (t : Sender) (ws xs : List ℕ) → t.position < t.alignment
    → P (alignment_next t).sender ws xs → P t ((alignment_next t).frame ∷ ws) xs)
    (proving : (t : Sender) (ws xs : List ℕ) → t.alignment ≤ t.position → t.position < t.alignment + 32
    → P (scrambled_next t 0).sender ws xs → P t ((scrambled_next t 0).frame ∷ ws) xs)
    (sample : (t : Sender) (x : ℕ) (ws xs : List ℕ) → t.alignment + 32 ≤ t.position → is_sample x ≡ true
    → P (scrambled_next t x).sender ws xs → P t ((scrambled_next t x).frame ∷ ws) (x ∷ xs)) where
  -- ---- one frame

  in_sequence_frame : (t : Sender) (ws xs : List ℕ) → t.position < t.alignment + 32
      → P (next_frame t 0).sender ws xs → P t ((next_frame t 0).frame ∷ ws) xs
  in_sequence_frame t ws xs h = go (ltb t.position t.alignment) refl
    where
      go : (b : Bool) → ltb t.position t.alignment ≡ b → P (next_frame t 0).sender ws xs → P t ((next_frame t 0).frame ∷ ws) xs
      go true e = let l = ltb-true t.position t.alignment e in rw (frame_of_alignment t 0 l) (alignment t ws xs l)
      go false e = let l = ltb-false t.position t.alignment e in rw (frame_of_sample t 0 l) (proving t ws xs l h)

  sample_frame : (t : Sender) (x : ℕ) (ws xs : List ℕ) → t.alignment + 32 ≤ t.position → is_sample x ≡ true
      → P (next_frame t x).sender ws xs → P t ((next_frame t x).frame ∷ ws) (x ∷ xs)
  sample_frame t x ws xs h g = rw (frame_of_sample t x (omega arith)) (sample t x ws xs h g)

  -- ---- the frames of one call

  -- what holds after the frames f, of the samples xs, holds before them
  abbrev HoldsBefore : Sender → List ℕ → Frames → Type 0
  HoldsBefore t xs f = (ws ys : List ℕ) → P f.sender ws ys → P t (f.frames ++ ws) (take f.taken xs ++ ys)

  stopped_holds : (t : Sender) (xs : List ℕ) (s : Stop) → HoldsBefore t xs (stopped t s)
  unfolding stopped
  stopped_holds t xs s ws ys p = p

  in_sequence_holds : (t : Sender) (xs : List ℕ) (f : Frames) → t.position < t.alignment + 32 → HoldsBefore (next_frame t 0).sender xs f
      → HoldsBefore t xs (before 0 (next_frame t 0).frame f)
  unfolding before
  in_sequence_holds t xs f h g ws ys p =
      rw (zero-add f.taken) (in_sequence_frame t (f.frames ++ ws) (take f.taken xs ++ ys) h (g ws ys p))

  sample_holds : (t : Sender) (x : ℕ) (xs : List ℕ) (f : Frames) → t.alignment + 32 ≤ t.position → is_sample x ≡ true
      → HoldsBefore (next_frame t x).sender xs f → HoldsBefore t (x ∷ xs) (before 1 (next_frame t x).frame f)
  unfolding before
  sample_holds t x xs f h k g ws ys p =
      rw (one-add f.taken) (sample_frame t x (f.frames ++ ws) (take f.taken xs ++ ys) h k (g ws ys p))

  one_frame_holds : (t : Sender) (xs : List ℕ) (f : Frames) → are_samples xs ≡ true → all_sent t (length xs) ≡ false
      → HoldsBefore (next_frame t (sample_due t xs)).sender (drop (samples_due t) xs) f
      → HoldsBefore t xs (before (samples_due t) (next_frame t (sample_due t xs)).frame f)
  unfolding samples_due sample_due all_sent are_samples
  one_frame_holds t xs f good h g = go (in_sequence t) refl xs good h g
    where
      go : (b : Bool) → in_sequence t ≡ b → (xs : List ℕ) → are_samples xs ≡ true → all_sent t (length xs) ≡ false
          → HoldsBefore (next_frame t (cond b 0 (get_or xs 0 0))).sender (drop (cond b 0 1) xs) f
          → HoldsBefore t xs (before (cond b 0 1) (next_frame t (cond b 0 (get_or xs 0 0))).frame f)
      go true e xs k h g = in_sequence_holds t xs f (ltb-true t.position (t.alignment + 32) (sym (in_sequence_lem t) ∙ e)) g
      go false e [] k h g = absurd (true≢false (rw e at h))
      go false e (x ∷ xs) k h g =
          sample_holds t x xs f (ltb-false t.position (t.alignment + 32) (sym (in_sequence_lem t) ∙ e))
          (first_so (is_sample x) (are_samples xs) k) g

  frames_hold : (room : ℕ) (t : Sender) (xs : List ℕ) → are_samples xs ≡ true → HoldsBefore t xs (frames_sent room t xs)
  unfolding frames_sent
  frames_hold zero t xs good = stopped_holds t xs (cond (all_sent t (length xs)) Stop.AllSent Stop.OutOfSpace)
  frames_hold (suc room) t xs good =
      go (all_sent t (length xs)) refl
      (frames_hold room (next_frame t (sample_due t xs)).sender (drop (samples_due t) xs) (samples_later xs (samples_due t) good))
    where
      later : Frames
      later = frames_sent room (next_frame t (sample_due t xs)).sender (drop (samples_due t) xs)

      go : (b : Bool) → all_sent t (length xs) ≡ b
          → HoldsBefore (next_frame t (sample_due t xs)).sender (drop (samples_due t) xs) later
          → HoldsBefore t xs (cond b (stopped t Stop.AllSent) (before (samples_due t) (next_frame t (sample_due t xs)).frame later))
      go true e g = stopped_holds t xs Stop.AllSent
      go false e g = one_frame_holds t xs later good e g

  -- ---- one call

  -- the frames ws are what the call writes, and what holds after the call holds before it
  abbrev CallHolds : Sender → SenderCall → List ℕ → Type 0
  CallHolds t c ws =
      (bytes_written t c ≡ frame_bytes ws) × ((vs ys : List ℕ) → P (sender_after t c) vs ys → P t (ws ++ vs) (samples_taken t c ++ ys))

  refused_holds : (n : Refusal) (t : Sender) (xs buf : List ℕ) → send_answer t xs (length buf) ≡ Err n → CallHolds t (send xs buf) []
  unfolding bytes_written samples_taken sender_after frame_bytes
  refused_holds n t xs buf e = rw e (refl, λ vs ys p. p)

  taken_holds : (t : Sender) (xs buf : List ℕ) → sender_admitted t ≡ true → are_samples xs ≡ true
      → CallHolds t (send xs buf) (frames_sent (length buf / 2) t xs).frames
  unfolding bytes_written samples_taken sender_after over
  taken_holds t xs buf h k =
      let f = frames_sent (length buf / 2) t xs in
      let e = send_taken t xs (length buf) h k in
      let seam = take-append_seam (frame_bytes f.frames) (drop (length (frame_bytes f.frames)) buf) in (
        (λ i. take (told_written (e i)) (buffer_taken t xs buf h k i)) ∙ seam,
        rw e (λ vs ys p. frames_hold (length buf / 2) t xs k vs ys p),
      )

  send_holds : (t : Sender) (xs buf : List ℕ) → (ws : List ℕ) × CallHolds t (send xs buf) ws
  send_holds t xs buf = go (sender_admitted t) refl (are_samples xs) refl
    where
      go : (a : Bool) → sender_admitted t ≡ a → (b : Bool) → are_samples xs ≡ b → (ws : List ℕ) × CallHolds t (send xs buf) ws
      go true e true k = ((frames_sent (length buf / 2) t xs).frames, taken_holds t xs buf e k)
      go true e false k = ([], refused_holds Refusal.Sample t xs buf (send_refused_4 t xs (length buf) e k))
      go false e b k = ([], refused_holds Refusal.Record t xs buf (send_refused_3 t xs (length buf) e))

  -- ---- lists of calls

  -- the frames ws are what the calls write, and the property holds of them
  abbrev Written : Sender → List SenderCall → Type 0
  Written t cs = (ws : List ℕ) × (all_written t cs ≡ frame_bytes ws) × P t ws (all_taken t cs)

  one_call : (t : Sender) (c : SenderCall) (cs : List SenderCall) → (ws : List ℕ) × CallHolds t c ws
      → Written (sender_after t c) cs
      → Written t (c ∷ cs)
  unfolding all_written all_taken
  one_call t c cs a b = (
    a.0 ++ b.0,
    (λ i. a.1.0 i ++ b.1 i) ∙ sym (bytes_append a.0 b.0),
    a.1.1 b.0 (all_taken (sender_after t c) cs) b.2,
  )

  no_calls : (t : Sender) → Written t []
  unfolding all_written all_taken frame_bytes
  no_calls t = ([], refl, none t)

  pub sendings_written : (cs : List SenderCall) (t : Sender) → OnlySending cs → Written t cs
  unfolding OnlySending
  sendings_written [] t o = no_calls t
  sendings_written (sync ∷ cs) t o = absurd o
  sendings_written (send xs buf ∷ cs) t o =
      one_call t (send xs buf) cs (send_holds t xs buf) (sendings_written cs (sender_after t (send xs buf)) o)

  -- with a property that SYNC keeps too, any calls
  module _ (synced : (t : Sender) (ws xs : List ℕ) → P (sender_synced t) ws xs → P t ws xs) where
    sync_holds : (t : Sender) → CallHolds t sync []
    unfolding bytes_written samples_taken sender_after frame_bytes
    sync_holds t = (refl, synced t)

    pub calls_written : (cs : List SenderCall) (t : Sender) → Written t cs
    calls_written [] t = no_calls t
    calls_written (sync ∷ cs) t = one_call t sync cs ([], sync_holds t) (calls_written cs (sender_after t sync))
    calls_written (send xs buf ∷ cs) t =
        one_call t (send xs buf) cs (send_holds t xs buf) (calls_written cs (sender_after t (send xs buf)))
