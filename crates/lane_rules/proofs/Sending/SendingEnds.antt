-- Sending ends: with room for the frames due all is sent, with less as many frames as have room. Assumes nothing.
use Prim.Native.Nat.{ℕ, zero, suc, ◌+◌, ◌-◌, ◌*◌, ◌/◌, min, ◌≤◌, ◌<◌}
use mathlib.Core.Path.{◌≡◌, refl, ap, sym, subst, ◌∙◌}
use mathlib.Core.Bool.{Bool, true, false, true≢false}
use mathlib.Core.List.{List, [], ◌∷◌}
use native.Mathlib.Nat.{zero-add}
use native.Mathlib.Omega.{arith}
use lib.Dec.{ltb}
use lib.ListN.{length}
use borrow.Author.Tests.{ltb-true, ltb-false, lt-ltb, le-ltb, ne_eqb}
use Rattle.lane_rules.specs.Line.{frame_bytes}
use Rattle.lane_rules.specs.Sender.{alignment_frames, proving_frames, sequence_frames, alignment_next, scrambled_next, next_frame, sender_admitted}
use Rattle.std.specs.Prelude.{IsOkAnd}
use Rattle.lane_rules.specs.Sending.{samples_due, sample_due, all_sent, Frames, stopped, before, frames_sent, send_answer}
use Rattle.lane_rules.specs.Promise.{frames_due, SendingEnds, SendingGoes, SendingProgress}
use Rattle.lane_rules.specs.declared.Sender.{Sender}
use Rattle.lane_rules.specs.declared.Stop.{Stop}
use Rattle.lane_rules.proofs.Basics.Bits.{length_bytes}
use Rattle.lane_rules.proofs.Sending.SenderRecord.{admitted_facts, frame_of_alignment, frame_of_sample, position_rises, position_stays}
use Rattle.lane_rules.proofs.Sending.SendingLaws.{in_sequence_lem, all_sent_stops, no_room_stops, one_frame, send_taken}

-- n frames, with so many samples taken, and all sent
record AllSentIn (n taken : ℕ) (f : Frames) : Type 0 where
  stop_is : f.stop ≡ Stop.AllSent
  taken_is : f.taken ≡ taken
  count : length f.frames ≡ n

stopped_ends : (t : Sender) → AllSentIn 0 0 (stopped t Stop.AllSent)
unfolding stopped
stopped_ends t = record { stop_is = refl; taken_is = refl; count = refl }

before_ends : (n m taken all k w : ℕ) (f : Frames) → AllSentIn n taken f → suc n ≡ m → k + taken ≡ all
    → AllSentIn m all (before k w f)
unfolding before
before_ends n m taken all k w f h e g = record {
  stop_is = h.stop_is;
  taken_is = ap (λ (j : ℕ). k + j) h.taken_is ∙ g;
  count = ap suc h.count ∙ e;
}

-- the position and the number of alignment frames after a frame
frame_position : (t : Sender) (x : ℕ) → t.position < t.alignment + 32 → (next_frame t x).sender.position ≡ t.position + 1
unfolding alignment_next scrambled_next
frame_position t x h = go (ltb t.position t.alignment) refl
  where
    go : (b : Bool) → ltb t.position t.alignment ≡ b → (next_frame t x).sender.position ≡ t.position + 1
    go true e = rw (frame_of_alignment t x (ltb-true t.position t.alignment e)) (position_rises t h)
    go false e = rw (frame_of_sample t x (ltb-false t.position t.alignment e)) (position_rises t h)

frame_alignment : (t : Sender) (x : ℕ) → (next_frame t x).sender.alignment ≡ t.alignment
unfolding alignment_next scrambled_next
frame_alignment t x = go (ltb t.position t.alignment) refl
  where
    go : (b : Bool) → ltb t.position t.alignment ≡ b → (next_frame t x).sender.alignment ≡ t.alignment
    go true e = rw (frame_of_alignment t x (ltb-true t.position t.alignment e))
    go false e = rw (frame_of_sample t x (ltb-false t.position t.alignment e))

frame_position_end : (t : Sender) (x : ℕ) → t.position ≡ t.alignment + 32 → (next_frame t x).sender.position ≡ t.alignment + 32
unfolding scrambled_next
frame_position_end t x h = rw (frame_of_sample t x (omega arith)) (position_stays t (omega arith) ∙ h)

-- what is due at a position
module _ (t : Sender) where
  in_sequence_due : (xs : List ℕ) → t.position < t.alignment + 32
      → (all_sent t (length xs) ≡ false) × (samples_due t ≡ 0) × (sample_due t xs ≡ 0)
  unfolding all_sent samples_due sample_due
  in_sequence_due xs h = rw (in_sequence_lem t, lt-ltb t.position (t.alignment + 32) h) (refl, refl, refl)

  later_due : (x : ℕ) (xs : List ℕ) → t.alignment + 32 ≤ t.position
      → (all_sent t (length (x ∷ xs)) ≡ false) × (samples_due t ≡ 1)
  unfolding all_sent samples_due
  later_due x xs h =
      rw (in_sequence_lem t, le-ltb t.position (t.alignment + 32) h)
      (ne_eqb (suc (length xs)) 0 (λ (e : suc (length xs) ≡ 0). omega arith), refl)

  nothing_due : t.alignment + 32 ≤ t.position → all_sent t 0 ≡ true
  unfolding all_sent
  nothing_due h = rw (in_sequence_lem t, le-ltb t.position (t.alignment + 32) h) refl

-- from the sequence's end on: a frame for each sample
samples_end : (room : ℕ) (t : Sender) (xs : List ℕ) → t.position ≡ t.alignment + 32 → length xs ≤ room
    → AllSentIn (length xs) (length xs) (frames_sent room t xs)
samples_end room t [] p h = rw (all_sent_stops room t [] (nothing_due t (omega arith))) (stopped_ends t)
samples_end zero t (x ∷ xs) p h = absurd (omega arith)
samples_end (suc room) t (x ∷ xs) p h =
    let due = later_due t x xs (omega arith) in
    let u = (next_frame t (sample_due t (x ∷ xs))).sender in
    rw (one_frame room t (x ∷ xs) due.0, due.1)
    (before_ends (length xs) (suc (length xs)) (length xs) (suc (length xs)) 1 _ _
    (samples_end room u xs
    (omega (arith, frame_position_end t (sample_due t (x ∷ xs)) p, frame_alignment t (sample_due t (x ∷ xs)))) (omega arith)) refl
    (omega arith))

-- within the sequence: its frames left, and then those
sequence_ends : (left room : ℕ) (t : Sender) (xs : List ℕ) → t.position + left ≡ t.alignment + 32 → left + length xs ≤ room
    → AllSentIn (left + length xs) (length xs) (frames_sent room t xs)
sequence_ends zero room t xs p h = rw (zero-add (length xs)) (samples_end room t xs (omega arith) (omega arith))
sequence_ends (suc left) zero t xs p h = absurd (omega arith)
sequence_ends (suc left) (suc room) t xs p h =
    let due = in_sequence_due t xs (omega arith) in
    rw (one_frame room t xs due.0, due.1, due.2)
    (before_ends (left + length xs) (suc left + length xs) (length xs) (length xs) 0 _ _
    (sequence_ends left room (next_frame t 0).sender xs (omega (arith, frame_position t 0 (omega arith), frame_alignment t 0))
    (omega arith))
    (omega arith) (omega arith))

-- ---- with less room

-- n frames, with so many samples taken, and no more room
record NoRoomIn (n taken : ℕ) (f : Frames) : Type 0 where
  stop_is : f.stop ≡ Stop.OutOfSpace
  taken_is : f.taken ≡ taken
  count : length f.frames ≡ n

before_stops : (n m taken all k w : ℕ) (f : Frames) → NoRoomIn n taken f → suc n ≡ m → k + taken ≡ all
    → NoRoomIn m all (before k w f)
unfolding before
before_stops n m taken all k w f h e g = record {
  stop_is = h.stop_is;
  taken_is = ap (λ (j : ℕ). k + j) h.taken_is ∙ g;
  count = ap suc h.count ∙ e;
}

none_stops : (t : Sender) (xs : List ℕ) → all_sent t (length xs) ≡ false → NoRoomIn 0 0 (frames_sent 0 t xs)
unfolding stopped
none_stops t xs e = rw (no_room_stops 0 t xs refl e) (record { stop_is = refl; taken_is = refl; count = refl })

samples_stop : (room : ℕ) (t : Sender) (xs : List ℕ) → t.position ≡ t.alignment + 32 → room < length xs
    → NoRoomIn room room (frames_sent room t xs)
samples_stop room t [] p h = absurd (omega arith)
samples_stop zero t (x ∷ xs) p h = none_stops t (x ∷ xs) (later_due t x xs (omega arith)).0
samples_stop (suc room) t (x ∷ xs) p h =
    let due = later_due t x xs (omega arith) in
    let u = (next_frame t (sample_due t (x ∷ xs))).sender in
    rw (one_frame room t (x ∷ xs) due.0, due.1)
    (before_stops room (suc room) room (suc room) 1 _ _
    (samples_stop room u xs
    (omega (arith, frame_position_end t (sample_due t (x ∷ xs)) p, frame_alignment t (sample_due t (x ∷ xs)))) (omega arith)) refl
    (omega arith))

sequence_stops : (left room : ℕ) (t : Sender) (xs : List ℕ) → t.position + left ≡ t.alignment + 32 → room < left + length xs
    → NoRoomIn room (room - left) (frames_sent room t xs)
sequence_stops zero room t xs p h =
    subst (λ (n : ℕ). NoRoomIn room n (frames_sent room t xs)) (omega arith) (samples_stop room t xs (omega arith) (omega arith))
sequence_stops (suc left) zero t xs p h =
    subst (λ (n : ℕ). NoRoomIn 0 n (frames_sent 0 t xs)) (omega arith) (none_stops t xs (in_sequence_due t xs (omega arith)).0)
sequence_stops (suc left) (suc room) t xs p h =
    let due = in_sequence_due t xs (omega arith) in
    rw (one_frame room t xs due.0, due.1, due.2)
    (before_stops room (suc room) (room - left) (suc room - suc left) 0 _ _
    (sequence_stops left room (next_frame t 0).sender xs (omega (arith, frame_position t 0 (omega arith), frame_alignment t 0))
    (omega arith))
    refl (omega arith))

-- ---- the promises

-- with room for all that is due
pub ends_in : (tx : Sender) (samples : List ℕ) (room : ℕ) → sender_admitted tx ≡ true → 2 * frames_due tx samples ≤ room
    → let f = frames_sent (room / 2) tx samples in
    (f.stop ≡ Stop.AllSent) × (f.taken ≡ length samples) × (length (frame_bytes f.frames) ≡ 2 * frames_due tx samples)
unfolding frames_due sequence_frames alignment_frames proving_frames
ends_in tx samples room h enough =
    let a = admitted_facts tx h in
    let f = frames_sent (room / 2) tx samples in
    let ends = sequence_ends (tx.alignment + 32 - tx.position) (room / 2) tx samples (omega (arith, a.position_max)) (omega arith) in
    (ends.stop_is, ends.taken_is, length_bytes f.frames ∙ ap (λ (n : ℕ). 2 * n) ends.count)

pub sending_ends : SendingEnds
sending_ends tx samples room h good enough = rw (send_taken tx samples room h good) (ends_in tx samples room h enough)

abbrev is_all_sent : Stop → Bool
is_all_sent Stop.AllSent = true
is_all_sent Stop.OutOfSpace = false

pub sending_progress : SendingProgress
unfolding frames_due sequence_frames alignment_frames proving_frames
sending_progress tx samples room h good = go (ltb (room / 2) (tx.alignment + 32 - tx.position + length samples)) refl
  where
    go : (b : Bool) → ltb (room / 2) (tx.alignment + 32 - tx.position + length samples) ≡ b
        → IsOkAnd (send_answer tx samples room) (SendingGoes tx samples room)
    go true e =
        let a = admitted_facts tx h in
        let left = tx.alignment + 32 - tx.position in
        let less = ltb-true (room / 2) (left + length samples) e in
        let f = frames_sent (room / 2) tx samples in
        let stops = sequence_stops left (room / 2) tx samples (omega (arith, a.position_max)) less in
        let all : length (frame_bytes f.frames) ≡ 2 * (room / 2) = length_bytes f.frames ∙ ap (λ (n : ℕ). 2 * n) stops.count in
        rw (send_taken tx samples room h good)
        (record {
          written = all ∙ (let e : 2 * (room / 2) ≡ 2 * min (room / 2) (left + length samples) = omega arith in e);
          taken = stops.taken_is ∙ (let e : room / 2 - left ≡ min (room / 2) (left + length samples) - left = omega arith in e);
          out_of_space = λ k. stops.stop_is;
          only_then = λ k. omega (arith, all);
        })
    go false e =
        let more = ltb-false (room / 2) (tx.alignment + 32 - tx.position + length samples) e in
        let left = tx.alignment + 32 - tx.position in
        let ends = ends_in tx samples room h (omega arith) in
        rw (send_taken tx samples room h good)
        (record {
          written = ends.2 ∙ (let e : 2 * (left + length samples) ≡ 2 * min (room / 2) (left + length samples) = omega arith in e);
          taken = ends.1 ∙ (let e : length samples ≡ min (room / 2) (left + length samples) - left = omega arith in e);
          out_of_space = λ k. absurd (omega arith);
          only_then = λ k. absurd (true≢false (ap is_all_sent (sym ends.0 ∙ k)));
        })
