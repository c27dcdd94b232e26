-- Sending: the frames sent when it stops and when one more follows, the samples due, and the three answers. Assumes nothing.
use Prim.Native.Nat.{ℕ, zero, suc, ◌+◌, ◌/◌}
use mathlib.Core.Path.{◌≡◌, refl, ap}
use mathlib.Core.Bool.{Bool, true, false, cond}
use mathlib.Core.List.{List, [], ◌∷◌}
use native.Mathlib.Omega.{arith}
use lib.Dec.{ltb}
use lib.ListN.{length, get_or, drop}
use lib.Seq.{get_or-drop}
use Rattle.std.specs.Prelude.{Ok, Err}
use Rattle.refusal.specs.declared.Refusal.{Refusal}
use Rattle.frame.specs.Frame.{is_sample}
use Rattle.std.specs.Cmp.{first_so, second_so}
use Rattle.lane_rules.specs.Line.{frame_bytes}
use Rattle.lane_rules.specs.Sender.{alignment_frames, proving_frames, sequence_frames, sender_admitted, next_frame}
use Rattle.lane_rules.specs.Sending.{Frames, in_sequence, samples_due, sample_due, all_sent, stopped, before, frames_sent, are_samples}
use Rattle.lane_rules.specs.Sending.{sent_frames, send_answer, over, buffer_after}
use Rattle.lane_rules.specs.declared.Sender.{Sender}
use Rattle.lane_rules.specs.declared.Sent.{Sent}
use Rattle.lane_rules.specs.declared.Stop.{Stop}

-- ---- frames

pub all_sent_stops : (room : ℕ) (t : Sender) (xs : List ℕ) → all_sent t (length xs) ≡ true
    → frames_sent room t xs ≡ stopped t Stop.AllSent
unfolding frames_sent
all_sent_stops zero t xs h = rw h
all_sent_stops (suc room) t xs h = rw h

pub no_room_stops : (room : ℕ) (t : Sender) (xs : List ℕ) → room ≡ 0 → all_sent t (length xs) ≡ false
    → frames_sent room t xs ≡ stopped t Stop.OutOfSpace
unfolding frames_sent
no_room_stops zero t xs e h = rw h
no_room_stops (suc room) t xs e h = absurd (omega arith)

pub one_frame : (room : ℕ) (t : Sender) (xs : List ℕ) → all_sent t (length xs) ≡ false
    → frames_sent (suc room) t xs
    ≡ before (samples_due t) (next_frame t (sample_due t xs)).frame
    (frames_sent room (next_frame t (sample_due t xs)).sender (drop (samples_due t) xs))
unfolding frames_sent
one_frame room t xs h = rw h

-- ---- samples

pub in_sequence_lem : (t : Sender) → in_sequence t ≡ ltb t.position (t.alignment + 32)
unfolding in_sequence sequence_frames alignment_frames proving_frames
in_sequence_lem t = refl

sample_at : (xs : List ℕ) (k : ℕ) → are_samples xs ≡ true → is_sample (get_or xs k 0) ≡ true
unfolding are_samples is_sample
sample_at [] k h = refl
sample_at (x ∷ xs) zero h = first_so (is_sample x) (are_samples xs) h
sample_at (x ∷ xs) (suc k) h = sample_at xs k (second_so (is_sample x) (are_samples xs) h)

pub sample_due_good : (t : Sender) (xs : List ℕ) (i : ℕ) → are_samples xs ≡ true → is_sample (sample_due t (drop i xs)) ≡ true
unfolding sample_due is_sample
sample_due_good t xs i h = go (in_sequence t)
  where
    go : (b : Bool) → is_sample (cond b 0 (get_or (drop i xs) 0 0)) ≡ true
    go true = refl
    go false = rw get_or-drop (sample_at xs (i + 0) h)

pub samples_later : (xs : List ℕ) (k : ℕ) → are_samples xs ≡ true → are_samples (drop k xs) ≡ true
unfolding are_samples
samples_later [] zero h = h
samples_later [] (suc k) h = h
samples_later (x ∷ xs) zero h = h
samples_later (x ∷ xs) (suc k) h = samples_later xs k (second_so (is_sample x) (are_samples xs) h)

-- ---- the three answers, and the buffer after each

-- what is answered of frames sent
abbrev pub sent_with : Frames → Sent
sent_with f =
    record { sender = f.sender; stop = f.stop; taken = f.taken; written = length (frame_bytes f.frames) }

-- it has their record: the position stands in an equation, so that any other is refused as such
at_position : (t : Sender) (n : ℕ) → n ≡ t.position
    → record { seed = t.seed; state = t.state; clock = t.clock; r = t.r; position = n; alignment = t.alignment } ≡ t
at_position t n e =
    λ i. record { seed = t.seed; state = t.state; clock = t.clock; r = t.r; position = e i; alignment = t.alignment }

with_sender : (f : Frames) (t : Sender) → t ≡ f.sender
    → record { sender = t; stop = f.stop; taken = f.taken; written = length (frame_bytes f.frames) } ≡ sent_with f
with_sender f t e =
    λ i. record { sender = e i; stop = f.stop; taken = f.taken; written = length (frame_bytes f.frames) }

pub sent_is : (f : Frames) → sent_frames f ≡ sent_with f
unfolding sent_frames
sent_is f = with_sender f _ (at_position f.sender _ (omega arith))

module _ (t : Sender) (xs : List ℕ) (room : ℕ) where
  pub send_taken : sender_admitted t ≡ true → are_samples xs ≡ true → send_answer t xs room ≡ Ok (sent_with (frames_sent (room / 2) t xs))
  unfolding send_answer
  send_taken h k = rw (h, k) (ap Ok (sent_is (frames_sent (room / 2) t xs)))

  pub send_refused_4 : sender_admitted t ≡ true → are_samples xs ≡ false → send_answer t xs room ≡ Err Refusal.Sample
  unfolding send_answer
  send_refused_4 h k = rw (h, k)

  pub send_refused_3 : sender_admitted t ≡ false → send_answer t xs room ≡ Err Refusal.Record
  unfolding send_answer
  send_refused_3 h = rw h

module _ (t : Sender) (xs buf : List ℕ) where
  pub buffer_taken : sender_admitted t ≡ true → are_samples xs ≡ true
      → buffer_after t xs buf ≡ over (frame_bytes (frames_sent (length buf / 2) t xs).frames) buf
  unfolding buffer_after
  buffer_taken h k = rw (h, k)
