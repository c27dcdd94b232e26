-- The loop of `send_frames`: what its locals hold after some frames, one frame more, and its two ends. Assumes nothing.
use Prim.Native.Nat.{ℕ, suc, ◌+◌, ◌-◌, ◌/◌, ◌%◌, ◌≤◌, ◌<◌}
use mathlib.Core.Path.{◌≡◌, refl, sym, ap, ap₂, ◌∙◌}
use mathlib.Core.Bool.{true, false}
use mathlib.Core.List.{List, [], ◌∷◌, ◌++◌, append_assoc, append-nil}
use native.Mathlib.Nat.{add-zero, zero-add, add_assoc, sub-zero}
use native.Mathlib.Omega.{arith}
use lib.ListN.{length, take, drop, set, length-append, length-drop, length-set}
use lib.Seq.{drop-drop, take-append_seam, drop-append-add, sets-eq}
use native.Mathlib.Numerals.{add-one}
use Rattle.lane_rules.specs.Line.{frame_bytes}
use Rattle.lane_rules.specs.Sender.{next_frame}
use Rattle.lane_rules.specs.Sending.{samples_due, sample_due, all_sent, Frames, stopped, before, frames_sent, sent_frames, over}
use Rattle.lane_rules.specs.declared.Sender.{Sender}
use Rattle.lane_rules.specs.declared.Stop.{Stop}
use Rattle.lane_rules.proofs.Basics.Bits.{bytes_append}
use Rattle.lane_rules.proofs.Sending.SendingLaws.{all_sent_stops, no_room_stops, one_frame, sent_with, sent_is}
use Rattle.lane_sender.proofs.Steps.SenderAnswers.{samples_due_left}

-- frames ws, for which n samples were taken, and those after them
unfoldable pub after : List ℕ → ℕ → Frames → Frames
after ws n f = record { sender = f.sender; taken = n + f.taken; frames = ws ++ f.frames; stop = f.stop }

after_none : (f : Frames) → f ≡ after [] 0 f
unfolding after
after_none f = λ j. record { sender = f.sender; taken = sym (zero-add f.taken) j; frames = f.frames; stop = f.stop }

after_one : (ws : List ℕ) (n k w : ℕ) (f : Frames) → after ws n (before k w f) ≡ after (ws ++ (w ∷ [])) (n + k) f
unfolding after before
after_one ws n k w f = λ j. record {
  sender = f.sender;
  taken = sym (add_assoc n k f.taken) j;
  frames = sym (append_assoc ws (w ∷ []) f.frames) j;
  stop = f.stop;
}

after_stopped : (ws : List ℕ) (n : ℕ) (t : Sender) (s : Stop)
    → after ws n (stopped t s) ≡ record { sender = t; taken = n; frames = ws; stop = s }
unfolding after stopped
after_stopped ws n t s = λ j. record { sender = t; taken = add-zero n j; frames = append-nil ws j; stop = s }

bytes_one : (ws : List ℕ) (w : ℕ) → frame_bytes (ws ++ (w ∷ [])) ≡ frame_bytes ws ++ (w % 256 ∷ w / 256 ∷ [])
unfolding frame_bytes
bytes_one ws w = bytes_append ws (w ∷ [])

-- two bytes more in the buffer
two_stored : (p old : List ℕ) (w a b : ℕ) → length p ≡ w → w + 2 ≤ length old
    → set (set (p ++ drop w old) w a) (w + 1) b ≡ (p ++ (a ∷ b ∷ [])) ++ drop (w + 2) old
two_stored p old w a b e h =
    let l : List ℕ = p ++ drop w old in
    let front : take w l ≡ p = ap (λ (n : ℕ). take n l) (sym e) ∙ take-append_seam p (drop w old) in
    let two : w + 2 ≡ length p + 2 = omega (arith, e) in
    let rest : drop (w + 2) l ≡ drop (w + 2) old =
    ap (λ (n : ℕ). drop n l) two ∙ drop-append-add p (drop w old) 2 ∙ drop-drop 2 w old in
    ap (λ (n : ℕ). set (set l w a) n b) (add-one w)
    ∙ sets-eq (a ∷ b ∷ []) l w (omega (arith, e, length-append p (drop w old), length-drop w old))
    ∙ ap₂ (λ (x y : List ℕ). (x ++ (a ∷ b ∷ [])) ++ y) front rest

-- with the samples xs, the buffer's old content and the record t₀ given: the buffer, the record, the samples taken and the bytes
-- written, after some frames
pub record SentSoFar (xs old : List ℕ) (t₀ : Sender) (buf : List ℕ) (t : Sender) (i w : ℕ) : Type 0 where
  pub frames : List ℕ
  pub taken_max : i ≤ length xs
  pub written_is : length (frame_bytes frames) ≡ w
  pub written_max : w ≤ length old
  pub same_length : length buf ≡ length old
  pub buffer_is : buf ≡ frame_bytes frames ++ drop w old
  pub sent_is : frames_sent (length old / 2) t₀ xs ≡ after frames i (frames_sent ((length old - w) / 2) t (drop i xs))

pub none_sent : (xs old : List ℕ) (t : Sender) → SentSoFar xs old t old t 0 0
unfolding frame_bytes
none_sent xs old t = record {
  frames = [];
  taken_max = omega arith;
  written_is = refl;
  written_max = omega arith;
  same_length = refl;
  buffer_is = refl;
  sent_is =
      after_none (frames_sent (length old / 2) t xs)
      ∙ ap (λ (n : ℕ). after [] 0 (frames_sent (n / 2) t xs)) (sym (sub-zero (length old)));
}

module _ (xs old : List ℕ) (t₀ : Sender) (buf : List ℕ) (t : Sender) (i w : ℕ) (so_far : SentSoFar xs old t₀ buf t i w) where
  left : all_sent t (length (drop i xs)) ≡ all_sent t (length xs - i)
  left = ap (all_sent t) (length-drop i xs)

  -- one frame more, of the sample due
  pub one_more_sent : all_sent t (length xs - i) ≡ false → 2 ≤ length old - w
      → (x : ℕ) → x ≡ sample_due t (drop i xs)
      → SentSoFar xs old t₀ (set (set buf w ((next_frame t x).frame % 256)) (w + 1) ((next_frame t x).frame / 256))
      (next_frame t x).sender (i + samples_due t) (w + 2)
  one_more_sent h k x e =
      let word = (next_frame t x).frame in
      let ws = so_far.frames in
      record {
        frames = ws ++ (word ∷ []);
        taken_max = omega (arith, samples_due_left t (length xs - i) h);
        written_is =
            ap length (bytes_one ws word) ∙ length-append (frame_bytes ws) _ ∙ ap (λ (n : ℕ). n + 2) so_far.written_is;
        written_max = omega arith;
        same_length = simp length-set so_far.same_length;
        buffer_is =
            ap (λ (l : List ℕ). set (set l w (word % 256)) (w + 1) (word / 256)) so_far.buffer_is
            ∙ two_stored (frame_bytes ws) old w (word % 256) (word / 256) so_far.written_is (omega arith)
            ∙ ap (λ (l : List ℕ). l ++ drop (w + 2) old) (sym (bytes_one ws word));
        sent_is =
            so_far.sent_is
            ∙ ap (λ (n : ℕ). after ws i (frames_sent n t (drop i xs))) (room_less (length old) w k)
            ∙ ap (after ws i) (one_frame ((length old - (w + 2)) / 2) t (drop i xs) (left ∙ h))
            ∙ ap (λ (y : ℕ). after ws i (before (samples_due t) (next_frame t y).frame
            (frames_sent ((length old - (w + 2)) / 2) (next_frame t y).sender (drop (samples_due t) (drop i xs))))) (sym e)
            ∙ after_one ws i (samples_due t) word
            (frames_sent ((length old - (w + 2)) / 2) (next_frame t x).sender (drop (samples_due t) (drop i xs)))
            ∙ ap (λ (l : List ℕ). after (ws ++ (word ∷ [])) (i + samples_due t)
            (frames_sent ((length old - (w + 2)) / 2) (next_frame t x).sender l)) (drop-drop (samples_due t) i xs);
      }
    where
      room_less : (n w : ℕ) → 2 ≤ n - w → (n - w) / 2 ≡ suc ((n - (w + 2)) / 2)
      room_less n w h = omega arith

  -- the answer and the buffer, where it stops
  answered : (s : Stop) → frames_sent ((length old - w) / 2) t (drop i xs) ≡ stopped t s
      → (record { sender = t; stop = s; taken = i; written = w } ≡ sent_frames (frames_sent (length old / 2) t₀ xs))
      × (buf ≡ over (frame_bytes (frames_sent (length old / 2) t₀ xs).frames) old)
  unfolding over
  answered s stops =
      let e = so_far.sent_is ∙ ap (after so_far.frames i) stops ∙ after_stopped so_far.frames i t s in (
        (λ j. record { sender = t; stop = s; taken = i; written = sym so_far.written_is j })
            ∙ sym (sent_is _ ∙ ap sent_with e),
        so_far.buffer_is ∙ ap (λ (n : ℕ). frame_bytes so_far.frames ++ drop n old) (sym so_far.written_is)
            ∙ sym (ap (λ (f : Frames). over (frame_bytes f.frames) old) e),
      )

  pub answered_all_sent : all_sent t (length xs - i) ≡ true
      → (record { sender = t; stop = Stop.AllSent; taken = i; written = w }
      ≡ sent_frames (frames_sent (length old / 2) t₀ xs))
      × (buf ≡ over (frame_bytes (frames_sent (length old / 2) t₀ xs).frames) old)
  answered_all_sent h = answered Stop.AllSent (all_sent_stops ((length old - w) / 2) t (drop i xs) (left ∙ h))

  pub answered_out_of_space : all_sent t (length xs - i) ≡ false → length old - w < 2
      → (record { sender = t; stop = Stop.OutOfSpace; taken = i; written = w }
      ≡ sent_frames (frames_sent (length old / 2) t₀ xs))
      × (buf ≡ over (frame_bytes (frames_sent (length old / 2) t₀ xs).frames) old)
  answered_out_of_space h k =
      answered Stop.OutOfSpace (no_room_stops ((length old - w) / 2) t (drop i xs) (omega arith) (left ∙ h))
