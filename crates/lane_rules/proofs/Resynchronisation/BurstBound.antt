-- The burst error bound: of frames in spaced bursts, from lock on. Assumes nothing.
use Prim.Native.Nat.{ℕ, zero, suc, ◌-◌, ◌≤◌, ◌<◌}
use mathlib.Core.Path.{◌≡◌, refl, sym, subst}
use mathlib.Core.Bool.{Bool, true, false}
use mathlib.Core.List.{List, ◌∷◌, ◌++◌}
use native.Mathlib.Omega.{arith}
use lib.Bits.{bit_xor}
use lib.Dec.{T, eqb}
use lib.ListN.{length}
use borrow.Author.Tests.{eqb-true, eqb-false}
use Rattle.frame.specs.Scrambler.{word_of, next_state}
use Rattle.lane_rules.specs.Line.{frame_bits}
use Rattle.lane_rules.specs.Receiver.{no_bits, results_admitted}
use Rattle.lane_rules.specs.Judging.{clock_of, scrambled_of}
use Rattle.lane_rules.specs.Bursts.{BurstPlace, resting, bursting, untouched_between}
use Rattle.lane_rules.specs.Bursts.{spaced_from, spaced, UntouchedRight, BurstErrorBound}
use Rattle.lane_rules.specs.declared.Mode.TheVariants.{Locked}
use Rattle.lane_rules.proofs.Basics.Tables.{impossible}
use Rattle.lane_rules.proofs.Feeding.Runs.{items_of}
use Rattle.lane_rules.proofs.Sending.Encoding as Encoding
use Rattle.lane_rules.proofs.Sending.Encoding.{Encodes, more}
use Rattle.lane_rules.proofs.Modes.FaultRule.{no_results, any_two_at_first, any_keep, rests, Keeps, burst_begins, burst_goes_on}
use Rattle.lane_rules.proofs.Modes.FaultRule.{rest_goes_on, rests_after, rested, any_fewer}
use Rattle.lane_rules.proofs.Resynchronisation.LockedItems.{locked_items, sound_frame, faulty_frame, no_frames_left, item_is_sample}
use Rattle.lane_rules.proofs.Resynchronisation.ArrivedFrames.{FramesArrive, none, untouched, touched}
use Rattle.lane_rules.proofs.Resynchronisation.WrongItems.{none_before, few_wrong}

-- what is known of the results at each place: what the frames to come may be without losing lock
abbrev Known : BurstPlace → ℕ → Type 0
Known (resting n) r = T (rests n r)
Known (bursting n) r = T (any_keep n r)

module _ (tail : List ℕ) (s c : ℕ) (ts : List Bool) (x : ℕ) (xs vs : List ℕ) (f : ℕ → Bool) where
  -- what is claimed of the items of the frames after this one
  abbrev Then : Type 0
  Then = (q : ℕ) → results_admitted q ≡ true → T (f q) → UntouchedRight ts xs (locked_items q (next_state s) (1 - c) vs tail)

  -- an untouched frame w that encodes x: its clock bit is the expected one
  untouched_frame : (r w : ℕ) → w < 65536 → scrambled_of w ≡ bit_xor x (word_of s) → clock_of w ≡ c → Keeps r false f → Then
      → UntouchedRight (false ∷ ts) (x ∷ xs) (locked_items r s c (w ∷ vs) tail)
  untouched_frame r w small d e k then =
      subst (UntouchedRight (false ∷ ts) (x ∷ xs)) (sym (sound_frame r s c w vs tail small e k.results k.kept))
      (UntouchedRight.of_untouched (item_is_sample s x w d) (then k.results k.admitted k.passed))

  -- a touched frame v
  touched_frame : (r v : ℕ) → v < 65536 → ((faulty : Bool) → Keeps r faulty f) → Then
      → UntouchedRight (true ∷ ts) (x ∷ xs) (locked_items r s c (v ∷ vs) tail)
  touched_frame r v small k then = go (eqb (clock_of v) c) refl
    where
      go : (t : Bool) → eqb (clock_of v) c ≡ t → UntouchedRight (true ∷ ts) (x ∷ xs) (locked_items r s c (v ∷ vs) tail)
      go true e =
          subst (UntouchedRight (true ∷ ts) (x ∷ xs))
          (sym (sound_frame r s c v vs tail small (eqb-true _ _ e) (k false).results (k false).kept))
          (UntouchedRight.of_touched (then (k false).results (k false).admitted (k false).passed))
      go false e =
          subst (UntouchedRight (true ∷ ts) (x ∷ xs))
          (sym (faulty_frame r s c v vs tail small (eqb-false _ _ e) (k true).results (k true).kept))
          (UntouchedRight.of_touched (then (k true).results (k true).admitted (k true).passed))

-- from any place on, the items of untouched frames are their samples
module _ (longest : ℕ) (two : longest ≤ 2) (tail : List ℕ) (short : length tail < 16) where
  bursts : (p : BurstPlace) (r s c : ℕ) {ts : List Bool} {xs ws vs : List ℕ} → results_admitted r ≡ true → Known p r
      → spaced_from longest p ts ≡ true → Encodes s c xs ws → FramesArrive ts ws vs → UntouchedRight ts xs (locked_items r s c vs tail)
  unfolding spaced_from
  bursts p r s c a k t Encoding.none none = rw (no_frames_left r s c tail short) UntouchedRight.none
  bursts (resting zero) r s c a k t (more {w = w} b d e m) (untouched u) =
      untouched_frame tail s c _ _ _ _ (rests 0) r w b d e (rested r a k)
      (λ q i j. bursts (resting 0) q (next_state s) (1 - c) i j t m u)
  bursts (resting (suc n)) r s c a k t (more {w = w} b d e m) (untouched u) =
      untouched_frame tail s c _ _ _ _ (rests n) r w b d e (rest_goes_on n r k)
      (λ q i j. bursts (resting n) q (next_state s) (1 - c) i j t m u)
  bursts (bursting n) r s c a k t (more {w = w} b d e m) (untouched u) =
      untouched_frame tail s c _ _ _ _ (rests (untouched_between - 1)) r w b d e
      (rest_goes_on (untouched_between - 1) r (rests_after r a))
      (λ q i j. bursts (resting (untouched_between - 1)) q (next_state s) (1 - c) i j t m u)
  bursts (resting zero) r s c a k t (more b d e m) (touched {v = v} i j u) =
      touched_frame tail s c _ _ _ _ (any_keep 1) r v i (λ faulty. burst_begins r faulty k)
      (λ q a' l. bursts (bursting (longest - 1)) q (next_state s) (1 - c) a' (any_fewer (longest - 1) q (omega arith) l) t m u)
  bursts (resting (suc n)) r s c a k t (more b d e m) (touched i j u) = impossible t
  bursts (bursting zero) r s c a k t (more b d e m) (touched i j u) = impossible t
  bursts (bursting (suc n)) r s c a k t (more b d e m) (touched {v = v} i j u) =
      touched_frame tail s c _ _ _ _ (any_keep n) r v i (λ faulty. burst_goes_on n r faulty k)
      (λ q a' l. bursts (bursting n) q (next_state s) (1 - c) a' l t m u)

-- the burst error bound, from lock on
pub burst_bound : (longest s : ℕ) (ts : List Bool) (xs ws vs tail : List ℕ) → 1 ≤ longest → longest ≤ 2 → length tail < 16
    → spaced longest ts ≡ true → Encodes s 0 xs ws → FramesArrive ts ws vs
    → BurstErrorBound longest ts xs (items_of (Locked no_bits 0 s 0) (frame_bits vs ++ tail))
burst_bound longest s ts xs ws vs tail one two short t e u =
    let right : UntouchedRight ts xs (locked_items 0 s 0 vs tail) =
    bursts longest two tail short (resting 0) 0 s 0 no_results any_two_at_first t e u in
    let first = none_before right in
    record {
      of_bursts = first.0;
      wrong_are = first.1;
      few = few_wrong longest one right t first.0 first.1 _ (omega (arith, two));
      untouched_right = right;
    }
