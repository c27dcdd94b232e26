-- Feeding by whole frames: one sound frame while locked, two bytes at once. Assumes nothing.
use Prim.Native.Nat.{ℕ, ◌+◌, ◌-◌, ◌*◌, ◌/◌, ◌%◌, ◌^◌, ◌≤◌, ◌<◌}
use mathlib.Core.Path.{◌≡◌, refl, ap, sym, subst, ◌∙◌}
use mathlib.Core.Bool.{true, false, not}
use mathlib.Core.List.{List, [], ◌∷◌}
use native.Mathlib.Omega.{arith}
use native.Mathlib.Nat.{mul_assoc}
use lib.Bits.{bit_xor}
use lib.Dec.{eqb}
use lib.ListN.{length, get_or, set}
use lib.Pow.{pow-add, shr_lt}
use lib.Seq.{sets}
use borrow.Author.Tests.{eq-eqb}
use Rattle.frame.specs.Scrambler.{word_of, next_state}
use Rattle.frame.specs.Frame.{reading_of}
use Rattle.lane_rules.specs.Line.{bits_lsb_first}
use Rattle.lane_rules.specs.Sums.{with_frame, sums_by}
use Rattle.lane_rules.specs.Receiver.{no_bits, results_admitted}
use Rattle.lane_rules.specs.Judging.{quiet, clock_of, scrambled_of, balance_of, fault_rule, judge_locked, judge_of}
use Rattle.lane_rules.specs.Collecting.{held_part, holding}
use Rattle.lane_rules.specs.Feeding.{item_of, total, counted, run_of}
use Rattle.lane_rules.specs.declared.Partial.{Partial}
use Rattle.lane_rules.specs.declared.Sums.{Sums}
use Rattle.lane_rules.specs.declared.Mode.{Mode}
use Rattle.lane_rules.specs.declared.Mode.TheVariants.{Locked}
use Rattle.lane_rules.specs.declared.Receiver.{Receiver}
use Rattle.lane_rules.specs.declared.Outcome.{Outcome}
use Rattle.lane_rules.specs.declared.Judged.{Judged}
use Rattle.std.specs.Prelude.{Some}
use Rattle.lane_rules.specs.declared.Fed.{Fed}
use Rattle.lane_modes.specs.PrivateCalls.{with_byte, byte_ends}
use Rattle.lane.specs.PrivateCalls.{sound_results, sound_place, Along, with_two}
use Rattle.lane_rules.proofs.Modes.ModeRecord.{PartIn, admitted_facts}
use Rattle.lane_rules.proofs.Feeding.RunningTotals.{total_0, total_more}
use Rattle.lane_modes.proofs.Steps.Numbers.{byte_lt}
use Rattle.lane_modes.proofs.Steps.FaultCounts.{sound_keeps}
use Rattle.lane_modes.proofs.Steps.JudgedFrames.{locked_sample}
use Rattle.lane_modes.proofs.Bytes.HeldBits.{rest_mode}
use Rattle.lane_modes.proofs.Bytes.WholeBytes.{held_gives, ends_gives}
use Rattle.lane.proofs.Steps.CountedOutcomes.{counted_one}
use Rattle.lane.proofs.Loops.FramesLoops.{place_of, along_byte}

-- ---- the results after sound frames

pub results_more : (f n : ℕ) → 2 * sound_results f n % 256 ≡ sound_results f (n + 1)
unfolding sound_results
results_more f n =
    let e : f * 2 ^ (n + 1) ≡ f * 2 ^ n * 2 = ap (λ (x : ℕ). f * x) (pow-add 2 n 1) ∙ sym (mul_assoc f (2 ^ n) 2) in
    omega (arith, e)

pub results_none : (f : ℕ) → f < 256 → f ≡ sound_results f 0
unfolding sound_results
results_none f h = omega arith

-- eight leave no fault
pub results_gone : (f n : ℕ) → 8 ≤ n → 0 ≡ sound_results f n
unfolding sound_results
results_gone f n h =
    let d : n ≡ n - 8 + 8 = omega arith in
    let e : f * 2 ^ n ≡ f * 2 ^ (n - 8) * 256 =
    ap (λ (k : ℕ). f * 2 ^ k) d ∙ ap (λ (x : ℕ). f * x) (pow-add 2 (n - 8) 8) ∙ sym (mul_assoc f (2 ^ (n - 8)) 256) in
    omega (arith, e)

pub results_shifted : (f n : ℕ) → f * 2 ^ n % 2 ^ 32 % 256 ≡ sound_results f n
unfolding sound_results
results_shifted f n = omega arith

-- ---- one frame: p is held, under 8 bits, after n frames from a place, and two bytes are left

module _ (bytes : List ℕ) (answer : Fed) (filled : List ℕ) (from : Fed) (p : Partial) (f s c n : ℕ) (u : Sums) (t : List ℕ)
    (a : Along bytes answer filled (sound_place from (Locked p (sound_results f n) s c) u n) t) (few : p.count < 8)
    (h : from.bytes + 2 * n + 1 < length bytes) (l : from.slots + n < length t)
    (bx : get_or bytes (from.bytes + 2 * n) 0 < 256) (by : get_or bytes (from.bytes + 2 * n + 1) 0 < 256) where
  abbrev k : ℕ
  k = from.bytes + 2 * n

  abbrev v : ℕ
  v = from.slots + n

  abbrev x : ℕ
  x = get_or bytes k 0

  abbrev y : ℕ
  y = get_or bytes (k + 1) 0

  abbrev g : ℕ
  g = sound_results f n

  -- the record in a mode
  abbrev now : Mode → Receiver
  now m = (sound_place from m u n).receiver

  -- with the first byte
  abbrev q : Partial
  q = record { bits = with_byte p x; count = p.count + 8 }

  p_in : PartIn p
  p_in = (admitted_facts (Locked p g s c) a.stands.good).0

  q_in : PartIn q
  q_in = (omega arith, byte_lt p.bits p.count x p_in.1 bx)

  first_held : Along bytes answer filled (place_of (now (Locked q g s c)) (k + 1) (v + 0)) t
  unfolding held_part holding sums_by
  first_held =
      subst (λ (r : Receiver). Along bytes answer filled (place_of r (k + 1) (v + 0)) t)
      (sym (counted_one (now (Locked p g s c)) (Locked q g s c) Outcome.Nothing _ _ _ u refl (sym (total_0 _)) (sym (total_0 _)) (sym (total_0 _))))
      (along_byte bytes answer filled (now (Locked p g s c)) k v t a (omega arith) l (quiet (Locked q g s c))
      (held_gives (Locked p g s c) tt x bx few))

  -- with the second
  abbrev all : ℕ
  all = with_two p x y

  abbrev w : ℕ
  w = all % 65536

  abbrev over8 : ℕ
  over8 = p.count + 8 - 8

  -- after a frame judged
  abbrev Judged-along : Judged → Type 0
  Judged-along j =
      Along bytes answer filled
      (place_of (counted (now (Locked q g s c)) (run_of j.mode (bits_lsb_first over8 (all / 65536))).mode (j.outcome ∷ [])) (k + 1 + 1)
      (v + 0 + length (item_of j.outcome))) (sets t (v + 0) (item_of j.outcome))

  second_judged : Judged-along (judge_locked g s c w)
  unfolding held_part judge_of
  second_judged =
      along_byte bytes answer filled (now (Locked q g s c)) (k + 1) (v + 0) t first_held h (omega arith) (byte_ends (Locked q g s c) y)
      (ends_gives (Locked q g s c) tt y by q_in (omega arith) (7 - p.count) (omega arith))

  -- what is held then
  abbrev left : Partial
  left = record { bits = all / 65536; count = p.count }

  left_in : PartIn left
  left_in =
      let wide : all < 2 ^ (p.count + 8 + 8) = byte_lt q.bits q.count y q_in.1 by in
      let e : p.count + 8 + 8 ≡ p.count + 16 = omega arith in
      (omega arith, shr_lt {n = all} p.count 16 (subst (λ (i : ℕ). all < 2 ^ i) e wide))

  -- the frame is sound
  module _ (e : clock_of w ≡ c) where
    abbrev sample : ℕ
    sample = bit_xor (scrambled_of w) (word_of s)

    abbrev bare : Mode
    bare = Locked no_bits (sound_results f (n + 1)) (next_state s) (1 - c)

    abbrev sound : Judged
    sound = record { mode = bare; outcome = Outcome.Sample sample (balance_of w) }

    judged_sound : judge_locked g s c w ≡ sound
    judged_sound =
        let good : results_admitted g ≡ true = (admitted_facts (Locked p g s c) a.stands.good).1 in
        let none : not (eqb (clock_of w) c) ≡ false = rw (eq-eqb (clock_of w) c e) in
        let kept : fault_rule g (not (eqb (clock_of w) c)) ≡ Some (sound_results f (n + 1)) =
        rw none (sound_keeps g good ∙ ap Some (results_more f n)) in
        sym (locked_sample g s c w (reading_of w) refl (sound_results f (n + 1)) (next_state s) kept refl (balance_of w) refl none sample refl)

    left_held : (run_of bare (bits_lsb_first over8 (all / 65536))).mode ≡ Locked left (sound_results f (n + 1)) (next_state s) (1 - c)
    unfolding held_part holding
    left_held =
        let o : over8 ≡ p.count = omega arith in
        ap (λ (i : ℕ). (run_of bare (bits_lsb_first i (all / 65536))).mode) o
        ∙ rest_mode bare tt refl p.count (all / 65536) (omega arith) left_in.1

    -- the place after it
    abbrev onward : Fed
    onward = sound_place from (Locked left (sound_results f (n + 1)) (next_state s) (1 - c)) (with_frame u (balance_of w)) (n + 1)

    counted_is : counted (now (Locked q g s c)) (run_of bare (bits_lsb_first over8 (all / 65536))).mode (Outcome.Sample sample (balance_of w) ∷ [])
        ≡ onward.receiver
    unfolding sums_by
    counted_is =
        ap (λ (m : Mode). counted (now (Locked q g s c)) m (Outcome.Sample sample (balance_of w) ∷ [])) left_held
        ∙ sym (counted_one (now (Locked q g s c)) (Locked left (sound_results f (n + 1)) (next_state s) (1 - c))
        (Outcome.Sample sample (balance_of w)) (total from.receiver.samples (n + 1)) _ _ (with_frame u (balance_of w)) refl
        (sym (total_more from.receiver.samples n 1)) (sym (total_0 _)) (sym (total_0 _)))

    pub sound_along : Along bytes answer filled onward (set t v sample)
    sound_along =
        let bytes-are : k + 1 + 1 ≡ from.bytes + 2 * (n + 1) = omega arith in
        let slots-are : v + 0 + 1 ≡ from.slots + (n + 1) = omega arith in
        let place : v + 0 ≡ v = omega arith in
        subst (λ (i : ℕ). Along bytes answer filled onward (set t i sample)) place
        (subst (λ (i : ℕ). Along bytes answer filled (place_of onward.receiver (from.bytes + 2 * (n + 1)) i) (set t (v + 0) sample)) slots-are
        (subst (λ (i : ℕ). Along bytes answer filled (place_of onward.receiver i (v + 0 + 1)) (set t (v + 0) sample)) bytes-are
        (subst (λ (r : Receiver). Along bytes answer filled (place_of r (k + 1 + 1) (v + 0 + 1)) (set t (v + 0) sample)) counted_is
        (subst Judged-along judged_sound second_judged))))
