-- A scrambled frame on the line keeps the line's state: R is the ones minus the zeros, and the run of equal bits at the line's
-- end is short enough for the next frame. Assumes nothing.
use Prim.Native.Nat.{ℕ, zero, suc, ◌+◌, ◌-◌, ◌*◌, ◌/◌, ◌%◌, ◌^◌, ◌≤◌, ◌<◌}
use mathlib.Core.Path.{◌≡◌, refl, ap, ◌∙◌, subst}
use mathlib.Core.Bool.{Bool, true, false}
use mathlib.Core.Logic.{◌⊎◌, inl, inr}
use native.Mathlib.Omega.{arith}
use lib.Dec.{ltb}
use lib.Bits.{bit_xor}
use borrow.Author.Tests.{ltb-true, ltb-false}
use Rattle.frame.specs.Scrambler.{is_state, word_of, next_state}
use Rattle.frame.specs.Frame.{is_sample, plain_frame, disparity_of}
use Rattle.frame.proofs.Difference.{Difference, difference_add}
use Rattle.frame.proofs.Building.{sample_max, plain_lt}
use Rattle.frame.proofs.Laws.{next_bits, state_range, next_mod_8, permitted_state, new_r_sum, built_either, built_lt}
use Rattle.lane_rules.specs.Line.{bits_lsb_first}
use Rattle.lane_rules.specs.Sender.{next_position, scrambled_next}
use Rattle.lane_rules.specs.Balance.{ones, zeros}
use Rattle.lane_rules.specs.declared.Sender.{Sender}
use Rattle.lane_rules.proofs.Sending.SenderRecord.{position_rises, position_stays, scrambled_admitted, built_values_lem}
use Rattle.lane_rules.proofs.Balance.BitCounts.{disparity_of_frame}
use Rattle.lane_rules.proofs.Balance.RunLengths.{run_after, RunsAtMost32}
use Rattle.lane_rules.proofs.Balance.FrameRuns.{any_runs, any_run_after, differ_run_after, differ_runs, first_15_runs, equal_or_run_15}
use Rattle.lane_rules.proofs.Balance.FrameRuns.{mixed_15_runs}
use Rattle.lane_rules.proofs.Balance.LineState.{RunBefore, LineState, FrameKeeps, at_second, from_third}

-- ---- the frame with disparity bit 0

plain_clock_1 : (x l : ℕ) → 16384 ≤ plain_frame x l 1
unfolding plain_frame
plain_clock_1 x l = omega arith

plain_0_clock_0 : (l : ℕ) → plain_frame 0 l 0 ≡ word_of l
unfolding plain_frame
plain_0_clock_0 l = omega arith

plain_0_clock_1 : (l : ℕ) → plain_frame 0 l 1 ≡ 16384 + word_of l
unfolding plain_frame
plain_0_clock_1 l = omega arith

-- with clock bit 1, bits 14 and 15 of the frame sent differ
differ : (w f : ℕ) → 16384 ≤ w → w < 32768 → (f ≡ w) ⊎ (f ≡ 65535 - w) → f / 32768 % 2 ≡ f / 16384 % 2 → ⊥
differ w f k h (inl e) d = omega arith
differ w f k h (inr e) d = omega arith

even_1 : (l q : ℕ) → l ≡ 16384 * q → l / 2 ^ 0 % 2 ≡ 0
even_1 l q e = omega arith

even_8 : (l q : ℕ) → l ≡ 16384 * q → l / 2 ^ 3 % 2 ≡ 0
even_8 l q e = omega arith

bit_3_of : (n : ℕ) → n % 16 ≡ n % 8 + 8 * (n / 8 % 2)
bit_3_of n = omega arith

-- after a state whose word is 0 the word's four lowest bits are not all equal
next_of_word_0 : (l : ℕ) → is_state l ≡ true → word_of l ≡ 0 → (1 ≤ next_state l % 16) × (next_state l % 16 ≤ 7)
next_of_word_0 l s e =
    let range = state_range l s in
    let low = next_mod_8 l s in
    let b0 : l / 2 ^ 0 % 2 ≡ 0 = even_1 l (l / 16384) (omega arith) in
    let b3 : l / 2 ^ 3 % 2 ≡ 0 = even_8 l (l / 16384) (omega arith) in
    let n3 : next_state l / 2 ^ 3 % 2 ≡ 0 = (next_bits l).high 3 (omega arith) (omega arith) ∙ (λ i. bit_xor (b0 i) (b3 i)) in
    let q : 1 ≤ l / 16384 = omega (arith, range.0) in
    let split = bit_3_of (next_state l) in
    (omega arith, omega arith)

mixed : (n f : ℕ) → 1 ≤ n % 16 → n % 16 ≤ 7 → (f ≡ 16384 + n % 16384) ⊎ (f ≡ 65535 - (16384 + n % 16384))
    → (f % 16 ≡ 0 → ⊥) × (f % 16 ≡ 15 → ⊥)
mixed n f h k (inl e) = (λ g. omega arith, λ g. omega arith)
mixed n f h k (inr e) = (λ g. omega arith, λ g. omega arith)

-- ---- a scrambled frame

module _ (t : Sender) (x o z b m : ℕ) (s : LineState t o z m) (good : is_sample x ≡ true) (p-min : t.alignment ≤ t.position)
    (x-0 : t.position < t.alignment + 32 → x ≡ 0) where
  -- the frame with disparity bit 0, and the frame sent
  plain : ℕ
  plain = plain_frame x t.state t.clock

  sent : ℕ
  sent = (scrambled_next t x).frame

  plain_max : plain < 32768
  unfolding plain
  plain_max = plain_lt x t.state t.clock (sample_max x good) s.admitted.clock_max

  either : (sent ≡ plain) ⊎ (sent ≡ 65535 - plain)
  unfolding sent plain
  either =
      built_either x t.state t.clock t.r _ _ (built_values_lem t x s.admitted good)
      (λ (f : ℕ). (f ≡ plain) ⊎ (f ≡ 65535 - plain)) (inl refl) (inr refl)

  sent_lt : sent < 65536
  unfolding sent
  sent_lt = built_lt x t.state t.clock t.r _ _ (built_values_lem t x s.admitted good)

  r_after : Difference (scrambled_next t x).sender.r (o + ones (bits_lsb_first 16 sent)) (z + zeros (bits_lsb_first 16 sent))
  unfolding sent
  r_after =
      rw (new_r_sum x t.state t.clock t.r _ _ (built_values_lem t x s.admitted good))
      (difference_add t.r (disparity_of (scrambled_next t x).frame) o z (ones (bits_lsb_first 16 (scrambled_next t x).frame))
      (zeros (bits_lsb_first 16 (scrambled_next t x).frame)) s.r_is (disparity_of_frame (scrambled_next t x).frame))

  keeps : RunsAtMost32 b m (bits_lsb_first 16 sent) → RunBefore (scrambled_next t x).sender (run_after b m (bits_lsb_first 16 sent))
      → FrameKeeps (scrambled_next t x) o z b m
  unfolding sent
  keeps runs run = record {
    runs = runs;
    next = record { admitted = scrambled_admitted t x s.admitted good; r_is = r_after; run = run };
  }

  position_later : t.alignment + 1 ≤ t.position → t.alignment + 2 ≤ next_position t
  position_later h = go (ltb t.position (t.alignment + 32)) refl
    where
      go : (c : Bool) → ltb t.position (t.alignment + 32) ≡ c → t.alignment + 2 ≤ next_position t
      go true e = let k = ltb-true t.position (t.alignment + 32) e in omega (arith, position_rises t k)
      go false e = let k = ltb-false t.position (t.alignment + 32) e in omega (arith, position_stays t k)

  -- the first frame after the alignment: sample 0, from the seed, with clock bit 0
  keeps_first : t.position ≡ t.alignment → FrameKeeps (scrambled_next t x) o z b m
  unfolding scrambled_next plain
  keeps_first p =
      keeps (any_runs b m sent (omega (arith, short)))
      (at_second (scrambled_next t x).sender (run_after b m (bits_lsb_first 16 sent)) (omega (arith, position_rises t (omega arith)))
      (omega (arith, clock)) (ap next_state (s.run.state_aligning (omega arith))) (omega (arith, short, any_run_after b m sent))
      (last (equal_or_run_15 b m sent sent_lt)))
    where
      short : m ≤ 8
      short = s.run.run_aligning (omega arith) (omega arith)

      clock : t.clock ≡ 0
      clock = s.run.clock_aligning (omega arith)

      plain_is : plain ≡ word_of t.seed
      plain_is =
          (λ i. plain_frame (x-0 (omega arith) i) (s.run.state_aligning (omega arith) i) (clock i)) ∙ plain_0_clock_0 t.seed

      all_0 : sent ≡ 0 → (sent ≡ plain) ⊎ (sent ≡ 65535 - plain) → word_of t.seed ≡ 0
      all_0 e (inl k) = omega (arith, plain_is)
      all_0 e (inr k) = absurd (omega (arith, plain_max))

      all_1 : sent ≡ 65535 → (sent ≡ plain) ⊎ (sent ≡ 65535 - plain) → word_of t.seed ≡ 0
      all_1 e (inl k) = absurd (omega (arith, plain_max))
      all_1 e (inr k) = omega (arith, plain_is)

      last : (sent ≡ 0) ⊎ ((sent ≡ 65535) ⊎ (run_after b m (bits_lsb_first 16 sent) ≤ 15))
          → (run_after b m (bits_lsb_first 16 sent) ≤ 15) ⊎ (word_of t.seed ≡ 0)
      last (inl e) = inr (all_0 e either)
      last (inr (inl e)) = inr (all_1 e either)
      last (inr (inr k)) = inl k

  -- clock bit 1, from the second frame on
  keeps_clock_1 : t.clock ≡ 1 → t.alignment + 1 ≤ t.position → RunsAtMost32 b m (bits_lsb_first 15 sent)
      → FrameKeeps (scrambled_next t x) o z b m
  unfolding scrambled_next plain
  keeps_clock_1 c p low =
      keeps (differ_runs b m sent low apart)
      (rw (differ_run_after b m sent low apart)
      (from_third (scrambled_next t x).sender 1 (position_later p) (omega arith) (λ _. omega arith)))
    where
      plain_min : 16384 ≤ plain
      plain_min = rw c (plain_clock_1 x t.state)

      apart : sent / 32768 % 2 ≡ sent / 16384 % 2 → ⊥
      apart = differ plain sent plain_min plain_max either

  -- the second: sample 0, from the state after the seed, with clock bit 1
  keeps_second : t.position ≡ t.alignment + 1 → FrameKeeps (scrambled_next t x) o z b m
  unfolding plain
  keeps_second p = keeps_clock_1 clock (omega arith) (go (s.run.run_at_second p))
    where
      clock : t.clock ≡ 1
      clock = s.run.clock_at_second p

      plain_is : plain ≡ 16384 + word_of (next_state t.seed)
      plain_is =
          (λ i. plain_frame (x-0 (omega arith) i) (s.run.state_at_second p i) (clock i)) ∙ plain_0_clock_1 (next_state t.seed)

      go : (m ≤ 15) ⊎ (word_of t.seed ≡ 0) → RunsAtMost32 b m (bits_lsb_first 15 sent)
      go (inl h) = first_15_runs b m sent (omega arith)
      go (inr e) =
          let n = next_of_word_0 t.seed (permitted_state t.seed s.admitted.seed_permitted) e in
          let not_equal = mixed (next_state t.seed) sent n.0 n.1
          (subst (λ (w : ℕ). (sent ≡ w) ⊎ (sent ≡ 65535 - w)) plain_is either) in
          mixed_15_runs b m sent s.run.run_max not_equal.0 not_equal.1

  keeps_later : t.alignment + 2 ≤ t.position → FrameKeeps (scrambled_next t x) o z b m
  unfolding scrambled_next plain
  keeps_later p = go t.clock refl s.admitted.clock_max
    where
      go : (c : ℕ) → t.clock ≡ c → c ≤ 1 → FrameKeeps (scrambled_next t x) o z b m
      go zero e h =
          let short = s.run.run_clock_0 p e in
          keeps (any_runs b m sent (omega arith))
          (from_third (scrambled_next t x).sender (run_after b m (bits_lsb_first 16 sent)) (position_later (omega arith))
          (omega (arith, any_run_after b m sent)) (λ k. absurd (omega arith)))
      go (suc zero) e h = keeps_clock_1 e (omega arith) (first_15_runs b m sent (s.run.run_clock_1 p e))
      go (suc (suc c)) e h = absurd (omega arith)

  pub scrambled_keeps : FrameKeeps (scrambled_next t x) o z b m
  scrambled_keeps = go (ltb t.alignment t.position) refl (ltb (t.alignment + 1) t.position) refl
    where
      go : (c : Bool) → ltb t.alignment t.position ≡ c → (d : Bool) → ltb (t.alignment + 1) t.position ≡ d
          → FrameKeeps (scrambled_next t x) o z b m
      go false e d f = keeps_first (omega (arith, p-min, ltb-false t.alignment t.position e))
      go true e false f =
          keeps_second (omega (arith, ltb-true t.alignment t.position e, ltb-false (t.alignment + 1) t.position f))
      go true e true f = keeps_later (omega (arith, ltb-true (t.alignment + 1) t.position f))
