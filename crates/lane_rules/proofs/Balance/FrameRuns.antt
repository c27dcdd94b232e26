-- What each kind of frame does to the run of equal bits at the line's end. Assumes nothing.
use Prim.Native.Nat.{ℕ, zero, suc, ◌+◌, ◌*◌, ◌/◌, ◌%◌, ◌≤◌, ◌<◌}
use mathlib.Core.Path.{◌≡◌, refl, sym, ap, ◌∙◌}
use mathlib.Core.Logic.{◌⊎◌, inl, inr}
use mathlib.Core.List.{List, [], ◌∷◌, ◌++◌}
use native.Mathlib.Omega.{arith}
use lib.ListN.{length}
use Rattle.lane_rules.specs.Line.{bits_lsb_first}
use Rattle.lane_rules.proofs.Basics.Bits.{length_bits}
use Rattle.lane_rules.proofs.Balance.RunLengths.{run_with, run_after, last_bit, RunsAtMost32, run_with_other, runs_append, run_append}
use Rattle.lane_rules.proofs.Balance.RunLengths.{run_max, few_bits, last_run_bound, AllEqual, all_equal_or_within, all_zeros, all_ones}

-- any frame
pub any_runs : (b m w : ℕ) → m ≤ 16 → RunsAtMost32 b m (bits_lsb_first 16 w)
any_runs b m w h = few_bits b m (bits_lsb_first 16 w) (omega (arith, length_bits 16 w))

pub any_run_after : (b m w : ℕ) → run_after b m (bits_lsb_first 16 w) ≤ m + 16
any_run_after b m w = omega (arith, run_max b m (bits_lsb_first 16 w), length_bits 16 w)

-- ---- an alignment frame

ones_after : (k : ℕ) → k ≤ 32 → RunsAtMost32 0 k (bits_lsb_first 8 255)
unfolding RunsAtMost32 run_with bits_lsb_first
ones_after k h = (h, omega arith)

zeros_after : (k : ℕ) → k ≤ 32 → RunsAtMost32 1 k (bits_lsb_first 8 0)
unfolding RunsAtMost32 run_with bits_lsb_first
zeros_after k h = (h, omega arith)

pub even_runs : (b m : ℕ) → m ≤ 24 → RunsAtMost32 b m (bits_lsb_first 16 0xFF00)
unfolding bits_lsb_first last_bit
even_runs b m h =
    runs_append b m (bits_lsb_first 8 0) (bits_lsb_first 8 255) (few_bits b m (bits_lsb_first 8 0) (omega arith))
    (ones_after (run_after b m (bits_lsb_first 8 0)) (omega (arith, run_max b m (bits_lsb_first 8 0))))

pub odd_runs : (b m : ℕ) → m ≤ 24 → RunsAtMost32 b m (bits_lsb_first 16 0x00FF)
unfolding bits_lsb_first last_bit
odd_runs b m h =
    runs_append b m (bits_lsb_first 8 255) (bits_lsb_first 8 0) (few_bits b m (bits_lsb_first 8 255) (omega arith))
    (zeros_after (run_after b m (bits_lsb_first 8 255)) (omega (arith, run_max b m (bits_lsb_first 8 255))))

pub even_run_after : (b m : ℕ) → run_after b m (bits_lsb_first 16 0xFF00) ≡ 8
unfolding bits_lsb_first run_after run_with
even_run_after b m = refl

pub odd_run_after : (b m : ℕ) → run_after b m (bits_lsb_first 16 0x00FF) ≡ 8
unfolding bits_lsb_first run_after run_with
odd_run_after b m = refl

-- ---- a frame whose bits 14 and 15 differ

-- halved n times
halves : ℕ → ℕ → ℕ
halves zero w = w
halves (suc n) w = halves n (w / 2)

halves_14 : (w : ℕ) → halves 14 w ≡ w / 16384
unfolding halves
halves_14 w = omega arith

halves_15 : (w : ℕ) → halves 15 w ≡ w / 32768
unfolding halves
halves_15 w = omega arith

last_of_bits : (n w : ℕ) → bits_lsb_first (suc n) w ≡ bits_lsb_first n w ++ (halves n w % 2 ∷ [])
unfolding bits_lsb_first halves
last_of_bits zero w = refl
last_of_bits (suc n) w = ap (λ (l : List ℕ). w % 2 ∷ l) (last_of_bits n (w / 2))

last_appended : (b : ℕ) (xs : List ℕ) (x : ℕ) → last_bit b (xs ++ (x ∷ [])) ≡ x
unfolding last_bit
last_appended b [] x = refl
last_appended b (y ∷ xs) x = last_appended y xs x

module _ (b m w : ℕ) (low : RunsAtMost32 b m (bits_lsb_first 15 w)) (differ : w / 32768 % 2 ≡ w / 16384 % 2 → ⊥) where
  at_14 : last_bit b (bits_lsb_first 15 w) ≡ w / 16384 % 2
  at_14 =
      ap (last_bit b) (last_of_bits 14 w) ∙ last_appended b (bits_lsb_first 14 w) (halves 14 w % 2) ∙ ap (λ (x : ℕ). x % 2) (halves_14 w)

  new_run : run_with (last_bit b (bits_lsb_first 15 w)) (run_after b m (bits_lsb_first 15 w)) (halves 15 w % 2) ≡ 1
  new_run =
      run_with_other (last_bit b (bits_lsb_first 15 w)) (run_after b m (bits_lsb_first 15 w)) (halves 15 w % 2)
      (λ e. differ (sym (ap (λ (x : ℕ). x % 2) (halves_15 w)) ∙ e ∙ at_14))

  pub differ_run_after : run_after b m (bits_lsb_first 16 w) ≡ 1
  unfolding run_after
  differ_run_after = ap (run_after b m) (last_of_bits 15 w) ∙ run_append b m (bits_lsb_first 15 w) (halves 15 w % 2 ∷ []) ∙ new_run

  pub differ_runs : RunsAtMost32 b m (bits_lsb_first 16 w)
  unfolding RunsAtMost32
  differ_runs =
      rw (last_of_bits 15 w)
      (runs_append b m (bits_lsb_first 15 w) (halves 15 w % 2 ∷ []) low (last_run_bound b m (bits_lsb_first 15 w) low, rw new_run (omega arith)))

-- its first 15 bits
pub first_15_runs : (b m w : ℕ) → m ≤ 17 → RunsAtMost32 b m (bits_lsb_first 15 w)
first_15_runs b m w h = few_bits b m (bits_lsb_first 15 w) (omega (arith, length_bits 15 w))

-- ---- the first scrambled frame: all its bits are equal, or its last run is at most 15

all_equal_frame : (w : ℕ) → w < 65536 → AllEqual (w % 2) (bits_lsb_first 15 (w / 2)) → (w ≡ 0) ⊎ (w ≡ 65535)
all_equal_frame w h a = go (w % 2) refl (omega arith)
  where
    go : (c : ℕ) → w % 2 ≡ c → c ≤ 1 → (w ≡ 0) ⊎ (w ≡ 65535)
    go zero e k = inl (omega (arith, all_zeros 15 (w / 2) (omega arith) (rw e at a)))
    go (suc zero) e k = inr (omega (arith, all_ones 15 (w / 2) (omega arith) (rw e at a)))
    go (suc (suc c)) e k = absurd (omega arith)

pub equal_or_run_15 : (b m w : ℕ) → w < 65536 → (w ≡ 0) ⊎ ((w ≡ 65535) ⊎ (run_after b m (bits_lsb_first 16 w) ≤ 15))
unfolding bits_lsb_first run_after
equal_or_run_15 b m w h = go (all_equal_or_within (w % 2) (run_with b m (w % 2)) (bits_lsb_first 15 (w / 2)))
  where
    known : (w ≡ 0) ⊎ (w ≡ 65535) → (w ≡ 0) ⊎ ((w ≡ 65535) ⊎ (run_after b m (bits_lsb_first 16 w) ≤ 15))
    known (inl e) = inl e
    known (inr e) = inr (inl e)

    go : AllEqual (w % 2) (bits_lsb_first 15 (w / 2))
        ⊎ (run_after (w % 2) (run_with b m (w % 2)) (bits_lsb_first 15 (w / 2)) ≤ length (bits_lsb_first 15 (w / 2)))
        → (w ≡ 0) ⊎ ((w ≡ 65535) ⊎ (run_after b m (bits_lsb_first 16 w) ≤ 15))
    go (inl a) = known (all_equal_frame w h a)
    go (inr k) = inr (inr (omega (arith, length_bits 15 (w / 2))))

-- ---- a frame whose first four bits are not all equal

bits_from_4 : (w : ℕ) → bits_lsb_first 15 w ≡ bits_lsb_first 4 w ++ bits_lsb_first 11 (w / 2 / 2 / 2 / 2)
unfolding bits_lsb_first
bits_from_4 w = refl

mod_16_is_0 : (w q : ℕ) → w ≡ 16 * q → w % 16 ≡ 0
mod_16_is_0 w q e = omega arith

mod_16_is_15 : (w q : ℕ) → w ≡ 16 * q + 15 → w % 16 ≡ 15
mod_16_is_15 w q e = omega arith

all_equal_4 : (w : ℕ) → AllEqual (w % 2) (bits_lsb_first 3 (w / 2)) → (w % 16 ≡ 0) ⊎ (w % 16 ≡ 15)
unfolding bits_lsb_first AllEqual
all_equal_4 w a = go (w % 2) refl (omega arith)
  where
    go : (c : ℕ) → w % 2 ≡ c → c ≤ 1 → (w % 16 ≡ 0) ⊎ (w % 16 ≡ 15)
    go zero e k = inl (mod_16_is_0 w (w / 2 / 2 / 2 / 2) (omega (arith, a.0, a.1.0, a.1.1.0)))
    go (suc zero) e k = inr (mod_16_is_15 w (w / 2 / 2 / 2 / 2) (omega (arith, a.0, a.1.0, a.1.1.0)))
    go (suc (suc c)) e k = absurd (omega arith)

pub mixed_15_runs : (b m w : ℕ) → m ≤ 24 → (w % 16 ≡ 0 → ⊥) → (w % 16 ≡ 15 → ⊥) → RunsAtMost32 b m (bits_lsb_first 15 w)
unfolding bits_lsb_first run_after
mixed_15_runs b m w h no-0 no-15 =
    let late = bits_lsb_first 11 (w / 2 / 2 / 2 / 2) in
    rw (bits_from_4 w)
    (runs_append b m (bits_lsb_first 4 w) late (few_bits b m (bits_lsb_first 4 w) (omega (arith, length_bits 4 w)))
    (few_bits (last_bit b (bits_lsb_first 4 w)) (run_after b m (bits_lsb_first 4 w)) late
    (omega (
      arith,
      length_bits 11 (w / 2 / 2 / 2 / 2),
      short (all_equal_or_within (w % 2) (run_with b m (w % 2)) (bits_lsb_first 3 (w / 2))),
    ))))
  where
    neither : (w % 16 ≡ 0) ⊎ (w % 16 ≡ 15) → ⊥
    neither (inl e) = no-0 e
    neither (inr e) = no-15 e

    short : AllEqual (w % 2) (bits_lsb_first 3 (w / 2))
        ⊎ (run_after (w % 2) (run_with b m (w % 2)) (bits_lsb_first 3 (w / 2)) ≤ length (bits_lsb_first 3 (w / 2)))
        → run_after b m (bits_lsb_first 4 w) ≤ 3
    short (inl a) = absurd (neither (all_equal_4 w a))
    short (inr k) = omega (arith, length_bits 3 (w / 2))
