-- Runs of equal bits: the length of the run at the end of bits, and that no run is longer than 32. Assumes nothing.
use Prim.Native.Nat.{ℕ, zero, suc, ◌+◌, ◌/◌, ◌^◌, ◌≤◌, ◌<◌}
use mathlib.Core.Path.{◌≡◌, refl}
use mathlib.Core.Bool.{Bool, true, false, cond}
use mathlib.Core.Logic.{◌⊎◌, inl, inr}
use mathlib.Core.List.{List, [], ◌∷◌, ◌++◌}
use native.Mathlib.Nat.{pow-suc}
use native.Mathlib.Omega.{arith}
use lib.Dec.{eqb}
use lib.ListN.{length, replicate}
use borrow.Author.Tests.{eqb-true, eqb-false, eq-eqb, ne_eqb}
use Rattle.lane_rules.specs.Line.{bits_lsb_first}

-- after a run of m bits b: the length of the run at the end, with one bit x more, and with more bits
unfoldable pub run_with : ℕ → ℕ → ℕ → ℕ
run_with b m x = cond (eqb x b) (m + 1) 1

unfoldable pub run_after : ℕ → ℕ → List ℕ → ℕ
run_after b m [] = m
run_after b m (x ∷ xs) = run_after x (run_with b m x) xs

-- the last bit
unfoldable pub last_bit : ℕ → List ℕ → ℕ
last_bit b [] = b
last_bit b (x ∷ xs) = last_bit x xs

-- after a run of m bits b, that run and those within the bits are at most 32 long
unfoldable pub RunsAtMost32 : ℕ → ℕ → List ℕ → Type 0
RunsAtMost32 b m [] = m ≤ 32
RunsAtMost32 b m (x ∷ xs) = (m ≤ 32) × RunsAtMost32 x (run_with b m x) xs

-- ---- one bit more

run_with_max : (b m x : ℕ) → run_with b m x ≤ m + 1
unfolding run_with
run_with_max b m x = go (eqb x b)
  where
    go : (t : Bool) → cond t (m + 1) 1 ≤ m + 1
    go true = omega arith
    go false = omega arith

run_with_min : (b m x : ℕ) → 1 ≤ run_with b m x
unfolding run_with
run_with_min b m x = go (eqb x b)
  where
    go : (t : Bool) → 1 ≤ cond t (m + 1) 1
    go true = omega arith
    go false = omega arith

run_with_same : (b m : ℕ) → run_with b m b ≡ m + 1
unfolding run_with
run_with_same b m = rw (eq-eqb b b refl)

pub run_with_other : (b m x : ℕ) → (x ≡ b → ⊥) → run_with b m x ≡ 1
unfolding run_with
run_with_other b m x h = rw (ne_eqb x b h)

-- ---- bits end to end

pub runs_append : (b m : ℕ) (xs ys : List ℕ) → RunsAtMost32 b m xs → RunsAtMost32 (last_bit b xs) (run_after b m xs) ys
    → RunsAtMost32 b m (xs ++ ys)
unfolding RunsAtMost32 last_bit run_after
runs_append b m [] ys h g = g
runs_append b m (x ∷ xs) ys h g = (h.0, runs_append x (run_with b m x) xs ys h.1 g)

pub runs_later : (b m : ℕ) (xs ys : List ℕ) → RunsAtMost32 b m (xs ++ ys) → RunsAtMost32 (last_bit b xs) (run_after b m xs) ys
unfolding RunsAtMost32 last_bit run_after
runs_later b m [] ys h = h
runs_later b m (x ∷ xs) ys h = runs_later x (run_with b m x) xs ys h.1

pub run_append : (b m : ℕ) (xs ys : List ℕ) → run_after b m (xs ++ ys) ≡ run_after (last_bit b xs) (run_after b m xs) ys
unfolding last_bit run_after
run_append b m [] ys = refl
run_append b m (x ∷ xs) ys = run_append x (run_with b m x) xs ys

-- ---- bounds

-- a run grows by at most the bits that come
pub run_max : (b m : ℕ) (xs : List ℕ) → run_after b m xs ≤ m + length xs
unfolding run_after
run_max b m [] = omega arith
run_max b m (x ∷ xs) = omega (arith, run_max x (run_with b m x) xs, run_with_max b m x)

pub few_bits : (b m : ℕ) (xs : List ℕ) → m + length xs ≤ 32 → RunsAtMost32 b m xs
unfolding RunsAtMost32
few_bits b m [] h = omega arith
few_bits b m (x ∷ xs) h = (omega arith, few_bits x (run_with b m x) xs (omega (arith, run_with_max b m x)))

pub first_run_bound : (b m : ℕ) (xs : List ℕ) → RunsAtMost32 b m xs → m ≤ 32
unfolding RunsAtMost32
first_run_bound b m [] h = h
first_run_bound b m (x ∷ xs) h = h.0

pub last_run_bound : (b m : ℕ) (xs : List ℕ) → RunsAtMost32 b m xs → run_after b m xs ≤ 32
unfolding RunsAtMost32 run_after
last_run_bound b m [] h = h
last_run_bound b m (x ∷ xs) h = last_run_bound x (run_with b m x) xs h.1

-- a run of n equal bits c at the front
same_run_bound : (c m n : ℕ) (xs : List ℕ) → RunsAtMost32 c m (replicate n c ++ xs) → m + n ≤ 32
unfolding RunsAtMost32
same_run_bound c m zero xs h = omega (arith, first_run_bound c m xs h)
same_run_bound c m (suc n) xs h = omega (arith, same_run_bound c (run_with c m c) n xs h.1, run_with_same c m)

pub run_bound : (b m c n : ℕ) (xs : List ℕ) → RunsAtMost32 b m (replicate n c ++ xs) → n ≤ 32
unfolding RunsAtMost32
run_bound b m c zero xs h = omega arith
run_bound b m c (suc n) xs h = omega (arith, same_run_bound c (run_with b m c) n xs h.1, run_with_min b m c)

-- ---- bits that are all equal

unfoldable pub AllEqual : ℕ → List ℕ → Type 0
AllEqual b [] = Unit {0}
AllEqual b (x ∷ xs) = (x ≡ b) × AllEqual b xs

-- either all bits go on with the run, or the last run is within them
pub all_equal_or_within : (b m : ℕ) (xs : List ℕ) → AllEqual b xs ⊎ (run_after b m xs ≤ length xs)
unfolding run_after AllEqual
all_equal_or_within b m [] = inl tt
all_equal_or_within b m (x ∷ xs) = go (eqb x b) refl (all_equal_or_within x (run_with b m x) xs)
  where
    go : (t : Bool) → eqb x b ≡ t → AllEqual x xs ⊎ (run_after x (run_with b m x) xs ≤ length xs)
        → ((x ≡ b) × AllEqual b xs) ⊎ (run_after x (run_with b m x) xs ≤ suc (length xs))
    go true e (inl a) = inl (eqb-true x b e, rw (eqb-true x b e) at a)
    go true e (inr h) = inr (omega arith)
    go false e o = inr (omega (arith, run_max x (run_with b m x) xs, run_with_other b m x (eqb-false x b e)))

pub all_zeros : (n w : ℕ) → w < 2 ^ n → AllEqual 0 (bits_lsb_first n w) → w ≡ 0
unfolding bits_lsb_first AllEqual
all_zeros zero w h a = omega arith
all_zeros (suc n) w h a = omega (arith, a.0, all_zeros n (w / 2) (omega (arith, rw pow-suc at h)) a.1)

pub all_ones : (n w : ℕ) → w < 2 ^ n → AllEqual 1 (bits_lsb_first n w) → w + 1 ≡ 2 ^ n
unfolding bits_lsb_first AllEqual
all_ones zero w h a = omega arith
all_ones (suc n) w h a = rw pow-suc (omega (arith, a.0, all_ones n (w / 2) (omega (arith, rw pow-suc at h)) a.1))
