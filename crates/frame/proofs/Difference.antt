-- Integers as differences of naturals: `Difference z a b` says that z is a − b. With it a fact about integers, and the test
-- `within`, is one about naturals, which `omega` reads. Assumes nothing.
use mathlib.Core.Path.{◌≡◌, refl, sym, ap, ◌∙◌}
use mathlib.Core.Bool.{Bool, true, false, not, cond, ◌&&◌, false≢true}
use mathlib.Core.Logic.{◌⊎◌, inl, inr}
use Prim.Native.Nat.{ℕ, zero, suc, ◌+◌, ◌-◌, ◌≤◌, ◌<◌}
use native.Mathlib.Omega.{arith}
use lib.Dec.{leb, ltb, le→leb, leb-zero, leb-suc-zero, leb-suc-suc}
use lib.IntN.{ℤ, pos, negsuc, neg_ℤ, sub_ℕ, ◌+ℤ◌}
use lib.Signed.{le_z, lt_z, ◌≤ℤ◌}
use borrow.Author.Tests.{ltb-true, ltb-false, leb-true, leb-false, le-leb, lt-leb}
use Rattle.frame.specs.Frame.{within}

abbrev pub Difference : ℤ → ℕ → ℕ → Type 0
Difference (pos n) a b = n + b ≡ a
Difference (negsuc n) a b = suc n + a ≡ b

difference_sub : (a b : ℕ) → Difference (sub_ℕ a b) a b
difference_sub a b = go (ltb a b) refl
  where
    go : (t : Bool) → ltb a b ≡ t → Difference (cond t (negsuc (b - suc a)) (pos (a - b))) a b
    go true e = omega (arith, ltb-true a b e)
    go false e = omega (arith, ltb-false a b e)

-- the same integer as another difference
pub difference_at : (z : ℤ) (a b c d : ℕ) → a + d ≡ c + b → Difference z a b → Difference z c d
difference_at (pos n) a b c d e h = omega arith
difference_at (negsuc n) a b c d e h = omega arith

pub difference_add : (x y : ℤ) (a b c d : ℕ) → Difference x a b → Difference y c d → Difference (x +ℤ y) (a + c) (b + d)
difference_add (pos m) (pos n) a b c d h k = omega arith
difference_add (pos m) (negsuc n) a b c d h k =
    difference_at (sub_ℕ m (suc n)) m (suc n) (a + c) (b + d) (omega arith) (difference_sub m (suc n))
difference_add (negsuc m) (pos n) a b c d h k =
    difference_at (sub_ℕ n (suc m)) n (suc m) (a + c) (b + d) (omega arith) (difference_sub n (suc m))
difference_add (negsuc m) (negsuc n) a b c d h k = omega arith

pub difference_neg : (x : ℤ) (a b : ℕ) → Difference x a b → Difference (neg_ℤ x) b a
difference_neg (pos zero) a b h = omega arith
difference_neg (pos (suc n)) a b h = omega arith
difference_neg (negsuc n) a b h = omega arith

pub difference_equal : (x y : ℤ) (a b : ℕ) → Difference x a b → Difference y a b → x ≡ y
difference_equal (pos m) (pos n) a b h k = ap pos (omega arith)
difference_equal (pos m) (negsuc n) a b h k = absurd (omega arith)
difference_equal (negsuc m) (pos n) a b h k = absurd (omega arith)
difference_equal (negsuc m) (negsuc n) a b h k = ap negsuc (omega arith)

-- two ways to write one integer as a difference
pub difference_same : (z : ℤ) (a b c d : ℕ) → Difference z a b → Difference z c d → a + d ≡ c + b
difference_same (pos n) a b c d h k = omega arith
difference_same (negsuc n) a b c d h k = omega arith

-- each integer is the difference of its two parts, of which one is 0
unfoldable pub above : ℤ → ℕ
above (pos n) = n
above (negsuc n) = 0

unfoldable pub below : ℤ → ℕ
below (pos n) = 0
below (negsuc n) = suc n

pub difference_parts : (z : ℤ) → Difference z (above z) (below z)
unfolding above below
difference_parts (pos n) = omega arith
difference_parts (negsuc n) = omega arith

-- ---- the test `within`

low_pos : (n m : ℕ) → le_z (neg_ℤ (pos n)) (pos m) ≡ true
low_pos zero m = leb-zero m
low_pos (suc n) m = refl

low_neg : (n m : ℕ) → le_z (neg_ℤ (pos n)) (negsuc m) ≡ leb (suc m) n
low_neg zero m = sym (leb-suc-zero m)
low_neg (suc n) m = sym (leb-suc-suc m n)

pub within_pos : (n m : ℕ) → within n (pos m) ≡ leb m n
unfolding within
within_pos n m = simp (low_pos n m)

pub within_neg : (n m : ℕ) → within n (negsuc m) ≡ leb (suc m) n
unfolding within
within_neg n m = go (leb (suc m) n) (low_neg n m)
  where
    go : (b : Bool) → le_z (neg_ℤ (pos n)) (negsuc m) ≡ b → (le_z (neg_ℤ (pos n)) (negsuc m) && true) ≡ b
    go true e = simp e
    go false e = simp e

pub within_high : (n : ℕ) (z : ℤ) (a b : ℕ) → Difference z a b → within n z ≡ true → a ≤ b + n
within_high n (pos m) a b h w = omega (arith, leb-true m n (sym (within_pos n m) ∙ w))
within_high n (negsuc m) a b h w = omega arith

pub within_low : (n : ℕ) (z : ℤ) (a b : ℕ) → Difference z a b → within n z ≡ true → b ≤ a + n
within_low n (pos m) a b h w = omega arith
within_low n (negsuc m) a b h w = omega (arith, leb-true (suc m) n (sym (within_neg n m) ∙ w))

pub within_out : (n : ℕ) (z : ℤ) (a b : ℕ) → Difference z a b → within n z ≡ false → (b + n < a) ⊎ (a + n < b)
within_out n (pos m) a b h w = inl (omega (arith, leb-false m n (sym (within_pos n m) ∙ w)))
within_out n (negsuc m) a b h w = inr (omega (arith, leb-false (suc m) n (sym (within_neg n m) ∙ w)))

pub within_in : (n : ℕ) (z : ℤ) (a b : ℕ) → Difference z a b → a ≤ b + n → b ≤ a + n → within n z ≡ true
within_in n (pos m) a b h u l = within_pos n m ∙ le-leb m n (omega arith)
within_in n (negsuc m) a b h u l = within_neg n m ∙ le-leb (suc m) n (omega arith)

pub within_wider : (m n : ℕ) (z : ℤ) → m ≤ n → within m z ≡ true → within n z ≡ true
within_wider m n z h w =
    let p = within_high m z (above z) (below z) (difference_parts z) w in
    let q = within_low m z (above z) (below z) (difference_parts z) w in
    within_in n z (above z) (below z) (difference_parts z) (omega arith) (omega arith)

-- ---- sums and negatives

pub within_add : (m n : ℕ) (x y : ℤ) → within m x ≡ true → within n y ≡ true → within (m + n) (x +ℤ y) ≡ true
within_add m n x y hx hy =
    let p = within_high m x (above x) (below x) (difference_parts x) hx in
    let q = within_low m x (above x) (below x) (difference_parts x) hx in
    let r = within_high n y (above y) (below y) (difference_parts y) hy in
    let s = within_low n y (above y) (below y) (difference_parts y) hy in
    within_in (m + n) (x +ℤ y) (above x + above y) (below x + below y)
    (difference_add x y (above x) (below x) (above y) (below y) (difference_parts x) (difference_parts y))
    (omega arith) (omega arith)

pub within_negate : (n : ℕ) (z : ℤ) → within n z ≡ true → within n (neg_ℤ z) ≡ true
within_negate n z h =
    within_in n (neg_ℤ z) (below z) (above z) (difference_neg z (above z) (below z) (difference_parts z))
    (within_low n z (above z) (below z) (difference_parts z) h) (within_high n z (above z) (below z) (difference_parts z) h)

-- ---- the two orders

-- a is at most b just when b is not below a
leb_not : (a b : ℕ) → leb b a ≡ not (ltb a b)
leb_not a b = go (ltb a b) refl
  where
    go : (t : Bool) → ltb a b ≡ t → leb b a ≡ not t
    go true e = lt-leb b a (ltb-true a b e)
    go false e = le-leb b a (ltb-false a b e)

pub at_most_not_below : (y z : ℤ) → le_z z y ≡ not (lt_z y z)
at_most_not_below (pos a) (pos b) = leb_not a b
at_most_not_below (pos a) (negsuc b) = refl
at_most_not_below (negsuc a) (pos b) = refl
at_most_not_below (negsuc a) (negsuc b) = leb_not b a

-- both by differences
pub below_by : (x y : ℤ) (a b c d : ℕ) → Difference x a b → Difference y c d → lt_z x y ≡ true → a + d < c + b
below_by (pos m) (pos n) a b c d h k e = omega (arith, ltb-true m n e)
below_by (pos m) (negsuc n) a b c d h k e = absurd (false≢true e)
below_by (negsuc m) (pos n) a b c d h k e = omega arith
below_by (negsuc m) (negsuc n) a b c d h k e = omega (arith, ltb-true n m e)

pub not_below_by : (x y : ℤ) (a b c d : ℕ) → Difference x a b → Difference y c d → lt_z x y ≡ false → c + b ≤ a + d
not_below_by (pos m) (pos n) a b c d h k e = omega (arith, ltb-false m n e)
not_below_by (pos m) (negsuc n) a b c d h k e = omega arith
not_below_by (negsuc m) (pos n) a b c d h k e = absurd (false≢true (sym e))
not_below_by (negsuc m) (negsuc n) a b c d h k e = omega (arith, ltb-false n m e)

pub at_most_by : (x y : ℤ) (a b c d : ℕ) → Difference x a b → Difference y c d → a + d ≤ c + b → x ≤ℤ y
at_most_by (pos m) (pos n) a b c d h k e = record { le = le→leb m n (omega arith) }
at_most_by (pos m) (negsuc n) a b c d h k e = absurd (omega arith)
at_most_by (negsuc m) (pos n) a b c d h k e = record { le = tt }
at_most_by (negsuc m) (negsuc n) a b c d h k e = record { le = le→leb n m (omega arith) }
