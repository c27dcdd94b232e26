-- Sums held at the limits, and the lower and the higher of two, as the code's numbers are read. Assumes nothing.
use Prim.Native.Nat.{suc}
use mathlib.Core.Path.{◌≡◌, refl, sym, ap, ap₂, ◌∙◌, subst}
use mathlib.Core.Bool.{Bool, true, false, cond}
use native.Mathlib.Omega.{arith}
use lib.IntN.{ℤ, pos, negsuc, ◌+ℤ◌}
use lib.Signed.{lt_z}
use mir.Syntax.{w32}
use mir.Val.{SFits}
use mir.Facts.{to_z-of_z}
use borrow.Author.Tests.{leb-true, le-ltb}
use Rattle.std.specs.Int.{int_min, int_max, saturate_signed}
use Rattle.frame.specs.Frame.{within}
use Rattle.frame.proofs.Difference.{within_pos, within_neg}
use Rattle.frame.proofs.Machine.{read_back, within_fits}
use Rattle.lane_rules.specs.Sums.{largest_sum, held_sum, lower_of, higher_of, with_sum, with_frame}
use Rattle.lane_rules.specs.declared.Sums.{Sums}
use Rattle.lane_rules.proofs.Totals.HeldSums.{low, high, held_in, sum_held_fits}

-- ---- held at the limits: as the library adds

pub saturated : (z : ℤ) → saturate_signed w32 z ≡ held_sum z
unfolding held_sum
saturated (pos n) = grind arith
saturated (negsuc n) = grind arith

-- ---- inside the limits

-- a sum there is not held
pub inside_is : (z : ℤ) → within largest_sum z ≡ true → z ≡ held_sum z
inside_is (pos n) h =
    held_in (pos n) refl (le-ltb largest_sum n (omega (arith, leb-true n largest_sum (sym (within_pos largest_sum n) ∙ h))))
inside_is (negsuc n) h =
    held_in (negsuc n) (le-ltb largest_sum n (omega (arith, leb-true (suc n) largest_sum (sym (within_neg largest_sum n) ∙ h)))) refl

-- ---- the lower and the higher of two

pub lower_is : (x y : ℤ) → int_min x y ≡ lower_of x y
unfolding lower_of
lower_is x y = refl

pub higher_is : (x y : ℤ) → int_max x y ≡ higher_of x y
unfolding higher_of
higher_is (pos m) (pos n) = grind arith
higher_is (pos m) (negsuc n) = refl
higher_is (negsuc m) (pos n) = refl
higher_is (negsuc m) (negsuc n) = grind arith

module _ (x y : ℤ) (fx : SFits w32 x) (fy : SFits w32 y) where
  either_fits : (b : Bool) → SFits w32 (cond b y x)
  either_fits true = fy
  either_fits false = fx

  lower_fits : SFits w32 (lower_of x y)
  unfolding lower_of
  lower_fits = either_fits (lt_z y x)

  higher_fits : SFits w32 (higher_of x y)
  unfolding higher_of
  higher_fits = either_fits (lt_z x y)

-- ---- the sums with one more frame

module _ (s : Sums) (sum : ℤ) (fs : SFits w32 sum) (fl : SFits w32 s.lowest) (fh : SFits w32 s.highest) where
  pub sum_added : (lowest highest : ℤ) → lowest ≡ lower_of (read_back s.lowest) (read_back sum)
      → highest ≡ higher_of (read_back s.highest) (read_back sum)
      → record { sum = read_back sum; lowest = read_back lowest; highest = read_back highest } ≡ with_sum s sum
  sum_added lowest highest low high =
      let b : read_back sum ≡ sum = to_z-of_z fs in
      let l : lowest ≡ lower_of s.lowest sum = low ∙ ap₂ lower_of (to_z-of_z fl) b in
      let h : highest ≡ higher_of s.highest sum = high ∙ ap₂ higher_of (to_z-of_z fh) b in
      λ i. record {
        sum = b i;
        lowest = (ap read_back l ∙ to_z-of_z (lower_fits s.lowest sum fl fs)) i;
        highest = (ap read_back h ∙ to_z-of_z (higher_fits s.highest sum fh fs)) i;
      }

-- the sum is held at the limits
module _ (s : Sums) (d : ℤ) (fs : SFits w32 s.sum) (fd : SFits w32 d) where
  pub frame_added : (sum : ℤ) → sum ≡ saturate_signed w32 (read_back s.sum +ℤ read_back d) → with_sum s (read_back sum) ≡ with_frame s d
  unfolding with_frame
  frame_added sum is =
      let a : sum ≡ held_sum (s.sum +ℤ d) = is ∙ saturated (read_back s.sum +ℤ read_back d) ∙ ap₂ (λ (x y : ℤ). held_sum (x +ℤ y)) (to_z-of_z fs) (to_z-of_z fd) in
      ap (with_sum s) (ap read_back a ∙ to_z-of_z (sum_held_fits (s.sum +ℤ d)))

-- it is not at a limit
module _ (s : Sums) (d : ℤ) (fs : SFits w32 s.sum) (fd : SFits w32 d) (h : within largest_sum (s.sum +ℤ d) ≡ true) where
  read_sum : read_back s.sum +ℤ read_back d ≡ s.sum +ℤ d
  read_sum = ap₂ ◌+ℤ◌ (to_z-of_z fs) (to_z-of_z fd)

  inside : SFits w32 (s.sum +ℤ d)
  inside = within_fits largest_sum (s.sum +ℤ d) (omega arith) h

  pub inside_fits : SFits w32 (read_back s.sum +ℤ read_back d)
  inside_fits = subst (SFits w32) (sym read_sum) inside

  pub inside_added : with_sum s (read_back (read_back s.sum +ℤ read_back d)) ≡ with_frame s d
  unfolding with_frame
  inside_added = ap (with_sum s) (to_z-of_z inside_fits ∙ read_sum ∙ inside_is (s.sum +ℤ d) h)
