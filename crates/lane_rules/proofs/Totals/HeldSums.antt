-- Sums held at the limits of 32 signed bits. Assumes nothing.
use mathlib.Core.Path.{◌≡◌, refl, sym, subst}
use mathlib.Core.Bool.{Bool, true, false}
use native.Mathlib.Omega.{arith}
use lib.Dec.{T, le→leb}
use lib.IntN.{ℤ, pos, negsuc, ◌+ℤ◌}
use lib.Signed.{lt_z, lt_z_yes, ◌≤ℤ◌, ◌<ℤ◌, <ℤ-≤ℤ_trans, <ℤ_irrefl}
use mir.Syntax.{w32}
use mir.Val.{SFits}
use borrow.Author.Tests.{ltb-false}
use Rattle.lane_rules.specs.Sums.{largest_sum, least_sum, most_sum, held_sum, with_frame}
use Rattle.lane_rules.specs.PromiseSums.{Nearest, SumsAreHeld}

module _ (z : ℤ) where
  pub low : lt_z z least_sum ≡ true → least_sum ≡ held_sum z
  unfolding held_sum
  low e = rw e

  pub high : lt_z z least_sum ≡ false → lt_z most_sum z ≡ true → most_sum ≡ held_sum z
  unfolding held_sum
  high e f = rw (e, f)

  pub held_in : lt_z z least_sum ≡ false → lt_z most_sum z ≡ false → z ≡ held_sum z
  unfolding held_sum
  held_in e f = rw (e, f)

pub in_fits : (z : ℤ) → lt_z z least_sum ≡ false → lt_z most_sum z ≡ false → SFits w32 z
in_fits (pos n) e f = record { sfits = omega (arith, ltb-false largest_sum n f) }
in_fits (negsuc n) e f = record { sfits = omega (arith, ltb-false largest_sum n e) }

pub sum_held_fits : (z : ℤ) → SFits w32 (held_sum z)
sum_held_fits z = go (lt_z z least_sum) refl (lt_z most_sum z) refl
  where
    go : (s : Bool) → lt_z z least_sum ≡ s → (t : Bool) → lt_z most_sum z ≡ t → SFits w32 (held_sum z)
    go true e t f = subst (SFits w32) (low z e) (record { sfits = omega arith })
    go false e true f = subst (SFits w32) (high z e f) (record { sfits = omega arith })
    go false e false f = subst (SFits w32) (held_in z e f) (in_fits z e f)

least_fits : (v : ℤ) → SFits w32 v → least_sum ≤ℤ v
least_fits (pos n) f = record { le = tt }
least_fits (negsuc n) f = record { le = le→leb n largest_sum (omega (arith, f.sfits)) }

fits_most : (v : ℤ) → SFits w32 v → v ≤ℤ most_sum
fits_most (pos n) f = record { le = le→leb n largest_sum (omega (arith, f.sfits)) }
fits_most (negsuc n) f = record { le = tt }

-- a sum held is the nearest that fits
held_nearest : (z : ℤ) → Nearest z (held_sum z)
held_nearest z = go (lt_z z least_sum) refl (lt_z most_sum z) refl
  where
    below : (x y : ℤ) → lt_z x y ≡ true → x <ℤ y
    below x y e = lt_z_yes (subst T (sym e) tt)

    go : (s : Bool) → lt_z z least_sum ≡ s → (t : Bool) → lt_z most_sum z ≡ t → Nearest z (held_sum z)
    go true e t f = record {
      fits = sum_held_fits z;
      from_below = λ v k l. absurd (<ℤ_irrefl (<ℤ-≤ℤ_trans (<ℤ-≤ℤ_trans (below z least_sum e) (least_fits v k)) l));
      from_above = λ v k l. subst (λ (h : ℤ). h ≤ℤ v) (low z e) (least_fits v k);
    }
    go false e true f = record {
      fits = sum_held_fits z;
      from_below = λ v k l. subst (λ (h : ℤ). v ≤ℤ h) (high z e f) (fits_most v k);
      from_above = λ v k l. absurd (<ℤ_irrefl (<ℤ-≤ℤ_trans (<ℤ-≤ℤ_trans (below most_sum z f) l) (fits_most v k)));
    }
    go false e false f = record {
      fits = sum_held_fits z;
      from_below = λ v k l. subst (λ (h : ℤ). v ≤ℤ h) (held_in z e f) l;
      from_above = λ v k l. subst (λ (h : ℤ). h ≤ℤ v) (held_in z e f) l;
    }

pub sums_are_held : SumsAreHeld
unfolding with_frame
sums_are_held s d = held_nearest (s.sum +ℤ d)
