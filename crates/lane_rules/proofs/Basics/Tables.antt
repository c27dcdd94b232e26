-- Rules shown by one computed test at each number below a bound. Assumes nothing.
use Prim.Native.Nat.{ℕ, zero, suc, ◌<◌}
use mathlib.Core.Path.{◌≡◌, refl, sym, subst}
use mathlib.Core.Logic.{◌≢◌}
use mathlib.Core.Bool.{Bool, true, false, not, ◌&&◌, ◌||◌}
use native.Mathlib.Omega.{arith}
use lib.Dec.{T, eqb}
use borrow.Author.Tests.{eqb-true, eqb-false}
use Rattle.std.proofs.Math.Facts.{and_yes}

abbrev all_below : (ℕ → Bool) → ℕ → Bool
all_below f zero = true
all_below f (suc n) = f n && all_below f n

-- a test under a condition that holds
pub imply : (a b : Bool) → a ≡ true → T (not a || b) → T b
imply true b e t = t
imply false true e t = tt
imply false false e t = subst T (sym e) tt

-- a test does not both fail and pass
pub impossible : {A : Type 0} → false ≡ true → A
impossible e = absurd (subst T (sym e) tt)

below_last : (f : ℕ → Bool) (n k : ℕ) → T (f n) → (k < n → T (f k)) → k < suc n → (e : Bool) → eqb k n ≡ e → T (f k)
below_last f n k t r h true e = subst (λ (i : ℕ). T (f i)) (sym (eqb-true k n e)) t
below_last f n k t r h false e = let d : k ≢ n = eqb-false k n e in r (omega arith)

pub below : (f : ℕ → Bool) (n : ℕ) → T (all_below f n) → (k : ℕ) → k < n → T (f k)
below f zero t k h = absurd (omega arith)
below f (suc n) t k h =
    below_last f n k ((and_yes (f n) (all_below f n) t).0) (λ l. below f n ((and_yes (f n) (all_below f n) t).1) k l) h (eqb k n) refl
