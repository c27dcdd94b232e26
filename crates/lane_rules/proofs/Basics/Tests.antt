-- Tests joined by 'or', and two tests, as facts. Assumes nothing.
use Prim.Native.Nat.{ℕ}
use mathlib.Core.Path.{◌≡◌, refl, sym}
use mathlib.Core.Bool.{Bool, true, false, ◌||◌}
use mathlib.Core.Logic.{◌⊎◌, inl, inr}
use lib.Dec.{eqb}
use borrow.Author.Tests.{eqb-true, eq-eqb}
use Rattle.std.proofs.lemmas.Bool.{or_cases, or_left, or_right}

-- a number that is one of two
pub is_one_of : (v a b : ℕ) → (eqb v a || eqb v b) ≡ true → (v ≡ a) ⊎ (v ≡ b)
is_one_of v a b e = go (or_cases (eqb v a) (eqb v b) e)
  where
    go : (eqb v a ≡ true) ⊎ (eqb v b ≡ true) → (v ≡ a) ⊎ (v ≡ b)
    go (inl t) = inl (eqb-true v a t)
    go (inr t) = inr (eqb-true v b t)

pub one_of : (v a b : ℕ) → (v ≡ a) ⊎ (v ≡ b) → (eqb v a || eqb v b) ≡ true
one_of v a b (inl e) = or_left (eqb v a) (eqb v b) (eq-eqb v a e)
one_of v a b (inr e) = or_right (eqb v a) (eqb v b) (eq-eqb v b e)

-- two tests of which each passes where the other does
pub same_test : (s t : Bool) → (s ≡ true → t ≡ true) → (t ≡ true → s ≡ true) → s ≡ t
same_test true t f g = sym (f refl)
same_test false true f g = g refl
same_test false false f g = refl
