-- Signed machine numbers: a number within a bound fits, what the bits of a sum of two such numbers are read as, and the sign
-- of a bit. Assumes nothing.
use mathlib.Core.Path.{◌≡◌, refl, sym, ap₂, ◌∙◌, subst}
use mathlib.Core.Bool.{true}
use Prim.Native.Nat.{ℕ, suc, ◌+◌, ◌*◌, ◌<◌, ◌^◌}
use native.Mathlib.Omega.{arith}
use lib.IntN.{ℤ, pos, negsuc, ◌+ℤ◌, ◌-ℤ◌, ◌*ℤ◌}
use mir.Syntax.{w32}
use mir.Val.{SFits, to_z, of_z}
use mir.Facts.{to_z-of_z}
use borrow.Author.Tests.{leb-true}
use Rattle.frame.specs.Frame.{within}
use Rattle.frame.proofs.Difference.{within_pos, within_neg, within_add}
use Rattle.frame.proofs.Xor.{digit}

pub within_fits : (n : ℕ) (z : ℤ) → n < 2 ^ 31 → within n z ≡ true → SFits w32 z
within_fits n (pos m) k h = record { sfits = omega (arith, leb-true m n (sym (within_pos n m) ∙ h)) }
within_fits n (negsuc m) k h = record { sfits = omega (arith, leb-true (suc m) n (sym (within_neg n m) ∙ h)) }

-- an integer, from the bits that a local holds
abbrev pub read_back : ℤ → ℤ
read_back z = to_z w32 (of_z w32 z)

module _ (m n : ℕ) (x y : ℤ) (k : m + n < 2 ^ 31) (hx : within m x ≡ true) (hy : within n y ≡ true) where
  same_x : read_back x ≡ x
  same_x = to_z-of_z (within_fits m x (omega arith) hx)

  same_y : read_back y ≡ y
  same_y = to_z-of_z (within_fits n y (omega arith) hy)

  pub sum_fits : SFits w32 (read_back x +ℤ read_back y)
  sum_fits = subst (SFits w32) (sym (ap₂ ◌+ℤ◌ same_x same_y)) (within_fits (m + n) (x +ℤ y) k (within_add m n x y hx hy))

  pub sum_reads : read_back (read_back x +ℤ read_back y) ≡ x +ℤ y
  sum_reads = to_z-of_z sum_fits ∙ ap₂ ◌+ℤ◌ same_x same_y

-- the sign 1 − k × n of a bit n, where k is 2
module _ (k n : ℕ) (two : k ≡ 2) (h : n < 2) where
  at_2 : (P : ℕ → ℕ → Type 0) → P 2 0 → P 2 1 → P k n
  at_2 P p q = subst (λ (j : ℕ). P j n) (sym two) (digit (P 2) p q n h)

  pub sign_reads : read_back (pos 1 -ℤ read_back (pos k *ℤ to_z w32 n)) ≡ pos 1 -ℤ pos (2 * n)
  sign_reads = at_2 (λ (j b : ℕ). read_back (pos 1 -ℤ read_back (pos j *ℤ to_z w32 b)) ≡ pos 1 -ℤ pos (2 * b)) refl refl
