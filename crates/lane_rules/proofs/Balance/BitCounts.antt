-- Ones and zeros among bits, and their difference. Assumes nothing.
use Prim.Native.Nat.{ℕ, zero, suc, ◌+◌, ◌-◌, ◌/◌, ◌≤◌}
use mathlib.Core.Path.{◌≡◌, refl}
use mathlib.Core.List.{List, [], ◌∷◌, ◌++◌}
use native.Mathlib.Omega.{arith}
use lib.Count.{ones_in}
use lib.IntN.{pos, neg_ℤ}
use lib.ListN.{take}
use Rattle.frame.specs.Frame.{disparity_of}
use Rattle.frame.proofs.Difference.{Difference, difference_at, difference_add, difference_neg}
use Rattle.frame.proofs.RunningDisparity.{disparity_difference}
use Rattle.lane_rules.specs.Line.{bits_lsb_first}
use Rattle.lane_rules.specs.Balance.{ones, zeros, disparity}

pub ones_append : (xs ys : List ℕ) → ones (xs ++ ys) ≡ ones xs + ones ys
unfolding ones
ones_append [] ys = omega arith
ones_append (x ∷ xs) ys = omega (arith, ones_append xs ys)

pub zeros_append : (xs ys : List ℕ) → zeros (xs ++ ys) ≡ zeros xs + zeros ys
unfolding zeros
zeros_append [] ys = omega arith
zeros_append (x ∷ xs) ys = omega (arith, zeros_append xs ys)

-- each bit of a number is a one or a zero
pub ones_and_zeros : (n w : ℕ) → ones (bits_lsb_first n w) + zeros (bits_lsb_first n w) ≡ n
unfolding bits_lsb_first ones zeros
ones_and_zeros zero w = refl
ones_and_zeros (suc n) w = omega (arith, ones_and_zeros n (w / 2))

pub ones_and_zeros_first : (k n w : ℕ) → k ≤ n → ones (take k (bits_lsb_first n w)) + zeros (take k (bits_lsb_first n w)) ≡ k
unfolding bits_lsb_first ones zeros
ones_and_zeros_first zero n w h = refl
ones_and_zeros_first (suc k) zero w h = absurd (omega arith)
ones_and_zeros_first (suc k) (suc n) w h = omega (arith, ones_and_zeros_first k n (w / 2) (omega arith))

-- the first k bits have no more of them than all have
pub ones_first : (k n w : ℕ) → ones (take k (bits_lsb_first n w)) ≤ ones (bits_lsb_first n w)
unfolding bits_lsb_first ones
ones_first zero n w = omega arith
ones_first (suc k) zero w = omega arith
ones_first (suc k) (suc n) w = omega (arith, ones_first k n (w / 2))

pub zeros_first : (k n w : ℕ) → zeros (take k (bits_lsb_first n w)) ≤ zeros (bits_lsb_first n w)
unfolding bits_lsb_first zeros
zeros_first zero n w = omega arith
zeros_first (suc k) zero w = omega arith
zeros_first (suc k) (suc n) w = omega (arith, zeros_first k n (w / 2))

-- ---- ones minus zeros

ones_in_bits : (n w : ℕ) → ones (bits_lsb_first n w) ≡ ones_in n w
unfolding bits_lsb_first ones ones_in
ones_in_bits zero w = refl
ones_in_bits (suc n) w = omega (arith, ones_in_bits n (w / 2))

pub disparity_of_bits : (bits : List ℕ) → Difference (disparity bits) (ones bits) (zeros bits)
unfolding disparity
disparity_of_bits bits =
    let a = ones bits in
    let b = zeros bits in
    difference_at (disparity bits) (a + 0) (0 + b) a b (omega arith)
    (difference_add (pos a) (neg_ℤ (pos b)) a 0 0 b (omega arith) (difference_neg (pos b) b 0 (omega arith)))

pub disparity_of_frame : (w : ℕ) → Difference (disparity_of w) (ones (bits_lsb_first 16 w)) (zeros (bits_lsb_first 16 w))
disparity_of_frame w =
    difference_at (disparity_of w) (ones_in 16 w) (16 - ones_in 16 w) (ones (bits_lsb_first 16 w)) (zeros (bits_lsb_first 16 w))
    (omega (arith, ones_in_bits 16 w, ones_and_zeros 16 w)) (disparity_difference 16 w)
