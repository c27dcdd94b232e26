-- Inversion as an xor with 65535 times a bit, and R by the sign 1 − 2 × the bit (document 02, Q-4). Assumes nothing.
use mathlib.Core.Path.{◌≡◌, refl, sym, ap, ◌∙◌}
use mathlib.Core.Bool.{Bool, true, false, cond}
use Prim.Native.Nat.{ℕ, ◌+◌, ◌-◌, ◌*◌, ◌/◌, ◌%◌, ◌^◌, ◌<◌}
use native.Mathlib.Omega.{arith}
use lib.Dec.{eqb}
use lib.Bits.{bit_xor, xor_add_and, and_mask, xor_zero_r}
use lib.IntN.{ℤ, pos, neg_ℤ, ◌+ℤ◌, ◌-ℤ◌, ◌*ℤ◌, one, *ℤ-one, *ℤ-negsuc}
use Rattle.frame.specs.Bits.{bit}
use Rattle.frame.specs.Frame.{disparity_of, within, inverts, disparity_bit, new_r, inverted, sent_frame, uninverted}
use Rattle.frame.proofs.Xor.{digit, parity_lt}
use Rattle.frame.proofs.Difference.{within_negate}

-- ---- the frame

-- a number xor k ones, as a sum
xor_ones : (k w : ℕ) → bit_xor w (2 ^ k - 1) + w % 2 ^ k * 2 ≡ w + (2 ^ k - 1)
xor_ones k w = ap (λ (n : ℕ). bit_xor w (2 ^ k - 1) + n * 2) (sym (and_mask w k)) ∙ xor_add_and w (2 ^ k - 1)

-- xor 65535 times a bit inverts where the bit is 1
inverted_by : (b : Bool) (w : ℕ) → w < 2 ^ 16 → bit_xor w (65535 * cond b 1 0) ≡ cond b (inverted w) w
inverted_by true w h = omega (arith, xor_ones 16 w)
inverted_by false w h = xor_zero_r w

pub sent_xor : (w m : ℕ) (r : ℤ) → w < 2 ^ 16 → m ≡ 65535 * disparity_bit r (disparity_of w) → bit_xor w m ≡ sent_frame w r
unfolding disparity_bit sent_frame
sent_xor w m r h e = ap (bit_xor w) e ∙ inverted_by (inverts r (disparity_of w)) w h

pub sent_bit : (w : ℕ) (r : ℤ) → w < 2 ^ 15 → bit 15 (sent_frame w r) ≡ disparity_bit r (disparity_of w)
unfolding disparity_bit sent_frame
sent_bit w r h = go (inverts r (disparity_of w))
  where
    go : (b : Bool) → bit 15 (cond b (inverted w) w) ≡ cond b 1 0
    go true = omega arith
    go false = omega arith

bit_tested : (x : ℕ) → x % 2 ≡ cond (eqb (x % 2) 1) 1 0
bit_tested x = digit (λ (b : ℕ). b ≡ cond (eqb b 1) 1 0) refl refl (x % 2) (parity_lt x)

pub uninverted_xor : (w m : ℕ) → w < 2 ^ 16 → m ≡ 65535 * bit 15 w → bit_xor w m ≡ uninverted w
unfolding uninverted
uninverted_xor w m h e =
    ap (bit_xor w) (e ∙ ap (◌*◌ 65535) (bit_tested (w / 2 ^ 15))) ∙ inverted_by (eqb (bit 15 w) 1) w h

-- ---- R

pub bit_lt : (r d : ℤ) → disparity_bit r d < 2
unfolding disparity_bit
bit_lt r d = go (inverts r d)
  where
    go : (b : Bool) → cond b 1 0 < 2
    go true = omega arith
    go false = omega arith

-- times 1 − 2 × a bit: kept where the bit is 0, negated where it is 1
kept : (d : ℤ) → d *ℤ (pos 1 -ℤ pos (2 * 0)) ≡ d
unfolding one
kept d = *ℤ-one d

negated : (d : ℤ) → d *ℤ (pos 1 -ℤ pos (2 * 1)) ≡ neg_ℤ d
unfolding one
negated d = *ℤ-negsuc d 0 ∙ ap neg_ℤ (*ℤ-one d)

pub signed_within : (m n : ℕ) (d : ℤ) → n < 2 → within m d ≡ true → within m (d *ℤ (pos 1 -ℤ pos (2 * n))) ≡ true
signed_within m n d l h =
    digit (λ (b : ℕ). within m (d *ℤ (pos 1 -ℤ pos (2 * b))) ≡ true) (ap (within m) (kept d) ∙ h)
    (ap (within m) (negated d) ∙ within_negate m d h) n l

pub new_r_signed : (r d : ℤ) → r +ℤ d *ℤ (pos 1 -ℤ pos (2 * disparity_bit r d)) ≡ new_r r d
unfolding disparity_bit new_r
new_r_signed r d = go (inverts r d)
  where
    go : (b : Bool) → r +ℤ d *ℤ (pos 1 -ℤ pos (2 * cond b 1 0)) ≡ cond b (r -ℤ d) (r +ℤ d)
    go true = ap (λ (z : ℤ). r +ℤ z) (negated d)
    go false = ap (λ (z : ℤ). r +ℤ z) (kept d)
