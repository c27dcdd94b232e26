use mathlib.Core.Path.{◌≡◌, sym, ap, ap₂, ◌∙◌, subst}
use mathlib.Core.Bool.{true}
use Prim.Native.Nat.{ℕ, ◌*◌, ◌<◌}
use native.Mathlib.Omega.{arith}
use lib.IntN.{ℤ, pos, ◌+ℤ◌, ◌-ℤ◌, ◌*ℤ◌}
use mir.Val.{to_z}
use mir.Facts.{to_z-of_z}
use mir.Syntax.{w32}
use Rattle.frame.specs.Frame.{disparity_of, within, disparity_bit, new_r}
use Rattle.frame.specs.declared.frame.Built.{Built}
use Rattle.frame.proofs.Machine.{read_back, within_fits, sum_fits, sum_reads, sign_reads}
use Rattle.frame.proofs.RunningDisparity.{disparity_within}
use Rattle.frame.proofs.Inversion.{sent_xor, bit_lt, signed_within, new_r_signed}
use Rattle.frame.proofs.frame.sent_frame.Goals as goal

-- R and the disparity are in their range, and are read as they are
module _ (c : goal.After-disparity-d) where
  abbrev plain : ℕ
  plain = c.args.plain

  abbrev r : ℤ
  r = c.args.r

  abbrev d : ℤ
  d = c.disparity-d.result

  r_within : within 16 r ≡ true
  r_within = c.requires

  d_within : within 16 d ≡ true
  d_within = ap (within 16) c.disparity-d.ensures ∙ disparity_within 16 plain

  r_reads : read_back r ≡ r
  r_reads = to_z-of_z (within_fits 16 r (omega arith) r_within)

  d_reads : read_back d ≡ d
  d_reads = to_z-of_z (within_fits 16 d (omega arith) d_within)

-- the disparity bit, and the disparity as sent
module _ (c : goal.After-disparity_bit-bit) where
  abbrev bit : ℕ
  bit = c.disparity_bit-bit.result

  bit_is : bit ≡ disparity_bit (r c.before) (d c.before)
  bit_is = c.disparity_bit-bit.ensures ∙ ap₂ disparity_bit (r_reads c.before) (d_reads c.before)

  is_bit : bit < 2
  is_bit = subst (λ (b : ℕ). b < 2) (sym bit_is) (bit_lt (r c.before) (d c.before))

  -- the disparity times the sign, as the code computes it
  module _ (k : ℕ) (two : k ≡ 2) where
    abbrev product : ℤ
    product = read_back (d c.before) *ℤ read_back (pos 1 -ℤ read_back (pos k *ℤ to_z w32 bit))

    product_is : product ≡ d c.before *ℤ (pos 1 -ℤ pos (2 * bit))
    product_is = ap₂ ◌*ℤ◌ (d_reads c.before) (sign_reads k bit two is_bit)

    product_within : within 16 product ≡ true
    product_within = ap (within 16) product_is ∙ signed_within 16 bit (d c.before) is_bit (d_within c.before)

    new_r_lem : read_back (read_back (r c.before) +ℤ read_back product) ≡ new_r (r c.before) (disparity_of (plain c.before))
    new_r_lem =
        let b = c.before in
        sum_reads 16 16 (r b) product (omega arith) (r_within b) product_within
        ∙ ap (λ (z : ℤ). r b +ℤ z) (product_is ∙ ap (λ (n : ℕ). d b *ℤ (pos 1 -ℤ pos (2 * n))) bit_is)
        ∙ new_r_signed (r b) (d b) ∙ ap (new_r (r b)) b.disparity-d.ensures

-- what is built of its parts
abbrev made : ℕ → ℤ → Built
made f q = record { frame = f; r = q }

pub disparity_bit-bit-requires : goal.disparity_bit-bit-requires
disparity_bit-bit-requires c = record {
  r_value = ap (within 16) (r_reads c) ∙ r_within c;
  d_value = ap (within 16) (d_reads c) ∙ d_within c;
}

pub overflow_mul-result : goal.overflow_mul-result
overflow_mul-result c = record { fits = omega (arith, is_bit c) }

pub overflow_mul-result-2 : goal.overflow_mul-result-2
overflow_mul-result-2 c = within_fits 16 _ (omega arith) (product_within c _ (omega arith))

pub overflow_add-result : goal.overflow_add-result
overflow_add-result c = sum_fits 16 16 (r c.before) _ (omega arith) (r_within c.before) (product_within c _ (omega arith))

pub returns : goal.returns
returns c =
    let b = c.before in
    let sent : bit c ≡ disparity_bit (r b) (disparity_of (plain b)) = bit_is c ∙ ap (disparity_bit (r b)) b.disparity-d.ensures in
    ap₂ made (sent_xor (plain b) _ (r b) b.ranges.plain.fits (omega arith)) (new_r_lem c _ (omega arith))
