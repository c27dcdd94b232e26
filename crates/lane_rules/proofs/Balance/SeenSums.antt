-- The sums while R stays within 16: the running sum is R less the R at lock, so that lowest and highest are within 32 of each other.
-- Assumes nothing.
use Prim.Native.Nat.{suc, ◌+◌, ◌≤◌}
use mathlib.Core.Path.{◌≡◌, refl, sym, ◌∙◌}
use mathlib.Core.Bool.{Bool, true, false, cond}
use native.Mathlib.Omega.{arith}
use lib.IntN.{ℤ, pos, negsuc, neg_ℤ, ◌+ℤ◌, ◌-ℤ◌}
use lib.Signed.{lt_z}
use borrow.Author.Tests.{le-ltb, leb-true}
use Rattle.frame.specs.Frame.{within}
use Rattle.frame.proofs.Difference.{Difference, above, below, difference_at, difference_add, difference_neg, difference_same}
use Rattle.frame.proofs.Difference.{difference_parts, within_pos, within_neg, within_high, within_low, within_in, below_by, not_below_by}
use Rattle.frame.proofs.Difference.{at_most_by}
use Rattle.lane_rules.specs.Sums.{no_sums, largest_sum, held_sum, lower_of, higher_of, with_frame, largest_span, NarrowSums}
use Rattle.lane_rules.specs.declared.Sums.{Sums}
use Rattle.lane_rules.proofs.Totals.HeldSums.{held_in}

-- ---- the sums while R goes from q, at lock, to r

-- lowest and highest, and the sum itself, by the parts of the integers
pub record Seen (q r : ℤ) (s : Sums) : Type 0 where
  sum_is : Difference s.sum (above r + below q) (below r + above q)
  low_0 : above s.lowest ≤ below s.lowest
  low_sum : above s.lowest + (below r + above q) ≤ (above r + below q) + below s.lowest
  low_min : below s.lowest + below q ≤ above s.lowest + above q + 16
  high_0 : below s.highest ≤ above s.highest
  high_sum : (above r + below q) + below s.highest ≤ above s.highest + (below r + above q)
  high_max : above s.highest + above q ≤ below s.highest + below q + 16

pub seen_at_lock : (q : ℤ) → within 16 q ≡ true → Seen q q no_sums
unfolding above below
seen_at_lock q h =
    let u = within_high 16 q (above q) (below q) (difference_parts q) h in
    let l = within_low 16 q (above q) (below q) (difference_parts q) h in
    record {
      sum_is = omega arith;
      low_0 = omega arith;
      low_sum = omega arith;
      low_min = omega arith;
      high_0 = omega arith;
      high_sum = omega arith;
      high_max = omega arith;
    }

-- a sum within 32 is not held back
held_32 : (z : ℤ) → within 32 z ≡ true → held_sum z ≡ z
held_32 (pos n) h =
    let m = leb-true n 32 (sym (within_pos 32 n) ∙ h) in sym (held_in (pos n) refl (le-ltb largest_sum n (omega arith)))
held_32 (negsuc n) h =
    let m = leb-true (suc n) 32 (sym (within_neg 32 n) ∙ h) in sym (held_in (negsuc n) (le-ltb largest_sum n (omega arith)) refl)

-- after a frame of disparity d
module _ (q r d : ℤ) (s : Sums) (i : Seen q r s) (next : within 16 (r +ℤ d) ≡ true) (start : within 16 q ≡ true) where
  abbrev z : ℤ
  z = s.sum +ℤ d

  abbrev r' : ℤ
  r' = r +ℤ d

  -- the parts of R after the frame
  parts : (above r + above d) + below r' ≡ above r' + (below r + below d)
  parts =
      difference_same r' (above r + above d) (below r + below d) (above r') (below r')
      (difference_add r d (above r) (below r) (above d) (below d) (difference_parts r) (difference_parts d)) (difference_parts r')

  z_is : Difference z (above r' + below q) (below r' + above q)
  z_is =
      difference_at z ((above r + below q) + above d) ((below r + above q) + below d) (above r' + below q) (below r' + above q)
      (omega (arith, parts))
      (difference_add s.sum d (above r + below q) (below r + above q) (above d) (below d) i.sum_is (difference_parts d))

  high : above r' ≤ below r' + 16
  high = within_high 16 r' (above r') (below r') (difference_parts r') next

  low : below r' ≤ above r' + 16
  low = within_low 16 r' (above r') (below r') (difference_parts r') next

  q_high : above q ≤ below q + 16
  q_high = within_high 16 q (above q) (below q) (difference_parts q) start

  q_low : below q ≤ above q + 16
  q_low = within_low 16 q (above q) (below q) (difference_parts q) start

  not_held : held_sum z ≡ z
  not_held =
      held_32 z
      (within_in 32 z (above r' + below q) (below r' + above q) z_is (omega (arith, high, q_low)) (omega (arith, low, q_high)))

  z_parts : (above r' + below q) + below z ≡ above z + (below r' + above q)
  z_parts = difference_same z (above r' + below q) (below r' + above q) (above z) (below z) z_is (difference_parts z)

  -- what is asked of the lowest sum, and of the highest
  abbrev Low : ℤ → Type 0
  Low x =
      (above x ≤ below x) × (above x + (below r' + above q) ≤ (above r' + below q) + below x)
      × (below x + below q ≤ above x + above q + 16)

  abbrev High : ℤ → Type 0
  High x =
      (below x ≤ above x) × ((above r' + below q) + below x ≤ above x + (below r' + above q))
      × (above x + above q ≤ below x + below q + 16)

  lowest : Low (lower_of s.lowest z)
  unfolding lower_of
  lowest = go (lt_z z s.lowest) refl
    where
      go : (b : Bool) → lt_z z s.lowest ≡ b → Low (cond b z s.lowest)
      go true e =
          let k = below_by z s.lowest (above z) (below z) (above s.lowest) (below s.lowest) (difference_parts z) (difference_parts s.lowest) e in
          (omega (arith, i.low_0), omega (arith, z_parts), omega (arith, z_parts, low))
      go false e =
          let k = not_below_by z s.lowest (above z) (below z) (above s.lowest) (below s.lowest) (difference_parts z) (difference_parts s.lowest) e in
          (i.low_0, omega (arith, z_parts), i.low_min)

  highest : High (higher_of s.highest z)
  unfolding higher_of
  highest = go (lt_z s.highest z) refl
    where
      go : (b : Bool) → lt_z s.highest z ≡ b → High (cond b z s.highest)
      go true e =
          let k = below_by s.highest z (above s.highest) (below s.highest) (above z) (below z) (difference_parts s.highest) (difference_parts z) e in
          (omega (arith, i.high_0), omega (arith, z_parts), omega (arith, z_parts, high))
      go false e =
          let k = not_below_by s.highest z (above s.highest) (below s.highest) (above z) (below z) (difference_parts s.highest) (difference_parts z) e in
          (i.high_0, omega (arith, z_parts), i.high_max)

  pub seen_next : Seen q r' (with_frame s d)
  unfolding with_frame
  seen_next =
      rw not_held
      (record {
        sum_is = z_is;
        low_0 = lowest.0;
        low_sum = lowest.1;
        low_min = lowest.2;
        high_0 = highest.0;
        high_sum = highest.1;
        high_max = highest.2;
      })

pub seen_narrow : (q r : ℤ) (s : Sums) → Seen q r s → NarrowSums s
unfolding above below
seen_narrow q r s i =
    let l = difference_parts s.lowest in
    let h = difference_parts s.highest in
    let a = above s.lowest in
    let b = below s.lowest in
    let c = above s.highest in
    let d = below s.highest in
    record {
      from_0 = at_most_by s.lowest (pos 0) a b 0 0 l (omega arith) (omega (arith, i.low_0));
      to_0 = at_most_by (pos 0) s.highest 0 0 c d (omega arith) h (omega (arith, i.high_0));
      from_sum = at_most_by s.lowest s.sum a b (above r + below q) (below r + above q) l i.sum_is i.low_sum;
      to_sum = at_most_by s.sum s.highest (above r + below q) (below r + above q) c d i.sum_is h i.high_sum;
      span =
          at_most_by (s.highest -ℤ s.lowest) largest_span (c + b) (d + a) (above largest_span) (below largest_span)
          (difference_add s.highest (neg_ℤ s.lowest) c d b a h (difference_neg s.lowest a b l)) (difference_parts largest_span)
          (omega (arith, i.low_min, i.high_max));
    }
