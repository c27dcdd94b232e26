-- Disparity, the rule on R, and the count within a frame. Assumes nothing.
use mathlib.Core.Path.{◌≡◌, refl, sym, ap, ◌∙◌, subst}
use mathlib.Core.Bool.{Bool, true, false, not, ◌&&◌, ◌||◌, not-not, or-true}
use mathlib.Core.Logic.{◌⊎◌, ⊎_elim}
use Prim.Native.Nat.{ℕ, suc, ◌+◌, ◌-◌, ◌/◌, ◌^◌, ◌≤◌, ◌<◌}
use native.Mathlib.Omega.{arith}
use lib.Count.{ones_in}
use lib.IntN.{ℤ, pos, negsuc, neg_ℤ, ◌+ℤ◌, ◌-ℤ◌}
use lib.Signed.{le_z, lt_z, ◌≤ℤ◌, ◌<ℤ◌}
use borrow.Author.Tests.{not-true, not-false}
use Rattle.frame.specs.Frame.{disparity_in, disparity_of, within, plain_limit, inverts, new_r, inverted, sent_frame}
use Rattle.frame.proofs.Test.{is_true}
use Rattle.frame.proofs.Ones.{ones_le, ones_inverted, ones_split}
use Rattle.frame.proofs.Difference.{Difference, above, below, difference_at, difference_add, difference_neg, difference_equal}
use Rattle.frame.proofs.Difference.{difference_parts, within_high, within_low, within_out, within_in, within_wider}
use Rattle.frame.proofs.Difference.{at_most_not_below}

-- ---- the disparity of a number's k lowest bits

pub disparity_difference : (k w : ℕ) → Difference (disparity_in k w) (ones_in k w) (k - ones_in k w)
unfolding disparity_in
disparity_difference k w =
    let o = ones_in k w in
    difference_at (disparity_in k w) (o + 0) (0 + (k - o)) o (k - o) (omega arith)
    (difference_add (pos o) (neg_ℤ (pos (k - o))) o 0 0 (k - o) (omega arith) (difference_neg (pos (k - o)) (k - o) 0 (omega arith)))

pub disparity_within : (k w : ℕ) → within k (disparity_in k w) ≡ true
disparity_within k w =
    let o = ones_le k w in
    within_in k (disparity_in k w) (ones_in k w) (k - ones_in k w) (disparity_difference k w) (omega arith) (omega arith)

-- the inverted bits have the opposite disparity
pub disparity_inverted : (k w : ℕ) → w < 2 ^ k → disparity_in k (2 ^ k - 1 - w) ≡ neg_ℤ (disparity_in k w)
disparity_inverted k w h =
    let v = 2 ^ k - 1 - w in
    let e : ones_in k v + ones_in k w ≡ k = ones_inverted k w h in
    difference_equal (disparity_in k v) (neg_ℤ (disparity_in k w)) (ones_in k v) (k - ones_in k v) (disparity_difference k v)
    (difference_at (neg_ℤ (disparity_in k w)) (k - ones_in k w) (ones_in k w) (ones_in k v) (k - ones_in k v) (omega arith)
    (difference_neg (disparity_in k w) (ones_in k w) (k - ones_in k w) (disparity_difference k w)))

-- ---- the rule on R

-- the test `within`, as two tests
outside : (n : ℕ) (z : ℤ) → (lt_z z (negsuc n) || lt_z (pos (suc n)) z) ≡ not (within (suc n) z)
unfolding within
outside n z =
    simp (at_most_not_below z (negsuc n), at_most_not_below (pos (suc n)) z) (either (lt_z z (negsuc n)) (lt_z (pos (suc n)) z))
  where
    either : (a b : Bool) → (a || b) ≡ not (not a && not b)
    either true b = refl
    either false b = sym (not-not b)

inside : (n : ℕ) (z : ℤ) → negsuc n ≤ℤ z → z ≤ℤ pos (suc n) → within (suc n) z ≡ true
unfolding within
inside n z low high = simp (is_true (le_z (negsuc n) z) low.le, is_true (le_z z (pos (suc n))) high.le)

module _ (n : ℕ) (r d : ℤ) where
  -- the rule's test, as two tests of a sum
  pub inverts_outside : suc n ≡ plain_limit → (lt_z (r +ℤ d) (negsuc n) || lt_z (pos (suc n)) (r +ℤ d)) ≡ inverts r d
  unfolding inverts
  inverts_outside limit = outside n (r +ℤ d) ∙ ap (λ (k : ℕ). not (within k (r +ℤ d))) limit

  -- a sum in −(n + 1) to n + 1 is not inverted where the limit is no less, and one outside is where it is no more
  pub kept_inside : suc n ≤ plain_limit → negsuc n ≤ℤ (r +ℤ d) → (r +ℤ d) ≤ℤ pos (suc n) → inverts r d ≡ false
  unfolding inverts
  kept_inside limit low high = ap not (within_wider (suc n) plain_limit (r +ℤ d) limit (inside n (r +ℤ d) low high))

  turned_outside : plain_limit ≤ suc n → (lt_z (r +ℤ d) (negsuc n) || lt_z (pos (suc n)) (r +ℤ d)) ≡ true → inverts r d ≡ true
  unfolding inverts
  turned_outside limit out = go (within plain_limit (r +ℤ d)) refl
    where
      go : (b : Bool) → within plain_limit (r +ℤ d) ≡ b → not b ≡ true
      go false e = refl
      go true e = sym (outside n (r +ℤ d) ∙ ap not (within_wider plain_limit (suc n) (r +ℤ d) limit e)) ∙ out

  pub turned_below : plain_limit ≤ suc n → (r +ℤ d) <ℤ negsuc n → inverts r d ≡ true
  turned_below limit low = turned_outside limit (simp (is_true (lt_z (r +ℤ d) (negsuc n)) low.lt))

  pub turned_above : plain_limit ≤ suc n → pos (suc n) <ℤ (r +ℤ d) → inverts r d ≡ true
  turned_above limit high =
      turned_outside limit (simp (is_true (lt_z (pos (suc n)) (r +ℤ d)) high.lt) (or-true (lt_z (r +ℤ d) (negsuc n))))

kept_within : (r d : ℤ) → inverts r d ≡ false → within plain_limit (r +ℤ d) ≡ true
unfolding inverts
kept_within r d e = not-false (within plain_limit (r +ℤ d)) e

turned_out : (r d : ℤ) → inverts r d ≡ true → within plain_limit (r +ℤ d) ≡ false
unfolding inverts
turned_out r d e = not-true (within plain_limit (r +ℤ d)) e

new_r_kept : (r d : ℤ) → inverts r d ≡ false → new_r r d ≡ r +ℤ d
unfolding new_r
new_r_kept r d e = simp e

new_r_turned : (r d : ℤ) → inverts r d ≡ true → new_r r d ≡ r -ℤ d
unfolding new_r
new_r_turned r d e = simp e

-- R and a disparity in −16 to 16 give an R in −16 to 16
module _ (r d : ℤ) (hr : within 16 r ≡ true) (hd : within 16 d ≡ true) where
  turned_within : (below r + below d + plain_limit < above r + above d) ⊎ (above r + above d + plain_limit < below r + below d)
      → within 16 (r -ℤ d) ≡ true
  turned_within far =
      let rh = within_high 16 r (above r) (below r) (difference_parts r) hr in
      let rl = within_low 16 r (above r) (below r) (difference_parts r) hr in
      let dh = within_high 16 d (above d) (below d) (difference_parts d) hd in
      let dl = within_low 16 d (above d) (below d) (difference_parts d) hd in
      let is =
      difference_add r (neg_ℤ d) (above r) (below r) (below d) (above d) (difference_parts r)
      (difference_neg d (above d) (below d) (difference_parts d)) in
      ⊎_elim
      (λ (h : below r + below d + plain_limit < above r + above d).
      within_in 16 (r -ℤ d) (above r + below d) (below r + above d) is (omega arith) (omega arith))
      (λ (h : above r + above d + plain_limit < below r + below d).
      within_in 16 (r -ℤ d) (above r + below d) (below r + above d) is (omega arith) (omega arith))
      far

  pub new_r_within : within 16 (new_r r d) ≡ true
  new_r_within = go (inverts r d) refl
    where
      go : (b : Bool) → inverts r d ≡ b → within 16 (new_r r d) ≡ true
      go false e = ap (within 16) (new_r_kept r d e) ∙ within_wider plain_limit 16 (r +ℤ d) (omega arith) (kept_within r d e)
      go true e =
          ap (within 16) (new_r_turned r d e)
          ∙ turned_within
          (within_out plain_limit (r +ℤ d) (above r + above d) (below r + below d)
          (difference_add r d (above r) (below r) (above d) (below d) (difference_parts r) (difference_parts d)) (turned_out r d e))

-- ---- the frame sent

pub sent_kept : (w : ℕ) (r : ℤ) → inverts r (disparity_of w) ≡ false → sent_frame w r ≡ w
unfolding sent_frame
sent_kept w r e = simp e

pub sent_turned : (w : ℕ) (r : ℤ) → inverts r (disparity_of w) ≡ true → sent_frame w r ≡ inverted w
unfolding sent_frame
sent_turned w r e = simp e

-- what holds of a frame and of its inversion holds of what is sent
pub sent_either : (P : ℕ → Type 0) (w : ℕ) (r : ℤ) → P w → P (inverted w) → P (sent_frame w r)
sent_either P w r p q = go (inverts r (disparity_of w)) refl
  where
    go : (b : Bool) → inverts r (disparity_of w) ≡ b → P (sent_frame w r)
    go false e = subst P (sym (sent_kept w r e)) p
    go true e = subst P (sym (sent_turned w r e)) q

-- the new R is the sum of R and the disparity of the frame sent
pub new_r_sum : (w : ℕ) (r : ℤ) → w < 2 ^ 16 → new_r r (disparity_of w) ≡ r +ℤ disparity_of (sent_frame w r)
new_r_sum w r h = go (inverts r (disparity_of w)) refl
  where
    go : (b : Bool) → inverts r (disparity_of w) ≡ b → new_r r (disparity_of w) ≡ r +ℤ disparity_of (sent_frame w r)
    go false e = new_r_kept r (disparity_of w) e ∙ ap (λ (v : ℕ). r +ℤ disparity_of v) (sym (sent_kept w r e))
    go true e =
        new_r_turned r (disparity_of w) e ∙ ap (λ (z : ℤ). r +ℤ z) (sym (disparity_inverted 16 w h))
        ∙ ap (λ (v : ℕ). r +ℤ disparity_of v) (sym (sent_turned w r e))

-- ---- within a frame

-- Within m before and after n bits: within m + n / 2 after each of them.
pub part_within : (m n k w : ℕ) (r : ℤ) → k ≤ n → within m r ≡ true → within m (r +ℤ disparity_in n w) ≡ true
    → within (m + n / 2) (r +ℤ disparity_in k w) ≡ true
part_within m n k w r h before after =
    let a = above r in
    let b = below r in
    let all : k + (n - k) ≡ n = omega arith in
    let split : ones_in n w ≡ ones_in k w + ones_in (n - k) (w / 2 ^ k) = ap (λ (d : ℕ). ones_in d w) (sym all) ∙ ones_split k (n - k) w in
    let early = ones_le k w in
    let late = ones_le (n - k) (w / 2 ^ k) in
    let whole = ones_le n w in
    let rh = within_high m r a b (difference_parts r) before in
    let rl = within_low m r a b (difference_parts r) before in
    let end = difference_add r (disparity_in n w) a b (ones_in n w) (n - ones_in n w) (difference_parts r) (disparity_difference n w) in
    let eh = within_high m (r +ℤ disparity_in n w) (a + ones_in n w) (b + (n - ones_in n w)) end after in
    let el = within_low m (r +ℤ disparity_in n w) (a + ones_in n w) (b + (n - ones_in n w)) end after in
    within_in (m + n / 2) (r +ℤ disparity_in k w) (a + ones_in k w) (b + (k - ones_in k w))
    (difference_add r (disparity_in k w) a b (ones_in k w) (k - ones_in k w) (difference_parts r) (disparity_difference k w))
    (omega arith) (omega arith)
