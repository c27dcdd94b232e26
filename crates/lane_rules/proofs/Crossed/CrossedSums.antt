-- The sums of a crossed line have the other sign, where none is at a limit of 32 bits. Assumes nothing.
use Prim.Native.Nat.{ℕ, zero, suc, ◌<◌}
use mathlib.Core.Path.{◌≡◌, refl, ap, sym, ◌∙◌, subst}
use mathlib.Core.Bool.{Bool, true, false, cond, not}
use mathlib.Core.List.{List, [], ◌∷◌, map}
use native.Mathlib.Omega.{arith}
use lib.Dec.{T, ltb, ltb→lt, le→leb}
use lib.IntN.{ℤ, pos, negsuc, neg_ℤ, ◌+ℤ◌, neg_ℤ-+ℤ}
use lib.Signed.{lt_z, le_z, ◌<ℤ◌, lt_z_no, <ℤ-≤ℤ_trans, <ℤ_irrefl}
use borrow.Author.Tests.{lt-ltb, le-ltb, ltb-true}
use Rattle.lane_rules.specs.Sums.{no_sums, least_sum, most_sum, held_sum, lower_of, higher_of, with_frame, sums_by, sums_after}
use Rattle.lane_rules.specs.ReceiverCalls.{outcomes_of}
use Rattle.lane_rules.specs.Crossed.{crossed_bytes, crossed_outcome, crossed_sums}
use Rattle.lane_rules.specs.PromiseCrossed.{CrossedSums}
use Rattle.lane_rules.specs.declared.Sums.{Sums}
use Rattle.lane_rules.specs.declared.Outcome.{Outcome}
use Rattle.lane_rules.proofs.Totals.SumsKept.{sums_after_lem}
use Rattle.lane_rules.proofs.Basics.Tests.{same_test}
use Rattle.lane_rules.proofs.Crossed.CrossedPairs.{crossed_good, crossed_outcomes_lem}

-- ---- numbers with the other sign

same_order : (a b c d : ℕ) → (a < b → c < d) → (c < d → a < b) → ltb a b ≡ ltb c d
same_order a b c d f g =
    same_test (ltb a b) (ltb c d) (λ e. lt-ltb c d (f (ltb-true a b e))) (λ e. lt-ltb a b (g (ltb-true c d e)))

neg_order : (x y : ℤ) → lt_z (neg_ℤ y) (neg_ℤ x) ≡ lt_z x y
neg_order (pos zero) (pos zero) = refl
neg_order (pos zero) (pos (suc n)) = sym (lt-ltb 0 (suc n) (omega arith))
neg_order (pos (suc m)) (pos zero) = sym (le-ltb (suc m) 0 (omega arith))
neg_order (pos (suc m)) (pos (suc n)) = same_order m n (suc m) (suc n) (λ h. omega arith) (λ h. omega arith)
neg_order (pos zero) (negsuc n) = le-ltb (suc n) 0 (omega arith)
neg_order (pos (suc m)) (negsuc n) = refl
neg_order (negsuc m) (pos zero) = lt-ltb 0 (suc m) (omega arith)
neg_order (negsuc m) (pos (suc n)) = refl
neg_order (negsuc m) (negsuc n) = same_order (suc n) (suc m) n m (λ h. omega arith) (λ h. omega arith)

neg_below : {x y : ℤ} → x <ℤ y → neg_ℤ y <ℤ neg_ℤ x
neg_below {x} {y} h = record { lt = subst T (sym (neg_order x y)) h.lt }

below_neg : {x y : ℤ} → neg_ℤ y <ℤ neg_ℤ x → x <ℤ y
below_neg {x} {y} h = record { lt = subst T (neg_order x y) h.lt }

neg_cond : (t : Bool) (x y : ℤ) → cond t (neg_ℤ x) (neg_ℤ y) ≡ neg_ℤ (cond t x y)
neg_cond true x y = refl
neg_cond false x y = refl

lower_neg : (x y : ℤ) → lower_of (neg_ℤ x) (neg_ℤ y) ≡ neg_ℤ (higher_of x y)
unfolding lower_of higher_of
lower_neg x y = rw (neg_order x y) (neg_cond (lt_z x y) y x)

higher_neg : (x y : ℤ) → higher_of (neg_ℤ x) (neg_ℤ y) ≡ neg_ℤ (lower_of x y)
unfolding lower_of higher_of
higher_neg x y = rw (neg_order y x) (neg_cond (lt_z y x) y x)

-- ---- above the lower of two, and below the higher

below_le : (x y : ℤ) → T (lt_z x y) → T (le_z x y)
below_le (pos a) (pos b) h = le→leb a b (omega (arith, ltb→lt a b h))
below_le (pos a) (negsuc b) h = h
below_le (negsuc a) (pos b) h = tt
below_le (negsuc a) (negsuc b) h = le→leb b a (omega (arith, ltb→lt b a h))

above_lower : (l x y : ℤ) → l <ℤ lower_of x y → (l <ℤ x) × (l <ℤ y)
unfolding lower_of
above_lower l x y h = go (lt_z y x) refl h
  where
    go : (t : Bool) → lt_z y x ≡ t → l <ℤ cond t y x → (l <ℤ x) × (l <ℤ y)
    go true e k = (<ℤ-≤ℤ_trans k (record { le = below_le y x (subst T (sym e) tt) }), k)
    go false e k = (k, <ℤ-≤ℤ_trans k (lt_z_no (subst (λ (t : Bool). T (not t)) (sym e) tt)))

below_higher : (u x y : ℤ) → higher_of x y <ℤ u → (x <ℤ u) × (y <ℤ u)
below_higher u x y h =
    let both = above_lower (neg_ℤ u) (neg_ℤ x) (neg_ℤ y) (subst (λ (z : ℤ). neg_ℤ u <ℤ z) (sym (lower_neg x y)) (neg_below h)) in
    (below_neg both.0, below_neg both.1)

-- ---- a sum that is not at a limit is not held

neg_in : (z : ℤ) → least_sum <ℤ z → z <ℤ most_sum → held_sum (neg_ℤ z) ≡ neg_ℤ z
unfolding held_sum
neg_in (pos zero) l h = refl
neg_in (pos (suc n)) l h = rw (le-ltb 2147483647 n (omega (arith, ltb→lt (suc n) 2147483647 h.lt)))
neg_in (negsuc n) l h = rw (le-ltb 2147483647 (suc n) (omega (arith, ltb→lt n 2147483647 l.lt)))

held_crossed : (z : ℤ) → least_sum <ℤ held_sum z → held_sum z <ℤ most_sum → held_sum (neg_ℤ z) ≡ neg_ℤ (held_sum z)
unfolding held_sum
held_crossed z l h = go (lt_z z least_sum) (lt_z most_sum z) l h
  where
    go : (s t : Bool) → least_sum <ℤ cond s least_sum (cond t most_sum z) → cond s least_sum (cond t most_sum z) <ℤ most_sum
        → held_sum (neg_ℤ z) ≡ neg_ℤ (cond s least_sum (cond t most_sum z))
    go true t l h = absurd (<ℤ_irrefl l)
    go false true l h = absurd (<ℤ_irrefl h)
    go false false l h = neg_in z l h

-- ---- the sums

-- neither the lowest nor the highest is at a limit
abbrev Inside : Sums → Type 0
Inside s = (least_sum <ℤ s.lowest) × (s.highest <ℤ most_sum)

frame_crossed : (s : Sums) (d : ℤ) → Inside (with_frame s d)
    → Inside s × (with_frame (crossed_sums s) (neg_ℤ d) ≡ crossed_sums (with_frame s d))
unfolding with_frame
frame_crossed s d h =
    let sum = held_sum (s.sum +ℤ d) in
    let low = above_lower least_sum s.lowest sum h.0 in
    let high = below_higher most_sum s.highest sum h.1 in
    let is : held_sum (neg_ℤ s.sum +ℤ neg_ℤ d) ≡ neg_ℤ sum =
    ap held_sum (sym (neg_ℤ-+ℤ s.sum d)) ∙ held_crossed (s.sum +ℤ d) low.1 high.1 in (
      (low.0, high.0),
      λ i. record {
        sum = is i;
        lowest = (ap (lower_of (neg_ℤ s.highest)) is ∙ lower_neg s.highest sum) i;
        highest = (ap (higher_of (neg_ℤ s.lowest)) is ∙ higher_neg s.lowest sum) i;
      },
    )

next_crossed : (s t : Sums) (d : ℤ) → (Inside s → t ≡ crossed_sums s)
    → Inside (with_frame s d) → with_frame t (neg_ℤ d) ≡ crossed_sums (with_frame s d)
next_crossed s t d e h = let f = frame_crossed s d h in ap (λ (x : Sums). with_frame x (neg_ℤ d)) (e f.0) ∙ f.1

sums_crossed : (s t : Sums) (os : List Outcome) → (Inside s → t ≡ crossed_sums s)
    → Inside (sums_after s os) → sums_after t (map crossed_outcome os) ≡ crossed_sums (sums_after s os)
unfolding sums_after sums_by
sums_crossed s t [] e h = e h
sums_crossed s t (Outcome.Nothing ∷ os) e h = sums_crossed s t os e h
sums_crossed s t (Outcome.Found ∷ os) e h = sums_crossed no_sums no_sums os (λ i. refl) h
sums_crossed s t (Outcome.Sample x d ∷ os) e h = sums_crossed (with_frame s d) (with_frame t (neg_ℤ d)) os (next_crossed s t d e) h
sums_crossed s t (Outcome.Gap d ∷ os) e h = sums_crossed (with_frame s d) (with_frame t (neg_ℤ d)) os (next_crossed s t d e) h
sums_crossed s t (Outcome.Loss d ∷ os) e h = sums_crossed (with_frame s d) (with_frame t (neg_ℤ d)) os (next_crossed s t d e) h

pub crossed_sums_lem : CrossedSums
crossed_sums_lem rx ry line calls good c e h low high =
    let plain = sums_after_lem rx line calls good in
    sums_after_lem ry (crossed_bytes line) calls (crossed_good rx ry good c)
    ∙ ap (sums_after ry.sums) (crossed_outcomes_lem rx ry line calls good c h)
    ∙ sums_crossed rx.sums ry.sums (outcomes_of rx line calls) (λ i. e) (subst Inside plain (low, high))
    ∙ ap crossed_sums (sym plain)
