-- Items, totals and sums hang on the outcomes that are counted, and on no other. Assumes nothing.
use Prim.Native.Nat.{ℕ}
use mathlib.Core.Path.{◌≡◌, refl, ap, sym, ◌∙◌}
use mathlib.Core.List.{List, [], ◌∷◌, ◌++◌, append-nil}
use native.Mathlib.Omega.{arith}
use Rattle.lane_rules.specs.Sums.{no_sums, with_frame, sums_by, sums_after}
use Rattle.lane_rules.specs.Feeding.{item_of, items_in, Added, sum_of, total, counted}
use Rattle.lane_rules.specs.Outcomes.{told}
use Rattle.lane_rules.specs.declared.Sums.{Sums}
use Rattle.lane_rules.specs.declared.Mode.{Mode}
use Rattle.lane_rules.specs.declared.Receiver.{Receiver}
use Rattle.lane_rules.specs.declared.Outcome.{Outcome}

pub told_append : (os ps : List Outcome) → told (os ++ ps) ≡ told os ++ told ps
unfolding told
told_append [] ps = refl
told_append (Outcome.Nothing ∷ os) ps = told_append os ps
told_append (Outcome.Found ∷ os) ps = ap (λ (l : List Outcome). Outcome.Found ∷ l) (told_append os ps)
told_append (Outcome.Sample x d ∷ os) ps = ap (λ (l : List Outcome). Outcome.Sample x d ∷ l) (told_append os ps)
told_append (Outcome.Gap d ∷ os) ps = ap (λ (l : List Outcome). Outcome.Gap d ∷ l) (told_append os ps)
told_append (Outcome.Loss d ∷ os) ps = ap (λ (l : List Outcome). Outcome.Loss d ∷ l) (told_append os ps)

items_told : (os : List Outcome) → items_in (told os) ≡ items_in os
unfolding told items_in
items_told [] = refl
items_told (Outcome.Nothing ∷ os) = items_told os
items_told (Outcome.Found ∷ os) = items_told os
items_told (Outcome.Sample x d ∷ os) = ap (λ (l : List ℕ). item_of (Outcome.Sample x d) ++ l) (items_told os)
items_told (Outcome.Gap d ∷ os) = ap (λ (l : List ℕ). item_of (Outcome.Gap d) ++ l) (items_told os)
items_told (Outcome.Loss d ∷ os) = ap (λ (l : List ℕ). item_of (Outcome.Loss d) ++ l) (items_told os)

sums_told : (s : Sums) (os : List Outcome) → sums_after s (told os) ≡ sums_after s os
unfolding told sums_after sums_by
sums_told s [] = refl
sums_told s (Outcome.Nothing ∷ os) = sums_told s os
sums_told s (Outcome.Found ∷ os) = sums_told no_sums os
sums_told s (Outcome.Sample x d ∷ os) = sums_told (with_frame s d) os
sums_told s (Outcome.Gap d ∷ os) = sums_told (with_frame s d) os
sums_told s (Outcome.Loss d ∷ os) = sums_told (with_frame s d) os

-- for a part of what outcomes add that is 0 where nothing is handed out
module _ (part : Added → ℕ) (none : part (record { samples = 0; gaps = 0; losses = 0 }) ≡ 0) where
  sum_told : (os : List Outcome) → sum_of part (told os) ≡ sum_of part os
  unfolding told sum_of
  sum_told [] = refl
  sum_told (Outcome.Nothing ∷ os) = omega (arith, sum_told os, none)
  sum_told (Outcome.Found ∷ os) = omega (arith, sum_told os)
  sum_told (Outcome.Sample x d ∷ os) = omega (arith, sum_told os)
  sum_told (Outcome.Gap d ∷ os) = omega (arith, sum_told os)
  sum_told (Outcome.Loss d ∷ os) = omega (arith, sum_told os)

-- outcomes that tell the same
module _ (os ps : List Outcome) (e : told os ≡ told ps) where
  pub items_same : items_in os ≡ items_in ps
  items_same = sym (items_told os) ∙ ap items_in e ∙ items_told ps

  pub counted_same : (rx : Receiver) (m : Mode) → counted rx m os ≡ counted rx m ps
  unfolding counted
  counted_same rx m =
      λ i. record {
        mode = m;
        samples = total rx.samples (same (λ (a : Added). a.samples) refl i);
        gaps = total rx.gaps (same (λ (a : Added). a.gaps) refl i);
        losses = total rx.losses (same (λ (a : Added). a.losses) refl i);
        sums = (sym (sums_told rx.sums os) ∙ ap (sums_after rx.sums) e ∙ sums_told rx.sums ps) i;
      }
    where
      same : (part : Added → ℕ) → part (record { samples = 0; gaps = 0; losses = 0 }) ≡ 0 → sum_of part os ≡ sum_of part ps
      same part none = sym (sum_told part none os) ∙ ap (sum_of part) e ∙ sum_told part none ps

-- one outcome
pub items_one : (o : Outcome) → items_in (o ∷ []) ≡ item_of o
unfolding items_in
items_one o = append-nil (item_of o)
