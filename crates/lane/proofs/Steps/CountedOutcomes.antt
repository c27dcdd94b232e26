-- A record with outcomes counted, one by one or many at once. Assumes nothing.
use Prim.Native.Nat.{ℕ, ◌+◌, ◌-◌, ◌^◌, ◌<◌, min}
use mathlib.Core.Path.{◌≡◌, ap, sym, ◌∙◌}
use mathlib.Core.Logic.{◌⊎◌, inl, inr}
use mathlib.Core.List.{List, [], ◌∷◌, ◌++◌}
use native.Mathlib.Omega.{arith}
use Rattle.lane_rules.specs.Sums.{sums_by, sums_after}
use Rattle.lane_rules.specs.Feeding.{Added, added, sum_of, largest, total, counted}
use Rattle.lane_rules.specs.declared.Sums.{Sums}
use Rattle.lane_rules.specs.declared.Mode.{Mode}
use Rattle.lane_rules.specs.declared.Receiver.{Receiver}
use Rattle.lane_rules.specs.declared.Outcome.{Outcome}
use Rattle.lane_rules.proofs.Feeding.RunningTotals.{total_0, total_more, sum_append, sums_append}

-- ---- one total, as the library adds to it

pub saturated_total : (x n y : ℕ) → x < 2 ^ 64 → y ≡ min (x + n) (2 ^ 64 - 1) → y ≡ total x n
unfolding total largest
saturated_total x n y h e = omega arith

-- ---- one outcome

-- the record in mode m with so many samples, gaps and losses, and these sums
abbrev holding : Mode → ℕ → ℕ → ℕ → Sums → Receiver
holding m samples gaps losses sums = record { mode = m; samples = samples; gaps = gaps; losses = losses; sums = sums }

-- nothing, or lock found, adds to no total
pub none_added : (o : Outcome) → (o ≡ Outcome.Nothing) ⊎ (o ≡ Outcome.Found) → added o ≡ record { samples = 0; gaps = 0; losses = 0 }
none_added o (inl e) = rw e
none_added o (inr e) = rw e

-- where each total has what the outcome adds, it is counted
pub counted_one : (rx : Receiver) (m : Mode) (o : Outcome) (a b c : ℕ) (s : Sums) → s ≡ sums_by rx.sums o
    → a ≡ total rx.samples (added o).samples → b ≡ total rx.gaps (added o).gaps → c ≡ total rx.losses (added o).losses
    → holding m a b c s ≡ counted rx m (o ∷ [])
unfolding counted sum_of sums_after
counted_one rx m o a b c s t e f g =
    let more : (x n : ℕ) → total x n ≡ total x (n + 0) = λ x n. ap (total x) (omega arith) in
    λ i. holding m ((e ∙ more _ _) i) ((f ∙ more _ _) i) ((g ∙ more _ _) i) (t i)

-- ---- many outcomes

pub counted_none : (rx : Receiver) → counted rx rx.mode [] ≡ rx
unfolding counted sum_of sums_after
counted_none rx i =
    holding rx.mode (total_0 rx.samples i) (total_0 rx.gaps i) (total_0 rx.losses i) rx.sums

-- counting outcomes os and then ps
pub counted_more : (rx : Receiver) (m n : Mode) (os ps : List Outcome)
    → counted (counted rx m os) n ps ≡ counted rx n (os ++ ps)
unfolding counted
counted_more rx m n os ps =
    λ i. record {
      mode = n;
      samples = more (λ (a : Added). a.samples) rx.samples i;
      gaps = more (λ (a : Added). a.gaps) rx.gaps i;
      losses = more (λ (a : Added). a.losses) rx.losses i;
      sums = sym (sums_append rx.sums os ps) i;
    }
  where
    more : (part : Added → ℕ) (x : ℕ) → total (total x (sum_of part os)) (sum_of part ps) ≡ total x (sum_of part (os ++ ps))
    more part x = total_more x (sum_of part os) (sum_of part ps) ∙ ap (total x) (sym (sum_append part os ps))
