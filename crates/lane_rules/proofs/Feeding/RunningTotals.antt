-- Totals and sums: counting outcomes one by one, or many at once. Assumes nothing.
use Prim.Native.Nat.{ℕ, ◌+◌, min, ◌≤◌}
use mathlib.Core.Path.{◌≡◌, refl, sym}
use mathlib.Core.List.{List, [], ◌∷◌, ◌++◌}
use native.Mathlib.Omega.{arith}
use native.Mathlib.Nat.{zero-add}
use Rattle.lane_rules.specs.Sums.{sums_by, sums_after}
use Rattle.lane_rules.specs.Feeding.{Added, sum_of, largest, total}
use Rattle.lane_rules.specs.declared.Sums.{Sums}
use Rattle.lane_rules.specs.declared.Outcome.{Outcome}

-- ---- one total

pub total_0 : (x : ℕ) → total x 0 ≡ x
unfolding total
total_0 x = omega arith

-- a total with a more, then with b more
pub total_more : (x a b : ℕ) → total (total x a) b ≡ total x (a + b)
unfolding total
total_more x a b = omega arith

-- it is the sum, held at the largest value
pub total_is : (x n : ℕ) → x ≤ largest → total x n ≡ min largest (x + n)
unfolding total
total_is x n h = omega arith

-- ---- many outcomes

pub sum_append : (part : Added → ℕ) (os ps : List Outcome) → sum_of part (os ++ ps) ≡ sum_of part os + sum_of part ps
unfolding sum_of
sum_append part [] ps = sym (zero-add _)
sum_append part (o ∷ os) ps = omega (arith, sum_append part os ps)

-- the sums after outcomes os and then ps
pub sums_append : (s : Sums) (os ps : List Outcome) → sums_after s (os ++ ps) ≡ sums_after (sums_after s os) ps
unfolding sums_after
sums_append s [] ps = refl
sums_append s (o ∷ os) ps = sums_append (sums_by s o) os ps
