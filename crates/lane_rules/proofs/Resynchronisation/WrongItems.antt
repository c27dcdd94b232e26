-- Wrong items, counted by bursts, where the items of untouched frames are their samples. Assumes nothing.
use Prim.Native.Nat.{ℕ, zero, suc, ◌+◌, ◌-◌, ◌≤◌}
use mathlib.Core.Path.{◌≡◌, refl, subst}
use mathlib.Core.Bool.{Bool, true, false, cond}
use mathlib.Core.List.{List, [], ◌∷◌}
use native.Mathlib.Omega.{arith}
use native.Mathlib.Nat.{add-zero}
use lib.Dec.{eqb}
use borrow.Author.Tests.{eq-eqb}
use Rattle.lane_rules.specs.Bursts.{BurstPlace, resting, bursting, spaced_from, spaced, wrong, wrong_per_burst, AtMost}
use Rattle.lane_rules.specs.Bursts.{untouched_between, UntouchedRight, none, of_touched, of_untouched}
use Rattle.lane_rules.proofs.Basics.Tables.{impossible}

wrong_le : (x z : ℕ) → wrong x z ≤ 1
unfolding wrong
wrong_le x z = go (eqb z x)
  where
    go : (t : Bool) → cond t 0 1 ≤ 1
    go true = omega arith
    go false = omega arith

equal_not_wrong : (x z : ℕ) → z ≡ x → wrong x z ≡ 0
unfolding wrong
equal_not_wrong x z e = rw (eq-eqb z x e)

-- before the first burst nothing is wrong
from : (n : ℕ) {ts : List Bool} {xs zs : List ℕ} → UntouchedRight ts xs zs
    → (ns : List ℕ) × (wrong_per_burst n false ts xs zs ≡ n ∷ ns)
unfolding wrong_per_burst
from n none = ([], refl)
from n (of_touched r) = (_, refl)
from n (of_untouched {x = x} {z = z} e r) = let i = from n r in (i.0, rw (equal_not_wrong x z e, add-zero) i.1)

pub none_before : {ts : List Bool} {xs zs : List ℕ} → UntouchedRight ts xs zs
    → (ns : List ℕ) × (wrong_per_burst 0 false ts xs zs ≡ 0 ∷ ns)
none_before r = from 0 r

-- the frame before is touched
unfoldable in_burst : BurstPlace → Bool
in_burst (resting n) = false
in_burst (bursting n) = true

at_most_more : (j k : ℕ) → j ≤ k → (ns : List ℕ) → AtMost j ns → AtMost k ns
unfolding AtMost
at_most_more j k h [] a = tt
at_most_more j k h (n ∷ ns) a = (omega (arith, a.0), at_most_more j k h ns a.1)

module _ (longest : ℕ) (one : 1 ≤ longest) where
  -- the wrong items of the burst so far, and the frames that it may still have
  abbrev Few : BurstPlace → ℕ → Type 0
  Few (resting k) n = n ≤ longest
  Few (bursting k) n = n + k ≤ longest

  few_le : (p : BurstPlace) (n : ℕ) → Few p n → n ≤ longest
  few_le (resting k) n h = h
  few_le (bursting k) n h = omega arith

  few_from : (p : BurstPlace) (n : ℕ) {ts : List Bool} {xs zs : List ℕ} → UntouchedRight ts xs zs → spaced_from longest p ts ≡ true
      → Few p n → AtMost longest (wrong_per_burst n (in_burst p) ts xs zs)
  unfolding wrong_per_burst AtMost in_burst spaced_from
  few_from p n none t h = (few_le p n h, tt)
  few_from (resting zero) n (of_untouched {x = x} {z = z} e r) t h =
      rw (equal_not_wrong x z e, add-zero) (few_from (resting zero) n r t h)
  few_from (resting (suc k)) n (of_untouched {x = x} {z = z} e r) t h =
      rw (equal_not_wrong x z e, add-zero) (few_from (resting k) n r t h)
  few_from (bursting k) n (of_untouched {x = x} {z = z} e r) t h =
      rw (equal_not_wrong x z e, add-zero) (few_from (resting (untouched_between - 1)) n r t (omega arith))
  few_from (resting zero) n (of_touched {x = x} {z = z} r) t h =
      (h, few_from (bursting (longest - 1)) (wrong x z) r t (omega (arith, wrong_le x z)))
  few_from (resting (suc k)) n (of_touched r) t h = impossible t
  few_from (bursting zero) n (of_touched r) t h = impossible t
  few_from (bursting (suc k)) n (of_touched {x = x} {z = z} r) t h =
      few_from (bursting k) (n + wrong x z) r t (omega (arith, wrong_le x z))

  pub few_wrong : {ts : List Bool} {xs zs : List ℕ} → UntouchedRight ts xs zs → spaced longest ts ≡ true
      → (ns : List ℕ) → wrong_per_burst 0 false ts xs zs ≡ 0 ∷ ns → (k : ℕ) → longest ≤ k → AtMost k ns
  unfolding AtMost in_burst
  few_wrong {ts} {xs} {zs} r t ns e k h =
      let all : AtMost longest (0 ∷ ns) = subst (AtMost longest) e (few_from (resting 0) 0 r t (omega arith)) in
      at_most_more longest k h ns all.1
