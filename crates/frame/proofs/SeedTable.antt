-- The lane seeds. One test, which the checker computes, says that the states at multiples of 512 steps after state 1 are permitted for
-- all 256 lanes, so that each is its lane's seed; another, over the code's table, that each entry is 512 steps after the one before.
-- Assumes nothing.
use mathlib.Core.Path.{◌≡◌, refl, sym, ap, ◌∙◌, subst}
use mathlib.Core.Bool.{Bool, true, false, ◌&&◌, true≢false}
use mathlib.Core.Logic.{◌⊎◌, inl, inr}
use mathlib.Core.List.{List, [], ◌∷◌}
use Prim.Native.Nat.{ℕ, zero, suc, ◌*◌, ◌^◌, ◌<◌}
use native.Mathlib.Nat.{mul-zero, mul-suc, le_of_suc-le-suc, not-suc-le-zero, le_refl, not-le_of_lt}
use native.Mathlib.Omega.{arith}
use lib.Dec.{T, eqb, eqb→eq}
use lib.ListN.{length, get_or}
use Rattle.frame.specs.Scrambler.{is_state, upper_bits, next_state, state_after}
use Rattle.frame.specs.Seeds.{permitted, first_permitted, lane_seed, FirstPermitted}
use Rattle.frame.proofs.Test.{is_true}
use Rattle.std.proofs.Math.Facts.{and_yes}
use Rattle.std.proofs.lemmas.Bool.{cases_order}
use Rattle.frame.proofs.Linear.{apply, squared}
use Rattle.frame.proofs.Step.{step_columns, StepsBy, after_zero, after_lt, after_add, steps_power}

-- ---- a map applied again and again

-- e, the map's image of it, the image of that, and so on
abbrev image : List ℕ → ℕ → ℕ → ℕ
image cs zero e = e
image cs (suc k) e = image cs k (apply cs e)

-- where the map is m steps
image_steps : (m : ℕ) (cs : List ℕ) → StepsBy m cs → (k e : ℕ) → e < 2 ^ 17 → image cs k e ≡ state_after (m * k) e
image_steps m cs by zero e h = sym (ap (λ (n : ℕ). state_after n e) (mul-zero m) ∙ after_zero e)
image_steps m cs by (suc k) e h =
    let below : apply cs e < 2 ^ 17 = subst (λ (n : ℕ). n < 2 ^ 17) (by e h) (after_lt m e h) in
    image_steps m cs by k (apply cs e) below ∙ ap (state_after (m * k)) (sym (by e h)) ∙ sym (after_add (m * k) m e)
    ∙ ap (λ (n : ℕ). state_after n e) (sym (mul-suc m k))

-- the first n of them are permitted
abbrev pub all_permitted : List ℕ → ℕ → ℕ → Bool
all_permitted cs zero e = true
all_permitted cs (suc n) e = permitted e && all_permitted cs n (apply cs e)

permitted_at : (cs : List ℕ) (n e : ℕ) → T (all_permitted cs n e) → (k : ℕ) → k < n → T (permitted (image cs k e))
permitted_at cs zero e t k l = absurd (not-suc-le-zero l)
permitted_at cs (suc n) e t zero l = (and_yes (permitted e) (all_permitted cs n (apply cs e)) t).0
permitted_at cs (suc n) e t (suc k) l =
    permitted_at cs n (apply cs e) (and_yes (permitted e) (all_permitted cs n (apply cs e)) t).1 k (le_of_suc-le-suc l)

-- they are the entries of the list
abbrev pub chain : List ℕ → ℕ → List ℕ → Bool
chain cs e [] = true
chain cs e (x ∷ xs) = eqb x e && chain cs (apply cs e) xs

entry_at : (cs : List ℕ) (e : ℕ) (xs : List ℕ) → T (chain cs e xs) → (k : ℕ) → k < length xs → get_or xs k 0 ≡ image cs k e
entry_at cs e [] t k l = absurd (not-suc-le-zero l)
entry_at cs e (x ∷ xs) t zero l = eqb→eq x e (and_yes (eqb x e) (chain cs (apply cs e) xs) t).0
entry_at cs e (x ∷ xs) t (suc k) l =
    entry_at cs (apply cs e) xs (and_yes (eqb x e) (chain cs (apply cs e) xs) t).1 k (le_of_suc-le-suc l)

-- ---- the lanes

-- a permitted state is the first permitted one from itself on
first_now : (n l : ℕ) → T (permitted l) → first_permitted (suc n) l ≡ l
unfolding first_permitted
first_now n l = go (permitted l)
  where
    go : (b : Bool) → T b → elim b as (λ x. ℕ) [ true ↦ l | false ↦ first_permitted n (next_state l) ] ≡ l
    go true t = refl
    go false t = absurd t

-- 512 steps are nine squarings
abbrev pub columns_512 : List ℕ
columns_512 = squared 9 step_columns

lanes_permitted : T (all_permitted columns_512 256 1)
unfolding is_state upper_bits next_state permitted squared step_columns
lanes_permitted = tt

module _ (lane : ℕ) (l : lane < 256) where
  at_lane : image columns_512 lane 1 ≡ state_after (512 * lane) 1
  at_lane = image_steps 512 columns_512 (steps_power 9) lane 1 (omega arith)

  lane_permitted : T (permitted (state_after (512 * lane) 1))
  lane_permitted = subst (λ (s : ℕ). T (permitted s)) at_lane (permitted_at columns_512 256 1 lanes_permitted lane l)

  -- no state was passed over
  pub lane_seed_at : lane_seed lane ≡ state_after (512 * lane) 1
  unfolding lane_seed
  lane_seed_at = first_now 131070 (state_after (512 * lane) 1) lane_permitted

  -- the code's table
  module _ (xs : List ℕ) (e : length xs ≡ 256) (t : T (chain columns_512 1 xs)) where
    entry_state : get_or xs lane 0 ≡ state_after (512 * lane) 1
    entry_state = entry_at columns_512 1 xs t lane (omega arith) ∙ at_lane

    pub entry_seed : get_or xs lane 0 ≡ lane_seed lane
    entry_seed = entry_state ∙ sym lane_seed_at

    pub entry_first : FirstPermitted (512 * lane) (get_or xs lane 0)
    entry_first = record {
      steps = 512 * lane;
      enough = le_refl (512 * lane);
      found = entry_state;
      is_permitted = ap permitted entry_state ∙ is_true (permitted (state_after (512 * lane) 1)) lane_permitted;
      first = λ m a b. absurd (not-le_of_lt b a);
    }

-- ---- at most one number is the first permitted state

pub first_permitted_one : (n r s : ℕ) → FirstPermitted n r → FirstPermitted n s → r ≡ s
first_permitted_one n r s a b = go (cases_order a.steps b.steps)
  where
    never : (x y : ℕ) (c : FirstPermitted n x) (d : FirstPermitted n y) → c.steps < d.steps → x ≡ y
    never x y c d l = absurd (true≢false (sym c.is_permitted ∙ ap permitted c.found ∙ d.first c.steps c.enough l))

    go : (a.steps ≡ b.steps) ⊎ ((a.steps < b.steps) ⊎ (b.steps < a.steps)) → r ≡ s
    go (inl e) = a.found ∙ ap (λ (m : ℕ). state_after m 1) e ∙ sym b.found
    go (inr (inl l)) = never r s a b l
    go (inr (inr l)) = sym (never s r b a l)
