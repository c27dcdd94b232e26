-- All states are on one cycle: from any state every state comes up exactly once in a period, so any two are some number of steps apart
-- one way round and the rest of the period the other. Assumes nothing.
use mathlib.Core.Path.{◌≡◌, sym, ap, ◌∙◌}
use mathlib.Core.Bool.{true}
use mathlib.Core.Logic.{◌≢◌, ◌⊎◌, inl, inr}
use Prim.Native.Nat.{ℕ, ◌+◌, ◌-◌, ◌*◌, ◌^◌, ◌≤◌, ◌<◌}
use native.Mathlib.Nat.{pos_of_ne-zero}
use native.Mathlib.Omega.{arith}
use Rattle.frame.specs.Scrambler.{is_state, state_after}
use Rattle.frame.specs.Seeds.{lane_seed}
use Rattle.frame.specs.Cycle.{period_steps, ComesOnce, StepsApart, SameCycle}
use Rattle.frame.specs.Promise.{LaneSeedsApart, LaneSeedsNeverCloser}
use Rattle.std.proofs.lemmas.Bool.{cases_order}
use Rattle.frame.proofs.Pigeonhole.{OneToOne, all_reached}
use Rattle.frame.proofs.Step.{state_low, state_high, state_in, after_zero, after_lt, after_add, after_state, after_injective}
use Rattle.frame.proofs.Period.{first_return}
use Rattle.frame.proofs.SeedTable.{lane_seed_at}

-- the places of a cycle from s on: place i is i steps after s
module _ (s : ℕ) (state : is_state s ≡ true) where
  -- the same state at two places d steps apart would be s again after d steps
  no_repeat : (i d : ℕ) → 0 < d → d < period_steps → state_after (i + d) s ≢ state_after i s
  no_repeat i d some less e =
      let low : s < 2 ^ 17 = omega (arith, state_high s state) in
      (first_return s state).not_before d some less
      (after_injective i (state_after d s) s (after_lt d s low) low (sym (after_add i d s) ∙ e))

  one_place : (i j : ℕ) → i < period_steps → j < period_steps → state_after i s ≡ state_after j s → i ≡ j
  one_place i j li lj e = go (cases_order i j)
    where
      later : (a b : ℕ) → a < b → b < period_steps → state_after b s ≢ state_after a s
      later a b l h same =
          let sum : a + (b - a) ≡ b = omega arith in
          no_repeat a (b - a) (omega arith) (omega arith) (ap (λ (n : ℕ). state_after n s) sum ∙ same)

      go : (i ≡ j) ⊎ ((i < j) ⊎ (j < i)) → i ≡ j
      go (inl q) = q
      go (inr (inl l)) = absurd (later i j l lj (sym e))
      go (inr (inr l)) = absurd (later j i l li e)

  -- the state at a place, as a number from 0 on
  abbrev numbered : ℕ → ℕ
  numbered i = state_after i s - 1

  at_place : (i : ℕ) → (1 ≤ state_after i s) × (state_after i s ≤ 0x1FFFF)
  at_place i = let e = after_state i s state in (state_low (state_after i s) e, state_high (state_after i s) e)

  places_one_to_one : OneToOne period_steps numbered
  places_one_to_one = record {
    into = λ i l. omega (arith, (at_place i).0, (at_place i).1);
    apart = λ i j li lj e. one_place i j li lj (omega (arith, e, (at_place i).0, (at_place j).0));
  }

  pub comes_once : (t : ℕ) → is_state t ≡ true → ComesOnce s t
  comes_once t other =
      let low = state_low t other in
      let high = state_high t other in
      let r = all_reached period_steps numbered places_one_to_one (t - 1) (omega arith) in
      let there : state_after r.from s ≡ t = omega (arith, r.image, low, (at_place r.from).0) in
      record {
        steps = r.from;
        in_period = r.below;
        comes = there;
        only_then = λ m l e. one_place m r.from l r.below (e ∙ sym there);
      }

  pub steps_apart : (n t : ℕ) → 0 < n → n < period_steps → state_after n s ≡ t → StepsApart n s t
  steps_apart n t some less e = record {
    there = onward;
    back =
        λ m.
        let rest : m + (period_steps - n) + n ≡ m + period_steps = omega arith in
        sym (onward (m + (period_steps - n))) ∙ ap (λ (k : ℕ). state_after k s) rest ∙ after_add m period_steps s
        ∙ ap (state_after m) (first_return s state).returns;
    not_sooner_there = λ m l q. let same : m ≡ n = one_place m n (omega arith) less (q ∙ sym e) in absurd (omega arith);
    not_sooner_back =
        λ m l q.
        let none : m + n ≡ 0 = one_place (m + n) 0 (omega arith) (omega arith) (onward m ∙ q ∙ sym (after_zero s)) in
        absurd (omega arith);
  }
    where
      onward : (m : ℕ) → state_after (m + n) s ≡ state_after m t
      onward m = after_add m n s ∙ ap (state_after m) e

  pub same_cycle : (t : ℕ) → is_state t ≡ true → s ≢ t → SameCycle s t
  same_cycle t other differ =
      let once = comes_once t other in
      let some : 0 < once.steps =
      pos_of_ne-zero (λ z. differ (sym (after_zero s) ∙ ap (λ (n : ℕ). state_after n s) (sym z) ∙ once.comes)) in
      record {
        steps = once.steps;
        some = some;
        in_period = once.in_period;
        apart = steps_apart once.steps t some once.in_period once.comes;
      }

-- ---- lane seeds

lane_seed_state : (lane : ℕ) → lane < 256 → is_state (lane_seed lane) ≡ true
lane_seed_state lane l = ap is_state (lane_seed_at lane l) ∙ after_state (512 * lane) 1 (state_in 1 (omega arith) (omega arith))

pub lane_seeds_apart : LaneSeedsApart
lane_seeds_apart j k l h =
    let sum : 512 * (k - j) + 512 * j ≡ 512 * k = omega arith in
    steps_apart (lane_seed j) (lane_seed_state j (omega arith)) (512 * (k - j)) (lane_seed k) (omega arith) (omega arith)
    (ap (state_after (512 * (k - j))) (lane_seed_at j (omega arith)) ∙ sym (after_add (512 * (k - j)) (512 * j) 1)
    ∙ ap (λ (n : ℕ). state_after n 1) sum ∙ sym (lane_seed_at k h))

pub lane_seeds_never_closer : LaneSeedsNeverCloser
lane_seeds_never_closer j k m hj hk differ few = go (cases_order j k)
  where
    go : (j ≡ k) ⊎ ((j < k) ⊎ (k < j)) → state_after m (lane_seed j) ≢ lane_seed k
    go (inl e) = absurd (differ e)
    go (inr (inl l)) = (lane_seeds_apart j k l hk).not_sooner_there m (omega arith)
    go (inr (inr l)) = (lane_seeds_apart k j l hj).not_sooner_back m (omega arith)
