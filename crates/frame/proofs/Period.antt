-- Every state returns for the first time after 131,071 steps. 2 ^ 17 steps are one step (seventeen squarings of its columns, which the
-- checker computes), and a step can be undone, so 131,071 steps lead back. Where d steps lead back, so does the remainder of 131,071
-- by d, and so on down to one step, since 131,071 is a prime; but no state is its own next state. Assumes nothing.
use mathlib.Core.Path.{◌≡◌, refl, sym, ap, ◌∙◌, subst}
use mathlib.Core.Bool.{true}
use mathlib.Core.List.{List}
use mathlib.Core.Logic.{◌≢◌, ⊎_elim}
use Prim.Native.Nat.{ℕ, zero, suc, ◌*◌, ◌/◌, ◌%◌, ◌^◌, ◌≤◌, ◌<◌}
use native.Mathlib.Nat.{zero-mul, suc-mul, mod-add-div', mod-lt, eq-or-lt_of_le, mod-eq_of_lt, pos_of_ne-zero, le_refl}
use native.Mathlib.Omega.{arith}
use Rattle.frame.specs.Scrambler.{is_state, upper_bits, next_state, state_after}
use Rattle.frame.specs.Cycle.{period_steps, FirstReturn}
use Rattle.frame.specs.Promise.{Period}
use Rattle.frame.proofs.Xor.{xor_same}
use Rattle.frame.proofs.Linear.{apply, squared}
use Rattle.frame.proofs.Step.{state_low, state_high, next_injective, after_zero, after_one, after_suc, after_lt, after_add, step_columns, one_step, steps_power}
use Rattle.frame.proofs.Prime.{Prime, prime_by_divisors}

-- ---- 131,071 steps lead back

-- 2 ^ 17 steps are one
seventeen_squarings : squared 17 step_columns ≡ step_columns
unfolding upper_bits next_state step_columns squared
seventeen_squarings = refl

-- so one less leads back
steps_return : (n s : ℕ) → suc n ≡ 2 ^ 17 → s < 2 ^ 17 → state_after n s ≡ s
steps_return n s count h =
    next_injective (state_after n s) s (after_lt n s h) h
    (sym (after_suc n s) ∙ ap (λ (m : ℕ). state_after m s) count ∙ steps_power 17 s h
    ∙ ap (λ (cs : List ℕ). apply cs s) seventeen_squarings ∙ sym (one_step s h) ∙ after_one s)

-- ---- fewer do not

-- no state is its own next state
next_moves : (l : ℕ) → is_state l ≡ true → next_state l ≢ l
unfolding next_state upper_bits
next_moves l s e =
    let low = state_low l s in
    let high = state_high l s in
    let eighth : upper_bits l ≡ l / 2 ^ 3 = omega arith in
    let below : l / 2 ^ 3 < 2 ^ 14 = omega arith in
    let upper : upper_bits l ≡ l / 2 ^ 3 % 2 ^ 14 = eighth ∙ sym (mod-eq_of_lt below) in
    let lower : l % 2 ^ 14 ≡ 0 = xor_same (l % 2 ^ 14) (l / 2 ^ 3 % 2 ^ 14) upper in
    let eight : l % 8 ≡ 0 = omega arith in
    let top : l / 2 ^ 14 ≡ l % 8 = omega arith in
    omega arith

-- where d steps lead back
module _ (s d : ℕ) (e : state_after d s ≡ s) where
  multiple_returns : (q : ℕ) → state_after (q * d) s ≡ s
  multiple_returns zero = ap (λ (n : ℕ). state_after n s) (zero-mul d) ∙ after_zero s
  multiple_returns (suc q) =
      ap (λ (n : ℕ). state_after n s) (suc-mul q d) ∙ after_add (q * d) d s ∙ ap (state_after (q * d)) e ∙ multiple_returns q

  remainder_returns : (n : ℕ) → state_after n s ≡ s → state_after (n % d) s ≡ s
  remainder_returns n r =
      ap (state_after (n % d)) (sym (multiple_returns (n / d))) ∙ sym (after_add (n % d) (n / d * d) s)
      ∙ ap (λ (m : ℕ). state_after m s) (mod-add-div' n d) ∙ r

-- where a prime number of steps leads back, and one step does not
module _ (p s : ℕ) (prime : Prime p) (r : state_after p s ≡ s) (moves : next_state s ≢ s) where
  -- down to one step by remainders; f bounds their number
  down_to_one : (f d : ℕ) → d ≤ f → 0 < d → d < p → state_after d s ≢ s
  down_to_one zero d g h l e = absurd (omega arith)
  down_to_one (suc f) d g h l e =
      ⊎_elim (λ q. moves (sym (after_one s) ∙ subst (λ (n : ℕ). state_after n s ≡ s) (sym q) e))
      (λ m.
      let less : p % d < d = mod-lt p h in
      down_to_one f (p % d) (omega arith) (pos_of_ne-zero (prime d m l)) (omega arith) (remainder_returns s d e p r))
      (eq-or-lt_of_le h)

  prime_first_return : FirstReturn p s
  prime_first_return = record { returns = r; not_before = λ m some less. down_to_one m m (le_refl m) some less }

-- 131,071 is one below 2 ^ 17, and a prime by the divisors up to 362
pub first_return : Period
first_return s e =
    let count : suc period_steps ≡ 2 ^ 17 = omega arith in
    let returns = steps_return period_steps s count (omega (arith, state_high s e)) in
    let prime : Prime period_steps = prime_by_divisors period_steps 362 (omega arith) tt in
    prime_first_return period_steps s prime returns (next_moves s e)
