-- Primes: only the divisors up to a number's root need to be tried, since a larger one has a smaller partner. Assumes nothing.
use mathlib.Core.Path.{◌≡◌, refl, sym, ap, ◌∙◌, subst}
use mathlib.Core.Bool.{Bool, true, false}
use mathlib.Core.Logic.{◌⊎◌, inl, inr, ⊎_elim, ◌≢◌}
use Prim.Native.Nat.{ℕ, zero, suc, ◌+◌, ◌*◌, ◌/◌, ◌%◌, ◌≤◌, ◌<◌}
use native.Mathlib.Nat.{eq-or-lt_of_le, le_of_suc-le-suc, div-add-mod', mul-le-mul, mul-mod_right, add-zero, zero-mul, one-mul}
use native.Mathlib.Omega.{arith}
use lib.Dec.{T, eqb}
use Rattle.std.proofs.lemmas.Bool.{cases_lt}

-- no number but 1 and p divides p
abbrev pub Prime : ℕ → Type 0
Prime p = (d : ℕ) → 1 < d → d < p → p % d ≢ 0

-- none of 2 to n divides p
abbrev undivided : ℕ → ℕ → Bool
undivided p zero = true
undivided p (suc zero) = true
undivided p (suc (suc n)) = elim (eqb (p % suc (suc n)) 0) [ true ↦ false | false ↦ undivided p (suc n) ]

last_and_others : (p n : ℕ) → T (undivided p (suc (suc n))) → (p % suc (suc n) ≢ 0) × T (undivided p (suc n))
last_and_others p n = go (eqb (p % suc (suc n)) 0) refl
  where
    go : (b : Bool) → eqb (p % suc (suc n)) 0 ≡ b → T (elim b [ true ↦ false | false ↦ undivided p (suc n) ])
        → (p % suc (suc n) ≢ 0) × T (undivided p (suc n))
    go true e t = absurd t
    go false e t = (λ z. subst T (ap (λ (k : ℕ). eqb k 0) (sym z) ∙ e) tt, t)

none_divides : (p n : ℕ) → T (undivided p n) → (d : ℕ) → 1 < d → d ≤ n → p % d ≢ 0
none_divides p zero t d h l = absurd (omega arith)
none_divides p (suc zero) t d h l = absurd (omega arith)
none_divides p (suc (suc n)) t d h l =
    let tried = last_and_others p n t in
    ⊎_elim (λ e z. tried.0 (ap (λ (k : ℕ). p % k) (sym e) ∙ z))
    (λ m. none_divides p (suc n) tried.1 d h (le_of_suc-le-suc m)) (eq-or-lt_of_le l)

-- Where no number from 2 to n divides p, and p is below the square of n + 1, p is a prime.
module _ (p n : ℕ) (small : p < suc n * suc n) (tried : T (undivided p n)) where
  -- a divisor above n has a partner up to n
  partner : (d q : ℕ) → d < p → n < d → q * d ≢ p
  partner d q l g e = none_divides p n tried q (two q e) (few (cases_lt n q)) (ap (λ (k : ℕ). k % q) (sym e) ∙ mul-mod_right q d)
    where
      two : (r : ℕ) → r * d ≡ p → 1 < r
      two zero w = absurd (omega (arith, zero-mul d))
      two (suc zero) w = absurd (omega (arith, one-mul d))
      two (suc (suc r)) w = omega arith

      few : (n < q) ⊎ (q ≤ n) → q ≤ n
      few (inl h) = absurd (omega (arith, mul-le-mul h g))
      few (inr h) = h

  pub prime_by_divisors : Prime p
  prime_by_divisors d h l z =
      ⊎_elim
      (λ g. partner d (p / d) l g (sym (add-zero (p / d * d)) ∙ ap (λ (k : ℕ). p / d * d + k) (sym z) ∙ div-add-mod' p d))
      (λ m. none_divides p n tried d h m z) (cases_lt n d)
