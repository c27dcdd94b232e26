-- The pigeonhole principle: a map of the numbers below n to numbers below n that sends no two to the same one reaches each of them.
-- Assumes nothing.
use mathlib.Core.Path.{◌≡◌, refl, sym, ◌∙◌, subst}
use mathlib.Core.Bool.{Bool, true, false, cond}
use mathlib.Core.Logic.{◌≢◌, ⊎_elim}
use Prim.Native.Nat.{ℕ, zero, suc, ◌<◌}
use native.Mathlib.Nat.{eq-or-lt_of_le, le_of_suc-le-suc}
use native.Mathlib.Omega.{arith}
use lib.Dec.{eqb}
use borrow.Author.Tests.{eqb-true, eqb-false}

pub record OneToOne (n : ℕ) (f : ℕ → ℕ) : Type 0 where
  pub into : (i : ℕ) → i < n → f i < n
  pub apart : (i j : ℕ) → i < n → j < n → f i ≡ f j → i ≡ j

-- f reaches t from a number below n
pub record Reached (n : ℕ) (f : ℕ → ℕ) (t : ℕ) : Type 0 where
  pub from : ℕ
  pub below : from < n
  pub image : f from ≡ t

-- f with n taken out of its images: where f gives n, what f gives at n instead
abbrev without : ℕ → (ℕ → ℕ) → ℕ → ℕ
without n f i = cond (eqb (f i) n) (f n) (f i)

module _ (n : ℕ) (f : ℕ → ℕ) (h : OneToOne (suc n) f) where
  -- what holds of `without n f i` by its two cases
  by_cases : (P : ℕ → Type 0) (i : ℕ) → (f i ≡ n → P (f n)) → (f i ≢ n → P (f i)) → P (without n f i)
  by_cases P i same other = go (eqb (f i) n) refl
    where
      go : (b : Bool) → eqb (f i) n ≡ b → P (cond b (f n) (f i))
      go true e = same (eqb-true (f i) n e)
      go false e = other (eqb-false (f i) n e)

  -- what f gives at n it gives nowhere below
  once : (i : ℕ) → i < n → f i ≢ f n
  once i l e = let same : i ≡ n = h.apart i n (omega arith) (omega arith) e in absurd (omega arith)

  without_into : (i : ℕ) → i < n → without n f i < n
  without_into i l =
      by_cases (λ (x : ℕ). x < n) i
      (λ e. let other : f n ≢ n = λ g. once i l (e ∙ sym g) in let low = h.into n (omega arith) in omega arith)
      (λ other. let low = h.into i (omega arith) in omega arith)

  without_apart : (i j : ℕ) → i < n → j < n → without n f i ≡ without n f j → i ≡ j
  without_apart i j li lj =
      by_cases (λ (x : ℕ). x ≡ without n f j → i ≡ j) i
      (λ ei. by_cases (λ (y : ℕ). f n ≡ y → i ≡ j) j
      (λ ej s. h.apart i j (omega arith) (omega arith) (ei ∙ sym ej)) (λ oj s. absurd (once j lj (sym s))))
      (λ oi. by_cases (λ (y : ℕ). f i ≡ y → i ≡ j) j
      (λ ej s. absurd (once i li s)) (λ oj s. h.apart i j (omega arith) (omega arith) s))

  without_one_to_one : OneToOne n (without n f)
  without_one_to_one = record { into = without_into; apart = without_apart }

  -- a number below n, from what reaches it without n
  reached_below : (t : ℕ) → Reached n (without n f) t → Reached (suc n) f t
  reached_below t r =
      by_cases (λ (x : ℕ). x ≡ t → Reached (suc n) f t) r.from
      (λ e s. record { from = n; below = omega arith; image = s })
      (λ o s. record { from = r.from; below = let l = r.below in omega arith; image = s }) r.image

  -- n itself, from what reaches f n without n
  reached_last : Reached n (without n f) (f n) → Reached (suc n) f n
  reached_last r =
      by_cases (λ (x : ℕ). x ≡ f n → Reached (suc n) f n) r.from
      (λ e s. record { from = r.from; below = let l = r.below in omega arith; image = e })
      (λ o s. absurd (once r.from r.below s)) r.image

pub all_reached : (n : ℕ) (f : ℕ → ℕ) → OneToOne n f → (t : ℕ) → t < n → Reached n f t
all_reached zero f h t l = absurd (omega arith)
all_reached (suc n) f h t l =
    let fewer : (u : ℕ) → u < n → Reached n (without n f) u = all_reached n (without n f) (without_one_to_one n f h) in
    ⊎_elim
    (λ e. subst (Reached (suc n) f) (sym e)
    (⊎_elim (λ g. record { from = n; below = omega arith; image = g }) (λ g. reached_last n f h (fewer (f n) g))
    (eq-or-lt_of_le (le_of_suc-le-suc (h.into n (omega arith))))))
    (λ m. reached_below n f h t (fewer t m))
    (eq-or-lt_of_le (le_of_suc-le-suc l))
