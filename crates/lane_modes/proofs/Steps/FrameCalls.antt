-- What the calls of the crate `frame` answer on a state: they are taken, with these values. Assumes nothing.
use Prim.Native.Nat.{ℕ, ◌+◌, ◌*◌, ◌%◌, ◌≤◌}
use mathlib.Core.Path.{◌≡◌, refl, sym, ◌∙◌}
use mathlib.Core.Bool.{Bool, true, false, false≢true}
use native.Mathlib.Omega.{arith}
use lib.Dec.{eqb}
use borrow.Author.Tests.{ne_eqb}
use Rattle.frame.specs.Scrambler.{is_state, next_state, next_answer}
use Rattle.std.specs.Prelude.{Result, Ok, Err}
use Rattle.refusal.specs.declared.Refusal.{Refusal}
use Rattle.frame.proofs.Laws.{state_range, next_taken}
use Rattle.lane_rules.proofs.Modes.AdmittedKept.{recovered_state}

-- ---- next

pub next_is : (s l : ℕ) (a : Result ℕ Refusal) → is_state s ≡ true → a ≡ next_answer s → a ≡ Ok l → l ≡ next_state s
next_is s l a h e f = same (sym f ∙ e ∙ next_taken s h)
  where
    same : ◌≡◌ {A = Result ℕ Refusal} (Ok l) (Ok (next_state s)) → l ≡ next_state s
    same p = cc

pub next_not_refused : (s : ℕ) (n : Refusal) (a : Result ℕ Refusal) → is_state s ≡ true → a ≡ next_answer s → a ≡ Err n → ⊥
next_not_refused s n a h e f = no (sym f ∙ e ∙ next_taken s h)
  where
    no : Err n ≡ Ok (next_state s) → ⊥
    no p = let z : ◌≡◌ {A = ℕ} 0 1 = cc in absurd (omega arith)

next_refused : (s : ℕ) → is_state s ≡ false → next_answer s ≡ Err Refusal.Record
unfolding next_answer
next_refused s h = rw h

-- what is taken is a state, what is refused is none
pub taken_is_state : (s l : ℕ) (a : Result ℕ Refusal) → a ≡ next_answer s → a ≡ Ok l → is_state s ≡ true
taken_is_state s l a e f = go (is_state s) refl
  where
    no : Ok l ≡ Err Refusal.Record → ⊥
    no p = let z : ◌≡◌ {A = ℕ} 0 1 = cc in absurd (omega arith)

    go : (b : Bool) → is_state s ≡ b → is_state s ≡ true
    go true d = d
    go false d = absurd (no (sym f ∙ e ∙ next_refused s d))

pub refused_is_none : (s : ℕ) (n : Refusal) (a : Result ℕ Refusal) → a ≡ next_answer s → a ≡ Err n → is_state s ≡ false
refused_is_none s n a e f = go (is_state s) refl
  where
    go : (b : Bool) → is_state s ≡ b → is_state s ≡ false
    go true d = absurd (next_not_refused s n a d e f)
    go false d = d

-- ---- the recovered state

-- it is a state unless it is 0
pub recovered_none : (p q : ℕ) → p ≤ 16383 → is_state (p + 16384 * (q % 8)) ≡ false → eqb (p + 16384 * (q % 8)) 0 ≡ true
recovered_none p q h k = go (eqb (p + 16384 * (q % 8)) 0) refl
  where
    go : (b : Bool) → eqb (p + 16384 * (q % 8)) 0 ≡ b → eqb (p + 16384 * (q % 8)) 0 ≡ true
    go true d = d
    go false d = absurd (false≢true (sym k ∙ recovered_state p q h d))

pub state_not_0 : (s : ℕ) → is_state s ≡ true → eqb s 0 ≡ false
state_not_0 s h = ne_eqb s 0 (λ e. omega (arith, state_range s h))
