-- Permitted seeds: what the test shows, and that it agrees with the answer of `check_seed`. Assumes nothing.
use mathlib.Core.Path.{◌≡◌, refl}
use mathlib.Core.Bool.{Bool, true, false, not, cond, ◌&&◌}
use Prim.Native.Nat.{ℕ}
use native.Mathlib.Omega.{arith}
use lib.Dec.{eqb}
use borrow.Author.Tests.{eqb-false, not-true}
use Rattle.std.specs.Prelude.{Ok, Err}
use Rattle.frame.specs.Scrambler.{is_state, word_of}
use Rattle.frame.specs.Seeds.{permitted, seed_answer}
use Rattle.frame.specs.Answers.{checked_values}
use Rattle.refusal.specs.declared.Refusal.{Refusal}
use Rattle.std.specs.Cmp.{first_so, second_so}

module _ (s : ℕ) (e : permitted s ≡ true) where
  pub permitted_state : is_state s ≡ true
  unfolding permitted
  permitted_state = first_so (is_state s) (not (eqb (word_of s) 0x00FF)) e

  other_word : eqb (word_of s) 0x00FF ≡ false
  unfolding permitted
  other_word = not-true (eqb (word_of s) 0x00FF) (second_so (is_state s) (not (eqb (word_of s) 0x00FF)) e)

  pub permitted_word : word_of s ≡ 0x00FF → ⊥
  permitted_word = eqb-false (word_of s) 0x00FF other_word

  pub permitted_taken : checked_values (seed_answer s) ≡ 0
  unfolding seed_answer
  permitted_taken = simp (permitted_state, other_word)

pub taken_permitted : (s : ℕ) → checked_values (seed_answer s) ≡ 0 → permitted s ≡ true
unfolding permitted seed_answer
taken_permitted s e = go (is_state s) (eqb (word_of s) 0x00FF) e
  where
    go : (a b : Bool) → checked_values (cond a (cond b (Err Refusal.SeedWord) (Ok tt)) (Err Refusal.SeedRange)) ≡ 0
        → (a && not b) ≡ true
    go true true h = absurd (omega arith)
    go true false h = refl
    go false b h = absurd (omega arith)
