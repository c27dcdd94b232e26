-- Document 01, "Scrambler": permitted seeds and the lanes' seeds.
use Rattle.std.specs.Prelude.{◌≡◌, Bool, true, false, not, cond, ◌&&◌, ℕ, zero, suc, ◌*◌, ◌≤◌, ◌<◌, eqb, Result, Ok, Err}
use Rattle.frame.specs.Scrambler.{largest_state, is_state, word_of, next_state, state_after}
use Rattle.refusal.specs.declared.Refusal.{Refusal}

-- "A seed is permitted unless it is 0, above 0x1FFFF, or has the word 0x00FF"
abbrev pub forbidden_word : ℕ
forbidden_word = 0x00FF

unfoldable pub permitted : ℕ → Bool
permitted s = is_state s && not (eqb (word_of s) forbidden_word)

-- What `check_seed` answers. Refusal 1: seed 0 or above 0x1FFFF; then 2: word 0x00FF.
unfoldable pub seed_answer : ℕ → Result Unit Refusal
seed_answer s =
    cond (is_state s) (cond (eqb (word_of s) forbidden_word) (Err Refusal.SeedWord) (Ok tt)) (Err Refusal.SeedRange)

-- the first permitted state from l on, l included, among n states
unfoldable pub first_permitted : ℕ → ℕ → ℕ
first_permitted zero l = l
first_permitted (suc n) l = elim (permitted l) [ true ↦ l | false ↦ first_permitted n (next_state l) ]

-- Of the table of lane seeds "entry k is the first permitted state found 512 × k or more steps after state 1." It is looked for among
-- as many states as there are.
unfoldable pub lane_seed : ℕ → ℕ
lane_seed k = first_permitted largest_state (state_after (512 * k) 1)

-- The same sentence as a property: s is the first permitted state found n or more steps after state 1.
-- At most one number has it (`first_permitted_one` of proofs/Laws.antt).
pub record FirstPermitted (n s : ℕ) : Type 0 where
  pub steps : ℕ
  pub enough : n ≤ steps
  pub found : s ≡ state_after steps 1
  pub is_permitted : permitted s ≡ true
  pub first : (m : ℕ) → n ≤ m → m < steps → permitted (state_after m 1) ≡ false
