-- Document 01, "Scrambler": states, their words and the step.
use Rattle.std.specs.Prelude.{◌≡◌, Bool, cond, ◌&&◌, ℕ, zero, suc, ◌+◌, ◌-◌, ◌*◌, ◌/◌, ◌%◌, ◌^◌, ◌≤◌, ◌<◌, leb, Result, Ok, Err}
use Rattle.std.specs.Int.Bits.{bit_xor}
use Rattle.frame.specs.Bits.{bit}
use Rattle.refusal.specs.declared.Refusal.{Refusal}

-- "A state has 17 bits, L(0) lowest, and is 1 to 0x1FFFF."
abbrev pub largest_state : ℕ
largest_state = 0x1FFFF

unfoldable pub is_state : ℕ → Bool
is_state l = leb 1 l && leb l largest_state

-- "Its word is bits 13 to 0."
abbrev pub word_of : ℕ → ℕ
word_of l = l % 2 ^ 14

-- "Next state: N(0), N(1), N(2) are L(14), L(15), L(16); for k from 3 to 16, N(k) = L(k−3) xor L(k)."
-- N(16) to N(3): L(13) to L(0) xor L(16) to L(3)
unfoldable pub upper_bits : ℕ → ℕ
upper_bits l = bit_xor (l % 2 ^ 14) (l / 2 ^ 3 % 2 ^ 14)

-- below them L(16) to L(14)
unfoldable pub next_state : ℕ → ℕ
next_state l = upper_bits l * 2 ^ 3 + l / 2 ^ 14 % 2 ^ 3

-- The same rule bit by bit: n follows l. That `next_state` keeps it is `next_bits` of proofs/Laws.antt.
pub record Follows (l n : ℕ) : Type 0 where
  pub low : (k : ℕ) → k < 3 → bit k n ≡ bit (k + 14) l
  pub high : (k : ℕ) → 3 ≤ k → k ≤ 16 → bit k n ≡ bit_xor (bit (k - 3) l) (bit k l)
  pub width : n < 2 ^ 17

-- the state n steps after l
unfoldable pub state_after : ℕ → ℕ → ℕ
state_after zero l = l
state_after (suc n) l = next_state (state_after n l)

-- What `next` answers. Refusal 3: a state outside its range.
unfoldable pub next_answer : ℕ → Result ℕ Refusal
next_answer l = cond (is_state l) (Ok (next_state l)) (Err Refusal.Record)
