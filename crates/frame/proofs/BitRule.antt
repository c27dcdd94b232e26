-- The step keeps document 01's rule on bits. Assumes nothing.
use mathlib.Core.Path.{◌≡◌, sym, ap, ap₂, ◌∙◌, subst}
use Prim.Native.Nat.{ℕ, zero, suc, ◌+◌, ◌-◌, ◌*◌, ◌/◌, ◌%◌, ◌^◌, ◌≤◌, ◌<◌}
use native.Mathlib.Nat.{add_comm}
use native.Mathlib.Omega.{arith}
use lib.Pow.{high, shr-shr, field, mod-mod-pow}
use lib.Bits.{bit_xor, xor_lt}
use Rattle.frame.specs.Bits.{bit}
use Rattle.frame.specs.Scrambler.{upper_bits, next_state, Follows}
use Rattle.frame.proofs.Xor.{xor_bit}

-- a bit of a field that begins at bit 0
bit_mod : (n k w : ℕ) → k < w → bit k (n % 2 ^ w) ≡ bit k n
bit_mod n k w h =
    let e : (w - suc k) + 1 + k ≡ w = omega arith in
    subst (λ (v : ℕ). bit k (n % 2 ^ v) ≡ bit k n) e
    (ap (λ (x : ℕ). x % 2) (field n ((w - suc k) + 1) k) ∙ mod-mod-pow (n / 2 ^ k) (w - suc k) 1)

-- a bit of a field that begins at bit j
bit_field : (n j k w : ℕ) → k < w → bit k (n / 2 ^ j % 2 ^ w) ≡ bit (k + j) n
bit_field n j k w h =
    bit_mod (n / 2 ^ j) k w h ∙ ap (λ (x : ℕ). x % 2) (shr-shr n j k ∙ ap (λ (i : ℕ). n / 2 ^ i) (add_comm j k))

-- of a * 8 + c the bits from 3 on are those of a
high_bits : (a c k : ℕ) → c < 2 ^ 3 → bit (3 + k) (a * 2 ^ 3 + c) ≡ bit k a
high_bits a c k h = ap (λ (n : ℕ). n % 2) (sym (shr-shr (a * 2 ^ 3 + c) 3 k) ∙ ap (λ (n : ℕ). n / 2 ^ k) (high a 3 h))

module _ (l : ℕ) where
  low_rule : (k : ℕ) → k < 3 → bit k (next_state l) ≡ bit (k + 14) l
  unfolding next_state
  low_rule zero h = omega arith
  low_rule (suc zero) h = omega arith
  low_rule (suc (suc zero)) h = omega arith
  low_rule (suc (suc (suc k))) h = absurd (omega arith)

  upper_rule : (k : ℕ) → k < 14 → bit k (upper_bits l) ≡ bit_xor (bit k l) (bit (k + 3) l)
  unfolding upper_bits
  upper_rule k h = xor_bit k (l % 2 ^ 14) _ ∙ ap₂ bit_xor (bit_mod l k 14 h) (bit_field l 3 k 14 h)

  high_rule : (k : ℕ) → 3 ≤ k → k ≤ 16 → bit k (next_state l) ≡ bit_xor (bit (k - 3) l) (bit k l)
  unfolding next_state
  high_rule k g h =
      let e : 3 + (k - 3) ≡ k = omega arith in
      let f : k - 3 + 3 ≡ k = omega arith in
      ap (λ (n : ℕ). bit n (next_state l)) (sym e)
      ∙ high_bits (upper_bits l) (l / 2 ^ 14 % 2 ^ 3) (k - 3) (omega arith) ∙ upper_rule (k - 3) (omega arith)
      ∙ ap (λ (n : ℕ). bit_xor (bit (k - 3) l) (bit n l)) f

  pub upper_lt : upper_bits l < 2 ^ 14
  unfolding upper_bits
  upper_lt = xor_lt 14 (l % 2 ^ 14) (l / 2 ^ 3 % 2 ^ 14) (omega arith) (omega arith)

  pub next_lt : next_state l < 2 ^ 17
  unfolding next_state
  next_lt = omega (arith, upper_lt)

  pub next_bits : Follows l (next_state l)
  next_bits = record { low = low_rule; high = high_rule; width = next_lt }
