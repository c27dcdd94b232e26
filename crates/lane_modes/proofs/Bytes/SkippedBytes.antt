-- A byte in Hunt that can end no two alignment frames. Assumes nothing.
use Prim.Native.Nat.{ℕ, zero, suc, ◌+◌, ◌-◌, ◌*◌, ◌/◌, ◌%◌, ◌^◌, ◌≤◌, ◌<◌}
use mathlib.Core.Path.{◌≡◌, refl, ap, sym, ◌∙◌}
use mathlib.Core.Bool.{true, false, not}
use mathlib.Core.Logic.{⊎_elim}
use native.Mathlib.Omega.{arith}
use lib.Dec.{eqb}
use borrow.Author.Tests.{eqb-false, not-true}
use Rattle.std.specs.Cmp.{first_so, second_so}
use Rattle.lane_rules.specs.Line.{bits_lsb_first}
use Rattle.lane_rules.specs.Receiver.{no_bits}
use Rattle.lane_rules.specs.Collecting.{alignment_pair, is_alignment, hunt_with, hunt_of, step_of}
use Rattle.lane_rules.specs.Feeding.{run_of}
use Rattle.lane_rules.specs.declared.Mode.{Mode}
use Rattle.lane_rules.specs.declared.Mode.TheVariants.{Hunt, Flash}
use Rattle.lane_modes.specs.PrivateCalls.{is_mixed}
use Rattle.lane_rules.proofs.Basics.Tests.{is_one_of}
use Rattle.std.proofs.lemmas.Bool.{cond_both}

-- the 32 bits held with one more
abbrev shifted : ℕ → ℕ → ℕ
shifted b y = b / 2 + y * 2 ^ 31

-- a bit after which n are left of a byte: where the 9 bits then lie, what they are in two alignment frames, and the bits held in the end
record Shift (n : ℕ) : Type 0 where
  middle : (b y : ℕ) → shifted b y / 2 ^ (8 + n) % 512 ≡ b / 2 ^ (9 + n) % 512
  ones : 0x00FFFF00 / 2 ^ (8 + n) % 512 ≡ 511
  zeros : 0xFF0000FF / 2 ^ (8 + n) % 512 ≡ 0
  joins : (b z : ℕ) → shifted b (z % 2) / 2 ^ n + z / 2 % 2 ^ n * 2 ^ (32 - n) ≡ b / 2 ^ (n + 1) + z % 2 ^ (n + 1) * 2 ^ (31 - n)

shifts : (n : ℕ) → n < 8 → Shift n
shifts zero h = record { middle = λ b y. omega arith; ones = refl; zeros = refl; joins = λ b z. omega arith }
shifts (suc zero) h = record { middle = λ b y. omega arith; ones = refl; zeros = refl; joins = λ b z. omega arith }
shifts (suc (suc zero)) h = record { middle = λ b y. omega arith; ones = refl; zeros = refl; joins = λ b z. omega arith }
shifts (suc (suc (suc zero))) h = record { middle = λ b y. omega arith; ones = refl; zeros = refl; joins = λ b z. omega arith }
shifts (suc (suc (suc (suc zero)))) h = record { middle = λ b y. omega arith; ones = refl; zeros = refl; joins = λ b z. omega arith }
shifts (suc (suc (suc (suc (suc zero))))) h =
    record { middle = λ b y. omega arith; ones = refl; zeros = refl; joins = λ b z. omega arith }
shifts (suc (suc (suc (suc (suc (suc zero)))))) h =
    record { middle = λ b y. omega arith; ones = refl; zeros = refl; joins = λ b z. omega arith }
shifts (suc (suc (suc (suc (suc (suc (suc zero))))))) h =
    record { middle = λ b y. omega arith; ones = refl; zeros = refl; joins = λ b z. omega arith }
shifts (suc (suc (suc (suc (suc (suc (suc (suc n)))))))) h = absurd (omega arith)

-- the 9 bits are neither all zeros nor all ones
module _ (m : ℕ) (some : m ≡ 0 → ⊥) (mixed : m ≡ 511 → ⊥) where
  hunts_on : (n c : ℕ) → Shift n → c / 2 ^ (8 + n) % 512 ≡ m → hunt_with c 32 ≡ Hunt c 32
  unfolding hunt_with alignment_pair
  hunts_on n c s e =
      let other : c ≡ 0x00FFFF00 → ⊥ = λ d. mixed (sym e ∙ ap (λ (x : ℕ). x / 2 ^ (8 + n) % 512) d ∙ s.ones) in
      let same : c ≡ 0xFF0000FF → ⊥ = λ d. some (sym e ∙ ap (λ (x : ℕ). x / 2 ^ (8 + n) % 512) d ∙ s.zeros) in
      cond_both (is_alignment c 32) (Flash no_bits (c / 2 ^ 16)) (Hunt c 32) (λ (m : Mode). m ≡ Hunt c 32)
      (λ t. absurd (⊎_elim other same (is_one_of c _ _ (second_so (eqb 32 32) _ t)))) (λ t. refl)

  skips : (n b z : ℕ) → n ≤ 8 → b / 2 ^ (8 + n) % 512 ≡ m
      → (run_of (Hunt b 32) (bits_lsb_first n z)).mode ≡ Hunt (b / 2 ^ n + z % 2 ^ n * 2 ^ (32 - n)) 32
  unfolding run_of bits_lsb_first step_of hunt_of
  skips zero b z h e = let f : b ≡ b / 1 + z % 1 * 2 ^ 32 = omega arith in ap (λ (x : ℕ). Hunt x 32) f
  skips (suc n) b z h e =
      let s = shifts n (omega arith) in
      let c : ℕ = shifted b (z % 2) in
      let next : 9 + n ≡ 8 + suc n = omega arith in
      let there : c / 2 ^ (8 + n) % 512 ≡ m = s.middle b (z % 2) ∙ ap (λ (k : ℕ). b / 2 ^ k % 512) next ∙ e in
      let more : n + 1 ≡ suc n = omega arith in
      let less : 31 - n ≡ 32 - suc n = omega arith in
      ap (λ (d : Mode). (run_of d (bits_lsb_first n (z / 2))).mode) (hunts_on n c s there)
      ∙ skips n c (z / 2) (omega arith) there ∙ ap (λ (x : ℕ). Hunt x 32) (s.joins b z)
      ∙ (λ i. Hunt (b / 2 ^ more i + z % 2 ^ more i * 2 ^ less i) 32)

pub byte_skipped : (b n x : ℕ) → n ≡ 32 → is_mixed b ≡ true → x < 256
    → Hunt (b / 256 + x * 16777216) 32 ≡ (run_of (Hunt b n) (bits_lsb_first 8 x)).mode
unfolding is_mixed
byte_skipped b n x k e h =
    let m : ℕ = b / 65536 % 512 in
    let some : eqb m 0 ≡ false = not-true (eqb m 0) (first_so (not (eqb m 0)) _ e) in
    let mixed : eqb m 511 ≡ false = not-true (eqb m 511) (second_so (not (eqb m 0)) _ e) in
    let f : b / 256 + x * 16777216 ≡ b / 256 + x % 256 * 16777216 = omega arith in
    ap (λ (y : ℕ). Hunt y 32) f ∙ sym (skips m (eqb-false m 0 some) (eqb-false m 511 mixed) 8 b x (omega arith) refl)
    ∙ ap (λ (i : ℕ). (run_of (Hunt b i) (bits_lsb_first 8 x)).mode) (sym k)
