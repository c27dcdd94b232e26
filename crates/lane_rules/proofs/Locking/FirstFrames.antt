-- The first two frames after the alignment frames, of a permitted seed: Flash goes to First, and First recovers the seed. Assumes
-- nothing.
use Prim.Native.Nat.{ℕ, ◌+◌, ◌*◌, ◌%◌}
use mathlib.Core.Path.{◌≡◌, refl, ap, sym, ◌∙◌}
use mathlib.Core.Bool.{true}
use native.Mathlib.Omega.{arith}
use borrow.Author.Tests.{eq-eqb, ne_eqb}
use Rattle.frame.specs.Scrambler.{is_state, word_of, next_state}
use Rattle.frame.specs.Seeds.{permitted}
use Rattle.frame.specs.Frame.{reading_of, uninverted}
use Rattle.frame.proofs.Laws.{state_range, state_recovered, permitted_word}
use Rattle.lane_rules.specs.Receiver.{no_bits}
use Rattle.lane_rules.specs.Judging.{clock_of, scrambled_of, judge_flash, recovered, proves, first_by, judge_first}
use Rattle.lane_rules.specs.Judging.{judge_of}
use Rattle.lane_rules.specs.declared.Mode.TheVariants.{Flash, First, Prove}

-- the data of an alignment frame, which no permitted seed has as its word
alignment_data : scrambled_of 0xFF00 ≡ 0x00FF
unfolding reading_of uninverted
alignment_data = refl

-- Flash, on the first frame: it is no alignment frame
pub flash_first : (s w : ℕ) → permitted s ≡ true → scrambled_of w ≡ word_of s → clock_of w ≡ 0
    → (judge_of (Flash no_bits 0x00FF) w).mode ≡ First no_bits (word_of s) 0
unfolding judge_of judge_flash
flash_first s w p d e =
    rw (ne_eqb w 0xFF00 (λ x. permitted_word s p (sym d ∙ ap (λ (y : ℕ). scrambled_of y) x ∙ alignment_data)), d, e)

-- First, on the next frame: the seed is recovered
pub first_prove : (s w : ℕ) → is_state s ≡ true → scrambled_of w ≡ word_of (next_state s) → clock_of w ≡ 1
    → (judge_of (First no_bits (word_of s) 0) w).mode ≡ Prove no_bits 2 (next_state (next_state s)) 1
unfolding judge_of judge_first first_by recovered proves
first_prove s w h d e =
    let r : word_of s + 16384 * (scrambled_of w % 8) ≡ s = ap (λ (q : ℕ). word_of s + 16384 * (q % 8)) d ∙ state_recovered s h in
    let live = ne_eqb s 0 (λ x. omega (arith, (state_range s h).0)) in
    rw (e, r, live, eq-eqb (scrambled_of w) (word_of (next_state s)) d)
