-- The scrambler's step: its bounds, and that it commutes with xor, so 2 ^ k steps are k squarings of its 17 columns.
-- Assumes nothing.
use mathlib.Core.Path.{◌≡◌, refl, sym, ap, ap₂, ◌∙◌}
use mathlib.Core.Bool.{true}
use mathlib.Core.List.{List, map}
use Prim.Native.Nat.{ℕ, zero, suc, ◌+◌, ◌*◌, ◌/◌, ◌%◌, ◌^◌, ◌≤◌, ◌<◌}
use native.Mathlib.Nat.{suc-add, zero-add, pos_of_ne-zero}
use native.Mathlib.Omega.{arith}
use lib.Dec.{leb}
use lib.Pow.{shr_mod}
use lib.Bits.{bit_xor, xor_mod, xor_shr, xor_block, xor_lt, xor_self}
use borrow.Author.Tests.{le-leb, leb-true}
use Rattle.std.specs.Prelude.{Ok}
use Rattle.frame.specs.Scrambler.{is_state, upper_bits, next_state, state_after, next_answer}
use Rattle.std.specs.Cmp.{first_so, second_so}
use Rattle.frame.proofs.Xor.{xor_exchange, xor_equal}
use Rattle.frame.proofs.BitRule.{next_lt}
use Rattle.frame.proofs.Linear.{apply, apply_map, columns, columns_apply, doubled, squared}

-- ---- the test of a state

pub state_low : (l : ℕ) → is_state l ≡ true → 1 ≤ l
unfolding is_state
state_low l e = leb-true 1 l (first_so (leb 1 l) (leb l 0x1FFFF) e)

pub state_high : (l : ℕ) → is_state l ≡ true → l ≤ 0x1FFFF
unfolding is_state
state_high l e = leb-true l 0x1FFFF (second_so (leb 1 l) (leb l 0x1FFFF) e)

pub state_in : (l : ℕ) → 1 ≤ l → l ≤ 0x1FFFF → is_state l ≡ true
unfolding is_state
state_in l p h = simp (le-leb 1 l p, le-leb l 0x1FFFF h)

-- ---- one step

pub next_low : (l : ℕ) → l < 2 ^ 17 → next_state l % 8 ≡ l / 2 ^ 14
unfolding next_state
next_low l h = omega arith

next_kernel : (l : ℕ) → l < 2 ^ 17 → next_state l ≡ 0 → l ≡ 0
unfolding next_state upper_bits
next_kernel l h e =
    let none : upper_bits l ≡ 0 = omega arith in
    let same = xor_equal (l % 2 ^ 14) _ none in
    let high : l / 2 ^ 14 % 2 ^ 3 ≡ 0 = omega arith in
    let top : l / 2 ^ 14 ≡ 0 = sym (shr_mod 3 14 h) ∙ high in
    let eighth : l ≡ l / 2 ^ 3 = omega arith in
    omega arith

pub next_state_lem : (l : ℕ) → is_state l ≡ true → is_state (next_state l) ≡ true
next_state_lem l e =
    let low = state_low l e in
    let high = state_high l e in
    state_in (next_state l)
    (pos_of_ne-zero (λ z. let d : l ≡ 0 = next_kernel l (omega arith) z in omega arith))
    (omega (arith, next_lt l))

pub next_taken : (l : ℕ) → is_state l ≡ true → next_answer l ≡ Ok (next_state l)
unfolding next_answer
next_taken l e = simp e

-- a field of bits of an xor
field_xor : (x y j k : ℕ) → bit_xor x y / 2 ^ j % 2 ^ k ≡ bit_xor (x / 2 ^ j % 2 ^ k) (y / 2 ^ j % 2 ^ k)
field_xor x y j k = ap (λ (n : ℕ). n % 2 ^ k) (xor_shr x y j) ∙ xor_mod (x / 2 ^ j) (y / 2 ^ j) k

upper_xor : (x y : ℕ) → upper_bits (bit_xor x y) ≡ bit_xor (upper_bits x) (upper_bits y)
unfolding upper_bits
upper_xor x y =
    ap₂ bit_xor (xor_mod x y 14) (field_xor x y 3 14)
    ∙ xor_exchange (x % 2 ^ 14) (y % 2 ^ 14) _ _

pub next_xor : (x y : ℕ) → next_state (bit_xor x y) ≡ bit_xor (next_state x) (next_state y)
unfolding next_state
next_xor x y =
    ap₂ (λ (a b : ℕ). a * 2 ^ 3 + b) (upper_xor x y) (field_xor x y 14 3)
    ∙ sym (xor_block 3 (upper_bits x) (upper_bits y) (x / 2 ^ 14 % 2 ^ 3) (y / 2 ^ 14 % 2 ^ 3) (omega arith) (omega arith))

-- the step can be undone
pub next_injective : (x y : ℕ) → x < 2 ^ 17 → y < 2 ^ 17 → next_state x ≡ next_state y → x ≡ y
next_injective x y hx hy e =
    xor_equal x y (next_kernel (bit_xor x y) (xor_lt 17 x y hx hy)
    (next_xor x y ∙ ap (λ (n : ℕ). bit_xor n (next_state y)) e ∙ xor_self (next_state y)))

-- ---- many steps

pub after_zero : (l : ℕ) → state_after 0 l ≡ l
unfolding state_after
after_zero l = refl

pub after_one : (l : ℕ) → state_after 1 l ≡ next_state l
unfolding state_after
after_one l = refl

pub after_suc : (n l : ℕ) → state_after (suc n) l ≡ next_state (state_after n l)
unfolding state_after
after_suc n l = refl

pub after_lt : (n l : ℕ) → l < 2 ^ 17 → state_after n l < 2 ^ 17
unfolding state_after
after_lt zero l h = h
after_lt (suc n) l h = next_lt (state_after n l)

pub after_state : (n l : ℕ) → is_state l ≡ true → is_state (state_after n l) ≡ true
unfolding state_after
after_state zero l e = e
after_state (suc n) l e = next_state_lem (state_after n l) (after_state n l e)

pub after_add : (m n l : ℕ) → state_after (m + n) l ≡ state_after m (state_after n l)
unfolding state_after
after_add zero n l = ap (λ (k : ℕ). state_after k l) (zero-add n)
after_add (suc m) n l = ap (λ (k : ℕ). state_after k l) (suc-add m n) ∙ ap next_state (after_add m n l)

pub after_injective : (n x y : ℕ) → x < 2 ^ 17 → y < 2 ^ 17 → state_after n x ≡ state_after n y → x ≡ y
unfolding state_after
after_injective zero x y hx hy e = e
after_injective (suc n) x y hx hy e =
    after_injective n x y hx hy (next_injective (state_after n x) (state_after n y) (after_lt n x hx) (after_lt n y hy) e)

-- ---- many steps at once

unfoldable pub step_columns : List ℕ
step_columns = columns 17 next_state

-- m steps are the map of these columns
abbrev pub StepsBy : ℕ → List ℕ → Type 0
StepsBy m cs = (x : ℕ) → x < 2 ^ 17 → state_after m x ≡ apply cs x

pub one_step : StepsBy 1 step_columns
unfolding step_columns state_after next_state upper_bits
one_step x h = columns_apply 17 next_state refl (λ a b p q. next_xor a b) x h

steps_squared : (k m : ℕ) (cs : List ℕ) → StepsBy m cs → StepsBy (doubled k m) (squared k cs)
unfolding squared
steps_squared zero m cs r = r
steps_squared (suc k) m cs r =
    steps_squared k (m + m) (map (apply cs) cs)
    (λ x h. after_add m m x ∙ r (state_after m x) (after_lt m x h) ∙ ap (apply cs) (r x h) ∙ sym (apply_map cs cs x))

-- 2 ^ k steps
pub steps_power : (k : ℕ) → StepsBy (doubled k 1) (squared k step_columns)
steps_power k = steps_squared k 1 step_columns one_step
