-- Laws of `bit_xor` that the logic's library lacks. Assumes nothing.
use mathlib.Core.Path.{◌≡◌, sym, ap, ap₂, ◌∙◌}
use Prim.Native.Nat.{ℕ, zero, suc, ◌*◌, ◌/◌, ◌%◌, ◌^◌, ◌<◌}
use native.Mathlib.Nat.{not-suc-le-zero, le_of_suc-le-suc, mod-lt, zero-lt-suc, div-add-mod', add-zero}
use native.Mathlib.Omega.{arith}
use lib.Arith.{digits_mod}
use lib.Bits.{bit_xor, differ, xor_step, xor_comm, xor_self, xor_shr, xor_mod, xor_shifted, xor_zero_r, xor_assoc, xor_block}
use Rattle.frame.specs.Bits.{bit}

-- ---- one digit

-- what holds of 0 and of 1 holds of every digit
pub digit : (P : ℕ → Type 0) → P 0 → P 1 → (x : ℕ) → x < 2 → P x
digit P p q zero h = p
digit P p q (suc zero) h = q
digit P p q (suc (suc x)) h = absurd (not-suc-le-zero (le_of_suc-le-suc (le_of_suc-le-suc h)))

pub parity_lt : (x : ℕ) → x % 2 < 2
parity_lt x = mod-lt x (zero-lt-suc 1)

differ_lt : (x y : ℕ) → x < 2 → y < 2 → differ x y < 2
differ_lt x y hx hy =
    digit (λ (a : ℕ). differ a y < 2) hy (digit (λ (b : ℕ). differ 1 b < 2) (omega arith) (omega arith) y hy) x hx

-- ---- an xor's parity and bits

pub xor_parity : (a b : ℕ) → bit_xor a b % 2 ≡ differ (a % 2) (b % 2)
xor_parity a b =
    ap (λ (x : ℕ). x % 2) (xor_step a b)
    ∙ digits_mod (bit_xor (a / 2) (b / 2)) (differ_lt (a % 2) (b % 2) (parity_lt a) (parity_lt b))

pub xor_bit : (k a b : ℕ) → bit k (bit_xor a b) ≡ bit_xor (bit k a) (bit k b)
xor_bit k a b = ap (λ (n : ℕ). n % 2) (xor_shr a b k) ∙ xor_mod (a / 2 ^ k) (b / 2 ^ k) 1

-- ---- grouping and cancelling

-- the two middle ones change places
pub xor_exchange : (a b c d : ℕ) → bit_xor (bit_xor a b) (bit_xor c d) ≡ bit_xor (bit_xor a c) (bit_xor b d)
xor_exchange a b c d =
    xor_assoc a b (bit_xor c d)
    ∙ ap (bit_xor a) (sym (xor_assoc b c d) ∙ ap (λ (x : ℕ). bit_xor x d) (xor_comm b c) ∙ xor_assoc c b d)
    ∙ sym (xor_assoc a c (bit_xor b d))

-- xor with the same number undoes itself
pub xor_undone : (a b : ℕ) → bit_xor (bit_xor a b) b ≡ a
xor_undone a b = xor_assoc a b b ∙ ap (bit_xor a) (xor_self b) ∙ xor_zero_r a

-- an xor that is 0 is that of two equal numbers
pub xor_equal : (a b : ℕ) → bit_xor a b ≡ 0 → a ≡ b
xor_equal a b e = sym (xor_undone a b) ∙ ap (λ (n : ℕ). bit_xor n b) e

-- what changes nothing is 0
pub xor_same : (a b : ℕ) → bit_xor a b ≡ b → a ≡ 0
xor_same a b e = sym (xor_undone a b) ∙ ap (λ (n : ℕ). bit_xor n b) e ∙ xor_self b

-- ---- by the lowest digit

-- a number is its lowest digit xor the rest
pub xor_parts : (x : ℕ) → x ≡ bit_xor (x % 2) (x / 2 * 2)
xor_parts x = sym (xor_comm (x % 2) (x / 2 * 2) ∙ xor_shifted (x / 2) 1 (x % 2) (parity_lt x) ∙ div-add-mod' x 2)

pub xor_doubled : (x y : ℕ) → bit_xor (x * 2) (y * 2) ≡ bit_xor x y * 2
xor_doubled x y =
    ap₂ bit_xor (sym (add-zero (x * 2))) (sym (add-zero (y * 2)))
    ∙ xor_block 1 x y 0 0 (zero-lt-suc 1) (zero-lt-suc 1) ∙ add-zero (bit_xor x y * 2)
