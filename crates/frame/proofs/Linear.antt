-- Maps on binary digits that commute with xor, as lists of columns: column i is what digit i alone gives.
-- A map applied twice is its columns' images, so 2 ^ k applications are k squarings, which the checker computes.
-- Assumes nothing.
use mathlib.Core.Path.{◌≡◌, refl, sym, ap, ap₂, ◌∙◌}
use mathlib.Core.List.{List, [], ◌∷◌, map}
use Prim.Native.Nat.{ℕ, zero, suc, ◌+◌, ◌*◌, ◌/◌, ◌%◌, ◌^◌, ◌<◌}
use native.Mathlib.Nat.{pow-suc}
use native.Mathlib.Omega.{arith}
use lib.Arith.{lt-one}
use lib.Pow.{pow_pos}
use lib.Bits.{bit_xor, differ, xor_self, xor_shr, xor_zero_r}
use Rattle.frame.proofs.Xor.{digit, parity_lt, xor_parity, xor_exchange, xor_parts, xor_doubled}

-- the column where the digit is set
abbrev pub scale : ℕ → ℕ → ℕ
scale zero c = zero
scale (suc n) c = c

-- the xor of the columns at the digits of x that are set
abbrev pub apply : List ℕ → ℕ → ℕ
apply [] x = zero
apply (c ∷ cs) x = bit_xor (scale (x % 2) c) (apply cs (x / 2))

-- ---- `apply cs` commutes with xor

scale_differ : (c p q : ℕ) → p < 2 → q < 2 → scale (differ p q) c ≡ bit_xor (scale p c) (scale q c)
scale_differ c p q hp hq =
    digit (λ (a : ℕ). scale (differ a q) c ≡ bit_xor (scale a c) (scale q c)) refl
    (digit (λ (b : ℕ). scale (differ 1 b) c ≡ bit_xor c (scale b c)) (sym (xor_zero_r c)) (sym (xor_self c)) q hq) p hp

apply_xor : (cs : List ℕ) (x y : ℕ) → apply cs (bit_xor x y) ≡ bit_xor (apply cs x) (apply cs y)
apply_xor [] x y = refl
apply_xor (c ∷ cs) x y =
    ap₂ (λ (a b : ℕ). bit_xor (scale a c) (apply cs b)) (xor_parity x y) (xor_shr x y 1)
    ∙ ap₂ bit_xor (scale_differ c (x % 2) (y % 2) (parity_lt x) (parity_lt y)) (apply_xor cs (x / 2) (y / 2))
    ∙ xor_exchange (scale (x % 2) c) (scale (y % 2) c) (apply cs (x / 2)) (apply cs (y / 2))

apply_zero : (cs : List ℕ) → apply cs 0 ≡ 0
apply_zero [] = refl
apply_zero (c ∷ cs) = apply_zero cs

apply_scale : (cs : List ℕ) (n c : ℕ) → apply cs (scale n c) ≡ scale n (apply cs c)
apply_scale cs zero c = apply_zero cs
apply_scale cs (suc n) c = refl

-- one map after another: the columns' images
pub apply_map : (cs ds : List ℕ) (x : ℕ) → apply (map (apply cs) ds) x ≡ apply cs (apply ds x)
apply_map cs [] x = sym (apply_zero cs)
apply_map cs (d ∷ ds) x =
    ap₂ bit_xor (sym (apply_scale cs (x % 2) d)) (apply_map cs ds (x / 2))
    ∙ sym (apply_xor cs (scale (x % 2) d) (apply ds (x / 2)))

-- ---- a map that commutes with xor is its columns

-- f commutes with xor on numbers of n digits
abbrev pub Additive : ℕ → (ℕ → ℕ) → Type 0
Additive n f = (x y : ℕ) → x < 2 ^ n → y < 2 ^ n → f (bit_xor x y) ≡ bit_xor (f x) (f y)

-- what the lowest n digits give, each alone
abbrev pub columns : ℕ → (ℕ → ℕ) → List ℕ
columns zero f = []
columns (suc n) f = f 1 ∷ columns n (λ x. f (x * 2))

pub columns_apply : (n : ℕ) (f : ℕ → ℕ) → f 0 ≡ 0 → Additive n f → (x : ℕ) → x < 2 ^ n → f x ≡ apply (columns n f) x
columns_apply zero f z h x l = ap f (lt-one l) ∙ z
columns_apply (suc n) f z h x l =
    ap f (xor_parts x)
    ∙ h (x % 2) (x / 2 * 2) (omega (arith, pow-suc 2 n, pow_pos n)) (omega (arith, pow-suc 2 n))
    ∙ ap₂ bit_xor (digit (λ (d : ℕ). f d ≡ scale d (f 1)) z refl (x % 2) (parity_lt x))
    (columns_apply n (λ y. f (y * 2)) z
    (λ a b ha hb. ap f (sym (xor_doubled a b)) ∙ h (a * 2) (b * 2) (omega (arith, pow-suc 2 n)) (omega (arith, pow-suc 2 n)))
    (x / 2) (omega (arith, pow-suc 2 n)))

-- ---- squarings

-- m doubled k times
abbrev pub doubled : ℕ → ℕ → ℕ
doubled zero m = m
doubled (suc k) m = doubled k (m + m)

-- the columns of a map, squared k times
unfoldable pub squared : ℕ → List ℕ → List ℕ
squared zero cs = cs
squared (suc k) cs = squared k (map (apply cs) cs)
