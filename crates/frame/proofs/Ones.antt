-- Counting the ones among a number's lowest bits, and inverting these bits. Assumes nothing.
use mathlib.Core.Path.{◌≡◌, refl, sym, ap, ap₂, ◌∙◌}
use Prim.Native.Nat.{ℕ, zero, suc, ◌+◌, ◌-◌, ◌*◌, ◌/◌, ◌%◌, ◌^◌, ◌≤◌, ◌<◌}
use native.Mathlib.Nat.{pow-suc}
use native.Mathlib.Omega.{arith}
use lib.Arith.{lt-one}
use lib.Count.{ones_in, ones, ones_step}
use lib.Pow.{shr-shr}
use Rattle.frame.specs.Bits.{bit}

-- bit k + 1 is bit k of the half
bit_suc : (k n : ℕ) → bit (suc k) n ≡ bit k (n / 2)
bit_suc k n =
    let e : 1 + k ≡ suc k = omega arith in
    ap (λ (x : ℕ). x % 2) (ap (λ (j : ℕ). n / 2 ^ j) (sym e) ∙ sym (shr-shr n 1 k))

-- a number of d bits has its ones among them
pub ones_in_lem : (d n : ℕ) → n < 2 ^ d → ones n ≡ ones_in d n
unfolding ones_in ones
ones_in_lem zero n h = ap ones (lt-one h)
ones_in_lem (suc d) n h =
    ones_step n ∙ ap (λ (x : ℕ). n % 2 + x) (ones_in_lem d (n / 2) (let p = pow-suc 2 d in omega arith))

pub ones_le : (d n : ℕ) → ones_in d n ≤ d
unfolding ones_in
ones_le zero n = omega arith
ones_le (suc d) n = omega (arith, ones_le d (n / 2))

-- inverted bits: what was set is not, and the other way round
pub ones_inverted : (d n : ℕ) → n < 2 ^ d → ones_in d (2 ^ d - 1 - n) + ones_in d n ≡ d
unfolding ones_in
ones_inverted zero n h = refl
ones_inverted (suc d) n h =
    let p : 2 ^ suc d ≡ 2 ^ d * 2 = pow-suc 2 d in
    let low : (2 ^ suc d - 1 - n) % 2 + n % 2 ≡ 1 = omega arith in
    let rest : (2 ^ suc d - 1 - n) / 2 ≡ 2 ^ d - 1 - n / 2 = omega arith in
    let ih : ones_in d (2 ^ d - 1 - n / 2) + ones_in d (n / 2) ≡ d = ones_inverted d (n / 2) (omega arith) in
    let e : ones_in d ((2 ^ suc d - 1 - n) / 2) ≡ ones_in d (2 ^ d - 1 - n / 2) = ap (ones_in d) rest in
    omega arith

-- the first a bits and the next b
pub ones_split : (a b n : ℕ) → ones_in (a + b) n ≡ ones_in a n + ones_in b (n / 2 ^ a)
unfolding ones_in
ones_split zero b n =
    let e : 0 + b ≡ b = omega arith in
    let d : n / 1 ≡ n = omega arith in
    ap (λ (k : ℕ). ones_in k n) e ∙ ap (ones_in b) (sym d) ∙ omega arith
ones_split (suc a) b n =
    let e : suc a + b ≡ suc (a + b) = omega arith in
    let f : 1 + a ≡ suc a = omega arith in
    let s : n / 2 / 2 ^ a ≡ n / 2 ^ suc a = shr-shr n 1 a ∙ ap (λ (k : ℕ). n / 2 ^ k) f in
    let t : ones_in b (n / 2 / 2 ^ a) ≡ ones_in b (n / 2 ^ suc a) = ap (ones_in b) s in
    ap (λ (k : ℕ). ones_in k n) e ∙ ap (λ (x : ℕ). n % 2 + x) (ones_split a b (n / 2)) ∙ omega arith

-- Each of the d lowest bits is the other one after inverting.
pub bit_inverted : (k d n : ℕ) → k < d → n < 2 ^ d → bit k (2 ^ d - 1 - n) + bit k n ≡ 1
bit_inverted k zero n h l = absurd (omega arith)
bit_inverted zero (suc d) n h l = let p : 2 ^ suc d ≡ 2 ^ d * 2 = pow-suc 2 d in omega arith
bit_inverted (suc k) (suc d) n h l =
    let p : 2 ^ suc d ≡ 2 ^ d * 2 = pow-suc 2 d in
    let rest : (2 ^ suc d - 1 - n) / 2 ≡ 2 ^ d - 1 - n / 2 = omega arith in
    let ih : bit k (2 ^ d - 1 - n / 2) + bit k (n / 2) ≡ 1 = bit_inverted k d (n / 2) (omega arith) (omega arith) in
    ap₂ ◌+◌ (bit_suc k (2 ^ suc d - 1 - n) ∙ ap (bit k) rest) (bit_suc k n) ∙ ih
