-- Powers of two and places of bits. Assumes nothing.
use Prim.Native.Nat.{ℕ, ◌+◌, ◌*◌, ◌%◌, ◌^◌, ◌≤◌, ◌<◌}
use mathlib.Core.Path.{◌≡◌, ap, sym, ◌∙◌}
use native.Mathlib.Nat.{add-mul, mul_assoc, mul_comm}
use native.Mathlib.Omega.{arith}
use lib.Arith.{digits_lt}
use lib.Pow.{shl_exact, pow-add}

-- a byte at place l of a number of 32 bits
pub byte_at : (x l : ℕ) → x < 256 → l ≤ 24 → (x * 2 ^ l) % 2 ^ 32 ≡ x * 2 ^ l
byte_at x l h k = shl_exact {a = x} 8 l 32 (omega arith) (omega arith)

-- above the bits held there is room for it
pub byte_lt : (bits count x : ℕ) → bits < 2 ^ count → x < 256 → bits + x * 2 ^ count < 2 ^ (count + 8)
byte_lt bits count x h k =
    let e : 2 ^ (count + 8) ≡ 2 ^ count * 256 = pow-add 2 count 8 in
    omega (arith, digits_lt {q = x} {m = 256} {r = bits} {c = 2 ^ count} k h)

-- two bytes at once
pub pair_at : (x y l : ℕ) → x < 256 → y < 256 → l < 8 → ((x + y * 256) * 2 ^ l) % 2 ^ 32 ≡ (x + y * 256) * 2 ^ l
pair_at x y l h k j = shl_exact {a = x + y * 256} 16 l 32 (omega arith) (omega arith)

pub pair_is : (bits x y l : ℕ) → bits + (x + y * 256) * 2 ^ l ≡ bits + x * 2 ^ l + y * 2 ^ (l + 8)
pair_is bits x y l =
    let e : 256 * 2 ^ l ≡ 2 ^ (l + 8) = mul_comm 256 (2 ^ l) ∙ sym (pow-add 2 l 8) in
    omega (arith, add-mul x (y * 256) (2 ^ l), mul_assoc y 256 (2 ^ l), ap (λ (q : ℕ). y * q) e)
