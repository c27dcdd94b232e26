-- Crossed lines as bits and as bytes. Assumes nothing.
use Prim.Native.Nat.{ℕ, zero, suc, ◌+◌, ◌-◌, ◌*◌, ◌/◌, ◌%◌, ◌^◌, ◌<◌}
use mathlib.Core.Path.{◌≡◌, refl, ap, sym, ◌∙◌}
use mathlib.Core.List.{List, [], ◌∷◌, ◌++◌, map-append}
use native.Mathlib.Nat.{pow-suc}
use native.Mathlib.Omega.{arith}
use lib.ListN.{take, drop}
use Rattle.lane_rules.specs.Line.{bits_lsb_first, byte_bits, AreBits, AreBytes}
use Rattle.lane_rules.specs.Crossed.{crossed_bits, crossed_number}
use Rattle.lane_rules.specs.PromiseCrossed.{EveryBitInverted}
use Rattle.lane_rules.proofs.Basics.Bits.{pow_double}

-- ---- numbers

-- to the inverted bits the next one comes inverted
pub bit_crossed : (n v b : ℕ) → v < 2 ^ n → b < 2
    → crossed_number n v + (1 - b) * 2 ^ n ≡ crossed_number (n + 1) (v + b * 2 ^ n)
bit_crossed n v zero h l = omega (arith, pow_double n)
bit_crossed n v (suc zero) h l = omega (arith, pow_double n)
bit_crossed n v (suc (suc b)) h l = absurd (omega arith)

-- a number's bits are inverted place by place
pub number_crossed : (n w : ℕ) → w < 2 ^ n → bits_lsb_first n (crossed_number n w) ≡ crossed_bits (bits_lsb_first n w)
unfolding bits_lsb_first
number_crossed zero w h = refl
number_crossed (suc n) w h =
    let p : 2 ^ suc n ≡ 2 ^ n * 2 = pow-suc 2 n in
    let low : (2 ^ suc n - 1 - w) % 2 ≡ 1 - w % 2 = omega arith in
    let rest : (2 ^ suc n - 1 - w) / 2 ≡ 2 ^ n - 1 - w / 2 = omega arith in
    let later = ap (bits_lsb_first n) rest ∙ number_crossed n (w / 2) (omega arith) in
    λ i. low i ∷ later i

-- ---- lists of bits

pub are_bits_crossed : (bits : List ℕ) → AreBits (crossed_bits bits)
unfolding AreBits
are_bits_crossed [] = tt
are_bits_crossed (b ∷ bs) = (omega arith, are_bits_crossed bs)

pub crossed_twice : (bits : List ℕ) → AreBits bits → crossed_bits (crossed_bits bits) ≡ bits
unfolding AreBits
crossed_twice [] h = refl
crossed_twice (b ∷ bs) h =
    let l : b < 2 = h.0 in
    let same : 1 - (1 - b) ≡ b = omega arith in
    λ i. same i ∷ crossed_twice bs h.1 i

pub every_bit_inverted : EveryBitInverted
unfolding byte_bits AreBytes
every_bit_inverted [] h = refl
every_bit_inverted (b ∷ bs) h =
    (λ i. number_crossed 8 b h.0 i ++ every_bit_inverted bs h.1 i) ∙ sym (map-append (λ (x : ℕ). 1 - x) (bits_lsb_first 8 b) (byte_bits bs))

-- ---- parts of a line

pub bytes_taken : (n : ℕ) (line : List ℕ) → AreBytes line → AreBytes (take n line)
unfolding AreBytes
bytes_taken zero line h = tt
bytes_taken (suc n) [] h = tt
bytes_taken (suc n) (b ∷ bs) h = (h.0, bytes_taken n bs h.1)

pub bytes_dropped : (n : ℕ) (line : List ℕ) → AreBytes line → AreBytes (drop n line)
unfolding AreBytes
bytes_dropped zero line h = h
bytes_dropped (suc n) [] h = tt
bytes_dropped (suc n) (b ∷ bs) h = bytes_dropped n bs h.1
