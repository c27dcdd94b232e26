-- The bits of numbers, bytes and frames. Assumes nothing.
use Prim.Native.Nat.{ℕ, zero, suc, ◌+◌, ◌*◌, ◌/◌, ◌%◌, ◌^◌, ◌<◌}
use mathlib.Core.Path.{◌≡◌, refl, ap, sym, subst, ◌∙◌}
use mathlib.Core.List.{List, [], ◌∷◌, ◌++◌, append_assoc}
use native.Mathlib.Omega.{arith}
use native.Mathlib.Nat.{pow-suc, two-pow-succ}
use lib.ListN.{length, take, drop}
use Rattle.lane_rules.specs.Line.{bits_lsb_first, frame_bits, byte_bits, frame_bytes, AreBits}
use native.Mathlib.Numerals.{add-one}

-- ---- places of bits

pub pow_double : (l : ℕ) → 2 ^ (l + 1) ≡ 2 ^ l + 2 ^ l
pow_double l = rw add-one (two-pow-succ l)

-- above the bits held there is room for one more
pub place_lt : (bits count bit : ℕ) → bits < 2 ^ count → bit < 2 → bits + bit * 2 ^ count < 2 ^ (count + 1)
place_lt bits count zero h k = omega (arith, pow_double count)
place_lt bits count (suc zero) h k = omega (arith, pow_double count)
place_lt bits count (suc (suc bit)) h k = absurd (omega arith)

pub length_bits : (n w : ℕ) → length (bits_lsb_first n w) ≡ n
unfolding bits_lsb_first
length_bits zero w = refl
length_bits (suc n) w = ap suc (length_bits n (w / 2))

-- the number whose bits, bit 0 first, these are
unfoldable pub value : List ℕ → ℕ
value [] = 0
value (b ∷ bs) = b + 2 * value bs

pub value_bits : (n w : ℕ) → w < 2 ^ n → value (bits_lsb_first n w) ≡ w
unfolding value bits_lsb_first
value_bits zero w h = omega arith
value_bits (suc n) w h =
    let l : w / 2 < 2 ^ n = omega (arith, pow-suc 2 n) in
    omega (arith, value_bits n (w / 2) l)

pub are_bits : (n w : ℕ) → AreBits (bits_lsb_first n w)
unfolding bits_lsb_first AreBits
are_bits zero w = tt
are_bits (suc n) w = (omega arith, are_bits n (w / 2))

-- the bits of the number that bits come to
pub bits_value : (bs : List ℕ) → AreBits bs → (bits_lsb_first (length bs) (value bs) ≡ bs) × (value bs < 2 ^ length bs)
unfolding AreBits value bits_lsb_first
bits_value [] h = (refl, omega arith)
bits_value (b ∷ bs) h =
    let later = bits_value bs h.1 in
    let small = h.0 in
    let low : (b + 2 * value bs) % 2 ≡ b = omega arith in
    let high : (b + 2 * value bs) / 2 ≡ value bs = omega arith in
    ((λ i. low i ∷ bits_lsb_first (length bs) (high i)) ∙ ap (λ (l : List ℕ). b ∷ l) later.0, omega (arith, later.1, pow-suc 2 (length bs)))

pub so_many_bits : (n : ℕ) (bs : List ℕ) → AreBits bs → length bs ≡ n → (bits_lsb_first n (value bs) ≡ bs) × (value bs < 2 ^ n)
so_many_bits n bs h e =
    let v = bits_value bs h in
    (subst (λ (k : ℕ). bits_lsb_first k (value bs) ≡ bs) e v.0, subst (λ (k : ℕ). value bs < 2 ^ k) e v.1)

pub are_bits_append : (xs ys : List ℕ) → AreBits xs → AreBits ys → AreBits (xs ++ ys)
unfolding AreBits
are_bits_append [] ys p q = q
are_bits_append (x ∷ xs) ys p q = (p.0, are_bits_append xs ys p.1 q)

pub are_bits_left : (xs ys : List ℕ) → AreBits (xs ++ ys) → AreBits xs
unfolding AreBits
are_bits_left [] ys p = tt
are_bits_left (x ∷ xs) ys p = (p.0, are_bits_left xs ys p.1)

pub are_bits_taken : (n : ℕ) (bs : List ℕ) → AreBits bs → AreBits (take n bs)
unfolding AreBits
are_bits_taken zero bs h = tt
are_bits_taken (suc n) [] h = tt
are_bits_taken (suc n) (b ∷ bs) h = (h.0, are_bits_taken n bs h.1)

pub are_bits_dropped : (n : ℕ) (bs : List ℕ) → AreBits bs → AreBits (drop n bs)
unfolding AreBits
are_bits_dropped zero bs h = h
are_bits_dropped (suc n) [] h = tt
are_bits_dropped (suc n) (b ∷ bs) h = are_bits_dropped n bs h.1

pub byte_bits_lem : (bs : List ℕ) → AreBits (byte_bits bs)
unfolding byte_bits AreBits
byte_bits_lem [] = tt
byte_bits_lem (b ∷ bs) = are_bits_append (bits_lsb_first 8 b) (byte_bits bs) (are_bits 8 b) (byte_bits_lem bs)

pub frame_bits_lem : (ws : List ℕ) → AreBits (frame_bits ws)
unfolding frame_bits AreBits
frame_bits_lem [] = tt
frame_bits_lem (w ∷ ws) = are_bits_append (bits_lsb_first 16 w) (frame_bits ws) (are_bits 16 w) (frame_bits_lem ws)

pub byte_bits_append : (xs ys : List ℕ) → byte_bits (xs ++ ys) ≡ byte_bits xs ++ byte_bits ys
unfolding byte_bits
byte_bits_append [] ys = refl
byte_bits_append (x ∷ xs) ys =
    ap (λ (l : List ℕ). bits_lsb_first 8 x ++ l) (byte_bits_append xs ys) ∙ sym (append_assoc (bits_lsb_first 8 x) (byte_bits xs) (byte_bits ys))

pub frame_bits_append : (xs ys : List ℕ) → frame_bits (xs ++ ys) ≡ frame_bits xs ++ frame_bits ys
unfolding frame_bits
frame_bits_append [] ys = refl
frame_bits_append (x ∷ xs) ys =
    ap (λ (l : List ℕ). bits_lsb_first 16 x ++ l) (frame_bits_append xs ys) ∙ sym (append_assoc (bits_lsb_first 16 x) (frame_bits xs) (frame_bits ys))

-- ---- frames as bytes

pub bytes_append : (xs ys : List ℕ) → frame_bytes (xs ++ ys) ≡ frame_bytes xs ++ frame_bytes ys
unfolding frame_bytes
bytes_append [] ys = refl
bytes_append (w ∷ ws) ys = ap (λ (l : List ℕ). w % 256 ∷ (w / 256 ∷ l)) (bytes_append ws ys)

pub length_bytes : (ws : List ℕ) → length (frame_bytes ws) ≡ 2 * length ws
unfolding frame_bytes
length_bytes [] = refl
length_bytes (w ∷ ws) = omega (arith, length_bytes ws)

-- the k lowest bits do not depend on those above
pub bits_same : (k a b c : ℕ) → a ≡ b + c * 2 ^ k → bits_lsb_first k a ≡ bits_lsb_first k b
unfolding bits_lsb_first
bits_same zero a b c h = refl
bits_same (suc k) a b c h =
    let g : a ≡ b + 2 * (c * 2 ^ k) = omega (arith, rw pow-suc at h) in
    (λ i. same a b (c * 2 ^ k) g i ∷ bits_same k (a / 2) (b / 2) c (half a b (c * 2 ^ k) g) i)
  where
    same : (a b d : ℕ) → a ≡ b + 2 * d → a % 2 ≡ b % 2
    same a b d g = omega arith

    half : (a b d : ℕ) → a ≡ b + 2 * d → a / 2 ≡ b / 2 + d
    half a b d g = omega arith

halved : (w : ℕ) → w / 256 ≡ w / 2 / 2 / 2 / 2 / 2 / 2 / 2 / 2
halved w = omega arith

split_bits : (w : ℕ) → bits_lsb_first 8 w ++ bits_lsb_first 8 (w / 2 / 2 / 2 / 2 / 2 / 2 / 2 / 2) ≡ bits_lsb_first 16 w
unfolding bits_lsb_first
split_bits w = refl

two_bytes : (w : ℕ) → bits_lsb_first 8 (w % 256) ++ bits_lsb_first 8 (w / 256) ≡ bits_lsb_first 16 w
two_bytes w =
    ap (λ (l : List ℕ). l ++ bits_lsb_first 8 (w / 256)) (sym (bits_same 8 w (w % 256) (w / 256) (omega arith)))
    ∙ ap (λ (n : ℕ). bits_lsb_first 8 w ++ bits_lsb_first 8 n) (halved w) ∙ split_bits w

-- the bits of frames are those of their bytes
pub bytes_bits : (ws : List ℕ) → byte_bits (frame_bytes ws) ≡ frame_bits ws
unfolding byte_bits frame_bytes frame_bits
bytes_bits [] = refl
bytes_bits (w ∷ ws) =
    sym (append_assoc (bits_lsb_first 8 (w % 256)) (bits_lsb_first 8 (w / 256)) (byte_bits (frame_bytes ws)))
    ∙ (λ i. two_bytes w i ++ bytes_bits ws i)
