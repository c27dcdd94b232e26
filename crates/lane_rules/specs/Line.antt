-- Document 01, "Frame": the line. "Bit 0 goes first on the line. As bytes, the low byte is first, and bit 0 of each byte is earliest."
use Rattle.std.specs.Prelude.{ℕ, zero, suc, ◌/◌, ◌%◌, ◌<◌, List, [], ◌∷◌, ◌++◌}

-- the n lowest bits of a number, bit 0 first
unfoldable pub bits_lsb_first : ℕ → ℕ → List ℕ
bits_lsb_first zero w = []
bits_lsb_first (suc n) w = w % 2 ∷ bits_lsb_first n (w / 2)

-- frames as bits, end to end
unfoldable pub frame_bits : List ℕ → List ℕ
frame_bits [] = []
frame_bits (w ∷ ws) = bits_lsb_first 16 w ++ frame_bits ws

-- bytes as bits, end to end
unfoldable pub byte_bits : List ℕ → List ℕ
byte_bits [] = []
byte_bits (b ∷ bs) = bits_lsb_first 8 b ++ byte_bits bs

-- frames as bytes, the low byte first
unfoldable pub frame_bytes : List ℕ → List ℕ
frame_bytes [] = []
frame_bytes (w ∷ ws) = w % 256 ∷ w / 256 ∷ frame_bytes ws

-- bits of any kind: each is 0 or 1
unfoldable pub AreBits : List ℕ → Type 0
AreBits [] = Unit {0}
AreBits (b ∷ bs) = (b < 2) × AreBits bs

-- bytes of any kind: each is 0 to 255
unfoldable pub AreBytes : List ℕ → Type 0
AreBytes [] = Unit {0}
AreBytes (b ∷ bs) = (b < 256) × AreBytes bs
