-- Document 01, "Balance": ones minus zeros of a line's bits, and runs of equal bits.
use Rattle.std.specs.Prelude.{ℕ, ◌+◌, ◌-◌, ◌*◌, ◌≤◌, ◌≡◌, true, List, [], ◌∷◌, ◌++◌, take, replicate, ℤ, pos, ◌-ℤ◌}
use Rattle.frame.specs.Frame.{within}

-- the ones among bits
unfoldable pub ones : List ℕ → ℕ
ones [] = 0
ones (b ∷ bs) = b + ones bs

-- the zeros among bits
unfoldable pub zeros : List ℕ → ℕ
zeros [] = 0
zeros (b ∷ bs) = (1 - b) + zeros bs

-- ones minus zeros
unfoldable pub disparity : List ℕ → ℤ
disparity bits = pos (ones bits) -ℤ pos (zeros bits)

-- ones minus zeros within 16 at each frame's end and within 24 after each bit; no run of equal bits over 32
pub record Balanced (bits : List ℕ) : Type 0 where
  pub frame_ends : (frames : ℕ) → within 16 (disparity (take (16 * frames) bits)) ≡ true
  pub each_bit : (k : ℕ) → within 24 (disparity (take k bits)) ≡ true
  pub runs : (n b : ℕ) (before after : List ℕ) → bits ≡ before ++ (replicate n b ++ after) → n ≤ 32
