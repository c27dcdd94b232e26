-- Bits of numbers, for the definitions of Scrambler and Frame.
use Rattle.std.specs.Prelude.{ℕ, ◌/◌, ◌%◌, ◌^◌}

-- bit k of n, bit 0 lowest
abbrev pub bit : ℕ → ℕ → ℕ
bit k n = n / 2 ^ k % 2
