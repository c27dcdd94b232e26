-- An inverted frame's data, clock bit, and ones minus zeros. Assumes nothing.
use Prim.Native.Nat.{ℕ, ◌<◌}
use mathlib.Core.Path.{◌≡◌, ap}
use lib.IntN.{neg_ℤ}
use Rattle.frame.specs.Frame.{inverted}
use Rattle.frame.proofs.Laws.{inverted_reads_same, inverted_balance}
use Rattle.lane_rules.specs.Judging.{clock_of, scrambled_of, balance_of}

pub data_same : (w : ℕ) → w < 65536 → scrambled_of (inverted w) ≡ scrambled_of w
data_same w h = ap (λ (c : ℕ × ℕ). c.1) (inverted_reads_same w h)

pub clock_same : (w : ℕ) → w < 65536 → clock_of (inverted w) ≡ clock_of w
clock_same w h = ap (λ (c : ℕ × ℕ). c.0) (inverted_reads_same w h)

pub balance_crossed : (w : ℕ) → w < 65536 → balance_of (inverted w) ≡ neg_ℤ (balance_of w)
balance_crossed w h = (inverted_balance w h).1
