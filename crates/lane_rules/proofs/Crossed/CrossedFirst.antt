-- Crossed lines, on the frame that First judges. Assumes nothing.
use Prim.Native.Nat.{ℕ, ◌<◌}
use mathlib.Core.Path.{◌≡◌, refl}
use Rattle.frame.specs.Frame.{inverted}
use Rattle.lane_rules.specs.Judging.{judge_first}
use Rattle.lane_rules.specs.Crossed.{crossed_mode}
use Rattle.lane_rules.specs.declared.Mode.{Mode}
use Rattle.lane_rules.proofs.Modes.NextModes.{first_next}
use Rattle.lane_rules.proofs.Crossed.CrossedReadings.{data_same, clock_same}

-- with no bits held, Hunt and Prove are their own inverses
pub first_crossed : (p c w : ℕ) → w < 65536 → judge_first p c (inverted w) ≡ crossed_mode (judge_first p c w)
unfolding judge_first crossed_mode
first_crossed p c w h = rw (data_same w h, clock_same w h) (first_next (λ (m : Mode). m ≡ crossed_mode m) p c w (λ s d. refl) refl)
