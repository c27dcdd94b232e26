-- Modes told by which they are not, as the else of a `let .. else` gives it. Assumes nothing.
use Prim.Native.Nat.{ℕ}
use mathlib.Core.Path.{◌≡◌, refl}
use Rattle.lane_rules.specs.Collecting.{held_part, collect_of, collected, step_of}
use Rattle.lane_rules.specs.declared.Mode.{Mode}
use Rattle.lane_rules.specs.declared.Mode.TheVariants.{Hunt, Flash, First, Prove, Locked}
use Rattle.lane_rules.proofs.Feeding.WholeFrames.{Collects}

-- a bit in a mode that is not Hunt: one more bit of a frame
pub collecting_step : (m : Mode) (b : ℕ) → ((x y : ℕ) → m ≡ Hunt x y → ⊥)
    → collected m (collect_of (held_part m) b) ≡ step_of m b
unfolding held_part step_of
collecting_step (Hunt bits count) b k = absurd (k bits count refl)
collecting_step (Flash part frame) b k = refl
collecting_step (First part word clock) b k = refl
collecting_step (Prove part read state clock) b k = refl
collecting_step (Locked part results state clock) b k = refl

-- they collect frames
pub others_collect : (m : Mode) → ((x y : ℕ) → m ≡ Hunt x y → ⊥) → Collects m
others_collect (Hunt bits count) k = k bits count refl
others_collect (Flash part frame) k = tt
others_collect (First part word clock) k = tt
others_collect (Prove part read state clock) k = tt
others_collect (Locked part results state clock) k = tt
