-- Document 02, Q-2: "Fitters swap the two wires of a lane now and then, and the line arrives with every bit inverted." Crossed lines, and
-- records that are each other's inverse.
use Rattle.std.specs.Prelude.{ℕ, ◌-◌, ◌^◌, ◌≡◌, List, map, neg_ℤ}
use Rattle.frame.specs.Frame.{inverted}
use Rattle.lane_rules.specs.declared.Partial.{Partial}
use Rattle.lane_rules.specs.declared.Sums.{Sums}
use Rattle.lane_rules.specs.declared.Mode.{Mode}
use Rattle.lane_rules.specs.declared.Mode.TheVariants.{Hunt, Flash, First, Prove, Locked}
use Rattle.lane_rules.specs.declared.Receiver.{Receiver}
use Rattle.lane_rules.specs.declared.Outcome.{Outcome}

-- bits that arrive as they were sent
abbrev pub straight : List ℕ → List ℕ
straight bits = bits

-- "every bit inverted"
abbrev pub crossed_bits : List ℕ → List ℕ
crossed_bits bits = map (λ b. 1 - b) bits

-- "each byte inverted"
abbrev pub crossed_bytes : List ℕ → List ℕ
crossed_bytes bytes = map (λ b. 255 - b) bytes

-- a number's n bits, each inverted
abbrev pub crossed_number : ℕ → ℕ → ℕ
crossed_number n bits = 2 ^ n - 1 - bits

-- the bits held of a frame, each inverted
abbrev pub crossed_part : Partial → Partial
crossed_part p = record { bits = crossed_number p.count p.bits; count = p.count }

-- the mode that has seen the same line crossed: the bits held are inverted, and Flash holds the other frame
unfoldable pub crossed_mode : Mode → Mode
crossed_mode (Hunt bits count) = Hunt (crossed_number count bits) count
crossed_mode (Flash part frame) = Flash (crossed_part part) (inverted frame)
crossed_mode (First part word clock) = First (crossed_part part) word clock
crossed_mode (Prove part read state clock) = Prove (crossed_part part) read state clock
crossed_mode (Locked part results state clock) = Locked (crossed_part part) results state clock

-- what the crossed line's bit hands out: the same, but the frame's ones minus zeros have the other sign
abbrev pub crossed_outcome : Outcome → Outcome
crossed_outcome Outcome.Nothing = Outcome.Nothing
crossed_outcome Outcome.Found = Outcome.Found
crossed_outcome (Outcome.Sample x d) = Outcome.Sample x (neg_ℤ d)
crossed_outcome (Outcome.Gap d) = Outcome.Gap (neg_ℤ d)
crossed_outcome (Outcome.Loss d) = Outcome.Loss (neg_ℤ d)

-- the sums with the other sign
abbrev pub crossed_sums : Sums → Sums
crossed_sums s = record { sum = neg_ℤ s.sum; lowest = neg_ℤ s.highest; highest = neg_ℤ s.lowest }

-- two records that are each other's inverse, whatever their sums
pub record Crossed (rx ry : Receiver) : Type 0 where
  pub mode : ry.mode ≡ crossed_mode rx.mode
  pub samples : ry.samples ≡ rx.samples
  pub gaps : ry.gaps ≡ rx.gaps
  pub losses : ry.losses ≡ rx.losses
