-- Document 01, "Receiver": "It reads bit by bit." What one bit does to a mode.
use Rattle.std.specs.Prelude.{ℕ, ◌+◌, ◌*◌, ◌/◌, ◌^◌, Bool, cond, ◌&&◌, ◌||◌, ltb, eqb}
use Rattle.lane_rules.specs.Receiver.{no_bits}
use Rattle.lane_rules.specs.Judging.{quiet, judge_of}
use Rattle.lane_rules.specs.declared.Partial.{Partial}
use Rattle.lane_rules.specs.declared.Mode.{Mode}
use Rattle.lane_rules.specs.declared.Mode.TheVariants.{Hunt, Flash, First, Prove, Locked}
use Rattle.lane_rules.specs.declared.Judged.{Judged}
use Rattle.lane_rules.specs.declared.Collected.{Collected}
use Rattle.lane_rules.specs.declared.Collected.TheVariants.{Frame, Part}

-- "two frames 0xFF00, 0x00FF in either order", the earlier one lowest
unfoldable pub alignment_pair : ℕ → Bool
alignment_pair bits = eqb bits 0x00FFFF00 || eqb bits 0xFF0000FF

-- "When the 32 are two frames .."
abbrev pub is_alignment : ℕ → ℕ → Bool
is_alignment bits count = eqb count 32 && alignment_pair bits

-- ".. go to Flash, holding the later."
unfoldable pub hunt_with : ℕ → ℕ → Mode
hunt_with bits count = cond (is_alignment bits count) (Flash no_bits (bits / 2 ^ 16)) (Hunt bits count)

-- "Hunt: up to 32 latest bits since entry": a bit comes into the next place, and once 32 are held the earliest goes
unfoldable pub hunt_of : ℕ → ℕ → ℕ → Mode
hunt_of bits count bit =
    cond (ltb count 32) (hunt_with (bits + bit * 2 ^ count) (count + 1)) (hunt_with (bits / 2 + bit * 2 ^ 31) 32)

-- "All other modes collect 16 bits (0 to 15 held) and then judge the frame."
unfoldable pub collect_of : Partial → ℕ → Collected
collect_of p bit =
    let bits = p.bits + bit * 2 ^ p.count in
    cond (ltb p.count 15) (Part (record { bits = bits; count = p.count + 1 })) (Frame bits)

-- the bits of a frame that a mode holds; Hunt collects no frame
unfoldable pub held_part : Mode → Partial
held_part (Hunt bits count) = no_bits
held_part (Flash part frame) = part
held_part (First part word clock) = part
held_part (Prove part read state clock) = part
held_part (Locked part results state clock) = part

-- a mode with other bits of a frame held
unfoldable pub holding : Mode → Partial → Mode
holding (Hunt bits count) p = Hunt bits count
holding (Flash part frame) p = Flash p frame
holding (First part word clock) p = First p word clock
holding (Prove part read state clock) p = Prove p read state clock
holding (Locked part results state clock) p = Locked p results state clock

unfoldable pub collected : Mode → Collected → Judged
collected m (Part p) = quiet (holding m p)
collected m (Frame w) = judge_of m w

-- what one bit does to a mode, and what is handed out
unfoldable pub step_of : Mode → ℕ → Judged
step_of (Hunt bits count) b = quiet (hunt_of bits count b)
step_of (Flash part frame) b = collected (Flash part frame) (collect_of part b)
step_of (First part word clock) b = collected (First part word clock) (collect_of part b)
step_of (Prove part read state clock) b = collected (Prove part read state clock) (collect_of part b)
step_of (Locked part results state clock) b = collected (Locked part results state clock) (collect_of part b)
