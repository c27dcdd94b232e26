-- What only the contracts of calls for the crates above, and of private ones, cite. The contracts of users' calls and the promises do not
-- rest on it.
use Rattle.std.specs.Prelude.{ℕ, ◌+◌, ◌-◌, ◌*◌, ◌/◌, ◌%◌, ◌^◌, ◌≡◌, Bool, cond, not, ◌&&◌, [], ◌∷◌, ltb, eqb}
use Rattle.lane_rules.specs.Line.{bits_lsb_first}
use Rattle.lane_rules.specs.Judging.{quiet, judge_of}
use Rattle.lane_rules.specs.Collecting.{held_part, holding}
use Rattle.lane_rules.specs.Feeding.{Run, run_of}
use Rattle.lane_rules.specs.Outcomes.{OutcomeIn, told}
use Rattle.lane_rules.specs.declared.Partial.{Partial}
use Rattle.lane_rules.specs.declared.Mode.{Mode}
use Rattle.lane_rules.specs.declared.Judged.{Judged}

-- ---- a byte

-- a run ends in a mode, and counts for just what one outcome does
pub record Gives (r : Run) (j : Judged) : Type 0 where
  pub mode : j.mode ≡ r.mode
  pub outcomes : told (j.outcome ∷ []) ≡ told r.outcomes
  pub range : OutcomeIn j.outcome

-- a judged frame, and then bits that make no frame
abbrev pub resumed : Judged → Partial → Judged
resumed j p = record { mode = (run_of j.mode (bits_lsb_first p.count p.bits)).mode; outcome = j.outcome }

-- the bits held with a byte above them
abbrev pub with_byte : Partial → ℕ → ℕ
with_byte p x = p.bits + x * 2 ^ p.count

-- a byte in a mode that collects frames: under 8 bits held it is held too, from 8 on it ends a frame
abbrev pub byte_held : Mode → ℕ → Judged
byte_held m x = quiet (holding m (record { bits = with_byte (held_part m) x; count = (held_part m).count + 8 }))

abbrev pub byte_ends : Mode → ℕ → Judged
byte_ends m x =
    resumed (judge_of m (with_byte (held_part m) x % 65536))
    (record { bits = with_byte (held_part m) x / 65536; count = (held_part m).count - 8 })

abbrev pub byte_collected : Mode → ℕ → Judged
byte_collected m x = cond (ltb (held_part m).count 8) (byte_held m x) (byte_ends m x)

-- Of two alignment frames the 16 bits in the middle are all zeros or all ones. If one of the next 8 bits ends two of them, then bits 16 to
-- 24 of the 32 held are among these. Whether they are neither all zeros nor all ones.
unfoldable pub is_mixed : ℕ → Bool
is_mixed bits = not (eqb (bits / 65536 % 512) 0) && not (eqb (bits / 65536 % 512) 511)
