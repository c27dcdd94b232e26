-- Document 01, "Receiver", and document 02, Q-3, for Locked: its record, admitted records, a fresh one, and SYNC.
use Rattle.std.specs.Prelude.{ℕ, ◌^◌, Bool, true, false, cond, ◌&&◌, ◌||◌, leb, ltb, eqb, Result, Ok, Err}
use Rattle.std.specs.Result.{result_unwrap_or}
use Rattle.std.specs.Int.Count.{ones_in}
use Rattle.refusal.specs.declared.Refusal.{Refusal}
use Rattle.frame.specs.Scrambler.{is_state}
use Rattle.frame.specs.Frame.{is_clock}
use Rattle.lane_rules.specs.Sums.{no_sums}
use Rattle.lane_rules.specs.declared.Partial.{Partial}
use Rattle.lane_rules.specs.declared.Mode.{Mode}
use Rattle.lane_rules.specs.declared.Mode.TheVariants.{Hunt, Flash, First, Prove, Locked}
use Rattle.lane_rules.specs.declared.Receiver.{Receiver}

-- no bits held of a frame
abbrev pub no_bits : Partial
no_bits = record { bits = 0; count = 0 }

-- "Each entry to Hunt starts with no bits."
abbrev pub hunting : Mode
hunting = Hunt 0 0

abbrev pub is_locked : Mode → Bool
is_locked (Hunt bits count) = false
is_locked (Flash part frame) = false
is_locked (First part word clock) = false
is_locked (Prove part read state clock) = false
is_locked (Locked part results state clock) = true

-- "0 to 15 held", and "bit places not held are 0"
unfoldable pub part_admitted : Partial → Bool
part_admitted p = leb p.count 15 && ltb p.bits (2 ^ p.count)

-- data are 0 to 16383
abbrev pub is_scrambled : ℕ → Bool
is_scrambled d = leb d 16383

-- Document 02, Q-3: "Lock is lost when four of the last eight frames since locking were faulty. The record keeps those eight results":
-- a 1 for a faulty frame, the latest lowest. How many are faulty:
unfoldable pub faults_in : ℕ → ℕ
faults_in results = ones_in 8 results

-- ".. one with four or more of them faulty is refused with 3."
abbrev pub most_faults : ℕ
most_faults = 3

unfoldable pub results_admitted : ℕ → Bool
results_admitted results = leb results 255 && leb (faults_in results) most_faults

-- "Prove (2 to 31 read)": the most frames read that it can hold
abbrev pub most_read : ℕ
most_read = 31

-- "A receiver record is admitted when its Flash frame is 0xFF00 or 0x00FF, its data are 0 to 16383, its states 1 to 0x1FFFF, its
-- clock bits 0 or 1 and its counts as given above; bit places not held are 0, and totals are free." Document 02, Q-5, of the sums: "a
-- record may hold any three such numbers."
unfoldable pub mode_admitted : Mode → Bool
mode_admitted (Hunt bits count) = leb count 32 && ltb bits (2 ^ count)
mode_admitted (Flash part frame) = part_admitted part && (eqb frame 0xFF00 || eqb frame 0x00FF)
mode_admitted (First part word clock) = part_admitted part && (is_scrambled word && is_clock clock)
mode_admitted (Prove part read state clock) =
    part_admitted part && (leb 2 read && (leb read most_read && (is_state state && is_clock clock)))
mode_admitted (Locked part results state clock) = part_admitted part && (results_admitted results && (is_state state && is_clock clock))

abbrev pub receiver_admitted : Receiver → Bool
receiver_admitted rx = mode_admitted rx.mode

-- "Fresh: Hunt, totals 0." Document 02, Q-5: the sums "are 0 when fresh".
unfoldable pub fresh_receiver : Receiver
fresh_receiver = record { mode = hunting; samples = 0; gaps = 0; losses = 0; sums = no_sums }

-- "A SYNC call enters Hunt and leaves the totals"; the sums "rest outside Locked".
abbrev pub in_hunt : Receiver → Receiver
in_hunt rx = record { mode = hunting; samples = rx.samples; gaps = rx.gaps; losses = rx.losses; sums = rx.sums }

-- What SYNC answers. Refusal 3: a record that is not admitted; ..
unfoldable pub receiver_sync_answer : Receiver → Result Receiver Refusal
receiver_sync_answer rx = cond (receiver_admitted rx) (Ok (in_hunt rx)) (Err Refusal.Record)

-- .. it stays as it is. The record after the call:
abbrev pub receiver_after_sync : Receiver → Receiver
receiver_after_sync rx = result_unwrap_or (receiver_sync_answer rx) rx
