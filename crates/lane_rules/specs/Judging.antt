-- Document 01, "Receiver", and document 02, Q-3, for Locked: judging a whole frame, mode by mode. It knows neither how the bits were
-- collected nor the totals.
use Rattle.std.specs.Prelude.{ℕ, ◌+◌, ◌-◌, ◌*◌, ◌%◌, ◌^◌, Bool, true, false, cond, not, ◌&&◌, leb, ltb, eqb, ℤ, Option, Some, None}
use Rattle.std.specs.Int.Bits.{bit_xor}
use Rattle.frame.specs.Scrambler.{word_of, next_state}
use Rattle.frame.specs.Frame.{inverted, reading_of}
use Rattle.lane_rules.specs.Receiver.{no_bits, hunting, is_locked, most_read, faults_in, most_faults}
use Rattle.lane_rules.specs.declared.Mode.{Mode}
use Rattle.lane_rules.specs.declared.Mode.TheVariants.{Hunt, Flash, First, Prove, Locked}
use Rattle.lane_rules.specs.declared.Outcome.{Outcome}
use Rattle.lane_rules.specs.declared.Judged.{Judged}

-- a frame's clock bit and data, its inversion undone
abbrev pub clock_of : ℕ → ℕ
clock_of w = (reading_of w).clock

abbrev pub scrambled_of : ℕ → ℕ
scrambled_of w = (reading_of w).scrambled

-- its ones minus zeros as received
abbrev pub balance_of : ℕ → ℤ
balance_of w = (reading_of w).disparity

-- a mode with nothing handed out
abbrev pub quiet : Mode → Judged
quiet m = record { mode = m; outcome = Outcome.Nothing }

-- "Flash: if it is the held frame inverted, hold it instead. Otherwise read it and go to First with its data and clock bit."
unfoldable pub judge_flash : ℕ → ℕ → Mode
judge_flash held w = cond (eqb w (inverted held)) (Flash no_bits w) (First no_bits (scrambled_of w) (clock_of w))

-- "with data p held and q now, s = p + 16384 × (q mod 8)": the recovered state
unfoldable pub recovered : ℕ → ℕ → ℕ
recovered p q = p + 16384 * (q % 8)

-- "Go to Prove if the clock bit differs from the held one, s is not 0 and q is the word of next(s). Prove starts with 2 frames read
-- and the state two steps after s. Otherwise Hunt."
unfoldable pub proves : ℕ → ℕ → Bool
proves s q = not (eqb s 0) && eqb q (word_of (next_state s))

unfoldable pub first_by : Bool → ℕ → ℕ → Mode
first_by true s c = Prove no_bits 2 (next_state (next_state s)) c
first_by false s c = hunting

unfoldable pub judge_first : ℕ → ℕ → ℕ → Mode
judge_first p c w =
    first_by (not (eqb (clock_of w) c) && proves (recovered p (scrambled_of w)) (scrambled_of w)) (recovered p (scrambled_of w)) (clock_of w)

-- "data must be the state's word and the clock bit must differ from the last. Step; after the 32nd frame, Locked with 0 faults.
-- Otherwise Hunt." Document 02, Q-3: "Locked keeps an expected clock bit that toggles every frame, set when Prove ends": the other bit
-- than the last frame's, c.
unfoldable pub prove_by : Bool → ℕ → ℕ → ℕ → Mode
prove_by true n s c =
    cond (ltb n most_read) (Prove no_bits (n + 1) (next_state s) c) (Locked no_bits 0 (next_state s) (1 - c))
prove_by false n s c = hunting

unfoldable pub judge_prove : ℕ → ℕ → ℕ → ℕ → Mode
judge_prove n s c w = prove_by (eqb (scrambled_of w) (word_of s) && not (eqb (clock_of w) c)) n s (clock_of w)

-- the mode after Prove: where it is Locked, lock is found
abbrev pub proved : Mode → Judged
proved m = record { mode = m; outcome = cond (is_locked m) Outcome.Found Outcome.Nothing }

-- the results of the last eight frames with that of one frame more, which becomes the lowest; the earliest goes
unfoldable pub with_result : ℕ → Bool → ℕ
with_result results faulty = (2 * results + cond faulty 1 0) % 2 ^ 8

-- The rule on faults, document 02, Q-3: "Lock is lost when four of the last eight frames since locking were faulty." The results where
-- lock is kept, or none:
unfoldable pub fault_rule : ℕ → Bool → Option ℕ
fault_rule results faulty = cond (leb (faults_in (with_result results faulty)) most_faults) (Some (with_result results faulty)) None

-- "A frame is faulty if its bit differs from the expected one."
abbrev pub is_faulty : ℕ → ℕ → Bool
is_faulty c w = not (eqb (clock_of w) c)

-- Of a faulty frame "the item is a gap ..; otherwise the item is data xor word .. The state steps" and the expected clock bit c toggles
-- either way. The fault that loses lock "hands out its gap, adds a loss and goes to Hunt."
unfoldable pub locked_by : Option ℕ → Bool → ℕ → ℕ → ℕ → Judged
locked_by (Some n) true s c w = record { mode = Locked no_bits n (next_state s) (1 - c); outcome = Outcome.Gap (balance_of w) }
locked_by (Some n) false s c w =
    record { mode = Locked no_bits n (next_state s) (1 - c); outcome = Outcome.Sample (bit_xor (scrambled_of w) (word_of s)) (balance_of w) }
locked_by None faulty s c w = record { mode = hunting; outcome = Outcome.Loss (balance_of w) }

unfoldable pub judge_locked : ℕ → ℕ → ℕ → ℕ → Judged
judge_locked results s c w = locked_by (fault_rule results (is_faulty c w)) (is_faulty c w) s c w

-- mode and whole frame to mode and outcome; Hunt judges no frame
unfoldable pub judge_of : Mode → ℕ → Judged
judge_of (Hunt bits count) w = quiet (Hunt bits count)
judge_of (Flash part held) w = quiet (judge_flash held w)
judge_of (First part word clock) w = quiet (judge_first word clock w)
judge_of (Prove part read state clock) w = proved (judge_prove read state clock w)
judge_of (Locked part results state clock) w = judge_locked results state clock w
