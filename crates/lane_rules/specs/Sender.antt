-- Document 01, "Sender": its record, starting, SYNC, and the frame at each position.
use Rattle.std.specs.Prelude.{ℕ, zero, suc, ◌+◌, ◌-◌, ◌%◌, Bool, cond, ◌&&◌, List, [], ◌∷◌, leb, ltb, eqb, pos, Result, Ok, Err}
use Rattle.std.specs.Result.{result_unwrap_or}
use Rattle.refusal.specs.Refusal.{number_of}
use Rattle.refusal.specs.declared.Refusal.{Refusal}
use Rattle.frame.specs.Scrambler.{is_state, next_state}
use Rattle.frame.specs.Seeds.{permitted, seed_answer}
use Rattle.frame.specs.Frame.{is_clock, within, plain_frame, sent_frame, new_r, disparity_of}
use Rattle.lane_rules.specs.declared.Sender.{Sender}

-- "Positions 0 to 31 send alignment frames": their number. Document 02, Q-7: "A sender may be started with any even number of them
-- from 12 to 32, and every later position moves accordingly. The sender's record keeps the number".
unfoldable pub alignment_frames : Sender → ℕ
alignment_frames t = t.alignment

-- the numbers permitted, by twos
abbrev pub smallest_alignment : ℕ
smallest_alignment = 12

abbrev pub largest_alignment : ℕ
largest_alignment = 32

abbrev pub alignment_step : ℕ
alignment_step = 2

unfoldable pub alignment_permitted : ℕ → Bool
alignment_permitted n = eqb (n % alignment_step) 0 && leb smallest_alignment n && leb n largest_alignment

-- "Positions 32 to 63 send frames of sample 0": their number
unfoldable pub proving_frames : ℕ
proving_frames = 32

-- "The sequence is the frames of positions 0 to 63", and ends earlier with fewer alignment frames: their number.
unfoldable pub sequence_frames : Sender → ℕ
sequence_frames t = alignment_frames t + proving_frames

-- "Its record: seed (permitted), state, next clock bit, R (−16 to 16), position (0 to 64). .. A record is admitted when every part
-- is in its range"; "a record with a number not permitted is refused with 3."
unfoldable pub sender_admitted : Sender → Bool
sender_admitted t =
    permitted t.seed
    && (is_state t.state
    && (is_clock t.clock && (within 16 t.r && (alignment_permitted t.alignment && leb t.position (sequence_frames t)))))

-- "Fresh: R 0, position 0, state = seed, clock bit 0", with the number of alignment frames given.
unfoldable pub fresh_sender : ℕ → ℕ → Sender
fresh_sender seed alignment =
    record { seed = seed; state = seed; clock = 0; r = pos 0; position = 0; alignment = alignment }

-- What `start_with` answers: a fresh record, or the refusal of the seed, or "19 an odd number or one outside 12 to 32, checked
-- after the seed."
unfoldable pub ready_with : ℕ → ℕ → Result Sender Refusal
ready_with seed alignment = cond (alignment_permitted alignment) (Ok (fresh_sender seed alignment)) (Err Refusal.Alignment)

unfoldable pub started_with : Result Unit Refusal → ℕ → ℕ → Result Sender Refusal
started_with (Ok _) seed alignment = ready_with seed alignment
started_with (Err refusal) seed alignment = Err refusal

unfoldable pub start_with_answer : ℕ → ℕ → Result Sender Refusal
start_with_answer seed alignment = started_with (seed_answer seed) seed alignment

-- What `start` answers: a fresh record with the most alignment frames, or the refusal of the seed.
unfoldable pub started_by : Result Unit Refusal → ℕ → Result Sender Refusal
started_by (Ok _) seed = Ok (fresh_sender seed largest_alignment)
started_by (Err refusal) seed = Err refusal

unfoldable pub start_answer : ℕ → Result Sender Refusal
start_answer seed = started_by (seed_answer seed) seed

-- The number and the values of each case of that answer: number, record. "A refusal gives its number and zeros for other values".
abbrev pub started_values : Result Sender Refusal → ℕ × Sender
started_values (Ok t) = (0, t)
started_values (Err refusal) =
    (number_of refusal, record { seed = 0; state = 0; clock = 0; r = pos 0; position = 0; alignment = 0 })

-- "The SYNC call ..: state becomes the seed, clock bit and position become 0. Seed and R remain", and the number does.
unfoldable pub synced : Sender → Sender
synced t = record { seed = t.seed; state = t.seed; clock = 0; r = t.r; position = 0; alignment = t.alignment }

-- What SYNC answers. Refusal 3: a record that is not admitted; ..
unfoldable pub sync_answer : Sender → Result Sender Refusal
sync_answer t = cond (sender_admitted t) (Ok (synced t)) (Err Refusal.Record)

-- .. it stays as it is: the record that SYNC leaves or returns
abbrev pub sender_synced : Sender → Sender
sender_synced t = result_unwrap_or (sync_answer t) t

-- "0xFF00 at even and 0x00FF at odd ones."
unfoldable pub alignment_frame : ℕ → ℕ
alignment_frame position = cond (eqb (position % 2) 0) 0xFF00 0x00FF

-- alignment frames from an even position on, two by two
unfoldable pub alignment_pairs : ℕ → List ℕ
alignment_pairs zero = []
alignment_pairs (suc n) = 0xFF00 ∷ (0x00FF ∷ alignment_pairs n)

-- "Position rises by 1 a frame and stays at 64", the sequence's end, which moves with the number of alignment frames.
unfoldable pub next_position : Sender → ℕ
next_position t = cond (ltb t.position (sequence_frames t)) (t.position + 1) t.position

-- a frame, and the record after it
pub record Framed : Type 0 where
  pub frame : ℕ
  pub sender : Sender

-- An alignment frame. "State and clock bit rest."
unfoldable pub alignment_next : Sender → Framed
alignment_next t = record {
  frame = alignment_frame t.position;
  sender = record {
    seed = t.seed;
    state = t.state;
    clock = t.clock;
    r = t.r;
    position = next_position t;
    alignment = t.alignment;
  };
}

-- A frame of a sample. "After each of these the state steps and the clock bit toggles."
unfoldable pub scrambled_next : Sender → ℕ → Framed
scrambled_next t x =
    let plain = plain_frame x t.state t.clock in
    record {
      frame = sent_frame plain t.r;
      sender = record {
        seed = t.seed;
        state = next_state t.state;
        clock = 1 - t.clock;
        r = new_r t.r (disparity_of plain);
        position = next_position t;
        alignment = t.alignment;
      };
    }

-- the frame at the record's position, of the sample x from the alignment's end on, and the record after it
unfoldable pub next_frame : Sender → ℕ → Framed
next_frame t x = cond (ltb t.position (alignment_frames t)) (alignment_next t) (scrambled_next t x)
