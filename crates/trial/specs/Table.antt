-- Document 01, "Trial values": those marked P, as one table of the definitions' results.
use Rattle.std.specs.Prelude.{◌≡◌, Bool, true, false, List, [], ◌∷◌, map, ℕ, zero, suc, ◌+◌, ◌*◌, length, replicate, ℤ, pos, neg_ℤ, ◌-ℤ◌}
use Rattle.frame.specs.Scrambler.{next_answer}
use Rattle.frame.specs.Frame.{inverts, new_r, build_answer}
use Rattle.frame.specs.Answers.{stepped_values, built_values}
use Rattle.refusal.specs.Refusal.{told_number}
use Rattle.lane_rules.specs.Sender.{alignment_frames, start_answer, started_values}
use Rattle.lane_rules.specs.Sending.{send_answer}
use Rattle.lane_rules.specs.SenderCalls.{send, sender_after, bytes_written}
use Rattle.lane_rules.specs.declared.Sender.{Sender}
use Rattle.lane_rules.specs.Receiver.{no_bits}
use Rattle.lane_rules.specs.Judging.{scrambled_of, recovered, judge_of}
use Rattle.lane_rules.specs.declared.Mode.{Mode}
use Rattle.lane_rules.specs.declared.Mode.TheVariants.{Flash, Prove}
use Rattle.std.specs.Result.{result_unwrap_or, result_map_both}
use Rattle.refusal.specs.Refusal.{told_number}
use Rattle.strip_rules.specs.Form.{form_number}
use Rattle.strip_rules.specs.Writing.{writing}
use Rattle.strip_rules.specs.Reading.{Contents, strip_in}
use Rattle.strip_rules.specs.declared.form.Form.{Form}
use Rattle.strip_rules.specs.declared.form.Form.TheVariants.{One, Two}

-- a result: document 01's number, 0 where nothing was refused, and the values
pub data Result : Type 0 where
  state : ℕ × ℕ → Result
  sent : ℤ × List (ℕ × List ℕ × ℤ) → Result  -- R, then the frames of each sending call with R after it
  frame : ℕ × ℕ × ℤ → Result  -- with R after it
  rule : Bool × ℤ → Result  -- whether the frame is inverted, and R after it
  mode : ℕ × Mode → Result  -- the state recovered from two frames, and the receiver's mode after them
  bytes : ℕ × List ℕ → Result  -- the bytes of a strip
  contents : ℕ × ℕ × ℕ × List ℕ × ℕ → Result  -- form, lane, items and bytes used of a strip

abbrev minus : ℕ → ℤ
minus n = neg_ℤ (pos n)

-- the frames that bytes are: "the low byte is first"
unfoldable pub frames_in : List ℕ → List ℕ
frames_in [] = []
frames_in (a ∷ []) = []
frames_in (a ∷ (b ∷ later)) = (a + 256 * b) ∷ frames_in later

-- a buffer with room for n frames
abbrev room_for : ℕ → List ℕ
room_for n = replicate (2 * n) 0

-- the record of a sender started with a seed, after a sending call with room for just its alignment frames
unfoldable pub aligned_sender : ℕ → Sender
aligned_sender seed = let t = (started_values (start_answer seed)).1 in sender_after t (send [] (room_for (alignment_frames t)))

-- n sending calls from a record, each with no samples and room for one frame
unfoldable pub one_by_one : ℕ → Sender → List (ℕ × List ℕ × ℤ)
one_by_one zero t = []
one_by_one (suc n) t =
    let call = send [] (room_for 1) in
    let after = sender_after t call in
    (told_number (send_answer t [] (length (room_for 1))), frames_in (bytes_written t call), after.r) ∷ one_by_one n after

-- the first n scrambled frames of a sender: R before them, and what the calls give
abbrev pub scrambled : ℕ → ℕ → Result
scrambled seed n = let t = aligned_sender seed in sent (t.r, one_by_one n t)

-- one frame of the given data: the word of state 0x04000 is 0
abbrev pub built : ℕ → ℕ → ℤ → Result
built x clock r = frame (built_values (build_answer x 0x04000 clock r))

-- the rule on R, by R and the disparity of a frame with disparity bit 0
abbrev pub ruled : ℤ → ℤ → Result
ruled r d = rule (inverts r d, new_r r d)

-- the disparity of a frame with disparity bit 0, by the sum of its other 15 bits
abbrev pub with_bit15 : ℤ → ℤ
with_bit15 sum = sum -ℤ pos 1

-- two frames after an alignment frame 0x00FF
abbrev pub recovering : ℕ → ℕ → Result
recovering v w =
    mode (recovered (scrambled_of v) (scrambled_of w), (judge_of (judge_of (Flash no_bits 0x00FF) v).mode w).mode)

-- a strip written into a buffer of 8 bytes, and read from bytes
abbrev pub written : Form → ℕ → List ℕ → Result
written form lane items = let w = writing form lane items 8 in bytes (told_number w, result_unwrap_or w [])

abbrev values_of : Contents → ℕ × ℕ × List ℕ × ℕ
values_of found = (form_number found.form, found.lane, found.items, found.used)

abbrev pub read : List ℕ → Result
read strip =
    let r = strip_in strip in
    let v = result_unwrap_or (result_map_both values_of (λ refusal. refusal) r) (0, 0, [], 0) in
    contents (told_number r, v.0, v.1, v.2, v.3)

-- the table: what the definitions give, and document 01's value
unfoldable pub table : List (Result × Result)
table =
    -- states 1, 8, 0x48, 0x208, 0x1248 follow each other
    (state (stepped_values (next_answer 1)), state (0, 8))
    ∷ (state (stepped_values (next_answer 8)), state (0, 0x48))
    ∷ (state (stepped_values (next_answer 0x48)), state (0, 0x208))
    ∷ (state (stepped_values (next_answer 0x208)), state (0, 0x1248))
    -- seed 1 from R 0 gives scrambled frames 0x0001, 0xBFF7, 0x0048, 0xBDF7, 0x1248 and R −14, −2, −14, −4, −12
    ∷ (
      scrambled 1 5,
      sent (
        pos 0,
        (0, 0x0001 ∷ [], minus 14)
            ∷ (0, 0xBFF7 ∷ [], minus 2)
            ∷ (0, 0x0048 ∷ [], minus 14)
            ∷ (0, 0xBDF7 ∷ [], minus 4)
            ∷ (0, 0x1248 ∷ [], minus 12)
            ∷ [],
      ),
    )
    -- 0x0001 then 0xBFF7 recover state 1; Prove then starts with 2 frames read and the state two steps after it
    ∷ (recovering 0x0001 0xBFF7, mode (1, Prove no_bits 2 0x48 1))
    -- all-zero data, clock bit 0: R 0 sends 0x0000, R becomes −16; R −2 sends 0xFFFF, R 14
    ∷ (built 0 0 (pos 0), frame (0, 0x0000, minus 16))
    ∷ (built 0 0 (minus 2), frame (0, 0xFFFF, pos 14))
    -- data 0x3FFF, clock bit 1: R 2 sends 0x7FFF, R 16; R 4 sends 0x8000, R −10
    ∷ (built 0x3FFF 1 (pos 2), frame (0, 0x7FFF, pos 16))
    ∷ (built 0x3FFF 1 (pos 4), frame (0, 0x8000, minus 10))
    -- R 16 with disparity 2 becomes 14; R −16 with 0 stays
    ∷ (ruled (pos 16) (pos 2), rule (true, pos 14))
    ∷ (ruled (minus 16) (pos 0), rule (false, minus 16))
    -- the annex: 15 bits of sum −7 from R −5 give −13; then sum −5 inverts, giving −7
    ∷ (ruled (minus 5) (with_bit15 (minus 7)), rule (false, minus 13))
    ∷ (ruled (minus 13) (with_bit15 (minus 5)), rule (true, minus 7))
    -- lane 5, items 1 and gap: 00 02 05 80 02; lane 0, item 16383: 00 01 00 FF FE; lane 7, none: 00 00 07
    ∷ (written One 5 (1 ∷ 16384 ∷ []), bytes (0, 0x00 ∷ 0x02 ∷ 0x05 ∷ 0x80 ∷ 0x02 ∷ []))
    ∷ (written One 0 (16383 ∷ []), bytes (0, 0x00 ∷ 0x01 ∷ 0x00 ∷ 0xFF ∷ 0xFE ∷ []))
    ∷ (written One 7 [], bytes (0, 0x00 ∷ 0x00 ∷ 0x07 ∷ []))
    ∷ (read (0x00 ∷ 0x02 ∷ 0x05 ∷ 0x80 ∷ 0x02 ∷ []), contents (0, 1, 5, 1 ∷ 16384 ∷ [], 5))
    ∷ (read (0x00 ∷ 0x01 ∷ 0x00 ∷ 0xFF ∷ 0xFE ∷ []), contents (0, 1, 0, 16383 ∷ [], 5))
    ∷ (read (0x00 ∷ 0x00 ∷ 0x07 ∷ []), contents (0, 1, 7, [], 3))
    -- the first of these strips in form two: E0 02 05 80 02 00
    ∷ (written Two 5 (1 ∷ 16384 ∷ []), bytes (0, 0xE0 ∷ 0x02 ∷ 0x05 ∷ 0x80 ∷ 0x02 ∷ 0x00 ∷ []))
    ∷ (read (0xE0 ∷ 0x02 ∷ 0x05 ∷ 0x80 ∷ 0x02 ∷ 0x00 ∷ []), contents (0, 2, 5, 1 ∷ 16384 ∷ [], 6))
    ∷ []

-- every row has its value
unfoldable pub Agree : List (Result × Result) → Type 0
Agree rows = map (λ (r : Result × Result). r.0) rows ≡ map (λ (r : Result × Result). r.1) rows
