-- Document 01, "Frame": building and reading one frame.
use Rattle.std.specs.Prelude.{Bool, not, cond, ◌&&◌, ℕ, ◌+◌, ◌-◌, ◌*◌, ◌%◌, ◌^◌, leb, eqb, ℤ, pos, neg_ℤ, ◌+ℤ◌, ◌-ℤ◌, Result, Ok, Err}
use Rattle.std.specs.Int.Bits.{bit_xor}
use Rattle.std.specs.Int.Count.{ones_in}
use Rattle.std.specs.Int.Signed.{le_z}
use Rattle.frame.specs.Bits.{bit}
use Rattle.frame.specs.Scrambler.{is_state, word_of}
use Rattle.refusal.specs.declared.Refusal.{Refusal}
use Rattle.frame.specs.declared.frame.Built.{Built}
use Rattle.frame.specs.declared.frame.Reading.{Reading}

-- "Sample: 0 to 16383."
unfoldable pub is_sample : ℕ → Bool
is_sample x = leb x 16383

-- "A clock bit is 0 or 1."
unfoldable pub is_clock : ℕ → Bool
is_clock c = leb c 1

-- "Scrambled data = sample xor the state's word"
abbrev pub scrambled_data : ℕ → ℕ → ℕ
scrambled_data sample state = bit_xor sample (word_of state)

-- The frame with disparity bit 0: scrambled data "in bits 13 to 0. Clock bit: bit 14. Disparity bit: bit 15."
unfoldable pub plain_frame : ℕ → ℕ → ℕ → ℕ
plain_frame sample state clock = clock * 2 ^ 14 + scrambled_data sample state

-- ones minus zeros of the k lowest bits of a number; of a frame these are the first k on the line: "Bit 0 goes first on the line."
unfoldable pub disparity_in : ℕ → ℕ → ℤ
disparity_in k w = pos (ones_in k w) -ℤ pos (k - ones_in k w)

-- "Disparity of a frame is its ones minus its zeros."
abbrev pub disparity_of : ℕ → ℤ
disparity_of w = disparity_in 16 w

-- −n to n
unfoldable pub within : ℕ → ℤ → Bool
within n z = le_z (neg_ℤ (pos n)) z && le_z z (pos n)

-- The rule on R, by R and the disparity of a frame with disparity bit 0:
-- "If R plus its disparity lies in −16 to 16, send it. Otherwise invert all 16 bits." Its limit, and whether it inverts:
abbrev pub plain_limit : ℕ
plain_limit = 16

unfoldable pub inverts : ℤ → ℤ → Bool
inverts r d = not (within plain_limit (r +ℤ d))

-- the disparity bit of the frame sent: 1 where it is inverted
unfoldable pub disparity_bit : ℤ → ℤ → ℕ
disparity_bit r d = cond (inverts r d) 1 0

-- R after it, the sum with the disparity as sent (`new_r_sum` of proofs/Laws.antt)
unfoldable pub new_r : ℤ → ℤ → ℤ
new_r r d = cond (inverts r d) (r -ℤ d) (r +ℤ d)

-- all 16 bits inverted
abbrev pub inverted : ℕ → ℕ
inverted w = 65535 - w

-- the frame sent for one with disparity bit 0
unfoldable pub sent_frame : ℕ → ℤ → ℕ
sent_frame w r = cond (inverts r (disparity_of w)) (inverted w) w

-- that frame, and R after it
abbrev pub built : ℕ → ℤ → Built
built w r = record { frame = sent_frame w r; r = new_r r (disparity_of w) }

-- What `build` answers: the frame and the new R.
-- Refusals: 3 for the state or the clock bit; then 5: R outside −16 to 16; then 4: sample above 16383.
unfoldable pub build_answer : ℕ → ℕ → ℕ → ℤ → Result Built Refusal
build_answer sample state clock r =
    cond (is_state state && is_clock clock)
    (cond (within 16 r)
    (cond (is_sample sample) (Ok (built (plain_frame sample state clock) r)) (Err Refusal.Sample))
    (Err Refusal.Disparity))
    (Err Refusal.Record)

-- "Reading: if bit 15 is 1, invert all 16 bits; .."
unfoldable pub uninverted : ℕ → ℕ
uninverted w = cond (eqb (bit 15 w) 1) (inverted w) w

-- ".. then take clock bit and data."
abbrev pub content_of : ℕ → ℕ × ℕ
content_of w = (bit 14 w, w % 2 ^ 14)

-- Document 02, Q-5: "Reading one frame shall also give its ones minus zeros as received and whether it was inverted": its bit 15.
unfoldable pub reading_of : ℕ → Reading
reading_of w =
    let content = content_of (uninverted w) in
    record { clock = content.0; scrambled = content.1; disparity = disparity_of w; inverted = bit 15 w }

-- of a reading, clock bit and data
abbrev pub content_in : Reading → ℕ × ℕ
content_in reading = (reading.clock, reading.scrambled)

-- What `read_sample` answers: "With a state given, the sample is data xor its word." Refusal 3: a state outside its range.
unfoldable pub sample_answer : ℕ → ℕ → Result ℕ Refusal
sample_answer w state =
    cond (is_state state) (Ok (bit_xor (reading_of w).scrambled (word_of state))) (Err Refusal.Record)
