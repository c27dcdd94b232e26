-- What is promised of the scrambler, the seeds and one frame, on the definitions that the contracts cite.
-- Each is proved in proofs/Laws.antt under its name in small letters.
use Rattle.std.specs.Prelude.{◌≡◌, ◌≢◌, true, ℕ, ◌+◌, ◌-◌, ◌*◌, ◌%◌, ◌^◌, ◌≤◌, ◌<◌, ℤ, pos, neg_ℤ, ◌+ℤ◌, ◌-ℤ◌, ◌*ℤ◌, ◌≤ℤ◌, ◌<ℤ◌}
use Rattle.std.specs.Int.Bits.{bit_xor}
use Rattle.frame.specs.Bits.{bit}
use Rattle.frame.specs.Scrambler.{is_state, word_of, next_state, Follows, state_after}
use Rattle.frame.specs.Seeds.{permitted, seed_answer, lane_seed, FirstPermitted}
use Rattle.frame.specs.Cycle.{period_steps, FirstReturn, ComesOnce, StepsApart, SameCycle}
use Rattle.frame.specs.Frame.{is_sample, is_clock, scrambled_data, plain_frame, disparity_in, disparity_of, within, disparity_bit}
use Rattle.frame.specs.Frame.{inverted, build_answer, content_of, reading_of, content_in, sample_answer}
use Rattle.frame.specs.Answers.{checked_values, built_values, sampled_values}

-- ---- scrambler

-- The scrambler steps bit by bit as ESIstream says.
abbrev pub NextBits : Type 0
NextBits = (l : ℕ) → Follows l (next_state l)

-- A state leads to a state.
abbrev pub NextKeepsState : Type 0
NextKeepsState = (l : ℕ) → is_state l ≡ true → is_state (next_state l) ≡ true

-- A state can be recovered from its own word and the next one's.
abbrev pub StateRecovered : Type 0
StateRecovered = (l : ℕ) → is_state l ≡ true → word_of l + 16384 * (word_of (next_state l) % 8) ≡ l

-- The step is linear over xor.
abbrev pub NextLinear : Type 0
NextLinear = (a b : ℕ) → next_state (bit_xor a b) ≡ bit_xor (next_state a) (next_state b)

-- ---- how long the scrambler lasts (document 02, Q-14)

-- "From every state 1 to 0x1FFFF, the state returns for the first time after exactly 131,071 steps."
abbrev pub Period : Type 0
Period = (s : ℕ) → is_state s ≡ true → FirstReturn period_steps s

-- From any state every state comes up exactly once in a period.
abbrev pub EveryStateOnce : Type 0
EveryStateOnce = (s t : ℕ) → is_state s ≡ true → is_state t ≡ true → ComesOnce s t

-- Two senders with different permitted seeds run through the same cycle.
abbrev pub SeedsShareCycle : Type 0
SeedsShareCycle = (s t : ℕ) → permitted s ≡ true → permitted t ≡ true → s ≢ t → SameCycle s t

-- Entries j and k of the table of lane seeds, j below k, are 512 × (k − j) steps apart one way round and 131,071 less that the other, ..
abbrev pub LaneSeedsApart : Type 0
LaneSeedsApart = (j k : ℕ) → j < k → k < 256 → StepsApart (512 * (k - j)) (lane_seed j) (lane_seed k)

-- .. so never closer than 511.
abbrev pub LaneSeedsNeverCloser : Type 0
LaneSeedsNeverCloser = (j k m : ℕ) → j < 256 → k < 256 → j ≢ k → m < 511 → state_after m (lane_seed j) ≢ lane_seed k

-- ---- seeds

-- A seed is taken just when it is permitted.
abbrev pub PermittedTaken : Type 0
PermittedTaken = (s : ℕ) → permitted s ≡ true → checked_values (seed_answer s) ≡ 0

abbrev pub TakenPermitted : Type 0
TakenPermitted = (s : ℕ) → checked_values (seed_answer s) ≡ 0 → permitted s ≡ true

-- At most one number is the first permitted state found n or more steps after state 1.
abbrev pub FirstPermittedOne : Type 0
FirstPermittedOne = (n s t : ℕ) → FirstPermitted n s → FirstPermitted n t → s ≡ t

-- ---- frame

-- Sample, state, clock bit and R are taken, and give the frame f and the new R q.
abbrev pub Builds : ℕ → ℕ → ℕ → ℤ → ℕ → ℤ → Type 0
Builds sample state clock r f q = built_values (build_answer sample state clock r) ≡ (0, f, q)

-- A frame that was built, read with its sender's state, gives back its sample, ..
abbrev pub ReadBackSample : Type 0
ReadBackSample = (sample state clock : ℕ) (r : ℤ) (f : ℕ) (q : ℤ) → Builds sample state clock r f q
    → sampled_values (sample_answer f state) ≡ (0, sample)

-- .. and, read alone, its clock bit and its data.
abbrev pub ReadBackContent : Type 0
ReadBackContent = (sample state clock : ℕ) (r : ℤ) (f : ℕ) (q : ℤ) → Builds sample state clock r f q
    → content_in (reading_of f) ≡ (clock, scrambled_data sample state)

-- A frame and its inversion have the same clock bit and data.
abbrev pub InvertedReadsSame : Type 0
InvertedReadsSame = (w : ℕ) → w < 2 ^ 16 → content_in (reading_of (inverted w)) ≡ content_in (reading_of w)

-- "If R plus its disparity lies in −16 to 16, send it. Otherwise invert all 16 bits.", of the frame with disparity bit 0.
abbrev pub SentWithin16 : Type 0
SentWithin16 = (sample state clock : ℕ) (r : ℤ) (f : ℕ) (q : ℤ) → Builds sample state clock r f q
    → let w = plain_frame sample state clock in
    let sum = r +ℤ disparity_of w in
    (neg_ℤ (pos 16) ≤ℤ sum → sum ≤ℤ pos 16 → f ≡ w)
    × (sum <ℤ neg_ℤ (pos 16) → f ≡ inverted w)
    × (pos 16 <ℤ sum → f ≡ inverted w)

-- The new R is again in −16 to 16, ..
abbrev pub NewRWithin : Type 0
NewRWithin = (sample state clock : ℕ) (r : ℤ) (f : ℕ) (q : ℤ) → Builds sample state clock r f q → within 16 q ≡ true

-- .. and is the old R plus the ones minus the zeros of the frame sent.
abbrev pub NewRSum : Type 0
NewRSum = (sample state clock : ℕ) (r : ℤ) (f : ℕ) (q : ℤ) → Builds sample state clock r f q → q ≡ r +ℤ disparity_of f

-- The count of ones minus zeros stays within 24 after each bit of a frame.
abbrev pub BuiltWithin24 : Type 0
BuiltWithin24 = (sample state clock : ℕ) (r : ℤ) (f : ℕ) (q : ℤ) → Builds sample state clock r f q
    → (k : ℕ) → k ≤ 16 → within 24 (r +ℤ disparity_in k f) ≡ true

-- ---- inversion without a branch (document 02, Q-4)

-- Of building: "what is built is the frame with that bit 0, xor 65535 times the bit". Here w is the frame with disparity bit 0, b the
-- disparity bit chosen. The new R is the old one plus w's disparity times 1 − 2 × b.
abbrev pub BuiltByXor : Type 0
BuiltByXor = (sample state clock : ℕ) (r : ℤ)
    → is_state state ≡ true → is_clock clock ≡ true → within 16 r ≡ true → is_sample sample ≡ true
    → let w = plain_frame sample state clock in
    let b = disparity_bit r (disparity_of w) in
    Builds sample state clock r (bit_xor w (65535 * b)) (r +ℤ disparity_of w *ℤ (pos 1 -ℤ pos (2 * b)))

-- The bit chosen is that of the frame built, its bit 15.
abbrev pub ChosenBitSent : Type 0
ChosenBitSent = (sample state clock : ℕ) (r : ℤ) (f : ℕ) (q : ℤ) → Builds sample state clock r f q
    → bit 15 f ≡ disparity_bit r (disparity_of (plain_frame sample state clock))

-- Of reading: "what is read is the word xor 65535 times its bit 15."
abbrev pub ReadByXor : Type 0
ReadByXor = (v : ℕ) → v < 2 ^ 16 → content_in (reading_of v) ≡ content_of (bit_xor v (65535 * bit 15 v))

-- ---- the balance of a frame that is read (document 02, Q-5)

-- A frame that was built, read alone, gives the disparity bit that its sender chose, and the disparity that brought R to the new R.
abbrev pub ReadBackBalance : Type 0
ReadBackBalance = (sample state clock : ℕ) (r : ℤ) (f : ℕ) (q : ℤ) → Builds sample state clock r f q
    → ((reading_of f).inverted ≡ disparity_bit r (disparity_of (plain_frame sample state clock))) × (q ≡ r +ℤ (reading_of f).disparity)

-- "as received": of a frame and its inversion, one is read as inverted, and the disparities are equal but for the sign.
abbrev pub InvertedBalance : Type 0
InvertedBalance = (w : ℕ) → w < 2 ^ 16
    → ((reading_of (inverted w)).inverted + (reading_of w).inverted ≡ 1)
    × ((reading_of (inverted w)).disparity ≡ neg_ℤ (reading_of w).disparity)
