-- The promises of specs/Promise.antt, and the further laws of the scrambler, the seeds and the frame that the layer above cites.
-- Each stands here once, and its proof in the file of its subject. Assumes nothing.
use mathlib.Core.Path.{◌≡◌, refl}
use mathlib.Core.Bool.{true}
use Prim.Native.Nat.{ℕ, ◌+◌, ◌/◌, ◌%◌, ◌^◌, ◌≤◌, ◌<◌}
use native.Mathlib.Omega.{arith}
use lib.Bits.{bit_xor}
use lib.IntN.{ℤ}
use Rattle.std.specs.Prelude.{Ok}
use Rattle.frame.specs.Bits.{bit}
use Rattle.frame.specs.Scrambler.{is_state, word_of, next_state, next_answer}
use Rattle.frame.specs.Seeds.{permitted}
use Rattle.frame.specs.Frame.{is_sample, is_clock, plain_frame, disparity_of, within, inverted}
use Rattle.frame.specs.Frame.{built, build_answer, reading_of}
use Rattle.frame.specs.Promise.{NextBits, NextKeepsState, StateRecovered, NextLinear, PermittedTaken, TakenPermitted}
use Rattle.frame.specs.Promise.{FirstPermittedOne, Period, EveryStateOnce, SeedsShareCycle, LaneSeedsApart, LaneSeedsNeverCloser}
use Rattle.frame.specs.Promise.{Builds, ReadBackSample, ReadBackContent, InvertedReadsSame, SentWithin16, NewRWithin, NewRSum}
use Rattle.frame.specs.Promise.{BuiltWithin24, BuiltByXor, ChosenBitSent, ReadByXor, ReadBackBalance, InvertedBalance}
use Rattle.frame.proofs.Xor as Xor
use Rattle.frame.proofs.Ones as Ones
use Rattle.frame.proofs.BitRule as BitRule
use Rattle.frame.proofs.Step as Step
use Rattle.frame.proofs.Period as Period
use Rattle.frame.proofs.Cycle as Cycle
use Rattle.frame.proofs.Permitted as Permitted
use Rattle.frame.proofs.SeedTable as SeedTable
use Rattle.frame.proofs.RunningDisparity as RunningDisparity
use Rattle.frame.proofs.Building as Building

-- ---- scrambler

pub next_bits : NextBits
next_bits = BitRule.next_bits

pub next_keeps_state : NextKeepsState
next_keeps_state = Step.next_state_lem

-- A state is 1 to 0x1FFFF.
pub state_range : (l : ℕ) → is_state l ≡ true → (1 ≤ l) × (l ≤ 0x1FFFF)
state_range l e = (Step.state_low l e, Step.state_high l e)

pub in_state_range : (l : ℕ) → 1 ≤ l → l ≤ 0x1FFFF → is_state l ≡ true
in_state_range = Step.state_in

pub next_taken : (l : ℕ) → is_state l ≡ true → next_answer l ≡ Ok (next_state l)
next_taken = Step.next_taken

-- next(s) mod 8 = s div 16384
pub next_mod_8 : (l : ℕ) → is_state l ≡ true → next_state l % 8 ≡ l / 16384
next_mod_8 l e = Step.next_low l (omega (arith, Step.state_high l e))

pub state_recovered : StateRecovered
state_recovered l e = omega (arith, next_mod_8 l e)

pub next_linear : NextLinear
next_linear = Step.next_xor

-- Xor undoes itself.
pub xor_undone : (a b : ℕ) → bit_xor (bit_xor a b) b ≡ a
xor_undone = Xor.xor_undone

-- ---- how long the scrambler lasts

pub period : Period
period = Period.first_return

pub every_state_once : EveryStateOnce
every_state_once s t e o = Cycle.comes_once s e t o

pub seeds_share_cycle : SeedsShareCycle
seeds_share_cycle s t e o = Cycle.same_cycle s (Permitted.permitted_state s e) t (Permitted.permitted_state t o)

pub lane_seeds_apart : LaneSeedsApart
lane_seeds_apart = Cycle.lane_seeds_apart

pub lane_seeds_never_closer : LaneSeedsNeverCloser
lane_seeds_never_closer = Cycle.lane_seeds_never_closer

-- ---- seeds

pub permitted_taken : PermittedTaken
permitted_taken = Permitted.permitted_taken

pub taken_permitted : TakenPermitted
taken_permitted = Permitted.taken_permitted

-- A permitted seed is a state, whose word is not that of an alignment frame.
pub permitted_state : (s : ℕ) → permitted s ≡ true → is_state s ≡ true
permitted_state = Permitted.permitted_state

pub permitted_word : (s : ℕ) → permitted s ≡ true → word_of s ≡ 0x00FF → ⊥
permitted_word = Permitted.permitted_word

pub first_permitted_one : FirstPermittedOne
first_permitted_one = SeedTable.first_permitted_one

-- ---- frame

-- What is in its range is built.
pub build_taken : (sample state clock : ℕ) (r : ℤ)
    → is_state state ≡ true → is_clock clock ≡ true → within 16 r ≡ true → is_sample sample ≡ true
    → build_answer sample state clock r ≡ Ok (built (plain_frame sample state clock) r)
build_taken sample state clock r s c h x =
    Building.build_taken sample state clock r (record { state_good = s; clock_good = c; r_good = h; sample_good = x })

pub read_back_sample : ReadBackSample
read_back_sample = Building.read_back_sample

pub read_back_content : ReadBackContent
read_back_content = Building.read_back_content

pub sent_within_16 : SentWithin16
sent_within_16 sample state clock r f q built = (
  Building.kept_is sample state clock r f q built 15 (omega arith),
  Building.lower_is sample state clock r f q built 15 (omega arith),
  Building.higher_is sample state clock r f q built 15 (omega arith),
)

pub new_r_within : NewRWithin
new_r_within = Building.built_r_within

pub new_r_sum : NewRSum
new_r_sum = Building.built_r_sum

-- Of a frame f that was built, with the new R q:
module _ (sample state clock : ℕ) (r : ℤ) (f : ℕ) (q : ℤ) (built : Builds sample state clock r f q) where
  -- It is the frame with disparity bit 0, or that inverted: what holds of both holds of it.
  pub built_either : (P : ℕ → Type 0) → P (plain_frame sample state clock) → P (inverted (plain_frame sample state clock)) → P f
  built_either = Building.built_either sample state clock r f q built

  pub built_lt : f < 2 ^ 16
  built_lt = Building.built_lt sample state clock r f q built

pub built_within_24 : BuiltWithin24
built_within_24 = Building.built_part_within

-- `inverted` inverts each of the 16 bits.
pub inverted_bits : (k w : ℕ) → k < 16 → w < 2 ^ 16 → bit k (inverted w) + bit k w ≡ 1
inverted_bits k w = Ones.bit_inverted k 16 w

pub inverted_reads_same : InvertedReadsSame
inverted_reads_same = Building.reading_inverted

-- A reading's clock bit and data are in their ranges.
pub reading_ranges : (w : ℕ) → ((reading_of w).clock ≤ 1) × ((reading_of w).scrambled ≤ 16383)
reading_ranges = Building.reading_ranges

-- ---- inversion without a branch

pub built_by_xor : BuiltByXor
built_by_xor = Building.built_by_xor

pub chosen_bit_sent : ChosenBitSent
chosen_bit_sent = Building.chosen_bit_sent

pub read_by_xor : ReadByXor
read_by_xor = Building.read_by_xor

-- ---- the balance of a frame that is read

pub read_back_balance : ReadBackBalance
unfolding reading_of
read_back_balance sample state clock r f q built =
    (Building.chosen_bit_sent sample state clock r f q built, Building.built_r_sum sample state clock r f q built)

pub inverted_balance : InvertedBalance
unfolding reading_of
inverted_balance w h = (inverted_bits 15 w (omega arith) h, RunningDisparity.disparity_inverted 16 w h)

-- A reading's disparity is that of the frame as received, within 16.
pub reading_disparity : (w : ℕ) → (reading_of w).disparity ≡ disparity_of w
unfolding reading_of
reading_disparity w = refl

pub disparity_within : (w : ℕ) → within 16 (disparity_of w) ≡ true
disparity_within = RunningDisparity.disparity_within 16
