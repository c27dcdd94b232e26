-- Document 01, "Receiver": the bits that lock a receiver, by the rules of Hunt, Flash, First and Prove taken together.
use Rattle.std.specs.Prelude.{ℕ, zero, suc, ◌+◌, ◌-◌, ◌*◌, ◌%◌, ◌<◌, ◌≡◌, ◌⊎◌, ◌≢◌, true, List, [], ◌∷◌, ◌++◌, length, take}
use Rattle.frame.specs.Scrambler.{is_state, word_of, next_state, state_after}
use Rattle.frame.specs.Frame.{inverted}
use Rattle.lane_rules.specs.Line.{frame_bits}
use Rattle.lane_rules.specs.Judging.{clock_of, scrambled_of}
use Rattle.lane_rules.specs.declared.Partial.{Partial}

-- n alternating alignment frames, the first of them f, ..
unfoldable pub alternating : ℕ → ℕ → List ℕ
alternating f zero = []
alternating f (suc n) = f ∷ alternating (inverted f) n

-- .. and the one whose turn is next
unfoldable pub alternate_after : ℕ → ℕ → ℕ
alternate_after f zero = f
alternate_after f (suc n) = alternate_after (inverted f) n

-- frames that follow the scrambler from a state on, with clock bits that toggle from c on
unfoldable pub FollowScrambler : ℕ → ℕ → List ℕ → Type 0
FollowScrambler s c [] = Unit {0}
FollowScrambler s c (w ∷ ws) = (w < 65536) × (scrambled_of w ≡ word_of s) × (clock_of w ≡ c) × FollowScrambler (next_state s) (1 - c) ws

-- Bits that lock: two alignment frames in either order, any number of further ones by turns, and thirty-two frames that follow the
-- scrambler from the state `start` and the clock bit `clock` on, of which the first is not the alignment frame whose turn it is.
pub record Locking (start clock : ℕ) (bits : List ℕ) : Type 0 where
  pub first : ℕ
  pub alignment : (first ≡ 0xFF00) ⊎ (first ≡ 0x00FF)
  pub more : ℕ
  pub frames : List ℕ
  pub bits_are : bits ≡ frame_bits (alternating first (suc (suc more)) ++ frames)
  pub count : length frames ≡ 32
  pub not_alternate : take 1 frames ≢ alternate_after first (suc (suc more)) ∷ []
  pub state : is_state start ≡ true
  pub follow : FollowScrambler start clock frames

-- Bits that end in bits that lock, and the state and the expected clock bit that these give.
pub record JustLocked (state clock : ℕ) (bits : List ℕ) : Type 0 where
  pub before : List ℕ
  pub locking : List ℕ
  pub parts : bits ≡ before ++ locking
  pub start : ℕ
  pub locks : Locking start clock locking
  pub state_is : state ≡ state_after 32 start

-- Bits up to a lock, `until`, and bits since: so many whole frames, and those held of the next. The state steps and the expected clock
-- bit toggles with each of the frames.
pub record LockedSince (part : Partial) (state clock : ℕ) (bits : List ℕ) : Type 0 where
  pub until : List ℕ
  pub since : List ℕ
  pub parts : bits ≡ until ++ since
  pub first_state : ℕ
  pub first_clock : ℕ
  pub locked : JustLocked first_state first_clock until
  pub judged : ℕ
  pub since_is : length since ≡ 16 * judged + part.count
  pub state_is : state ≡ state_after judged first_state
  pub clock_is : clock ≡ (first_clock + judged) % 2
