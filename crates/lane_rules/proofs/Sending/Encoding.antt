-- Frames that encode samples: all that the receiver's side knows of the sender. The running disparity does not appear.
-- Assumes nothing.
use Prim.Native.Nat.{ℕ, zero, suc, ◌-◌, ◌/◌, ◌<◌}
use mathlib.Core.Path.{◌≡◌, refl, ap}
use mathlib.Core.List.{List, [], ◌∷◌, ◌++◌}
use lib.Bits.{bit_xor}
use lib.ListN.{length, replicate}
use Rattle.frame.specs.Scrambler.{word_of, next_state, state_after}
use Rattle.lane_rules.specs.Judging.{clock_of, scrambled_of}
use Rattle.lane_rules.specs.Sender.{alignment_pairs}
use Rattle.lane_rules.specs.SenderCalls.{SendersList, samples_sent}
use Rattle.lane_rules.proofs.Sending.WrittenFrames.{sequence, later_frames}

-- frames ws encode the samples xs, from the state s and the clock bit c; each may be inverted or not
pub data Encodes : ℕ → ℕ → List ℕ → List ℕ → Type 0 where
  none : {s c : ℕ} → Encodes s c [] []
  more : {s c x w : ℕ} {xs ws : List ℕ} → w < 65536 → scrambled_of w ≡ bit_xor x (word_of s) → clock_of w ≡ c
      → Encodes (next_state s) (1 - c) xs ws → Encodes s c (x ∷ xs) (w ∷ ws)

pub encodes_length : {s c : ℕ} {xs ws : List ℕ} → Encodes s c xs ws → length ws ≡ length xs
encodes_length none = refl
encodes_length (more a d e r) = ap suc (encodes_length r)

-- a step before n steps of the scrambler, or after them
pub state_after_next : (n l : ℕ) → state_after n (next_state l) ≡ state_after (suc n) l
unfolding state_after
state_after_next zero l = refl
state_after_next (suc n) l = ap next_state (state_after_next n l)

-- what a sender's list writes: its number of alignment frames, 32 frames of sample 0 from the seed on, and a frame for each sample taken
pub record ListWrites (list : SendersList) : Type 0 where
  pub proving : List ℕ
  pub sequence_is : sequence list ≡ alignment_pairs (list.sender.alignment / 2) ++ proving
  pub proving_encode : Encodes list.sender.seed 0 (replicate 32 0) proving
  pub later_encode : Encodes (state_after 32 list.sender.seed) 0 (samples_sent list) (later_frames list)
