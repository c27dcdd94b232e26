-- What is promised of the balance that a receiver sees (document 02, Q-5); proved in proofs/Laws.antt.
use Rattle.std.specs.Prelude.{ℕ, ◌≤◌, ◌<◌, ◌≡◌, true, false, not, ◌&&◌, List, [], ◌∷◌, ◌++◌, ◌⊎◌, ℤ, pos, ◌+ℤ◌, ◌≤ℤ◌, length}
use Rattle.std.specs.Int.{w32}
use Rattle.std.proofs.Common.{SFits}
use Rattle.frame.specs.Frame.{disparity_of}
use Rattle.lane_rules.specs.Line.{byte_bits}
use Rattle.lane_rules.specs.Sums.{with_frame, disparities_in, with_frames, is_found, NoneFound, NarrowSums}
use Rattle.lane_rules.specs.Receiver.{is_locked, receiver_admitted}
use Rattle.lane_rules.specs.Judging.{judge_of}
use Rattle.lane_rules.specs.Collecting.{held_part, step_of}
use Rattle.lane_rules.specs.SenderCalls.{SendersList, sequence_bits, later_bits}
use Rattle.lane_rules.specs.ReceiverCalls.{ReceiverCall, receive, outcomes_of, OnlyFeeding}
use Rattle.lane_rules.specs.declared.Partial.{Partial}
use Rattle.lane_rules.specs.declared.Sums.{Sums}
use Rattle.lane_rules.specs.declared.Mode.{Mode}
use Rattle.lane_rules.specs.declared.Mode.TheVariants.{Locked}
use Rattle.lane_rules.specs.declared.Receiver.{Receiver}
use Rattle.lane_rules.specs.declared.Outcome.{Outcome}

-- After any list of feeding and SYNC calls the sums are those of the frames judged in Locked since the last lock,
-- from 0; where none of these calls found lock, the old ones with these frames. Each is held at the limits of 32 bits.
pub record SumsOf (rx : Receiver) (line : List ℕ) (calls : List ReceiverCall) : Type 0 where
  pub since_lock : (before after : List Outcome) → outcomes_of rx line calls ≡ before ++ (Outcome.Found ∷ after) → NoneFound after
      → (receive rx line calls).receiver.sums
      ≡ with_frames (record { sum = pos 0; lowest = pos 0; highest = pos 0 }) (disparities_in after)
  pub none_found : NoneFound (outcomes_of rx line calls)
      → (receive rx line calls).receiver.sums ≡ with_frames rx.sums (disparities_in (outcomes_of rx line calls))

abbrev pub SumsAreKept : Type 0
SumsAreKept = (rx : Receiver) (line : List ℕ) (calls : List ReceiverCall) → receiver_admitted rx ≡ true → SumsOf rx line calls

-- "Each sum is held at the limits of 32 signed bits": of the numbers that fit into 32 signed bits, h is the nearest to z.
pub record Nearest (z h : ℤ) : Type 0 where
  pub fits : SFits w32 h
  pub from_below : (v : ℤ) → SFits w32 v → v ≤ℤ z → v ≤ℤ h
  pub from_above : (v : ℤ) → SFits w32 v → z ≤ℤ v → h ≤ℤ v

abbrev pub SumsAreHeld : Type 0
SumsAreHeld = (s : Sums) (d : ℤ) → Nearest (s.sum +ℤ d) (with_frame s d).sum

-- As "a record may hold any three such numbers", whether it is admitted does not hang on them.
abbrev pub SumsAreFree : Type 0
SumsAreFree = (rx : Receiver) (s : Sums)
    → receiver_admitted (record { mode = rx.mode; samples = rx.samples; gaps = rx.gaps; losses = rx.losses; sums = s })
    ≡ receiver_admitted rx

-- Each frame judged in Locked counts with its ones minus zeros as received, faulty or not, also the one that loses lock; ..
abbrev pub FramesCount : Type 0
FramesCount = (part : Partial) (results state clock w : ℕ)
    → disparities_in ((judge_of (Locked part results state clock) w).outcome ∷ []) ≡ disparity_of w ∷ []

-- .. nothing else counts: no bit of another mode, and no bit before a frame's last.
abbrev pub SumsRest : Type 0
SumsRest = (m : Mode) (b : ℕ) → (is_locked m ≡ false) ⊎ ((held_part m).count < 15) → disparities_in ((step_of m b).outcome ∷ []) ≡ []

-- A bit finds lock where it takes the receiver into Locked.
abbrev pub FoundAtLock : Type 0
FoundAtLock = (m : Mode) (b : ℕ) → is_found (step_of m b).outcome ≡ (not (is_locked m) && is_locked (step_of m b).mode)

-- "From the lock that an undamaged sequence gives, on undamaged frames with no further SYNC, highest minus lowest is at most 32." The
-- tail is a frame begun, up to 15 bits: so every moment of a line that goes on is covered.
abbrev pub LineBalanceSeen : Type 0
LineBalanceSeen = (rx : Receiver) (list : SendersList) (noise tail line : List ℕ) (calls : List ReceiverCall)
    → receiver_admitted rx ≡ true → length tail ≤ 15
    → byte_bits line ≡ noise ++ (sequence_bits list ++ (later_bits list ++ tail))
    → OnlyFeeding calls → (receive rx line calls).left ≡ []
    → NarrowSums (receive rx line calls).receiver.sums
