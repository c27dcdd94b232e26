-- Document 02, Q-5: the receiver's sums of frame disparities.
use Rattle.std.specs.Prelude.{ℕ, ◌≡◌, Bool, true, false, cond, List, [], ◌∷◌, ℤ, pos, negsuc, ◌+ℤ◌, ◌-ℤ◌, ◌≤ℤ◌}
use Rattle.std.specs.Int.Signed.{lt_z}
use Rattle.lane_rules.specs.declared.Sums.{Sums}
use Rattle.lane_rules.specs.declared.Outcome.{Outcome}

-- "0 at the start", and "0 when fresh"
abbrev pub no_sums : Sums
no_sums = record { sum = pos 0; lowest = pos 0; highest = pos 0 }

-- the limits of 32 signed bits, −2147483648 and 2147483647
abbrev pub largest_sum : ℕ
largest_sum = 2147483647

abbrev pub least_sum : ℤ
least_sum = negsuc largest_sum

abbrev pub most_sum : ℤ
most_sum = pos largest_sum

-- "Each sum is held at the limits of 32 signed bits."
unfoldable pub held_sum : ℤ → ℤ
held_sum z = cond (lt_z z least_sum) least_sum (cond (lt_z most_sum z) most_sum z)

-- the lower of two sums
unfoldable pub lower_of : ℤ → ℤ → ℤ
lower_of x y = cond (lt_z y x) y x

-- the higher of two sums
unfoldable pub higher_of : ℤ → ℤ → ℤ
higher_of x y = cond (lt_z x y) y x

-- "The receiver sums this .. and keeps the lowest and highest sum at frame ends": the sums where a frame's end has this sum, and the
-- sums with a frame of disparity d
abbrev pub with_sum : Sums → ℤ → Sums
with_sum s sum = record { sum = sum; lowest = lower_of s.lowest sum; highest = higher_of s.highest sum }

unfoldable pub with_frame : Sums → ℤ → Sums
with_frame s d = with_sum s (held_sum (s.sum +ℤ d))

-- They "become 0 at each lock, rest outside Locked". "The frame that loses lock still counts in them." What a bit's outcome, and what
-- the outcomes of bits do to them:
unfoldable pub sums_by : Sums → Outcome → Sums
sums_by s Outcome.Nothing = s
sums_by s Outcome.Found = no_sums
sums_by s (Outcome.Sample x d) = with_frame s d
sums_by s (Outcome.Gap d) = with_frame s d
sums_by s (Outcome.Loss d) = with_frame s d

unfoldable pub sums_after : Sums → List Outcome → Sums
sums_after s [] = s
sums_after s (o ∷ os) = sums_after (sums_by s o) os

-- ---- of frames judged in Locked

-- their disparities, in order
unfoldable pub disparities_in : List Outcome → List ℤ
disparities_in [] = []
disparities_in (Outcome.Nothing ∷ os) = disparities_in os
disparities_in (Outcome.Found ∷ os) = disparities_in os
disparities_in (Outcome.Sample x d ∷ os) = d ∷ disparities_in os
disparities_in (Outcome.Gap d ∷ os) = d ∷ disparities_in os
disparities_in (Outcome.Loss d ∷ os) = d ∷ disparities_in os

-- the sums with frames of these disparities
unfoldable pub with_frames : Sums → List ℤ → Sums
with_frames s [] = s
with_frames s (d ∷ ds) = with_frames (with_frame s d) ds

-- whether lock is found
abbrev pub is_found : Outcome → Bool
is_found Outcome.Nothing = false
is_found Outcome.Found = true
is_found (Outcome.Sample x d) = false
is_found (Outcome.Gap d) = false
is_found (Outcome.Loss d) = false

unfoldable pub NoneFound : List Outcome → Type 0
NoneFound [] = Unit {0}
NoneFound (o ∷ os) = (is_found o ≡ false) × NoneFound os

-- "highest minus lowest is at most 32", with 0 and the running sum between them
abbrev pub largest_span : ℤ
largest_span = pos 32

pub record NarrowSums (s : Sums) : Type 0 where
  pub from_0 : s.lowest ≤ℤ pos 0
  pub to_0 : pos 0 ≤ℤ s.highest
  pub from_sum : s.lowest ≤ℤ s.sum
  pub to_sum : s.sum ≤ℤ s.highest
  pub span : (s.highest -ℤ s.lowest) ≤ℤ largest_span
