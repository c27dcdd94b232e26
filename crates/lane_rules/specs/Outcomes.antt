-- Outcomes as proofs, and contracts of calls in `lane_modes` and `lane` that are not for users, speak of them. The contracts of
-- users' calls and the promises do not rest on it.
use Rattle.std.specs.Prelude.{◌≡◌, true, List, [], ◌∷◌, ℤ}
use Rattle.frame.specs.Frame.{is_sample, within}
use Rattle.lane_rules.specs.declared.Outcome.{Outcome}

-- a disparity, as a frame can have it
abbrev pub IsDisparity : ℤ → Type 0
IsDisparity d = within 16 d ≡ true

-- an outcome, as judging gives it: a sample is one, a disparity is that of a frame
abbrev pub OutcomeIn : Outcome → Type 0
OutcomeIn Outcome.Nothing = Unit {0}
OutcomeIn Outcome.Found = Unit {0}
OutcomeIn (Outcome.Sample x d) = (is_sample x ≡ true) × IsDisparity d
OutcomeIn (Outcome.Gap d) = IsDisparity d
OutcomeIn (Outcome.Loss d) = IsDisparity d

-- the outcomes that are counted: all but nothing
unfoldable pub told : List Outcome → List Outcome
told [] = []
told (Outcome.Nothing ∷ os) = told os
told (Outcome.Found ∷ os) = Outcome.Found ∷ told os
told (Outcome.Sample x d ∷ os) = Outcome.Sample x d ∷ told os
told (Outcome.Gap d ∷ os) = Outcome.Gap d ∷ told os
told (Outcome.Loss d ∷ os) = Outcome.Loss d ∷ told os
