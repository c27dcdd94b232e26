-- What is promised of the numbers. Each is proved in proofs/Laws.antt under its name in small letters.
use Rattle.std.specs.Prelude.{◌≡◌, ◌<◌}
use Rattle.refusal.specs.Refusal.{number_of}
use Rattle.refusal.specs.declared.Refusal.{Refusal}

-- No refusal has the number 0, which tells that a call was taken, ..
abbrev pub NumbersAboveZero : Type 0
NumbersAboveZero = (r : Refusal) → 0 < number_of r

-- .. and no two have the same.
abbrev pub NumbersDiffer : Type 0
NumbersDiffer = (r q : Refusal) → number_of r ≡ number_of q → r ≡ q
