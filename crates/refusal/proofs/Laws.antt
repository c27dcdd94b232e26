-- The promises of specs/Promise.antt.
use native.Mathlib.Omega.{arith}
use mathlib.Core.Path.{◌≡◌, refl, sym, ap, ◌∙◌}
use Rattle.std.specs.Prelude.{ℕ, cond, eqb}
use Rattle.refusal.specs.Refusal.{number_of}
use Rattle.refusal.specs.Promise.{NumbersAboveZero, NumbersDiffer}
use Rattle.refusal.specs.declared.Refusal.{Refusal}

pub numbers_above_zero : NumbersAboveZero
numbers_above_zero Refusal.SeedRange = omega arith
numbers_above_zero Refusal.SeedWord = omega arith
numbers_above_zero Refusal.Record = omega arith
numbers_above_zero Refusal.Sample = omega arith
numbers_above_zero Refusal.Disparity = omega arith
numbers_above_zero Refusal.ItemsMany = omega arith
numbers_above_zero Refusal.Item = omega arith
numbers_above_zero Refusal.BufferShort = omega arith
numbers_above_zero Refusal.StripShort = omega arith
numbers_above_zero Refusal.StripCount = omega arith
numbers_above_zero Refusal.SlotsFew = omega arith
numbers_above_zero Refusal.StripCut = omega arith
numbers_above_zero Refusal.StripPadding = omega arith
numbers_above_zero Refusal.Alignment = omega arith
numbers_above_zero Refusal.StripForm = omega arith
numbers_above_zero Refusal.StripRun = omega arith

-- the refusal of a number
refusal_of : ℕ → Refusal
refusal_of n =
    cond (eqb n 1) Refusal.SeedRange
    (cond (eqb n 2) Refusal.SeedWord
    (cond (eqb n 3) Refusal.Record
    (cond (eqb n 4) Refusal.Sample
    (cond (eqb n 5) Refusal.Disparity
    (cond (eqb n 6) Refusal.ItemsMany
    (cond (eqb n 7) Refusal.Item
    (cond (eqb n 8) Refusal.BufferShort
    (cond (eqb n 9) Refusal.StripShort
    (cond (eqb n 10) Refusal.StripCount
    (cond (eqb n 11) Refusal.SlotsFew
    (cond (eqb n 12) Refusal.StripCut
    (cond (eqb n 13) Refusal.StripPadding
    (cond (eqb n 19) Refusal.Alignment
    (cond (eqb n 20) Refusal.StripForm Refusal.StripRun))))))))))))))

of_number : (r : Refusal) → refusal_of (number_of r) ≡ r
unfolding refusal_of
of_number Refusal.SeedRange = refl
of_number Refusal.SeedWord = refl
of_number Refusal.Record = refl
of_number Refusal.Sample = refl
of_number Refusal.Disparity = refl
of_number Refusal.ItemsMany = refl
of_number Refusal.Item = refl
of_number Refusal.BufferShort = refl
of_number Refusal.StripShort = refl
of_number Refusal.StripCount = refl
of_number Refusal.SlotsFew = refl
of_number Refusal.StripCut = refl
of_number Refusal.StripPadding = refl
of_number Refusal.Alignment = refl
of_number Refusal.StripForm = refl
of_number Refusal.StripRun = refl

pub numbers_differ : NumbersDiffer
numbers_differ r q same = sym (of_number r) ∙ ap refusal_of same ∙ of_number q
