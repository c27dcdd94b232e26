-- Document 01, "Refusals by place", and document 02: the numbers of the refusals.
use Rattle.std.specs.Prelude.{ℕ, Result, Ok, Err}
use Rattle.refusal.specs.declared.Refusal.{Refusal}

-- "1 seed 0 or above 0x1FFFF; 2 word 0x00FF; 3 state, clock bit or record ..", in their order
abbrev pub number_of : Refusal → ℕ
number_of Refusal.SeedRange = 1
number_of Refusal.SeedWord = 2
number_of Refusal.Record = 3
number_of Refusal.Sample = 4
number_of Refusal.Disparity = 5
number_of Refusal.ItemsMany = 6
number_of Refusal.Item = 7
number_of Refusal.BufferShort = 8
number_of Refusal.StripShort = 9
number_of Refusal.StripCount = 10
number_of Refusal.SlotsFew = 11
number_of Refusal.StripCut = 12
number_of Refusal.StripPadding = 13
number_of Refusal.Alignment = 19
number_of Refusal.StripForm = 20
number_of Refusal.StripRun = 21

-- The number that an answer tells: 0 where the call was taken, else the refusal's.
abbrev pub told_number : {T : Type 0} → Result T Refusal → ℕ
told_number (Ok _) = 0
told_number (Err refusal) = number_of refusal
