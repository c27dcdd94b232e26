-- Document 01, "Refusals by place": the number and the values of each case of each answer.
-- The number is 0 where the call was taken. "A refusal gives its number and zeros for other values".
use Rattle.std.specs.Prelude.{ℕ, ℤ, pos, Result, Ok, Err}
use Rattle.refusal.specs.Refusal.{number_of, told_number}
use Rattle.refusal.specs.declared.Refusal.{Refusal}
use Rattle.frame.specs.declared.frame.Built.{Built}

-- of `next`: number, next state
abbrev pub stepped_values : Result ℕ Refusal → ℕ × ℕ
stepped_values (Ok l) = (0, l)
stepped_values (Err refusal) = (number_of refusal, 0)

-- of `check_seed`: number
abbrev pub checked_values : Result Unit Refusal → ℕ
checked_values = told_number

-- of `build`: number, frame, new R
abbrev pub built_values : Result Built Refusal → ℕ × ℕ × ℤ
built_values (Ok b) = (0, b.frame, b.r)
built_values (Err refusal) = (number_of refusal, 0, pos 0)

-- of `read_sample`: number, sample
abbrev pub sampled_values : Result ℕ Refusal → ℕ × ℕ
sampled_values (Ok x) = (0, x)
sampled_values (Err refusal) = (number_of refusal, 0)
