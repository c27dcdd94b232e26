-- The bits left of a byte, as a run of them. Assumes nothing.
use Prim.Native.Nat.{ℕ, zero, suc, ◌-◌, ◌/◌, ◌%◌, ◌≤◌, ◌<◌}
use mathlib.Core.Path.{◌≡◌, refl, ap}
use mathlib.Core.List.{List, [], ◌∷◌}
use native.Mathlib.Omega.{arith}
use Rattle.lane_rules.specs.Line.{bits_lsb_first}
use Rattle.lane_rules.specs.Collecting.{step_of}
use Rattle.lane_rules.specs.Feeding.{items_in, Run, run_of}
use Rattle.lane_rules.specs.declared.Mode.{Mode}
use Rattle.lane_rules.specs.declared.Outcome.{Outcome}

-- ---- the bits left of a byte: n of them, those of y

abbrev pub left : Mode → ℕ → ℕ → Run
left m n y = run_of m (bits_lsb_first n y)

abbrev pub left_items : Mode → ℕ → ℕ → List ℕ
left_items m n y = items_in (left m n y).outcomes

abbrev pub byte_run : Mode → ℕ → Run
byte_run m x = run_of m (bits_lsb_first 8 x)

-- a run with its first bit's outcome
abbrev pub first : Outcome → Run → Run
first o r = record { mode = r.mode; outcomes = o ∷ r.outcomes }

bits_next : (n y : ℕ) → 0 < n → bits_lsb_first n y ≡ y % 2 ∷ bits_lsb_first (n - 1) (y / 2)
unfolding bits_lsb_first
bits_next zero y h = absurd (omega arith)
bits_next (suc n) y h = let e : n ≡ suc n - 1 = omega arith in ap (λ (k : ℕ). y % 2 ∷ bits_lsb_first k (y / 2)) e

pub left_next : (m : Mode) (n y : ℕ) → 0 < n
    → left m n y ≡ first (step_of m (y % 2)).outcome (left (step_of m (y % 2)).mode (n - 1) (y / 2))
unfolding run_of
left_next m n y h = rw (bits_next n y h)

pub left_none : (m : Mode) (n y : ℕ) → n ≤ 0 → left m n y ≡ record { mode = m; outcomes = [] }
unfolding run_of bits_lsb_first
left_none m zero y h = refl
left_none m (suc n) y h = absurd (omega arith)
