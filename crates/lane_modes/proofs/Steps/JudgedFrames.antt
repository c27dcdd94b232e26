-- What each way through the judging of a frame gives, from the frame as read, `r`. Assumes nothing.
use Prim.Native.Nat.{ℕ, ◌+◌, ◌-◌, ◌*◌, ◌%◌, ◌≤◌, ◌<◌}
use mathlib.Core.Path.{◌≡◌, ap, sym, ◌∙◌}
use mathlib.Core.Bool.{Bool, true, false, not}
use native.Mathlib.Omega.{arith}
use lib.IntN.{ℤ}
use mir.Facts.{to_z-of_z}
use lib.Dec.{eqb}
use borrow.Author.Tests.{eq-eqb, ne_eqb, lt-ltb, le-ltb}
use Rattle.frame.specs.Scrambler.{word_of, next_state}
use Rattle.frame.specs.Frame.{reading_of, scrambled_data}
use Rattle.frame.specs.declared.frame.Reading.{Reading}
use Rattle.frame.proofs.Laws.{reading_ranges}
use Rattle.frame.proofs.Machine.{read_back, within_fits}
use Rattle.lane_rules.specs.Sender.{proving_frames}
use Rattle.lane_rules.specs.Receiver.{no_bits, hunting, most_read}
use Rattle.lane_rules.specs.Judging.{clock_of, scrambled_of, balance_of, recovered, proves, first_by, judge_first, prove_by, judge_prove, fault_rule}
use Rattle.lane_rules.specs.Judging.{is_faulty, locked_by, judge_locked}
use Rattle.lane_rules.specs.declared.Mode.TheVariants.{Prove, Locked}
use Rattle.lane_rules.specs.declared.Outcome.TheVariants as Outcome
use Rattle.std.specs.Prelude.{Some, None}
use Rattle.lane_rules.proofs.Modes.OutcomeRanges.{balance_within}

-- ---- the frame's clock bit and data as read

clock_read : (w : ℕ) {r : Reading} → r ≡ reading_of w → r.clock ≡ clock_of w
clock_read w is = ap (λ (x : Reading). x.clock) is

pub read_clock_range : (w : ℕ) {r : Reading} → r ≡ reading_of w → r.clock ≤ 1
read_clock_range w is = omega (arith, clock_read w is, (reading_ranges w).0)

data_read : (w : ℕ) {r : Reading} → r ≡ reading_of w → r.scrambled ≡ scrambled_of w
data_read w is = ap (λ (x : Reading). x.scrambled) is

-- its disparity, from the bits that a local holds
pub balance_read : (w : ℕ) {r : Reading} → r ≡ reading_of w → read_back r.disparity ≡ balance_of w
balance_read w is =
    ap (λ (x : Reading). read_back x.disparity) is ∙ to_z-of_z (within_fits 16 (balance_of w) (omega arith) (balance_within w))

-- ---- First, with data p and clock bit c held

module _ (p c w : ℕ) (r : Reading) (is : r ≡ reading_of w) where
  pub first_same_clock : r.clock ≡ c → hunting ≡ judge_first p c w
  unfolding judge_first first_by
  first_same_clock e = rw (← clock_read w is, eq-eqb r.clock c e)

  -- the recovered state
  abbrev s : ℕ
  s = p + 16384 * (r.scrambled % 8)

  module _ (other : r.clock ≡ c → ⊥) where
    pub first_state_0 : eqb s 0 ≡ true → hunting ≡ judge_first p c w
    unfolding judge_first first_by proves recovered
    first_state_0 e = rw (← clock_read w is, ← data_read w is, ne_eqb r.clock c other, e)

    module _ (some : eqb s 0 ≡ false) (t : ℕ) (step : t ≡ next_state s) where
      pub first_other_word : (r.scrambled ≡ word_of t → ⊥) → hunting ≡ judge_first p c w
      unfolding judge_first first_by proves recovered
      first_other_word h =
          rw (← clock_read w is, ← data_read w is, ne_eqb r.clock c other, some, ← step, ne_eqb r.scrambled (word_of t) h)

      pub first_proves : r.scrambled ≡ word_of t → (u : ℕ) → u ≡ next_state t → Prove no_bits 2 u r.clock ≡ judge_first p c w
      unfolding judge_first first_by proves recovered
      first_proves h u e =
          rw (← clock_read w is, ← data_read w is, ne_eqb r.clock c other, some, ← step, eq-eqb r.scrambled (word_of t) h, e)
          (ap (λ (x : ℕ). Prove no_bits 2 (next_state x) r.clock) step)

-- ---- Prove, with n frames read, state s and last clock bit c

module _ (n s c w : ℕ) (r : Reading) (is : r ≡ reading_of w) where
  pub prove_other_word : (r.scrambled ≡ word_of s → ⊥) → hunting ≡ judge_prove n s c w
  unfolding judge_prove prove_by
  prove_other_word h = rw (← data_read w is, ne_eqb r.scrambled (word_of s) h)

  module _ (word : r.scrambled ≡ word_of s) where
    pub prove_same_clock : eqb r.clock c ≡ true → hunting ≡ judge_prove n s c w
    unfolding judge_prove prove_by
    prove_same_clock e = rw (← clock_read w is, ← data_read w is, eq-eqb r.scrambled (word_of s) word, e)

    module _ (other : eqb r.clock c ≡ false) (t : ℕ) (step : t ≡ next_state s) where
      pub prove_goes_on : n < most_read → Prove no_bits (n + 1) t r.clock ≡ judge_prove n s c w
      unfolding judge_prove prove_by proving_frames
      prove_goes_on l = rw (← clock_read w is, ← data_read w is, eq-eqb r.scrambled (word_of s) word, other, lt-ltb n most_read l, step)

      pub prove_locks : most_read ≤ n → Locked no_bits 0 t (1 - r.clock) ≡ judge_prove n s c w
      unfolding judge_prove prove_by proving_frames
      prove_locks l = rw (← clock_read w is, ← data_read w is, eq-eqb r.scrambled (word_of s) word, other, le-ltb n most_read l, step)

-- ---- Locked, with results f, state s and expected clock bit c

module _ (f s c w : ℕ) (r : Reading) (is : r ≡ reading_of w) where
  -- the frame as read is faulty
  abbrev faulty : Bool
  faulty = not (eqb r.clock c)

  -- as the rule on faults has it of the frame
  faulty_read : is_faulty c w ≡ faulty
  faulty_read = ap (λ (x : ℕ). not (eqb x c)) (sym (clock_read w is))

  pub locked_lost : (d : ℤ) → d ≡ balance_of w → fault_rule f faulty ≡ None
      → record { mode = hunting; outcome = Outcome.Loss d } ≡ judge_locked f s c w
  unfolding judge_locked locked_by
  locked_lost d b e = rw (b, faulty_read, e)

  module _ (n t : ℕ) (kept : fault_rule f faulty ≡ Some n) (step : t ≡ next_state s) where
    pub locked_gap : (d : ℤ) → d ≡ balance_of w → faulty ≡ true
        → record { mode = Locked no_bits n t (1 - c); outcome = Outcome.Gap d } ≡ judge_locked f s c w
    unfolding judge_locked locked_by
    locked_gap d b e = rw (b, faulty_read, kept, e, step)

    pub locked_sample : (d : ℤ) → d ≡ balance_of w → faulty ≡ false → (x : ℕ) → x ≡ scrambled_data r.scrambled s
        → record { mode = Locked no_bits n t (1 - c); outcome = Outcome.Sample x d } ≡ judge_locked f s c w
    unfolding judge_locked locked_by
    locked_sample d b e x y =
        let z : x ≡ scrambled_data (scrambled_of w) s = y ∙ ap (λ (v : ℕ). scrambled_data v s) (data_read w is) in
        rw (z, b, faulty_read, kept, e, step)
