-- The line before a frame: R is the ones minus the zeros so far, and the run of equal bits at the line's end is short enough for
-- whatever frame comes at the record's position. An alignment frame keeps both. Assumes nothing.
use Prim.Native.Nat.{ℕ, ◌+◌, ◌%◌, ◌≤◌, ◌<◌}
use mathlib.Core.Path.{◌≡◌}
use mathlib.Core.Bool.{Bool, true, false, cond}
use mathlib.Core.Logic.{◌⊎◌}
use native.Mathlib.Omega.{arith}
use lib.Dec.{eqb}
use Rattle.frame.specs.Scrambler.{word_of, next_state}
use Rattle.frame.proofs.Difference.{Difference, difference_at}
use Rattle.lane_rules.specs.Line.{bits_lsb_first}
use Rattle.lane_rules.specs.Sender.{alignment_frame, alignment_next}
use Rattle.lane_rules.specs.Balance.{ones, zeros}
use Rattle.lane_rules.specs.declared.Sender.{Sender}
use Rattle.lane_rules.specs.Sender.{Framed}
use Rattle.lane_rules.proofs.Sending.SenderRecord.{Admitted, position_rises, alignment_admitted}
use Rattle.lane_rules.proofs.Balance.RunLengths.{run_after, RunsAtMost32}
use Rattle.lane_rules.proofs.Balance.FrameRuns.{even_runs, even_run_after, odd_runs, odd_run_after}

-- ---- the run before a frame

-- m is the length of the run at the line's end
pub record RunBefore (t : Sender) (m : ℕ) : Type 0 where
  pub run_max : m ≤ 24
  pub clock_aligning : t.position ≤ t.alignment → t.clock ≡ 0
  pub state_aligning : t.position ≤ t.alignment → t.state ≡ t.seed
  pub run_aligning : 1 ≤ t.position → t.position ≤ t.alignment → m ≤ 8
  pub clock_at_second : t.position ≡ t.alignment + 1 → t.clock ≡ 1
  pub state_at_second : t.position ≡ t.alignment + 1 → t.state ≡ next_state t.seed
  pub run_at_second : t.position ≡ t.alignment + 1 → (m ≤ 15) ⊎ (word_of t.seed ≡ 0)
  pub run_clock_0 : t.alignment + 2 ≤ t.position → t.clock ≡ 0 → m ≤ 1
  pub run_clock_1 : t.alignment + 2 ≤ t.position → t.clock ≡ 1 → m ≤ 17

-- o ones and z zeros are on the line
pub record LineState (t : Sender) (o z m : ℕ) : Type 0 where
  pub admitted : Admitted t
  pub r_is : Difference t.r o z
  pub run : RunBefore t m

-- a frame, and the record after it, keep the line's state, after o ones and z zeros and a run of m bits b
pub record FrameKeeps (f : Framed) (o z b m : ℕ) : Type 0 where
  pub runs : RunsAtMost32 b m (bits_lsb_first 16 f.frame)
  pub next : LineState f.sender (o + ones (bits_lsb_first 16 f.frame)) (z + zeros (bits_lsb_first 16 f.frame))
      (run_after b m (bits_lsb_first 16 f.frame))

pub aligning : (t : Sender) (m : ℕ) → t.position ≤ t.alignment → t.clock ≡ 0 → t.state ≡ t.seed → m ≤ 24 → (1 ≤ t.position → m ≤ 8)
    → RunBefore t m
aligning t m p c s h k = record {
  run_max = h;
  clock_aligning = λ _. c;
  state_aligning = λ _. s;
  run_aligning = λ q _. k q;
  clock_at_second = λ e. absurd (omega arith);
  state_at_second = λ e. absurd (omega arith);
  run_at_second = λ e. absurd (omega arith);
  run_clock_0 = λ q _. absurd (omega arith);
  run_clock_1 = λ q _. absurd (omega arith);
}

pub at_second : (t : Sender) (m : ℕ) → t.position ≡ t.alignment + 1 → t.clock ≡ 1 → t.state ≡ next_state t.seed → m ≤ 24
    → (m ≤ 15) ⊎ (word_of t.seed ≡ 0) → RunBefore t m
at_second t m p c s h r = record {
  run_max = h;
  clock_aligning = λ k. absurd (omega arith);
  state_aligning = λ k. absurd (omega arith);
  run_aligning = λ _ k. absurd (omega arith);
  clock_at_second = λ _. c;
  state_at_second = λ _. s;
  run_at_second = λ _. r;
  run_clock_0 = λ k _. absurd (omega arith);
  run_clock_1 = λ k _. absurd (omega arith);
}

pub from_third : (t : Sender) (m : ℕ) → t.alignment + 2 ≤ t.position → m ≤ 17 → (t.clock ≡ 0 → m ≤ 1) → RunBefore t m
from_third t m p h k = record {
  run_max = omega arith;
  clock_aligning = λ e. absurd (omega arith);
  state_aligning = λ e. absurd (omega arith);
  run_aligning = λ _ e. absurd (omega arith);
  clock_at_second = λ e. absurd (omega arith);
  state_at_second = λ e. absurd (omega arith);
  run_at_second = λ e. absurd (omega arith);
  run_clock_0 = λ _ c. k c;
  run_clock_1 = λ _ _. h;
}

-- ---- an alignment frame

pub alignment_keeps : (t : Sender) (o z b m : ℕ) → LineState t o z m → t.position < t.alignment → FrameKeeps (alignment_next t) o z b m
unfolding alignment_next alignment_frame ones zeros bits_lsb_first
alignment_keeps t o z b m s h = go (eqb (t.position % 2) 0)
  where
    run_8 : RunBefore (alignment_next t).sender 8
    run_8 =
        aligning (alignment_next t).sender 8 (omega (arith, position_rises t (omega arith))) (s.run.clock_aligning (omega arith))
        (s.run.state_aligning (omega arith)) (omega arith) (λ _. omega arith)

    go : (e : Bool) → FrameKeeps (record { frame = cond e 0xFF00 0x00FF; sender = (alignment_next t).sender }) o z b m
    go true = record {
      runs = even_runs b m s.run.run_max;
      next = record {
        admitted = alignment_admitted t s.admitted;
        r_is = difference_at t.r o z (o + 8) (z + 8) (omega arith) s.r_is;
        run = rw (even_run_after b m) run_8;
      };
    }
    go false = record {
      runs = odd_runs b m s.run.run_max;
      next = record {
        admitted = alignment_admitted t s.admitted;
        r_is = difference_at t.r o z (o + 8) (z + 8) (omega arith) s.r_is;
        run = rw (odd_run_after b m) run_8;
      };
    }
