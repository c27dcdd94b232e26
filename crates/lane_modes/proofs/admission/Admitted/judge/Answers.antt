use mathlib.Core.Logic.{⊎_elim}
use native.Mathlib.Omega.{arith}
use Rattle.lane_rules.proofs.Modes.ModeRecord.{admitted_facts}
use Rattle.lane_modes.proofs.admission.Admitted.judge.Goals as goal

pub judge_flash-requires : goal.judge_flash-requires
judge_flash-requires c =
    let a = admitted_facts _ (rw c.in-Flash.is at c.args.self.in_range) in ⊎_elim (λ e. omega arith) (λ e. omega arith) a.1

pub judge_first-requires : goal.judge_first-requires
judge_first-requires c =
    let a = admitted_facts _ (rw c.in-First.is at c.args.self.in_range) in a.1

pub judge_prove-requires : goal.judge_prove-requires
judge_prove-requires c =
    let a = admitted_facts _ (rw c.in-Prove.is at c.args.self.in_range) in
    record {
      read_bound = a.2;
      state_value = a.3;
    }

pub judge_locked-requires : goal.judge_locked-requires
judge_locked-requires c =
    let a = admitted_facts _ (rw c.in-Locked.is at c.args.self.in_range) in
    record {
      results_value = a.1;
      clock_bound = a.3;
    }
