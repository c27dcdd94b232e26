use Prim.Native.Nat.{ℕ, ◌+◌, ◌-◌, ◌^◌, ◌<◌}
use mathlib.Core.Path.{◌≡◌, subst}
use native.Mathlib.Omega.{arith}
use Rattle.lane_rules.proofs.Modes.ModeRecord.{PartIn, part_in, in_part, part_held, admitted_facts, facts_admitted}
use Rattle.lane_rules.proofs.Modes.AdmittedKept.{judge_kept}
use Rattle.lane_rules.proofs.Feeding.ItemSpacing.{judge_bare}
use lib.Pow.{shr_lt}
use Rattle.lane_modes.proofs.admission.Admitted.collect_byte.Goals as goal

pub invariant_of-next : goal.invariant_of-next
invariant_of-next c =
    record { in_range = rw c.judge-judged.ensures (facts_admitted _ (judge_kept _ _ (admitted_facts _ c.args.self.in_range))) }

pub go_on-requires : goal.go_on-requires
go_on-requires c =
    let w = c.with_byte-bits.result in
    let n = c.held_part-count.result.count in
    let p : PartIn c.held_part-count.result = rw c.held_part-count.ensures (part_in _ (part_held _ c.args.self.in_range)) in
    let fits : w < 2 ^ (n + 8) = rw c.held_part-count.ensures c.with_byte-bits.ensures.fits in
    let e : n + 8 ≡ n - 8 + 16 = omega (arith, c.if-count-lt8.false) in
    record {
      no_bits_held = rw c.judge-judged.ensures (judge_bare _ _);
      bits_value = in_part _ (omega (arith, p.0), shr_lt {n = w} (n - 8) 16 (subst (λ (k : ℕ). w < 2 ^ k) e fits));
    }
