use Prim.Native.Nat.{◌+◌}
use native.Mathlib.Omega.{arith}
use Rattle.lane_rules.proofs.Modes.ModeRecord.{PartIn, part_in, part_held}
use lib.Pow.{pow_mono}
use Rattle.lane_modes.proofs.admission.Admitted.collect.Goals as goal

pub placed-bits-requires : goal.placed-bits-requires
placed-bits-requires c =
    let p : PartIn c.held_part-part.result = rw c.held_part-part.ensures (part_in _ (part_held _ c.args.self.in_range)) in
    (omega (arith, p.0), p.1, c.requires)

pub overflow_cast-result : goal.overflow_cast-result
overflow_cast-result c =
    let p : PartIn c.held_part-part.result = rw c.held_part-part.ensures (part_in _ (part_held _ c.args.self.in_range)) in
    record { fits = omega (arith, p.0, pow_mono {i = c.held_part-part.result.count + 1} {j = 16} (omega arith), c.placed-bits.ensures.1) }
