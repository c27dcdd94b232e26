use native.Mathlib.Omega.{arith}
use Prim.Native.Nat.{◌+◌}
use lib.Pow.{pow_mono}
use Rattle.lane_rules.proofs.Modes.ModeRecord.{PartIn, part_in, part_held}
use Rattle.lane_modes.proofs.Steps.Numbers.{byte_at, byte_lt}
use Rattle.lane_modes.proofs.admission.Admitted.with_byte.Goals as goal

pub overflow_shl-result : goal.overflow_shl-result
overflow_shl-result c =
    let p : PartIn c.held_part-part.result = rw c.held_part-part.ensures (part_in _ (part_held _ c.args.self.in_range)) in
    omega (arith, p.0)

pub overflow_add-result : goal.overflow_add-result
overflow_add-result c =
    let part = c.held_part-part.result in
    let p : PartIn part = rw c.held_part-part.ensures (part_in _ (part_held _ c.args.self.in_range)) in
    record {
      fits =
          omega (
            arith,
            byte_at c.args.byte part.count (omega arith) (omega (arith, p.0)),
            byte_lt part.bits part.count c.args.byte p.1 (omega arith),
            pow_mono {i = part.count + 8} {j = 32} (omega (arith, p.0)),
          );
    }

pub returns : goal.returns
returns c =
    let part = c.held_part-part.result in
    let p : PartIn part = rw c.held_part-part.ensures (part_in _ (part_held _ c.args.self.in_range)) in
    let e = byte_at c.args.byte part.count (omega arith) (omega (arith, p.0)) in
    record {
      value = rw (← c.held_part-part.ensures, e);
      fits = rw (← c.held_part-part.ensures, e) (byte_lt part.bits part.count c.args.byte p.1 (omega arith));
    }
