use Prim.Native.Nat.{◌-◌, ◌/◌, ◌^◌}
use Rattle.lane_modes.proofs.Bytes.RestLoop.{Rest}
use Rattle.lane_modes.proofs.admission.Admitted.hunt_on.Given as goal

abbrev pub invariant-loop-taken : goal.invariant-loop-taken
invariant-loop-taken l =
    Rest l.fn.self.mode l.bits.bits l.bits.count l.mode (l.bits.bits / 2 ^ l.taken) (l.bits.count - l.taken)
