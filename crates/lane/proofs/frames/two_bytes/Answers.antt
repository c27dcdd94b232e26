use Prim.Native.Nat.{◌+◌, ◌*◌, ◌^◌}
use native.Mathlib.Omega.{arith}
use lib.Pow.{pow_mono}
use Rattle.lane_rules.proofs.Modes.ModeRecord.{part_in}
use Rattle.lane_modes.proofs.Steps.Numbers.{byte_lt, pair_at, pair_is}
use Rattle.lane.proofs.frames.two_bytes.Goals as goal

pub overflow_add-result-2 : goal.overflow_add-result-2
overflow_add-result-2 c =
    let a = c.args in
    let n = a.held.count in
    let first = byte_lt a.held.bits n a.first (part_in _ c.requires.held_value).1 (omega arith) in
    let second = byte_lt (a.held.bits + a.first * 2 ^ n) (n + 8) a.second first (omega arith) in
    record {
      fits =
          omega (
            arith,
            pair_at a.first a.second n (omega arith) (omega arith) c.requires.count_bound,
            pair_is a.held.bits a.first a.second n,
            second,
            pow_mono {i = n + 8 + 8} {j = 32} (omega arith),
          );
    }

pub returns : goal.returns
returns c =
    let a = c.args in
    rw (pair_at a.first a.second a.held.count (omega arith) (omega arith) c.requires.count_bound)
    (pair_is a.held.bits a.first a.second a.held.count)
