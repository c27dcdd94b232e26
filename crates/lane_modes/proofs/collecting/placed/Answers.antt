use Rattle.lane_rules.proofs.Basics.Bits.{place_lt}
use native.Mathlib.Omega.{arith}
use lib.Pow.{shl_exact}
use Rattle.lane_modes.proofs.collecting.placed.Goals as goal

pub returns : goal.returns
returns c =
    let a = c.args in
    let e = shl_exact {a = a.bit} 1 a.count 32 c.requires.2 (omega (arith, c.requires.0)) in
    (rw e, rw e (place_lt a.bits a.count a.bit c.requires.1 c.requires.2))
