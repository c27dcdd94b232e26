use mathlib.Core.Path.{◌≡◌, ap, ◌∙◌}
use Prim.Native.Nat.{ℕ, ◌-◌, ◌≤◌, ◌<◌, ◌^◌}
use native.Mathlib.Omega.{arith}
use lib.Count.{ones}
use lib.IntN.{pos, ◌-ℤ◌}
use mir.Syntax.{w32}
use mir.Val.{SFits, to_z}
use mir.Facts.{to_z_pos, to_z-of_z}
use Rattle.frame.specs.Frame.{disparity_in, disparity_of}
use Rattle.frame.proofs.Ones.{ones_in_lem, ones_le}
use Rattle.frame.proofs.Machine.{within_fits}
use Rattle.frame.proofs.RunningDisparity.{disparity_within}
use Rattle.frame.proofs.frame.disparity.Goals as goal

module _ (w : ℕ) (h : w < 2 ^ 16) where
  ones_16 : ones w ≤ 16
  ones_16 = omega (arith, ones_in_lem 16 w h, ones_le 16 w)

  -- ones minus zeros, as the code's casts read them
  counted : to_z w32 (ones w) -ℤ to_z w32 (16 - ones w) ≡ disparity_of w
  unfolding disparity_in
  counted =
      rw (to_z_pos w32 {n = ones w} (omega (arith, ones_16)), to_z_pos w32 {n = 16 - ones w} (omega (arith, ones_16)))
      (ap (λ (n : ℕ). pos n -ℤ pos (16 - n)) (ones_in_lem 16 w h))

  counted_fits : SFits w32 (to_z w32 (ones w) -ℤ to_z w32 (16 - ones w))
  counted_fits = rw counted (within_fits 16 (disparity_of w) (omega arith) (disparity_within 16 w))

pub returns : goal.returns
returns c =
    to_z-of_z (counted_fits c.args.frame c.ranges.frame.fits) ∙ counted c.args.frame c.ranges.frame.fits
