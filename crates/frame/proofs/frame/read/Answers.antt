use mathlib.Core.Path.{◌≡◌, ap, ◌∙◌}
use Prim.Native.Nat.{ℕ}
use native.Mathlib.Omega.{arith}
use lib.IntN.{ℤ}
use mir.Facts.{to_z-of_z}
use Rattle.frame.specs.Bits.{bit}
use Rattle.frame.specs.Frame.{disparity_of, content_of, reading_of}
use Rattle.frame.proofs.Machine.{read_back, within_fits}
use Rattle.frame.proofs.RunningDisparity.{disparity_within}
use Rattle.frame.proofs.frame.read.Goals as goal

-- a disparity, from the bits that a local holds
disparity_reads : (w : ℕ) (d : ℤ) → d ≡ disparity_of w → read_back d ≡ disparity_of w
disparity_reads w d e = ap read_back e ∙ to_z-of_z (within_fits 16 (disparity_of w) (omega arith) (disparity_within 16 w))

pub returns : goal.returns
unfolding reading_of
returns c =
    let w = c.args.frame in
    λ i. record {
      clock = (content_of (c.undo_inversion-plain.ensures i)).0;
      scrambled = (content_of (c.undo_inversion-plain.ensures i)).1;
      disparity = disparity_reads w c.disparity.result c.disparity.ensures i;
      inverted = bit 15 w;
    }
