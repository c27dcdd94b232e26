use mathlib.Core.Path.{◌≡◌, refl, sym, ap, ap₂, ◌∙◌}
use mathlib.Core.Bool.{Bool, true, false, cond, ◌||◌}
use Prim.Native.Nat.{ℕ, suc}
use native.Mathlib.Omega.{arith}
use lib.IntN.{ℤ, pos, negsuc, ◌+ℤ◌}
use lib.Signed.{lt_z}
use mir.Val.{bool_byte}
use Rattle.frame.specs.Frame.{plain_limit, inverts, disparity_bit}
use Rattle.frame.proofs.Machine.{sum_fits, sum_reads}
use Rattle.frame.proofs.RunningDisparity.{inverts_outside}
use Rattle.frame.proofs.frame.disparity_bit.Goals as goal

-- a test as a number
bit_of : (b : Bool) → bool_byte b ≡ cond b 1 0
bit_of true = refl
bit_of false = refl

-- the code's bounds are −(low + 1) and high, its sum s
chosen : (low high : ℕ) (s r d : ℤ) → suc low ≡ plain_limit → high ≡ plain_limit → s ≡ r +ℤ d
    → bool_byte (lt_z s (negsuc low) || lt_z (pos high) s) ≡ disparity_bit r d
unfolding disparity_bit
chosen low high s r d l h e =
    ap₂ (λ (n : ℕ) (z : ℤ). bool_byte (lt_z z (negsuc low) || lt_z (pos n) z)) (h ∙ sym l) e
    ∙ ap bool_byte (inverts_outside low r d l) ∙ bit_of (inverts r d)

pub overflow_add-sum : goal.overflow_add-sum
overflow_add-sum c = sum_fits 16 16 c.args.r c.args.d (omega arith) c.requires.r_value c.requires.d_value

pub returns : goal.returns
returns c =
    let r = c.args.r in
    let d = c.args.d in
    chosen _ _ _ r d (omega arith) (omega arith) (sum_reads 16 16 r d (omega arith) c.requires.r_value c.requires.d_value)
