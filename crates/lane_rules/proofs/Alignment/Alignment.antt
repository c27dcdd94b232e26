-- Alignment: the alignment frames bring every admitted mode to Flash, holding the last of them, and lose every lock. Assumes nothing.
use Prim.Native.Nat.{ℕ, ◌+◌, ◌*◌, ◌-◌, ◌≤◌}
use mathlib.Core.Path.{◌≡◌, ap, sym, subst, ◌∙◌}
use mathlib.Core.List.{List}
use native.Mathlib.Omega.{arith}
use lib.ListN.{length, take}
use Rattle.lane_rules.specs.Feeding.{run_of}
use Rattle.lane_rules.specs.Promise.{Alignment, LockLost}
use Rattle.lane_rules.specs.declared.Mode.{Mode}
use Rattle.lane_rules.specs.declared.Mode.TheVariants.{Hunt, Flash, First, Prove, Locked}
use Rattle.lane_rules.proofs.Modes.ModeRecord.{Admitted, admitted_facts}
use Rattle.lane_rules.proofs.Alignment.AlignmentPattern.{stretch, pairs_pattern, bits_of_pattern, first_of_stretch}
use Rattle.lane_rules.proofs.Alignment.AlignedRuns.{Aligns, HuntsWithin}
use Rattle.lane_rules.proofs.Alignment.LockLost.{locked_hunts_within}
use Rattle.lane_rules.proofs.Alignment.AlignedFrames.{aligns_collecting}
use Rattle.lane_rules.proofs.Alignment.HuntWindow.{aligns_hunt}

pattern_aligns : (m : Mode) (n : ℕ) → Admitted m → 6 ≤ n → Aligns m (32 * n)
pattern_aligns (Hunt bits count) n a h =
    subst (Aligns (Hunt bits count)) (let e : 32 + 32 * (n - 1) ≡ 32 * n = omega arith in e)
    (aligns_hunt (n - 1) (omega arith) bits count a.0 a.1)
pattern_aligns (Flash part frame) n a h = aligns_collecting (Flash part frame) (32 * n) tt a (omega arith)
pattern_aligns (First part word clock) n a h = aligns_collecting (First part word clock) (32 * n) tt a (omega arith)
pattern_aligns (Prove part read state clock) n a h = aligns_collecting (Prove part read state clock) (32 * n) tt a (omega arith)
pattern_aligns (Locked part results state clock) n a h =
    aligns_collecting (Locked part results state clock) (32 * n) tt a (omega arith)

pub aligns : Alignment
aligns m n a h =
    ap (λ (bits : List ℕ). (run_of m bits).mode) (pairs_pattern n) ∙ pattern_aligns m n (admitted_facts m a) (omega arith)

pub lock_lost : LockLost
lock_lost part results state clock pairs before bits after a is count =
    let locked : Mode = Locked part results state clock in
    let c : ℕ = length after in
    let r : HuntsWithin (15 + 16 * 8) locked (143 + c) =
    locked_hunts_within part results state clock (143 + c) (admitted_facts locked a) (omega arith) in
    let k : ℕ = 143 - r.bits in
    let whole : 143 ≡ r.bits + k = omega (arith, r.few) in
    let left : k + c ≡ r.left = omega (arith, r.few, r.whole) in
    let first : take r.bits bits ≡ stretch r.bits r.left =
    ap (take r.bits) (bits_of_pattern (32 * pairs) before bits after (sym (pairs_pattern pairs) ∙ is))
    ∙ ap (λ (n : ℕ). take r.bits (stretch n c)) (count ∙ whole) ∙ first_of_stretch r.bits k c
    ∙ ap (stretch r.bits) left in
    (r.bits, ap (λ (l : List ℕ). (run_of locked l).mode) first ∙ r.hunts)
