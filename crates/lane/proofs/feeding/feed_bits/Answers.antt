use Prim.Native.Nat.{◌+◌}
use mathlib.Core.Path.{◌≡◌}
use native.Mathlib.Omega.{arith}
use Rattle.lane_rules.proofs.Modes.OutcomeRanges.{step_in_range}
use Rattle.lane.proofs.Loops.BitLoop.{inner_holds, inner_again, item_room}
use Rattle.lane.proofs.Loops.FeedingLoops.{Outer, outer_again, outer_ends, stops_out, stops_full}
use Rattle.lane.proofs.feeding.feed_bits.Goals as goal

pub loop-left-init : goal.loop-left-init
loop-left-init c = (inner_holds _ _ _ _ c.bytes.invariant.0.good c.bytes.invariant.1, omega arith)

pub put-used-requires : goal.put-used-requires
put-used-requires c =
    rw c.step-judged.ensures (item_room c.loop-left.invariant.0 c.loop-left.invariant.1)

pub count-receiver-requires : goal.count-receiver-requires
count-receiver-requires c = rw c.step-judged.ensures (step_in_range _ _)

pub bytes-preserved : goal.bytes-preserved
bytes-preserved c =
    let byte_taken : Outer c.args.rx c.args.bytes.now c.args.slots.now c.put-used.new.slots c.count-receiver.result (c.bytes.byte-index + 1) c.put-used.result =
    outer_again _ _ _ _ _ _ _ _ _ _ _ _ c.bytes.invariant.0 (omega arith) c.bytes.invariant.1
    (inner_again c.loop-left.invariant.0 c.loop-left.invariant.1 c.step-judged.result c.step-judged.ensures _ _ _
    c.put-used.ensures.number c.put-used.ensures.content c.count-receiver.ensures) (omega (arith, c.if-left-eq0.true)) in
    (byte_taken, c.if-slots-used.false, omega (arith, c.bytes.invariant.2))

pub loop-left-preserved : goal.loop-left-preserved
loop-left-preserved c = (
  inner_again c.loop-left.invariant.0 c.loop-left.invariant.1 c.step-judged.result c.step-judged.ensures _ _ _
      c.put-used.ensures.number c.put-used.ensures.content c.count-receiver.ensures,
  omega (arith, c.if-left-eq0.false),
)

pub returns-after-bytes : goal.returns-after-bytes
returns-after-bytes c =
    let b = c.bytes in
    let out = outer_ends _ _ _ _ _ _ _ _ c.requires.mode_value b.invariant.2 b.invariant.0 (stops_out _ c.args.bytes.now b.byte-index _ (omega arith)) in
    record {
      answer = out.0;
      items = out.1;
    }

pub returns-then-slots-used : goal.returns-then-slots-used
returns-then-slots-used c =
    let byte_taken : Outer c.args.rx c.args.bytes.now c.args.slots.now c.put-used.new.slots c.count-receiver.result (c.bytes.byte-index + 1) c.put-used.result =
    outer_again _ _ _ _ _ _ _ _ _ _ _ _ c.bytes.invariant.0 (omega arith) c.bytes.invariant.1
    (inner_again c.loop-left.invariant.0 c.loop-left.invariant.1 c.step-judged.result c.step-judged.ensures _ _ _
    c.put-used.ensures.number c.put-used.ensures.content c.count-receiver.ensures) (omega (arith, c.if-left-eq0.true)) in
    let counted : c.bytes.taken + 1 ≡ c.bytes.byte-index + 1 = omega (arith, c.bytes.invariant.2) in
    let full = outer_ends _ _ _ _ _ _ _ _ c.requires.mode_value counted byte_taken (stops_full _ _ c.put-used.new.slots _ c.if-slots-used.true) in
    record {
      answer = full.0;
      items = full.1;
    }
