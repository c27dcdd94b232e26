use Prim.Native.Nat.{◌<◌}
use mathlib.Core.Path.{◌≡◌}
use lib.ListN.{length}
use Rattle.lane.proofs.Loops.BitLoop.{Inner}
use Rattle.lane.proofs.Loops.FeedingLoops.{Outer}
use Rattle.lane.proofs.feeding.feed_bits.Given as goal

abbrev pub invariant-loop-left : goal.invariant-loop-left
invariant-loop-left l =
    Inner l.initial.slots l.initial.receiver l.initial.used l.initial.rest l.slots l.receiver l.used l.rest l.left × (0 < l.left)

abbrev pub decreases-loop-left : goal.decreases-loop-left
decreases-loop-left l = l.left

abbrev pub invariant-bytes : goal.invariant-bytes
invariant-bytes l =
    Outer l.initial.receiver l.bytes l.initial.slots l.slots l.receiver l.byte-index l.used × (l.used < length l.slots) × (l.taken ≡ l.byte-index)
