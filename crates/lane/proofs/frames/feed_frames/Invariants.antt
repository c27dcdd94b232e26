use Prim.Native.Nat.{◌-◌}
use mathlib.Core.Path.{◌≡◌}
use lib.ListN.{length}
use Rattle.lane_rules.specs.Feeding.{fed_by, slots_after}
use Rattle.lane.specs.PrivateCalls.{Along}
use Rattle.lane.proofs.frames.feed_frames.Given as goal

abbrev pub invariant-bytes : goal.invariant-bytes
invariant-bytes l =
    Along l.bytes (fed_by l.initial.fed.receiver l.bytes (length l.initial.slots)) (slots_after l.initial.fed.receiver l.bytes l.initial.slots) l.fed l.slots
    × (length l.slots ≡ length l.initial.slots)

abbrev pub decreases-bytes : goal.decreases-bytes
decreases-bytes l = length l.bytes - l.fed.bytes
