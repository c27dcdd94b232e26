use Prim.Native.Nat.{◌-◌, ◌≤◌}
use lib.ListN.{length}
use Rattle.lane.specs.PrivateCalls.{answer_from, slots_from}
use Rattle.lane.proofs.Loops.SoundRun.{Sounding}
use Rattle.lane.proofs.frames.sound_frames.Given as goal

abbrev pub invariant-frames : goal.invariant-frames
invariant-frames l =
    Sounding l.bytes (answer_from l.start l.bytes (length l.initial.slots)) (slots_from l.start l.bytes l.initial.slots) l.start l.results l.initial.slots l.held l.state l.clock l.sums l.n l.slots
    × (l.n ≤ l.room)

abbrev pub decreases-frames : goal.decreases-frames
decreases-frames l = l.room - l.n
