use Prim.Native.Nat.{◌-◌}
use lib.ListN.{length}
use Rattle.lane_sender.proofs.Loops.SendingLoop.{SentSoFar}
use Rattle.lane_sender.proofs.sender.Admitted.send_frames.Given as goal

abbrev pub invariant-loop-sample : goal.invariant-loop-sample
invariant-loop-sample l = SentSoFar l.samples l.initial.buf l.initial.sender.tx l.buf l.sender.tx l.taken l.written

abbrev pub decreases-loop-sample : goal.decreases-loop-sample
decreases-loop-sample l = length l.initial.buf - l.written
