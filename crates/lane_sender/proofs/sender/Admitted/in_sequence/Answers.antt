use mathlib.Core.Path.{refl}
use native.Mathlib.Omega.{arith}
use Rattle.lane_rules.specs.Sender.{alignment_frames, proving_frames, sequence_frames}
use Rattle.lane_rules.specs.Sending.{in_sequence}
use Rattle.lane_rules.proofs.Sending.SenderRecord.{admitted_facts}
use Rattle.lane_sender.proofs.sender.Admitted.in_sequence.Goals as goal

pub overflow_add-result : goal.overflow_add-result
overflow_add-result c =
    let a = admitted_facts c.args.self.tx c.args.self.admitted in
    record { fits = omega (arith, a.alignment_max) }

pub returns : goal.returns
unfolding in_sequence sequence_frames alignment_frames proving_frames
returns c = refl
