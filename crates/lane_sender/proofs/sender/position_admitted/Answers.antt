use mathlib.Core.Path.{sym, ◌∙◌}
use native.Mathlib.Omega.{arith}
use Rattle.lane_rules.specs.Sender.{alignment_frames, proving_frames, sequence_frames}
use Rattle.lane_rules.proofs.Sending.SenderRecord.{alignment_in}
use Rattle.lane_sender.proofs.sender.position_admitted.Goals as goal

pub overflow_add-result : goal.overflow_add-result
overflow_add-result c =
    omega (arith, (alignment_in _ (sym c.alignment_permitted.ensures ∙ c.if-alignment_permitted.true)).2)

pub returns-then-alignment_permitted : goal.returns-then-alignment_permitted
unfolding sequence_frames alignment_frames proving_frames
returns-then-alignment_permitted c =
    rw (sym c.alignment_permitted.ensures ∙ c.if-alignment_permitted.true)
