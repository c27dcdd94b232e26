use mathlib.Core.Path.{sym, ◌∙◌}
use Rattle.lane_rules.proofs.Sending.SenderRecord.{start_is_start_with}
use Rattle.lane_sender.proofs.sender.start.Goals as goal

pub returns : goal.returns
returns c = c.start_with.ensures ∙ sym (start_is_start_with c.args.seed)
