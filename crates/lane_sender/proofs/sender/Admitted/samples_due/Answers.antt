use mathlib.Core.Path.{◌≡◌, refl, ◌∙◌}
use mathlib.Core.Bool.{Bool, true, false, not, cond}
use mir.Val.{bool_byte}
use Rattle.lane_rules.specs.Sending.{samples_due}
use Rattle.lane_sender.proofs.sender.Admitted.samples_due.Goals as goal

-- none where the test holds
counted : (b : Bool) → bool_byte (not b) ≡ cond b 0 1
counted true = refl
counted false = refl

pub returns : goal.returns
unfolding samples_due
returns c = rw (← c.in_sequence.ensures) (c.from.ensures ∙ counted c.in_sequence.result)
