use mathlib.Core.Path.{sym, ap, ◌∙◌}
use mathlib.Core.Bool.{Bool, ◌&&◌, and_assoc, and-true}
use lib.ListN.{drop_of_length-le}
use Rattle.frame.specs.Frame.{is_sample}
use Rattle.lane_rules.specs.Sending.{are_samples}
use Rattle.lane_sender.proofs.Steps.SenderAnswers.{samples_step}
use Rattle.lane_sender.proofs.sending.are_samples.Goals as goal

pub loop-x-preserved : goal.loop-x-preserved
unfolding is_sample
loop-x-preserved c =
    let xs = c.args.samples.now in
    let good : Bool = c.loop-x.good in
    c.loop-x.invariant ∙ ap (λ (t : Bool). good && t) (samples_step xs c.loop-x.x-index c.loop-x-test.true) ∙ sym (and_assoc good _ _)

pub returns : goal.returns
unfolding are_samples
returns c =
    sym (c.loop-x.invariant ∙ rw (drop_of_length-le c.args.samples.now c.loop-x-test.false) (and-true c.loop-x.good))
