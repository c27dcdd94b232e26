use mathlib.Core.Path.{◌∙◌}
use Rattle.lane.proofs.Steps.SumsRead.{frame_added}
use Rattle.lane.proofs.summing.with_frame.Goals as goal

pub returns : goal.returns
returns c =
    let told = c.struct_told-1.given in
    c.with_sum.ensures
    ∙ frame_added c.args.sums c.args.disparity (record { sfits = told.0.1 }) c.ranges.disparity _ c.saturating_add.ensures
