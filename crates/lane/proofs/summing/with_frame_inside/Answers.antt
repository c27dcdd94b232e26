use mathlib.Core.Path.{◌∙◌}
use Rattle.lane.proofs.Steps.SumsRead.{inside_fits, inside_added}
use Rattle.lane.proofs.summing.with_frame_inside.Goals as goal

pub overflow_add-sums : goal.overflow_add-sums
overflow_add-sums c =
    inside_fits c.args.sums c.args.disparity (record { sfits = c.struct_told-1.given.0.1 }) c.ranges.disparity c.requires

pub returns : goal.returns
returns c =
    c.with_sum.ensures
    ∙ inside_added c.args.sums c.args.disparity (record { sfits = c.struct_told-1.given.0.1 }) c.ranges.disparity c.requires
