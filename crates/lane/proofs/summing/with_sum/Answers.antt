use mathlib.Core.Path.{◌∙◌}
use Rattle.std.proofs.Common.{rules}
use mir.Syntax.{w32}
use mir.Val.{SFits}
use Rattle.lane.proofs.Steps.SumsRead.{lower_is, higher_is, sum_added}
use Rattle.lane.proofs.summing.with_sum.Goals as goal

pub returns : goal.returns
returns c =
    let s = c.args.sums in
    let lowest : SFits w32 s.lowest = search rules in
    let highest : SFits w32 s.highest = search rules in
    sum_added s c.args.sum c.ranges.sum lowest highest _ _ (c.min.ensures.value ∙ lower_is _ _) (c.max.ensures.value ∙ higher_is _ _)
