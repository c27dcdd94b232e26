use mathlib.Core.Path.{refl, ap, sym, ◌∙◌}
use lib.ListN.{length}
use Rattle.std.specs.Prelude.{Ok}
use borrow.Author.Tests.{not-false}
use native.Mathlib.Omega.{arith}
use Rattle.lane_rules.proofs.Feeding.FeedingRuns.{fed_ok}
use Rattle.lane.proofs.Loops.FeedingLoops.{outer_holds, outer_ends, stops_full}
use Rattle.lane.proofs.feeding.feed.Goals as goal

pub returns-then-slots-eq0 : goal.returns-then-slots-eq0
returns-then-slots-eq0 c =
    let g = sym c.mode_admitted.ensures ∙ not-false _ c.if-not-mode_admitted.false-raw in
    record {
      answer = ap Ok (outer_ends _ _ _ _ _ _ _ _ g refl (outer_holds _ _ _ g) (stops_full _ _ c.args.slots.now 0 (omega (arith, c.if-slots-eq0.true)))).0
          ∙ fed_ok c.args.rx g c.args.bytes.now (length c.args.slots.now);
      items = (outer_ends _ _ _ _ _ _ _ _ g refl (outer_holds _ _ _ g) (stops_full _ _ c.args.slots.now 0 (omega (arith, c.if-slots-eq0.true)))).1;
    }

pub returns : goal.returns
returns c =
    let g = sym c.mode_admitted.ensures ∙ not-false _ c.if-not-mode_admitted.false-raw in
    record {
      answer = ap Ok c.feed_bits.ensures.answer ∙ fed_ok c.args.rx g c.args.bytes.now (length c.args.slots.now);
      items = c.feed_bits.ensures.items;
    }
