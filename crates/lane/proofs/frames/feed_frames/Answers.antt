use mathlib.Core.Path.{refl, ap, sym, ◌∙◌}
use lib.ListN.{length}
use Rattle.std.specs.Prelude.{Ok}
use borrow.Author.Tests.{not-false}
use Rattle.lane_rules.proofs.Feeding.FeedingRuns.{fed_ok}
use Rattle.lane.proofs.Loops.FeedingLoops.{stops_out, stops_full}
use Rattle.lane.proofs.Loops.FramesLoops.{along_holds, along_ends}
use Rattle.lane.proofs.frames.feed_frames.Goals as goal

pub bytes-init : goal.bytes-init
bytes-init c = (along_holds _ _ _ (sym c.mode_admitted.ensures ∙ not-false _ c.if-not-mode_admitted.false-raw), refl)

pub returns-else-fed-slots : goal.returns-else-fed-slots
returns-else-fed-slots c =
    let b = c.bytes in
    let full = along_ends b.fed.receiver b.fed.bytes b.fed.slots b.slots b.invariant.0 (stops_full _ _ b.slots _ c.if-fed-slots.false) in
    record {
      answer = ap Ok full.0 ∙ fed_ok c.args.rx (sym c.mode_admitted.ensures ∙ not-false _ c.if-not-mode_admitted.false-raw) c.args.bytes.now (length c.args.slots.now);
      items = full.1;
    }

pub returns-after-bytes : goal.returns-after-bytes
returns-after-bytes c =
    let b = c.bytes in
    let out = along_ends b.fed.receiver b.fed.bytes b.fed.slots b.slots b.invariant.0 (stops_out _ _ _ _ c.bytes-test.false) in
    record {
      answer = ap Ok out.0 ∙ fed_ok c.args.rx (sym c.mode_admitted.ensures ∙ not-false _ c.if-not-mode_admitted.false-raw) c.args.bytes.now (length c.args.slots.now);
      items = out.1;
    }
