use mathlib.Core.Path.{refl}
use native.Mathlib.Omega.{arith}
use Rattle.lane.proofs.Loops.FramesLoops.{along_byte}
use Rattle.lane.proofs.frames.feed_byte.Goals as goal

pub returns : goal.returns
returns c =
    let s = c.args.start in
    record {
      forth = omega arith;
      along = rw (c.count.ensures, c.put-used.ensures.number, c.put-used.ensures.content)
          (along_byte _ _ _ s.receiver s.bytes s.slots c.args.slots.now
          (record { stands = c.requires.stands; ends = refl; content = refl }) c.requires.bytes_in_bounds.0 c.requires.bytes_in_bounds.1 c.take_byte-judged.result c.take_byte-judged.ensures);
    }
