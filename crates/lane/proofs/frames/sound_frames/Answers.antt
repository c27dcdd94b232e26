use Prim.Native.Nat.{◌+◌, ◌*◌}
use mathlib.Core.Path.{ap, ◌∙◌}
use native.Mathlib.Omega.{arith}
use Rattle.frame.specs.Frame.{within}
use Rattle.lane_rules.proofs.Modes.ModeRecord.{in_part}
use Rattle.lane_rules.proofs.Modes.OutcomeRanges.{balance_within}
use Rattle.lane_modes.proofs.Steps.JudgedFrames.{read_clock_range, balance_read}
use Rattle.lane.proofs.Loops.SoundRun.{sounding_holds, sounding_part, sounding_inside, sounding_again}
use Rattle.lane.proofs.frames.sound_frames.Goals as goal

pub frames-init : goal.frames-init
frames-init c =
    (sounding_holds _ c.args.start _ _ _ _ _ c.requires.stands c.requires.mode_value c.requires.count_bound c.requires.sum_value, omega arith)

pub two_bytes-all-requires : goal.two_bytes-all-requires
two_bytes-all-requires c = let i = c.frames.invariant.0 in
    record {
      held_value = in_part _ (sounding_part i);
      count_bound = i.few;
    }

pub with_frame_inside-sums-requires : goal.with_frame_inside-sums-requires
with_frame_inside-sums-requires c =
    sounding_inside c.frames.invariant.0 (omega arith) _
    (ap (within 16) (balance_read _ c.read-content.ensures) ∙ balance_within _)

pub overflow_sub-clock : goal.overflow_sub-clock
overflow_sub-clock c = omega (arith, read_clock_range _ c.read-content.ensures)

pub frames-preserved : goal.frames-preserved
frames-preserved c =
    let l = c.frames in
    let k = c.args.start.bytes + 2 * l.n in (
      sounding_again l.invariant.0 (omega arith) (omega arith) (omega arith) (omega (arith, (c.shared_slice_known-in-frames-1.given k).fits))
          (omega (arith, (c.shared_slice_known-in-frames-2-1.given (k + 1)).fits))
          c.two_bytes-all.result c.two_bytes-all.ensures c.read-content.result c.read-content.ensures c.if-seen-clock.false
          _ c.scramble-sample.ensures _ (balance_read _ c.read-content.ensures) _ c.with_frame_inside-sums.ensures _ c.advance-state.ensures,
      omega arith,
    )
