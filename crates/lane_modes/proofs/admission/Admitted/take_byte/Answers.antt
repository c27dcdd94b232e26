use mathlib.Core.Path.{refl, sym, ◌∙◌}
use native.Mathlib.Omega.{arith}
use Rattle.lane_rules.specs.Collecting.{held_part}
use Rattle.lane_rules.proofs.Modes.ModeRecord.{part_in, in_part, part_held}
use Rattle.lane_modes.proofs.Steps.CollectingModes.{others_collect}
use Rattle.lane_modes.proofs.Bytes.WholeBytes.{byte_gives, bare_gives}
use Rattle.lane_modes.proofs.Bytes.SkippedBytes.{byte_skipped}
use Rattle.lane_modes.proofs.admission.Admitted.take_byte.Goals as goal

pub returns-in_default : goal.returns-in_default
returns-in_default c =
    rw c.collect_byte.ensures
    (byte_gives c.args.self.mode (others_collect c.args.self.mode c.in_default.not-Hunt) c.args.byte (omega arith)
    (part_in _ (part_held _ c.args.self.in_range)))

pub returns-then-is_mixed : goal.returns-then-is_mixed
unfolding held_part
returns-then-is_mixed c =
    rw (c.quiet.ensures, byte_skipped _ _ c.args.byte c.if-count-eq32.true (sym c.is_mixed.ensures ∙ c.if-is_mixed.true) (omega arith), c.in-Hunt.is)
    (bare_gives _ refl _)

pub go_on-requires : goal.go_on-requires
unfolding held_part
go_on-requires c =
    record {
      no_bits_held = rw c.in-Hunt.is refl;
      bits_value = in_part _ (omega arith, omega arith);
    }

pub returns : goal.returns
unfolding held_part
returns c = rw (c.quiet-2.ensures, c.go_on.ensures, c.in-Hunt.is) (bare_gives _ refl _)
