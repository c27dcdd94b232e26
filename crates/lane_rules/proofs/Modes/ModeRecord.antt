-- Admitted modes: the test of each mode's parts as facts, and back. Assumes nothing.
use Prim.Native.Nat.{ℕ, ◌^◌, ◌≤◌, ◌<◌}
use mathlib.Core.Path.{◌≡◌}
use mathlib.Core.Bool.{true}
use mathlib.Core.Logic.{◌⊎◌}
use native.Mathlib.Omega.{arith}
use lib.Dec.{leb}
use borrow.Author.Tests.{leb-true, ltb-true, le-leb, lt-ltb}
use Rattle.frame.specs.Scrambler.{is_state}
use Rattle.frame.specs.Frame.{is_clock}
use Rattle.frame.proofs.Building.{clock_max}
use Rattle.std.specs.Cmp.{first_so, second_so}
use Rattle.lane_rules.specs.Receiver.{no_bits, part_admitted, is_scrambled, results_admitted, mode_admitted, most_read}
use Rattle.lane_rules.specs.Collecting.{held_part}
use Rattle.lane_rules.specs.declared.Partial.{Partial}
use Rattle.lane_rules.specs.declared.Mode.{Mode}
use Rattle.lane_rules.specs.declared.Mode.TheVariants.{Hunt, Flash, First, Prove, Locked}
use Rattle.std.proofs.lemmas.Bool.{and_from}
use Rattle.lane_rules.proofs.Basics.Tests.{is_one_of, one_of}

pub in_clock : (c : ℕ) → c ≤ 1 → is_clock c ≡ true
unfolding is_clock
in_clock c h = le-leb c 1 h

-- the bits held of a frame
abbrev pub PartIn : Partial → Type 0
PartIn p = (p.count ≤ 15) × (p.bits < 2 ^ p.count)

pub part_in : (p : Partial) → part_admitted p ≡ true → PartIn p
unfolding part_admitted
part_in p e = (leb-true _ _ (first_so (leb p.count 15) _ e), ltb-true _ _ (second_so (leb p.count 15) _ e))

pub in_part : (p : Partial) → PartIn p → part_admitted p ≡ true
unfolding part_admitted
in_part p h = and_from (leb p.count 15) _ (le-leb _ _ h.0) (lt-ltb _ _ h.1)

-- what an admitted mode's parts are
abbrev pub Admitted : Mode → Type 0
Admitted (Hunt bits count) = (count ≤ 32) × (bits < 2 ^ count)
Admitted (Flash part frame) = PartIn part × ((frame ≡ 0xFF00) ⊎ (frame ≡ 0x00FF))
Admitted (First part word clock) = PartIn part × (word ≤ 16383) × (clock ≤ 1)
Admitted (Prove part read state clock) = PartIn part × (2 ≤ read) × (read ≤ most_read) × (is_state state ≡ true) × (clock ≤ 1)
Admitted (Locked part results state clock) = PartIn part × (results_admitted results ≡ true) × (is_state state ≡ true) × (clock ≤ 1)

pub admitted_facts : (m : Mode) → mode_admitted m ≡ true → Admitted m
unfolding mode_admitted
admitted_facts (Hunt bits count) e = (leb-true _ _ (first_so (leb count 32) _ e), ltb-true _ _ (second_so (leb count 32) _ e))
admitted_facts (Flash part frame) e =
    (part_in part (first_so (part_admitted part) _ e), is_one_of frame _ _ (second_so (part_admitted part) _ e))
admitted_facts (First part word clock) e =
    let r = second_so (part_admitted part) _ e in (
      part_in part (first_so (part_admitted part) _ e),
      leb-true _ _ (first_so (is_scrambled word) _ r),
      clock_max clock (second_so (is_scrambled word) _ r),
    )
admitted_facts (Prove part read state clock) e =
    let r = second_so (part_admitted part) _ e in
    let q = second_so (leb 2 read) _ r in
    let t = second_so (leb read most_read) _ q in (
      part_in part (first_so (part_admitted part) _ e),
      leb-true _ _ (first_so (leb 2 read) _ r),
      leb-true _ _ (first_so (leb read most_read) _ q),
      first_so (is_state state) _ t,
      clock_max clock (second_so (is_state state) _ t),
    )
admitted_facts (Locked part results state clock) e =
    let r = second_so (part_admitted part) _ e in
    let t = second_so (results_admitted results) _ r in (
      part_in part (first_so (part_admitted part) _ e),
      first_so (results_admitted results) _ r,
      first_so (is_state state) _ t,
      clock_max clock (second_so (is_state state) _ t),
    )

pub facts_admitted : (m : Mode) → Admitted m → mode_admitted m ≡ true
unfolding mode_admitted
facts_admitted (Hunt bits count) h = and_from (leb count 32) _ (le-leb _ _ h.0) (lt-ltb _ _ h.1)
facts_admitted (Flash part frame) h = and_from (part_admitted part) _ (in_part part h.0) (one_of frame _ _ h.1)
facts_admitted (First part word clock) h =
    and_from (part_admitted part) _ (in_part part h.0) (and_from (is_scrambled word) _ (le-leb _ _ h.1) (in_clock clock h.2))
facts_admitted (Prove part read state clock) h =
    and_from (part_admitted part) _ (in_part part h.0)
    (and_from (leb 2 read) _ (le-leb _ _ h.1)
    (and_from (leb read most_read) _ (le-leb _ _ h.2) (and_from (is_state state) _ h.3 (in_clock clock h.4))))
facts_admitted (Locked part results state clock) h =
    and_from (part_admitted part) _ (in_part part h.0)
    (and_from (results_admitted results) _ h.1 (and_from (is_state state) _ h.2 (in_clock clock h.3)))

-- the bits of a frame that it holds
pub part_held : (m : Mode) → mode_admitted m ≡ true → part_admitted (held_part m) ≡ true
unfolding held_part
part_held (Hunt bits count) e = in_part no_bits (omega arith, omega arith)
part_held (Flash part frame) e = in_part part (admitted_facts (Flash part frame) e).0
part_held (First part word clock) e = in_part part (admitted_facts (First part word clock) e).0
part_held (Prove part read state clock) e = in_part part (admitted_facts (Prove part read state clock) e).0
part_held (Locked part results state clock) e = in_part part (admitted_facts (Locked part results state clock) e).0
