-- Crossed lines: runs of bits, and feeding a mode. Assumes nothing.
use Prim.Native.Nat.{ℕ, zero, suc, ◌+◌, ◌-◌, ◌^◌, ◌<◌}
use mathlib.Core.Path.{◌≡◌, refl, ap, sym, ◌∙◌, subst}
use mathlib.Core.Bool.{true}
use mathlib.Core.Logic.{◌⊎◌, inl, inr}
use mathlib.Core.List.{List, [], ◌∷◌, ◌++◌, map, map-append}
use native.Mathlib.Omega.{arith}
use lib.ListN.{length}
use Rattle.frame.specs.Frame.{inverted}
use Rattle.lane_rules.specs.Line.{bits_lsb_first, AreBits, AreBytes}
use Rattle.lane_rules.specs.Receiver.{mode_admitted}
use Rattle.lane_rules.specs.Collecting.{step_of}
use Rattle.lane_rules.specs.Feeding.{item_of, items_in, Added, added, sum_of, Run, run_of, Feed, feed_of}
use Rattle.lane_rules.specs.Crossed.{crossed_bits, crossed_bytes, crossed_number, crossed_part, crossed_mode, crossed_outcome}
use Rattle.lane_rules.specs.declared.Partial.{Partial}
use Rattle.lane_rules.specs.declared.Mode.{Mode}
use Rattle.lane_rules.specs.declared.Mode.TheVariants.{Hunt, Flash, First, Prove, Locked}
use Rattle.lane_rules.specs.declared.Outcome.{Outcome}
use Rattle.lane_rules.proofs.Basics.Bits.{are_bits}
use Rattle.lane_rules.proofs.Modes.ModeRecord.{PartIn, Admitted, admitted_facts, facts_admitted}
use Rattle.lane_rules.proofs.Modes.AdmittedKept.{step_kept, admitted_kept}
use Rattle.lane_rules.proofs.Crossed.CrossedBits.{number_crossed}
use Rattle.lane_rules.proofs.Crossed.CrossedFrames.{step_crossed}

-- ---- the outcomes of a crossed line

abbrev pub crossed_outcomes : List Outcome → List Outcome
crossed_outcomes os = map crossed_outcome os

same_item : (o : Outcome) → item_of (crossed_outcome o) ≡ item_of o
same_item Outcome.Nothing = refl
same_item Outcome.Found = refl
same_item (Outcome.Sample x d) = refl
same_item (Outcome.Gap d) = refl
same_item (Outcome.Loss d) = refl

same_added : (o : Outcome) → added (crossed_outcome o) ≡ added o
same_added Outcome.Nothing = refl
same_added Outcome.Found = refl
same_added (Outcome.Sample x d) = refl
same_added (Outcome.Gap d) = refl
same_added (Outcome.Loss d) = refl

-- they hand out the same items, ..
pub same_items : (os : List Outcome) → items_in (crossed_outcomes os) ≡ items_in os
unfolding items_in
same_items [] = refl
same_items (o ∷ os) = λ i. same_item o i ++ same_items os i

-- .. and add the same to the totals
pub same_sum : (part : Added → ℕ) (os : List Outcome) → sum_of part (crossed_outcomes os) ≡ sum_of part os
unfolding sum_of
same_sum part [] = refl
same_sum part (o ∷ os) = λ i. part (same_added o i) + same_sum part os i

-- ---- runs

pub record SameRun (j k : Run) : Type 0 where
  pub mode : j.mode ≡ crossed_mode k.mode
  pub outcomes : j.outcomes ≡ crossed_outcomes k.outcomes

pub run_crossed : (m : Mode) (bits : List ℕ) → mode_admitted m ≡ true → AreBits bits
    → SameRun (run_of (crossed_mode m) (crossed_bits bits)) (run_of m bits)
unfolding run_of AreBits
run_crossed m [] a h = record { mode = refl; outcomes = refl }
run_crossed m (b ∷ bs) a h =
    let s = step_crossed m b (admitted_facts m a) h.0 in
    let e = ap (λ (k : Mode). run_of k (crossed_bits bs)) s.mode in
    let later = run_crossed (step_of m b).mode bs (step_kept m b a h.0) h.1 in
    record {
      mode = ap (λ (r : Run). r.mode) e ∙ later.mode;
      outcomes = λ i. s.outcome i ∷ (ap (λ (r : Run). r.outcomes) e ∙ later.outcomes) i;
    }

byte_crossed : (m : Mode) (b : ℕ) → mode_admitted m ≡ true → b < 256
    → SameRun (run_of (crossed_mode m) (bits_lsb_first 8 (255 - b))) (run_of m (bits_lsb_first 8 b))
byte_crossed m b a h =
    subst (λ (bits : List ℕ). SameRun (run_of (crossed_mode m) bits) (run_of m (bits_lsb_first 8 b))) (sym (number_crossed 8 b h))
    (run_crossed m (bits_lsb_first 8 b) a (are_bits 8 b))

-- ---- feeding a mode

pub record SameFeed (j k : Feed) : Type 0 where
  pub mode : j.mode ≡ crossed_mode k.mode
  pub used : j.used ≡ k.used
  pub outcomes : j.outcomes ≡ crossed_outcomes k.outcomes

pub feed_crossed : (m : Mode) (bytes : List ℕ) (free : ℕ) → mode_admitted m ≡ true → AreBytes bytes
    → SameFeed (feed_of (crossed_mode m) (crossed_bytes bytes) free) (feed_of m bytes free)
unfolding feed_of AreBytes
feed_crossed m [] free a h = record { mode = refl; used = refl; outcomes = refl }
feed_crossed m (b ∷ bs) zero a h = record { mode = refl; used = refl; outcomes = refl }
feed_crossed m (b ∷ bs) (suc n) a h =
    let k = run_of m (bits_lsb_first 8 b) in
    let j = run_of (crossed_mode m) (bits_lsb_first 8 (255 - b)) in
    let c = byte_crossed m b a h.0 in
    let items : items_in j.outcomes ≡ items_in k.outcomes = ap items_in c.outcomes ∙ same_items k.outcomes in
    let free = suc n - length (items_in k.outcomes) in
    let e : feed_of j.mode (crossed_bytes bs) (suc n - length (items_in j.outcomes)) ≡ feed_of (crossed_mode k.mode) (crossed_bytes bs) free =
    λ i. feed_of (c.mode i) (crossed_bytes bs) (suc n - length (items i)) in
    let later = feed_crossed k.mode bs free (admitted_kept m (bits_lsb_first 8 b) a (are_bits 8 b)) h.1 in
    record {
      mode = ap (λ (x : Feed). x.mode) e ∙ later.mode;
      used = ap suc (ap (λ (x : Feed). x.used) e ∙ later.used);
      outcomes =
          (λ i. c.outcomes i ++ (ap (λ (x : Feed). x.outcomes) e ∙ later.outcomes) i)
          ∙ sym (map-append crossed_outcome k.outcomes _);
    }

-- ---- the inverse of an admitted mode is admitted

number_in : (n v : ℕ) → v < 2 ^ n → crossed_number n v < 2 ^ n
number_in n v h = omega arith

part_in : (p : Partial) → PartIn p → PartIn (crossed_part p)
part_in p h = (h.0, number_in p.count p.bits h.1)

frame_in : (f : ℕ) → (f ≡ 0xFF00) ⊎ (f ≡ 0x00FF) → (inverted f ≡ 0xFF00) ⊎ (inverted f ≡ 0x00FF)
frame_in f (inl e) = inr (omega arith)
frame_in f (inr e) = inl (omega arith)

crossed_facts : (m : Mode) → Admitted m → Admitted (crossed_mode m)
unfolding crossed_mode
crossed_facts (Hunt bits count) a = (a.0, number_in count bits a.1)
crossed_facts (Flash part frame) a = (part_in part a.0, frame_in frame a.1)
crossed_facts (First part word clock) a = (part_in part a.0, a.1, a.2)
crossed_facts (Prove part read state clock) a = (part_in part a.0, a.1, a.2, a.3, a.4)
crossed_facts (Locked part results state clock) a = (part_in part a.0, a.1, a.2, a.3)

pub crossed_admitted : (m : Mode) → mode_admitted m ≡ true → mode_admitted (crossed_mode m) ≡ true
crossed_admitted m good = facts_admitted (crossed_mode m) (crossed_facts m (admitted_facts m good))
