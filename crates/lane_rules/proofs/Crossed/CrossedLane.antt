-- A crossed lane after one sequence: it gives the samples, and bursts spoil no more than on a straight one. Assumes nothing.
use Prim.Native.Nat.{ℕ, ◌-◌, ◌≤◌}
use mathlib.Core.Path.{◌≡◌, ap, sym, ◌∙◌, subst}
use mathlib.Core.Bool.{true}
use mathlib.Core.List.{List, ◌++◌, map-append}
use lib.ListN.{length-map}
use Rattle.lane_rules.specs.Line.{frame_bits, AreBits}
use Rattle.lane_rules.specs.Receiver.{mode_admitted}
use Rattle.lane_rules.specs.Feeding.{items_in, run_of}
use Rattle.lane_rules.specs.SenderCalls.{SendersList}
use Rattle.lane_rules.specs.Crossed.{straight, crossed_bits, crossed_mode}
use Rattle.lane_rules.specs.Promise.{Resynchronises}
use Rattle.lane_rules.specs.PromiseCrossed.{CrossedLane}
use Rattle.lane_rules.specs.declared.Mode.{Mode}
use Rattle.lane_rules.proofs.Basics.Bits.{are_bits_append, are_bits_left, frame_bits_lem}
use Rattle.lane_rules.proofs.Feeding.Runs.{items_of}
use Rattle.lane_rules.proofs.Sending.WrittenFrames.{sequence}
use Rattle.lane_rules.proofs.Resynchronisation.Resynchronisation.{locked_by, line_bits, FromLock, straight_from_lock, resynchronises, gives_samples}
use Rattle.lane_rules.proofs.Crossed.CrossedBits.{are_bits_crossed, crossed_twice}
use Rattle.lane_rules.proofs.Crossed.CrossedRuns.{same_items, run_crossed, crossed_admitted}

-- bits and the bits crossed give the same items
items_crossed : (m : Mode) (bits : List ℕ) → mode_admitted m ≡ true → AreBits bits
    → items_of (crossed_mode m) (crossed_bits bits) ≡ items_of m bits
items_crossed m bits good h = ap items_in (run_crossed m bits good h).outcomes ∙ same_items (run_of m bits).outcomes

-- bits that arrived crossed, crossed back
crossed_back : (xs rest : List ℕ) → AreBits xs → crossed_bits (crossed_bits xs ++ rest) ≡ xs ++ crossed_bits rest
crossed_back xs rest h =
    map-append (λ (b : ℕ). 1 - b) (crossed_bits xs) rest ∙ ap (λ (l : List ℕ). l ++ crossed_bits rest) (crossed_twice xs h)

module _ (list : SendersList) (noise arrived tail : List ℕ) where
  abbrev first : List ℕ
  first = frame_bits (sequence list)

  line_back : crossed_bits (line_bits crossed_bits noise list arrived tail) ≡ line_bits straight (crossed_bits noise) list arrived (crossed_bits tail)
  line_back =
      map-append (λ (b : ℕ). 1 - b) noise _
      ∙ ap (λ (l : List ℕ). crossed_bits noise ++ l)
      (crossed_back first (crossed_bits (frame_bits arrived) ++ tail) (frame_bits_lem (sequence list))
      ∙ ap (λ (l : List ℕ). first ++ l) (crossed_back (frame_bits arrived) tail (frame_bits_lem arrived)))

  before_back : crossed_bits (noise ++ crossed_bits first) ≡ crossed_bits noise ++ first
  before_back =
      map-append (λ (b : ℕ). 1 - b) noise (crossed_bits first)
      ∙ ap (λ (l : List ℕ). crossed_bits noise ++ l) (crossed_twice first (frame_bits_lem (sequence list)))

pub crossed_from_lock : FromLock crossed_bits
crossed_from_lock m list noise arrived tail good bits =
    let first = frame_bits (sequence list) in
    let back = line_back list noise arrived tail in
    let before = are_bits_append noise (crossed_bits first) (are_bits_left noise _ bits) (are_bits_crossed first) in
    sym (items_crossed m (line_bits crossed_bits noise list arrived tail) good bits) ∙ ap (items_of (crossed_mode m)) back
    ∙ straight_from_lock (crossed_mode m) list (crossed_bits noise) arrived (crossed_bits tail) (crossed_admitted m good)
    (subst AreBits back (are_bits_crossed (line_bits crossed_bits noise list arrived tail)))
    ∙ ap (λ (l : List ℕ). l ++ items_of (locked_by list) (frame_bits arrived ++ crossed_bits tail))
    (ap (items_of (crossed_mode m)) (sym (before_back list noise arrived tail)) ∙ items_crossed m (noise ++ crossed_bits first) good before)

-- ---- the promises

pub crossed_resynchronises : (longest : ℕ) → 1 ≤ longest → longest ≤ 2 → Resynchronises crossed_bits longest
crossed_resynchronises = resynchronises crossed_bits crossed_from_lock (λ bits. length-map bits (λ (b : ℕ). 1 - b))

pub crossed_lane : CrossedLane
crossed_lane = gives_samples crossed_bits crossed_from_lock (λ bits. length-map bits (λ (b : ℕ). 1 - b))
