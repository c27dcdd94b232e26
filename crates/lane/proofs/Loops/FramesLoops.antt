-- The loop of feeding by whole frames: what holds at its head, at the start and after a turn, and what it says at the end. Assumes
-- nothing.
use Prim.Native.Nat.{ℕ, zero, suc, ◌+◌, ◌-◌, ◌≤◌, ◌<◌}
use mathlib.Core.List.{List, [], ◌∷◌, ◌++◌}
use mathlib.Core.Path.{◌≡◌, ap, sym, subst, ◌∙◌}
use mathlib.Core.Bool.{true}
use native.Mathlib.Omega.{arith}
use native.Mathlib.Nat.{add-zero, zero-add, sub-zero}
use lib.ListN.{length, get_or, drop, length-append}
use lib.Seq.{sets, sets-eq, length-sets}
use Rattle.lane_rules.specs.Line.{bits_lsb_first}
use Rattle.lane_rules.specs.Receiver.{mode_admitted}
use Rattle.lane_rules.specs.Sending.{over}
use Rattle.lane_rules.specs.Feeding.{item_of, items_in, counted, Run, run_of, Feed, feed_of, fed_by, slots_after}
use Rattle.lane_rules.specs.declared.Receiver.{Receiver}
use Rattle.lane_rules.specs.declared.Judged.{Judged}
use Rattle.lane_rules.specs.declared.Fed.{Fed}
use Rattle.lane_rules.specs.declared.Mode.{Mode}
use Rattle.lane_modes.specs.PrivateCalls.{Gives}
use Rattle.lane.specs.PrivateCalls.{answer_from, slots_from, Along}
use Rattle.lane_rules.proofs.Basics.Bits.{are_bits}
use Rattle.lane_rules.proofs.Feeding.Runs.{items_append}
use Rattle.lane_rules.proofs.Modes.AdmittedKept.{admitted_kept}
use Rattle.lane_rules.proofs.Feeding.ItemSpacing.{byte_once}
use Rattle.lane_rules.proofs.Feeding.FeedingRuns.{fed_is, slots_taken}
use Rattle.lane_modes.proofs.Bytes.ToldOutcomes.{items_one, items_same, counted_same}
use Rattle.lane_modes.proofs.Bytes.LeftBits.{byte_run}
use Rattle.lane.proofs.Steps.CountedOutcomes.{counted_none, counted_more}
use Rattle.lane.proofs.Loops.BitLoop.{sets_append}
use Rattle.lane.proofs.Loops.FeedingLoops.{bytes_after, stopped, feed_next}

-- ---- places on the way

abbrev pub place_of : Receiver → ℕ → ℕ → Fed
place_of rx k v = record { receiver = rx; bytes = k; slots = v }

-- what a place answers in the end, by what feeding from it gives
abbrev answer_of : Receiver → ℕ → ℕ → Feed → Fed
answer_of rx k v f =
    record {
      receiver = counted rx f.mode f.outcomes;
      bytes = k + f.used;
      slots = v + length (items_in f.outcomes);
    }

-- no more items than slots
feed_fits : (m : Mode) (bytes : List ℕ) (free : ℕ) → length (items_in (feed_of m bytes free).outcomes) ≤ free
unfolding feed_of items_in
feed_fits m [] free = omega arith
feed_fits m (b ∷ bs) zero = omega arith
feed_fits m (b ∷ bs) (suc n) =
    let r = run_of m (bits_lsb_first 8 b) in
    let f = feed_of r.mode bs (suc n - length (items_in r.outcomes)) in
    omega (
      arith,
      byte_once m b,
      feed_fits r.mode bs (suc n - length (items_in r.outcomes)),
      ap length (items_append r.outcomes f.outcomes),
      length-append (items_in r.outcomes) (items_in f.outcomes),
    )

-- the whole way
pub along_holds : (rx : Receiver) (bytes s : List ℕ) → mode_admitted rx.mode ≡ true
    → Along bytes (fed_by rx bytes (length s)) (slots_after rx bytes s) (place_of rx 0 0) s
unfolding answer_from slots_from over
along_holds rx bytes s g =
    let f = feed_of rx.mode bytes (length s) in
    let fits : 0 + length (items_in f.outcomes) ≤ length s = omega (arith, feed_fits rx.mode bytes (length s)) in
    record {
      stands = record { good = g; within = omega arith; fits = omega arith };
      ends = rw (sub-zero, zero-add f.used, zero-add (length (items_in f.outcomes))) (sym (fed_is rx g bytes (length s)));
      content =
          rw sub-zero (sets-eq (items_in f.outcomes) s 0 fits)
          ∙ ap (λ (q : ℕ). items_in f.outcomes ++ drop q s) (zero-add (length (items_in f.outcomes)))
          ∙ sym (slots_taken rx g bytes s);
    }

-- ---- one byte

module _ (bytes : List ℕ) (answer : Fed) (filled : List ℕ) where
  module _ (rx : Receiver) (k v : ℕ) (t : List ℕ) (a : Along bytes answer filled (place_of rx k v) t) (h : k < length bytes)
      (l : v < length t) where
    abbrev x : ℕ
    x = get_or bytes k 0

    abbrev byte : Run
    byte = byte_run rx.mode x

    abbrev items : List ℕ
    items = items_in byte.outcomes

    abbrev later : Feed
    later = feed_of byte.mode (drop (k + 1) bytes) (length t - v - length items)

    next : feed_of rx.mode (drop k bytes) (length t - v) ≡ bytes_after byte later
    next = feed_next rx.mode bytes k (length t - v) h (omega arith)

    -- the place after it
    abbrev ry : Receiver
    ry = counted rx byte.mode byte.outcomes

    abbrev u : List ℕ
    u = sets t v items

    then_later : feed_of ry.mode (drop (k + 1) bytes) (length u - (v + length items)) ≡ later
    unfolding counted
    then_later =
        let free : length u - (v + length items) ≡ length t - v - length items = omega (arith, length-sets t v items) in
        ap (feed_of byte.mode (drop (k + 1) bytes)) free

    split : items_in (byte.outcomes ++ later.outcomes) ≡ items ++ items_in later.outcomes
    split = items_append byte.outcomes later.outcomes

    run_ends : answer_from (place_of ry (k + 1) (v + length items)) bytes (length u) ≡ answer_from (place_of rx k v) bytes (length t)
    unfolding answer_from
    run_ends =
        let bytes-are : k + 1 + later.used ≡ k + suc later.used = omega arith in
        let slots-are : v + length items + length (items_in later.outcomes) ≡ v + length (items_in (byte.outcomes ++ later.outcomes)) =
        omega (arith, ap length split, length-append items (items_in later.outcomes)) in
        ap (answer_of ry (k + 1) (v + length items)) then_later
        ∙ (λ i. record {
          receiver = counted_more rx byte.mode later.mode byte.outcomes later.outcomes i;
          bytes = bytes-are i;
          slots = slots-are i;
        })
        ∙ ap (answer_of rx k v) (sym next)

    run_content : slots_from (place_of ry (k + 1) (v + length items)) bytes u ≡ slots_from (place_of rx k v) bytes t
    unfolding slots_from
    run_content =
        ap (λ (f : Feed). sets u (v + length items) (items_in f.outcomes)) then_later
        ∙ sym (sets_append t v items (items_in later.outcomes)) ∙ ap (sets t v) (sym split)
        ∙ ap (λ (f : Feed). sets t v (items_in f.outcomes)) (sym next)

    along_run : Along bytes answer filled (place_of ry (k + 1) (v + length items)) u
    unfolding counted
    along_run =
        record {
          stands =
              record {
                good = admitted_kept rx.mode (bits_lsb_first 8 x) a.stands.good (are_bits 8 x);
                within = omega arith;
                fits = omega (arith, byte_once rx.mode x, length-sets t v items);
              };
          ends = run_ends ∙ a.ends;
          content = run_content ∙ a.content;
        }

    -- the same as the code has it: the byte gives one outcome
    pub along_byte : (j : Judged) → Gives byte j
        → Along bytes answer filled (place_of (counted rx j.mode (j.outcome ∷ [])) (k + 1) (v + length (item_of j.outcome)))
        (sets t v (item_of j.outcome))
    along_byte j g =
        let same : items ≡ item_of j.outcome = sym (items_same (j.outcome ∷ []) byte.outcomes g.outcomes) ∙ items_one j.outcome in
        let is : ry ≡ counted rx j.mode (j.outcome ∷ []) =
        sym (counted_same (j.outcome ∷ []) byte.outcomes g.outcomes rx j.mode ∙ ap (λ (m : Mode). counted rx m byte.outcomes) g.mode) in
        subst (λ (r : Receiver). Along bytes answer filled (place_of r (k + 1) (v + length (item_of j.outcome))) (sets t v (item_of j.outcome))) is
        (subst (λ (l : List ℕ). Along bytes answer filled (place_of ry (k + 1) (v + length l)) (sets t v l)) same along_run)

-- ---- the end: no byte is left, or no slot is free

pub along_ends : {bytes : List ℕ} {answer : Fed} {filled : List ℕ} (rx : Receiver) (k v : ℕ) (t : List ℕ)
    → Along bytes answer filled (place_of rx k v) t → feed_of rx.mode (drop k bytes) (length t - v) ≡ stopped rx.mode
    → (◌≡◌ {A = Fed} (record { receiver = rx; bytes = k; slots = v }) answer) × (t ≡ filled)
unfolding answer_from slots_from items_in
along_ends rx k v t a e = (
  sym (ap (answer_of rx k v) e ∙ (λ i. record {
    receiver = counted_none rx i;
    bytes = add-zero k i;
    slots = add-zero v i;
  })) ∙ a.ends,
  ap (λ (f : Feed). sets t v (items_in f.outcomes)) (sym e) ∙ a.content,
)
