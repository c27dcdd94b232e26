-- Crossed pairs: records that are each other's inverse give the same, call by call, on a line and on the line crossed. Assumes nothing.
use Prim.Native.Nat.{ℕ, ◌-◌}
use mathlib.Core.Path.{◌≡◌, refl, ap, ap₂, sym, ◌∙◌}
use mathlib.Core.Bool.{true}
use mathlib.Core.List.{List, [], ◌∷◌, ◌++◌, map, map-append}
use lib.ListN.{length, take, drop}
use Rattle.lane_rules.specs.Line.{byte_bits, AreBytes}
use Rattle.lane_rules.specs.Sending.{over}
use Rattle.refusal.specs.Refusal.{told_number}
use Rattle.lane_rules.specs.Receiver.{is_locked, mode_admitted, receiver_admitted, fresh_receiver, receiver_sync_answer, receiver_after_sync}
use Rattle.lane_rules.specs.Feeding.{items_in, Added, sum_of, total, counted, run_of, feed_of, fed_by, slots_after}
use Rattle.lane_rules.specs.ReceiverCalls.{sync, feed, calls_give, outcomes_of}
use Rattle.lane_rules.specs.Crossed.{crossed_bytes, crossed_mode, crossed_outcome, Crossed}
use Rattle.lane_rules.specs.PromiseCrossed.{CrossedPairs, CrossedRecords, CrossedOutcomes}
use Rattle.lane_rules.specs.declared.Receiver.{Receiver}
use Rattle.lane_rules.specs.declared.Fed.{Fed}
use Rattle.lane_rules.proofs.Basics.Bits.{byte_bits_lem}
use Rattle.lane_rules.proofs.Feeding.FeedingRuns.{fed_taken, slots_taken, feeding_call}
use Rattle.lane_rules.proofs.Feeding.ReceiverLists.{sync_taken, sync_admitted}
use Rattle.std.proofs.lemmas.List.{take-map, drop-map}
use Rattle.lane_rules.proofs.Crossed.CrossedBits.{every_bit_inverted, bytes_taken, bytes_dropped}
use Rattle.lane_rules.proofs.Crossed.CrossedFrames.{locked_same}
use Rattle.lane_rules.proofs.Crossed.CrossedRuns.{same_items, same_sum, run_crossed, SameFeed, feed_crossed, crossed_admitted}

-- ---- one call

module _ (rx ry : Receiver) (good : receiver_admitted rx ≡ true) (c : Crossed rx ry) where
  pub crossed_good : receiver_admitted ry ≡ true
  crossed_good = ap mode_admitted c.mode ∙ crossed_admitted rx.mode good

  crossed_locked : is_locked ry.mode ≡ is_locked rx.mode
  crossed_locked = ap is_locked c.mode ∙ locked_same rx.mode

-- two feeding calls that answer the same
record SameFed (b a : Fed) : Type 0 where
  bytes : b.bytes ≡ a.bytes
  slots : b.slots ≡ a.slots
  next : Crossed a.receiver b.receiver

module _ (rx ry : Receiver) (good : receiver_admitted rx ≡ true) (c : Crossed rx ry) (bytes : List ℕ) (h : AreBytes bytes) where
  same_feed : (free : ℕ) → SameFeed (feed_of ry.mode (crossed_bytes bytes) free) (feed_of rx.mode bytes free)
  same_feed free = rw c.mode (feed_crossed rx.mode bytes free good h)

  items_crossed : (free : ℕ)
      → items_in (feed_of ry.mode (crossed_bytes bytes) free).outcomes ≡ items_in (feed_of rx.mode bytes free).outcomes
  items_crossed free = ap items_in (same_feed free).outcomes ∙ same_items _

  sums_crossed : (free : ℕ) (part : Added → ℕ)
      → sum_of part (feed_of ry.mode (crossed_bytes bytes) free).outcomes ≡ sum_of part (feed_of rx.mode bytes free).outcomes
  sums_crossed free part = ap (sum_of part) (same_feed free).outcomes ∙ same_sum part _

  fed_crossed : (free : ℕ) → SameFed (fed_by ry (crossed_bytes bytes) free) (fed_by rx bytes free)
  unfolding counted
  fed_crossed free =
      let s = same_feed free in
      rw (fed_taken rx good bytes free, fed_taken ry (crossed_good rx ry good c) (crossed_bytes bytes) free)
      (record {
        bytes = s.used;
        slots = ap length (items_crossed free);
        next = record {
          mode = s.mode;
          samples = ap₂ total c.samples (sums_crossed free (λ (a : Added). a.samples));
          gaps = ap₂ total c.gaps (sums_crossed free (λ (a : Added). a.gaps));
          losses = ap₂ total c.losses (sums_crossed free (λ (a : Added). a.losses));
        };
      })

  slots_crossed : (slots : List ℕ) → slots_after ry (crossed_bytes bytes) slots ≡ slots_after rx bytes slots
  slots_crossed slots =
      slots_taken ry (crossed_good rx ry good c) (crossed_bytes bytes) slots
      ∙ ap (λ (l : List ℕ). over l slots) (items_crossed (length slots)) ∙ sym (slots_taken rx good bytes slots)

sync_crossed : (rx ry : Receiver) → receiver_admitted rx ≡ true → Crossed rx ry
    → (told_number (receiver_sync_answer ry) ≡ told_number (receiver_sync_answer rx)) × Crossed (receiver_after_sync rx) (receiver_after_sync ry)
unfolding crossed_mode
sync_crossed rx ry good c =
    rw (sync_taken rx good, sync_taken ry (crossed_good rx ry good c))
    (refl, record { mode = refl; samples = c.samples; gaps = c.gaps; losses = c.losses })

-- ---- one call on a line

module _ (rx ry : Receiver) (good : receiver_admitted rx ≡ true) (c : Crossed rx ry) (line : List ℕ) (h : AreBytes line) (lent : ℕ)
    (slots : List ℕ) where
  abbrev plain : Fed
  plain = fed_by rx (take lent line) (length slots)

  abbrev crossed : Fed
  crossed = fed_by ry (take lent (crossed_bytes line)) (length slots)

  call_crossed : SameFed crossed plain
  call_crossed =
      rw (take-map (λ (b : ℕ). 255 - b) lent line) (fed_crossed rx ry good c (take lent line) (bytes_taken lent line h) (length slots))

  content_crossed : slots_after ry (take lent (crossed_bytes line)) slots ≡ slots_after rx (take lent line) slots
  content_crossed =
      rw (take-map (λ (b : ℕ). 255 - b) lent line) (slots_crossed rx ry good c (take lent line) (bytes_taken lent line h) slots)

  rest_crossed : drop crossed.bytes (crossed_bytes line) ≡ crossed_bytes (drop plain.bytes line)
  rest_crossed = rw call_crossed.bytes (drop-map (λ (b : ℕ). 255 - b) plain.bytes line)

  outcomes_crossed : (run_of ry.mode (byte_bits (take crossed.bytes (crossed_bytes line)))).outcomes
      ≡ map crossed_outcome (run_of rx.mode (byte_bits (take plain.bytes line))).outcomes
  outcomes_crossed =
      let used = take plain.bytes line in
      rw (
        call_crossed.bytes,
        take-map (λ (b : ℕ). 255 - b) plain.bytes line,
        every_bit_inverted used (bytes_taken plain.bytes line h),
        c.mode,
      )
      (run_crossed rx.mode (byte_bits used) good (byte_bits_lem used)).outcomes

-- ---- lists of calls

pub crossed_records : CrossedRecords
unfolding calls_give
crossed_records rx ry line [] good c h = refl
crossed_records rx ry line (sync ∷ cs) good c h =
    let s = sync_crossed rx ry good c in
    let n = s.1 in
    let fine = sync_admitted rx good in
    let later = crossed_records (receiver_after_sync rx) (receiver_after_sync ry) line cs fine n h in
    λ i. record {
      refusal = s.0 i;
      bytes = 0;
      slots = 0;
      content = [];
      samples = n.samples i;
      gaps = n.gaps i;
      losses = n.losses i;
      locked = crossed_locked (receiver_after_sync rx) (receiver_after_sync ry) fine n i;
    } ∷ later i
crossed_records rx ry line (feed lent slots ∷ cs) good c h =
    let a = fed_by rx (take lent line) (length slots) in
    let b = fed_by ry (take lent (crossed_bytes line)) (length slots) in
    let f : SameFed b a = call_crossed rx ry good c line h lent slots in
    let n = f.next in
    let call = feeding_call rx line lent slots good in
    let other = feeding_call ry (crossed_bytes line) lent slots (crossed_good rx ry good c) in
    let fine = call.good in
    let later =
    ap (λ (l : List ℕ). calls_give b.receiver l cs) (rest_crossed rx ry good c line h lent slots)
    ∙ crossed_records a.receiver b.receiver (drop a.bytes line) cs fine n (bytes_dropped a.bytes line h) in
    λ i. record {
      refusal = (other.taken ∙ sym call.taken) i;
      bytes = f.bytes i;
      slots = f.slots i;
      content = content_crossed rx ry good c line h lent slots i;
      samples = n.samples i;
      gaps = n.gaps i;
      losses = n.losses i;
      locked = crossed_locked a.receiver b.receiver fine n i;
    } ∷ later i

-- a fresh record is its own inverse
pub crossed_pairs : CrossedPairs
unfolding fresh_receiver crossed_mode mode_admitted
crossed_pairs line calls h =
    crossed_records fresh_receiver fresh_receiver line calls refl (record { mode = refl; samples = refl; gaps = refl; losses = refl }) h

pub crossed_outcomes_lem : CrossedOutcomes
unfolding outcomes_of
crossed_outcomes_lem rx ry line [] good c h = refl
crossed_outcomes_lem rx ry line (sync ∷ cs) good c h =
    crossed_outcomes_lem (receiver_after_sync rx) (receiver_after_sync ry) line cs (sync_admitted rx good)
    (sync_crossed rx ry good c).1 h
crossed_outcomes_lem rx ry line (feed lent slots ∷ cs) good c h =
    let a = fed_by rx (take lent line) (length slots) in
    let b = fed_by ry (take lent (crossed_bytes line)) (length slots) in
    let now = outcomes_crossed rx ry good c line h lent slots in
    let later =
    ap (λ (l : List ℕ). outcomes_of b.receiver l cs) (rest_crossed rx ry good c line h lent slots)
    ∙ crossed_outcomes_lem a.receiver b.receiver (drop a.bytes line) cs (feeding_call rx line lent slots good).good
    (call_crossed rx ry good c line h lent slots).next (bytes_dropped a.bytes line h) in
    (λ i. now i ++ later i) ∙ sym (map-append crossed_outcome (run_of rx.mode (byte_bits (take a.bytes line))).outcomes _)
