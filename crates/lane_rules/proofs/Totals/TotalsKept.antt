-- Totals over lists of feeding and SYNC calls: promise 4. Assumes nothing.
use Prim.Native.Nat.{ℕ, suc, ◌+◌, min}
use native.Mathlib.Nat.{zero-add}
use native.Mathlib.Numerals.{one-add}
use mathlib.Core.Path.{◌≡◌, refl, ap, sym, ◌∙◌}
use mathlib.Core.Bool.{true}
use mathlib.Core.List.{List, [], ◌∷◌, ◌++◌}
use native.Mathlib.Omega.{arith}
use lib.ListN.{length, take, drop}
use borrow.Author.Tests.{ne_eqb}
use Rattle.frame.specs.Frame.{is_sample}
use Rattle.frame.proofs.Building.{sample_max}
use Rattle.lane_rules.specs.Outcomes.{OutcomeIn}
use Rattle.lane_rules.specs.Line.{byte_bits}
use Rattle.lane_rules.specs.Receiver.{receiver_admitted, receiver_after_sync}
use Rattle.lane_rules.specs.Collecting.{step_of}
use Rattle.lane_rules.specs.Feeding.{items_in, samples_among, gaps_among, Added, sum_of, samples_in, gaps_in, losses_in, largest}
use Rattle.lane_rules.specs.Feeding.{total, counted, run_of, fed_by}
use Rattle.lane_rules.specs.ReceiverCalls.{ReceiverCall, sync, feed, receive, outcomes_of}
use Rattle.lane_rules.specs.Promise.{TotalsAreKept}
use Rattle.lane_rules.specs.declared.Mode.{Mode}
use Rattle.lane_rules.specs.declared.Receiver.{Receiver}
use Rattle.lane_rules.specs.declared.Outcome.{Outcome}
use Rattle.lane_rules.proofs.Feeding.RunningTotals.{total_0, total_more, total_is, sum_append}
use Rattle.lane_rules.proofs.Modes.OutcomeRanges.{step_in_range}
use Rattle.lane_rules.proofs.Feeding.FeedingRuns.{feeding_call}
use Rattle.lane_rules.proofs.Totals.LockedTally.{losses_tally, items_tally}
use Rattle.lane_rules.proofs.Feeding.ReceiverLists.{sync_record, sync_admitted, items_of_outcomes}

-- ---- the totals by outcomes

-- one of the three totals, and what an outcome adds to it
record TotalOf (of : Receiver → ℕ) (part : Added → ℕ) : Type 0 where
  counts : (rx : Receiver) (m : Mode) (os : List Outcome) → of (counted rx m os) ≡ total (of rx) (sum_of part os)
  sync_keeps : (rx : Receiver) → receiver_admitted rx ≡ true → of (receiver_after_sync rx) ≡ of rx

samples_total : TotalOf (λ rx. rx.samples) (λ a. a.samples)
unfolding counted
samples_total =
    record { counts = λ rx m os. refl; sync_keeps = λ rx good. ap (λ (r : Receiver). r.samples) (sync_record rx good) }

gaps_total : TotalOf (λ rx. rx.gaps) (λ a. a.gaps)
unfolding counted
gaps_total =
    record { counts = λ rx m os. refl; sync_keeps = λ rx good. ap (λ (r : Receiver). r.gaps) (sync_record rx good) }

losses_total : TotalOf (λ rx. rx.losses) (λ a. a.losses)
unfolding counted
losses_total =
    record { counts = λ rx m os. refl; sync_keeps = λ rx good. ap (λ (r : Receiver). r.losses) (sync_record rx good) }

total_after : {of : Receiver → ℕ} {part : Added → ℕ} → TotalOf of part
    → (rx : Receiver) (line : List ℕ) (calls : List ReceiverCall) → receiver_admitted rx ≡ true
    → of (receive rx line calls).receiver ≡ total (of rx) (sum_of part (outcomes_of rx line calls))
unfolding receive outcomes_of sum_of
total_after p rx line [] good = sym (total_0 _)
total_after {of} {part} p rx line (sync ∷ cs) good =
    total_after p (receiver_after_sync rx) line cs (sync_admitted rx good)
    ∙ ap (λ (n : ℕ). total n (sum_of part (outcomes_of (receiver_after_sync rx) line cs))) (p.sync_keeps rx good)
total_after {of} {part} p rx line (feed lent slots ∷ cs) good =
    let c = feeding_call rx line lent slots good in
    let a = fed_by rx (take lent line) (length slots) in
    let now = run_of rx.mode (byte_bits (take a.bytes line)) in
    let later = outcomes_of a.receiver (drop a.bytes line) cs in
    total_after p a.receiver (drop a.bytes line) cs c.good
    ∙ ap (λ (r : Receiver). total (of r) (sum_of part later)) c.ends
    ∙ ap (λ (n : ℕ). total n (sum_of part later)) (p.counts rx now.mode now.outcomes)
    ∙ total_more (of rx) (sum_of part now.outcomes) (sum_of part later)
    ∙ ap (total (of rx)) (sym (sum_append part now.outcomes later))

-- ---- samples handed out are in their range, so items tell samples from gaps

unfoldable InRange : List Outcome → Type 0
InRange [] = Unit {0}
InRange (o ∷ os) = OutcomeIn o × InRange os

run_in_range : (m : Mode) (bits : List ℕ) → InRange (run_of m bits).outcomes
unfolding run_of InRange
run_in_range m [] = tt
run_in_range m (b ∷ bs) = (step_in_range m b, run_in_range (step_of m b).mode bs)

in_range_append : (os ps : List Outcome) → InRange os → InRange ps → InRange (os ++ ps)
unfolding InRange
in_range_append [] ps h k = k
in_range_append (o ∷ os) ps h k = (h.0, in_range_append os ps h.1 k)

outcomes_in_range : (rx : Receiver) (line : List ℕ) (calls : List ReceiverCall) → InRange (outcomes_of rx line calls)
unfolding outcomes_of InRange
outcomes_in_range rx line [] = tt
outcomes_in_range rx line (sync ∷ cs) = outcomes_in_range (receiver_after_sync rx) line cs
outcomes_in_range rx line (feed lent slots ∷ cs) =
    let a = fed_by rx (take lent line) (length slots) in
    in_range_append (run_of rx.mode (byte_bits (take a.bytes line))).outcomes (outcomes_of a.receiver (drop a.bytes line) cs)
    (run_in_range rx.mode (byte_bits (take a.bytes line)))
    (outcomes_in_range a.receiver (drop a.bytes line) cs)

samples_among_lem : (os : List Outcome) → InRange os → samples_in os ≡ samples_among (items_in os)
unfolding InRange items_in samples_among sum_of is_sample
samples_among_lem [] h = refl
samples_among_lem (Outcome.Nothing ∷ os) h = zero-add _ ∙ samples_among_lem os h.1
samples_among_lem (Outcome.Found ∷ os) h = zero-add _ ∙ samples_among_lem os h.1
samples_among_lem (Outcome.Sample x d ∷ os) h = rw h.0.0 (one-add _ ∙ ap suc (samples_among_lem os h.1))
samples_among_lem (Outcome.Gap d ∷ os) h = zero-add _ ∙ samples_among_lem os h.1
samples_among_lem (Outcome.Loss d ∷ os) h = zero-add _ ∙ samples_among_lem os h.1

gaps_among_lem : (os : List Outcome) → InRange os → gaps_in os ≡ gaps_among (items_in os)
unfolding InRange items_in gaps_among sum_of
gaps_among_lem [] h = refl
gaps_among_lem (Outcome.Nothing ∷ os) h = zero-add _ ∙ gaps_among_lem os h.1
gaps_among_lem (Outcome.Found ∷ os) h = zero-add _ ∙ gaps_among_lem os h.1
gaps_among_lem (Outcome.Sample x d ∷ os) h = rw (ne_eqb x 16384 (λ e. omega (arith, sample_max x h.0.0))) (zero-add _ ∙ gaps_among_lem os h.1)
gaps_among_lem (Outcome.Gap d ∷ os) h = one-add _ ∙ ap suc (gaps_among_lem os h.1)
gaps_among_lem (Outcome.Loss d ∷ os) h = one-add _ ∙ ap suc (gaps_among_lem os h.1)

-- ---- promise 4

pub totals_are_kept : TotalsAreKept
totals_are_kept rx line calls good hs hg hl =
    let os = outcomes_of rx line calls in
    let items = items_of_outcomes rx line calls good in
    let within = outcomes_in_range rx line calls in
    record {
      samples =
          total_after samples_total rx line calls good ∙ total_is rx.samples (samples_in os) hs
          ∙ ap (λ (n : ℕ). min largest (rx.samples + n)) (samples_among_lem os within ∙ ap samples_among (sym items));
      gaps =
          total_after gaps_total rx line calls good ∙ total_is rx.gaps (gaps_in os) hg
          ∙ ap (λ (n : ℕ). min largest (rx.gaps + n)) (gaps_among_lem os within ∙ ap gaps_among (sym items));
      losses =
          total_after losses_total rx line calls good ∙ total_is rx.losses (losses_in os) hl
          ∙ ap (λ (n : ℕ). min largest (rx.losses + n)) (losses_tally rx line calls);
      items = items;
      one_each = ap length items ∙ items_tally rx line calls;
    }
