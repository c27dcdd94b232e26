-- Sums over lists of feeding and SYNC calls: they are those of the frames judged in Locked since the last lock. Assumes nothing.
use Prim.Native.Nat.{ℕ}
use mathlib.Core.Path.{◌≡◌, refl, ap, sym, ◌∙◌}
use mathlib.Core.Bool.{true, false≢true}
use mathlib.Core.List.{List, [], ◌∷◌, ◌++◌}
use lib.ListN.{length, take, drop}
use Rattle.lane_rules.specs.Line.{byte_bits}
use Rattle.lane_rules.specs.Sums.{no_sums, sums_by, sums_after, disparities_in, with_frame, with_frames, NoneFound}
use Rattle.lane_rules.specs.Receiver.{receiver_admitted, receiver_after_sync}
use Rattle.lane_rules.specs.Feeding.{counted, run_of, fed_by}
use Rattle.lane_rules.specs.ReceiverCalls.{ReceiverCall, sync, feed, receive, outcomes_of}
use Rattle.lane_rules.specs.PromiseSums.{SumsAreKept}
use Rattle.lane_rules.specs.declared.Sums.{Sums}
use Rattle.lane_rules.specs.declared.Receiver.{Receiver}
use Rattle.lane_rules.specs.declared.Outcome.{Outcome}
use Rattle.lane_rules.proofs.Feeding.RunningTotals.{sums_append}
use Rattle.lane_rules.proofs.Feeding.FeedingRuns.{feeding_call}
use Rattle.lane_rules.proofs.Feeding.ReceiverLists.{sync_record, sync_admitted}

-- ---- the sums by outcomes

pub sums_after_lem : (rx : Receiver) (line : List ℕ) (calls : List ReceiverCall) → receiver_admitted rx ≡ true
    → (receive rx line calls).receiver.sums ≡ sums_after rx.sums (outcomes_of rx line calls)
unfolding receive outcomes_of sums_after counted
sums_after_lem rx line [] good = refl
sums_after_lem rx line (sync ∷ cs) good =
    let next = (receiver_after_sync rx) in
    sums_after_lem next line cs (sync_admitted rx good)
    ∙ ap (λ (r : Receiver). sums_after r.sums (outcomes_of next line cs)) (sync_record rx good)
sums_after_lem rx line (feed lent slots ∷ cs) good =
    let c = feeding_call rx line lent slots good in
    let a = fed_by rx (take lent line) (length slots) in
    let now = run_of rx.mode (byte_bits (take a.bytes line)) in
    let later = outcomes_of a.receiver (drop a.bytes line) cs in
    sums_after_lem a.receiver (drop a.bytes line) cs c.good
    ∙ ap (λ (r : Receiver). sums_after r.sums later) c.ends
    ∙ sym (sums_append rx.sums now.outcomes later)

-- with no lock found they are the old ones with the frames judged in Locked
sums_none_found : (s : Sums) (os : List Outcome) → NoneFound os → sums_after s os ≡ with_frames s (disparities_in os)
unfolding sums_after sums_by disparities_in with_frames NoneFound
sums_none_found s [] h = refl
sums_none_found s (Outcome.Nothing ∷ os) h = sums_none_found s os h.1
sums_none_found s (Outcome.Found ∷ os) h = absurd (false≢true (sym h.0))
sums_none_found s (Outcome.Sample x d ∷ os) h = sums_none_found (with_frame s d) os h.1
sums_none_found s (Outcome.Gap d ∷ os) h = sums_none_found (with_frame s d) os h.1
sums_none_found s (Outcome.Loss d ∷ os) h = sums_none_found (with_frame s d) os h.1

-- at a lock they start from 0
sums_found : (s : Sums) (before after : List Outcome) → sums_after s (before ++ (Outcome.Found ∷ after)) ≡ sums_after no_sums after
unfolding sums_after sums_by
sums_found s before after = sums_append s before (Outcome.Found ∷ after)

pub sums_are_kept : SumsAreKept
sums_are_kept rx line calls good = record {
  since_lock = λ before after e h.
      sums_after_lem rx line calls good ∙ ap (sums_after rx.sums) e ∙ sums_found rx.sums before after ∙ sums_none_found no_sums after h;
  none_found = λ h. sums_after_lem rx line calls good ∙ sums_none_found rx.sums (outcomes_of rx line calls) h;
}
