-- Lists of the receiver's calls: none is refused, and feeding calls that use a line are one run of its bits. Assumes nothing.
use Prim.Native.Nat.{ℕ}
use mathlib.Core.Path.{◌≡◌, refl, ap, sym, ◌∙◌}
use mathlib.Core.Bool.{true}
use mathlib.Core.List.{List, [], ◌∷◌, ◌++◌}
use lib.ListN.{length, take, drop, take-append-drop}
use Rattle.std.specs.Prelude.{Result, Ok}
use Rattle.std.specs.Result.{result_unwrap_or}
use Rattle.refusal.specs.Refusal.{told_number}
use Rattle.refusal.specs.declared.Refusal.{Refusal}
use Rattle.lane_rules.specs.Line.{byte_bits}
use Rattle.lane_rules.specs.Receiver.{mode_admitted, receiver_admitted, in_hunt, receiver_sync_answer, receiver_after_sync}
use Rattle.lane_rules.specs.Feeding.{items_in, counted, run_of, fed_by}
use Rattle.lane_rules.specs.ReceiverCalls.{ReceiverCall, sync, feed, receive, outcomes_of, OnlyFeeding, NoneRefused}
use Rattle.lane_rules.specs.Promise.{NeverRefused}
use Rattle.lane_rules.specs.declared.Receiver.{Receiver}
use Rattle.lane_rules.specs.declared.Outcome.{Outcome}
use Rattle.lane_rules.proofs.Basics.Bits.{byte_bits_append}
use Rattle.lane_rules.proofs.Feeding.Runs.{run_append_outcomes, items_append}
use Rattle.lane_rules.proofs.Feeding.FeedingRuns.{bits_used, FeedingCall, feeding_call}

-- SYNC on an admitted record
pub sync_taken : (rx : Receiver) → receiver_admitted rx ≡ true
    → receiver_sync_answer rx ≡ Ok (in_hunt rx)
unfolding receiver_sync_answer
sync_taken rx good = rw good

pub sync_record : (rx : Receiver) → receiver_admitted rx ≡ true → receiver_after_sync rx ≡ in_hunt rx
sync_record rx good = ap (λ (a : Result Receiver Refusal). result_unwrap_or a rx) (sync_taken rx good)

pub sync_admitted : (rx : Receiver) → receiver_admitted rx ≡ true → receiver_admitted (receiver_after_sync rx) ≡ true
unfolding mode_admitted
sync_admitted rx good = ap (λ (r : Receiver). mode_admitted r.mode) (sync_record rx good)

pub never_refused : NeverRefused
unfolding receive NoneRefused
never_refused rx line [] good = tt
never_refused rx line (sync ∷ cs) good =
    (ap (λ (a : Result Receiver Refusal). told_number a) (sync_taken rx good), never_refused (receiver_after_sync rx) line cs (sync_admitted rx good))
never_refused rx line (feed lent slots ∷ cs) good =
    let c = feeding_call rx line lent slots good in
    (c.taken, never_refused (fed_by rx (take lent line) (length slots)).receiver (drop (fed_by rx (take lent line) (length slots)).bytes line) cs c.good)

-- the slots used hold the items of the outcomes
pub items_of_outcomes : (rx : Receiver) (line : List ℕ) (calls : List ReceiverCall) → receiver_admitted rx ≡ true
    → (receive rx line calls).items ≡ items_in (outcomes_of rx line calls)
unfolding receive outcomes_of items_in
items_of_outcomes rx line [] good = refl
items_of_outcomes rx line (sync ∷ cs) good = items_of_outcomes _ line cs (sync_admitted rx good)
items_of_outcomes rx line (feed lent slots ∷ cs) good =
    let c = feeding_call rx line lent slots good in
    let later = items_of_outcomes (fed_by rx (take lent line) (length slots)).receiver
    (drop (fed_by rx (take lent line) (length slots)).bytes line) cs c.good in
    (λ i. c.hands i ++ later i) ∙ sym (items_append (run_of rx.mode (bits_used rx line lent slots)).outcomes _)

-- one call, and then the others on the rest of the line
one_call : (rx : Receiver) (line : List ℕ) (lent : ℕ) (slots : List ℕ) (later : List Outcome) → FeedingCall rx line lent slots
    → let a = fed_by rx (take lent line) (length slots) in
    later ≡ (run_of a.receiver.mode (byte_bits (drop a.bytes line))).outcomes
    → (run_of rx.mode (byte_bits (take a.bytes line))).outcomes ++ later ≡ (run_of rx.mode (byte_bits line)).outcomes
unfolding counted
one_call rx line lent slots later c e =
    let n = (fed_by rx (take lent line) (length slots)).bytes in
    let front = byte_bits (take n line) in
    let back = byte_bits (drop n line) in
    ap (λ (os : List Outcome). (run_of rx.mode front).outcomes ++ os)
    (e ∙ ap (λ (r : Receiver). (run_of r.mode back).outcomes) c.ends)
    ∙ sym (run_append_outcomes rx.mode front back)
    ∙ ap (λ (bs : List ℕ). (run_of rx.mode bs).outcomes) (sym (byte_bits_append (take n line) (drop n line)))
    ∙ ap (λ (l : List ℕ). (run_of rx.mode (byte_bits l)).outcomes) (take-append-drop n line)

-- feeding calls that use the line: the outcomes are those of its bits
pub feeding_is_one_run : (rx : Receiver) (line : List ℕ) (calls : List ReceiverCall) → receiver_admitted rx ≡ true
    → OnlyFeeding calls → (receive rx line calls).left ≡ []
    → outcomes_of rx line calls ≡ (run_of rx.mode (byte_bits line)).outcomes
unfolding receive outcomes_of OnlyFeeding byte_bits run_of
feeding_is_one_run rx line [] good only none = ap (λ (l : List ℕ). (run_of rx.mode (byte_bits l)).outcomes) (sym none)
feeding_is_one_run rx line (sync ∷ cs) good only none = absurd only
feeding_is_one_run rx line (feed lent slots ∷ cs) good only none =
    let c = feeding_call rx line lent slots good in
    one_call rx line lent slots _ c
    (feeding_is_one_run (fed_by rx (take lent line) (length slots)).receiver
    (drop (fed_by rx (take lent line) (length slots)).bytes line) cs c.good only none)
