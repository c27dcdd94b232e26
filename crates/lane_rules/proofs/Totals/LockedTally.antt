-- What the outcomes of a run add to the losses, and the items that they hand out, are the losses of lock and the frames judged in Locked.
-- Assumes nothing.
use Prim.Native.Nat.{ℕ, ◌+◌}
use mathlib.Core.Path.{◌≡◌, refl, ap, ◌∙◌}
use mathlib.Core.Bool.{Bool, true, false, not, cond}
use mathlib.Core.List.{List, [], ◌∷◌, ◌++◌}
use native.Mathlib.Omega.{arith}
use lib.Dec.{ltb}
use lib.ListN.{length, take, drop, length-append}
use Rattle.lane_rules.specs.Line.{byte_bits}
use Rattle.lane_rules.specs.Receiver.{is_locked, receiver_after_sync}
use Rattle.lane_rules.specs.Judging.{locked_by, judge_locked, judge_of}
use Rattle.lane_rules.specs.Collecting.{collect_of, held_part, holding, collected, step_of}
use Rattle.lane_rules.specs.Sums.{disparities_in}
use Rattle.lane_rules.specs.Feeding.{item_of, items_in, added, sum_of, losses_in, run_of, fed_by}
use Rattle.lane_rules.specs.ReceiverCalls.{ReceiverCall, sync, feed, outcomes_of}
use Rattle.lane_rules.specs.LockedFrames.{is_hunt, loss_at, judged_at, tally, tally_of}
use Rattle.lane_rules.specs.declared.Partial.{Partial}
use Rattle.lane_rules.specs.declared.Mode.{Mode}
use Rattle.lane_rules.specs.declared.Mode.TheVariants.{Hunt, Flash, First, Prove, Locked}
use Rattle.lane_rules.specs.declared.Receiver.{Receiver}
use Rattle.lane_rules.specs.declared.Outcome.{Outcome}
use Rattle.std.specs.Prelude.{Option, Some, None}
use Rattle.lane_rules.specs.declared.Collected.{Collected}
use Rattle.lane_rules.specs.declared.Collected.TheVariants.{Frame, Part}
use Rattle.lane_rules.proofs.Totals.CountedFrames.{step_rests}

-- ---- a number that outcomes add up to, and that each step tells

module _
    (one : Outcome → ℕ) (all : List Outcome → ℕ) (none : all [] ≡ 0)
    (more : (o : Outcome) (os : List Outcome) → all (o ∷ os) ≡ one o + all os)
    (at : Mode → ℕ → ℕ) (each : (m : Mode) (b : ℕ) → one (step_of m b).outcome ≡ at m b) where
  all_append : (os ps : List Outcome) → all (os ++ ps) ≡ all os + all ps
  all_append [] ps = omega (arith, none)
  all_append (o ∷ os) ps = omega (arith, more o os, more o (os ++ ps), all_append os ps)

  run_tally : (m : Mode) (bits : List ℕ) → all (run_of m bits).outcomes ≡ tally at m bits
  unfolding run_of tally
  run_tally m [] = none
  run_tally m (b ∷ bs) = more _ _ ∙ (λ i. each m b i + run_tally (step_of m b).mode bs i)

  calls_tally : (rx : Receiver) (line : List ℕ) (calls : List ReceiverCall) → all (outcomes_of rx line calls) ≡ tally_of at rx line calls
  unfolding outcomes_of tally_of
  calls_tally rx line [] = none
  calls_tally rx line (sync ∷ cs) = calls_tally (receiver_after_sync rx) line cs
  calls_tally rx line (feed lent slots ∷ cs) =
      let a = fed_by rx (take lent line) (length slots) in
      let now = byte_bits (take a.bytes line) in
      all_append (run_of rx.mode now).outcomes (outcomes_of a.receiver (drop a.bytes line) cs)
      ∙ (λ i. run_tally rx.mode now i + calls_tally a.receiver (drop a.bytes line) cs i)

-- ---- modes other than Locked hand out nothing and lose no lock

rests_adds : (o : Outcome) → disparities_in (o ∷ []) ≡ [] → (length (item_of o) ≡ 0) × ((added o).losses ≡ 0)
unfolding disparities_in
rests_adds Outcome.Nothing e = (refl, refl)
rests_adds Outcome.Found e = (refl, refl)
rests_adds (Outcome.Sample x d) e = absurd (let n : ◌≡◌ {A = ℕ} 1 0 = ap length e in omega arith)
rests_adds (Outcome.Gap d) e = absurd (let n : ◌≡◌ {A = ℕ} 1 0 = ap length e in omega arith)
rests_adds (Outcome.Loss d) e = absurd (let n : ◌≡◌ {A = ℕ} 1 0 = ap length e in omega arith)

unlocked_adds : (m : Mode) (b : ℕ) → is_locked m ≡ false → (length (item_of (step_of m b).outcome) ≡ 0) × ((added (step_of m b).outcome).losses ≡ 0)
unlocked_adds m b e = rests_adds (step_of m b).outcome (step_rests m b e)

-- ---- losses

judged_loss : (l : Option ℕ) (faulty : Bool) (s c w : ℕ)
    → (added (locked_by l faulty s c w).outcome).losses ≡ cond (is_hunt (locked_by l faulty s c w).mode) 1 0
unfolding locked_by
judged_loss (Some n) true s c w = refl
judged_loss (Some n) false s c w = refl
judged_loss None faulty s c w = refl

locked_loss : (part : Partial) (results state clock : ℕ) (g : Collected)
    → let j = collected (Locked part results state clock) g in (added j.outcome).losses ≡ cond (is_hunt j.mode) 1 0
unfolding collected holding judge_of judge_locked
locked_loss part results state clock (Part p) = refl
locked_loss part results state clock (Frame w) = judged_loss _ _ state clock w

loss_each : (m : Mode) (b : ℕ) → (added (step_of m b).outcome).losses ≡ loss_at m b
unfolding step_of loss_at
loss_each (Hunt bits count) b = refl
loss_each (Flash part frame) b = (unlocked_adds (Flash part frame) b refl).1
loss_each (First part word clock) b = (unlocked_adds (First part word clock) b refl).1
loss_each (Prove part read state clock) b = (unlocked_adds (Prove part read state clock) b refl).1
loss_each (Locked part results state clock) b = locked_loss part results state clock (collect_of part b)

pub losses_tally : (rx : Receiver) (line : List ℕ) (calls : List ReceiverCall)
    → losses_in (outcomes_of rx line calls) ≡ tally_of loss_at rx line calls
unfolding sum_of
losses_tally = calls_tally (λ o. (added o).losses) losses_in refl (λ o os. refl) loss_at loss_each

-- ---- items

judged_item : (l : Option ℕ) (faulty : Bool) (s c w : ℕ) → length (item_of (locked_by l faulty s c w).outcome) ≡ 1
unfolding locked_by
judged_item (Some n) true s c w = refl
judged_item (Some n) false s c w = refl
judged_item None faulty s c w = refl

locked_item : (part p : Partial) (results state clock w : ℕ) (t : Bool)
    → length (item_of (collected (Locked part results state clock) (cond t (Part p) (Frame w))).outcome) ≡ cond (not t) 1 0
unfolding collected judge_of judge_locked
locked_item part p results state clock w true = refl
locked_item part p results state clock w false = judged_item _ _ state clock w

item_each : (m : Mode) (b : ℕ) → length (item_of (step_of m b).outcome) ≡ judged_at m b
unfolding step_of judged_at held_part collect_of
item_each (Hunt bits count) b = refl
item_each (Flash part frame) b = (unlocked_adds (Flash part frame) b refl).0
item_each (First part word clock) b = (unlocked_adds (First part word clock) b refl).0
item_each (Prove part read state clock) b = (unlocked_adds (Prove part read state clock) b refl).0
item_each (Locked part results state clock) b = locked_item part _ results state clock _ (ltb part.count 15)

pub items_tally : (rx : Receiver) (line : List ℕ) (calls : List ReceiverCall)
    → length (items_in (outcomes_of rx line calls)) ≡ tally_of judged_at rx line calls
unfolding items_in
items_tally =
    calls_tally (λ o. length (item_of o)) (λ os. length (items_in os)) refl (λ o os. length-append (item_of o) (items_in os)) judged_at item_each
