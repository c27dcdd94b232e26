-- Document 01, "Receiver": losses of lock and frames judged in Locked, told by the modes of a run alone, whatever is handed out for them.
use Rattle.std.specs.Prelude.{ℕ, ◌+◌, Bool, true, false, not, cond, ◌&&◌, List, [], ◌∷◌, ltb, length, take, drop}
use Rattle.lane_rules.specs.Line.{byte_bits}
use Rattle.lane_rules.specs.Receiver.{is_locked, receiver_after_sync}
use Rattle.lane_rules.specs.Collecting.{held_part, step_of}
use Rattle.lane_rules.specs.Feeding.{fed_by}
use Rattle.lane_rules.specs.ReceiverCalls.{ReceiverCall, sync, feed}
use Rattle.lane_rules.specs.declared.Mode.{Mode}
use Rattle.lane_rules.specs.declared.Mode.TheVariants.{Hunt, Flash, First, Prove, Locked}
use Rattle.lane_rules.specs.declared.Receiver.{Receiver}

abbrev pub is_hunt : Mode → Bool
is_hunt (Hunt bits count) = true
is_hunt (Flash part frame) = false
is_hunt (First part word clock) = false
is_hunt (Prove part read state clock) = false
is_hunt (Locked part results state clock) = false

-- 1 for a bit that takes a mode from Locked to Hunt
unfoldable pub loss_at : Mode → ℕ → ℕ
loss_at m b = cond (is_locked m && is_hunt (step_of m b).mode) 1 0

-- 1 for a bit that comes to 15 bits held in Locked, and so makes a frame whole
unfoldable pub judged_at : Mode → ℕ → ℕ
judged_at m b = cond (is_locked m && not (ltb (held_part m).count 15)) 1 0

-- the number of such bits in a run
unfoldable pub tally : (Mode → ℕ → ℕ) → Mode → List ℕ → ℕ
tally at m [] = 0
tally at m (b ∷ bs) = at m b + tally at (step_of m b).mode bs

-- and in a list of calls: of the bits of all bytes reported as used. SYNC enters Hunt and is no loss.
unfoldable pub tally_of : (Mode → ℕ → ℕ) → Receiver → List ℕ → List ReceiverCall → ℕ
tally_of at rx line [] = 0
tally_of at rx line (sync ∷ cs) = tally_of at (receiver_after_sync rx) line cs
tally_of at rx line (feed lent slots ∷ cs) =
    let a = fed_by rx (take lent line) (length slots) in
    tally at rx.mode (byte_bits (take a.bytes line)) + tally_of at a.receiver (drop a.bytes line) cs
