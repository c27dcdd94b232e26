-- What is promised of lanes whose wires are swapped (document 02, Q-2); proved in proofs/Laws.antt.
use Rattle.std.specs.Prelude.{ℕ, ◌≡◌, true, List, map, ◌<ℤ◌}
use Rattle.lane_rules.specs.Line.{byte_bits, AreBytes}
use Rattle.lane_rules.specs.Sums.{least_sum, most_sum}
use Rattle.lane_rules.specs.Receiver.{receiver_admitted, fresh_receiver}
use Rattle.lane_rules.specs.ReceiverCalls.{ReceiverCall, receive, calls_give, outcomes_of}
use Rattle.lane_rules.specs.Crossed.{crossed_bits, crossed_bytes, crossed_outcome, crossed_sums, Crossed}
use Rattle.lane_rules.specs.declared.Receiver.{Receiver}
use Rattle.lane_rules.specs.Promise.{GivesSamples, Resynchronises}

-- Document 02, Q-2, crossed pairs: "for every list of bytes and of feeding and SYNC calls, a fresh receiver given each byte inverted
-- hands out the same items, call by call, with the same totals." The bytes are any bytes, so damage of every kind is included.
abbrev pub CrossedPairs : Type 0
CrossedPairs = (line : List ℕ) (calls : List ReceiverCall) → AreBytes line
    → calls_give fresh_receiver (crossed_bytes line) calls ≡ calls_give fresh_receiver line calls

-- The same from every admitted record and its inverse.
abbrev pub CrossedRecords : Type 0
CrossedRecords = (rx ry : Receiver) (line : List ℕ) (calls : List ReceiverCall) → receiver_admitted rx ≡ true → Crossed rx ry → AreBytes line
    → calls_give ry (crossed_bytes line) calls ≡ calls_give rx line calls

-- Bit by bit, the outcomes are the same, but each frame judged in Locked counts in the sums with the other sign.
abbrev pub CrossedOutcomes : Type 0
CrossedOutcomes = (rx ry : Receiver) (line : List ℕ) (calls : List ReceiverCall) → receiver_admitted rx ≡ true → Crossed rx ry → AreBytes line
    → outcomes_of ry (crossed_bytes line) calls ≡ map crossed_outcome (outcomes_of rx line calls)

-- So the sums have the other sign, where neither the lowest nor the highest of them is at a limit of 32 bits.
abbrev pub CrossedSums : Type 0
CrossedSums = (rx ry : Receiver) (line : List ℕ) (calls : List ReceiverCall) → receiver_admitted rx ≡ true → Crossed rx ry
    → ry.sums ≡ crossed_sums rx.sums → AreBytes line
    → least_sum <ℤ (receive rx line calls).receiver.sums.lowest → (receive rx line calls).receiver.sums.highest <ℤ most_sum
    → (receive ry (crossed_bytes line) calls).receiver.sums ≡ crossed_sums (receive rx line calls).receiver.sums

-- To invert each byte is to invert every bit of the line.
abbrev pub EveryBitInverted : Type 0
EveryBitInverted = (line : List ℕ) → AreBytes line → byte_bits (crossed_bytes line) ≡ crossed_bits (byte_bits line)

-- So one sequence brings back a crossed lane too, from every admitted record: then it gives the samples, ..
abbrev pub CrossedLane : Type 0
CrossedLane = GivesSamples crossed_bits

-- .. and a burst spoils no more than on a straight one.
abbrev pub CrossedBursts : Type 0
CrossedBursts = Resynchronises crossed_bits 2

abbrev pub CrossedOneHit : Type 0
CrossedOneHit = Resynchronises crossed_bits 1
