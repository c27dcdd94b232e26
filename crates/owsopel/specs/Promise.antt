-- What is promised of the receiver's record as C holds it: each record has one flat form, each flat form that is a record is that of
-- one, the exported calls do on flat forms what the lane's calls do on records, and what is not the flat form of an admitted record is
-- refused. Proved in proofs/Laws.antt.
use Rattle.std.specs.Prelude.{ℕ, ◌≡◌, false, List, length, Ok}
use Rattle.refusal.specs.Refusal.{told_number}
use Rattle.lane_rules.specs.Receiver.{receiver_sync_answer, receiver_after_sync}
use Rattle.lane_rules.specs.Feeding.{feed_answer, fed_by, slots_after}
use Rattle.lane_rules.specs.declared.Receiver.{Receiver}
use Rattle.owsopel.specs.Flat.{flat_receiver, receiver_in, flat_admitted}
use Rattle.owsopel.specs.Answers.{flat_synced, flat_fed, flat_slots}
use Rattle.owsopel.specs.declared.flat.FlatReceiver.{FlatReceiver}

-- a record's flat form is read back as that record
abbrev pub FlatReadBack : Type 0
FlatReadBack = (rx : Receiver) → receiver_in (flat_receiver rx) ≡ Ok rx

-- whatever is read as a record is the flat form of that record
abbrev pub ReadIsFlat : Type 0
ReadIsFlat = (f : FlatReceiver) (rx : Receiver) → receiver_in f ≡ Ok rx → flat_receiver rx ≡ f

-- on a record's flat form the exported calls answer the flat form of what the lane's calls answer, and leave the same slots; so what
-- the lane promises of lists of calls holds of the exported ones
abbrev pub CallsAgree : Type 0
CallsAgree =
    (rx : Receiver) (bytes slots : List ℕ)
    → let f = flat_receiver rx in
    let fed = fed_by rx bytes (length slots) in
    (flat_synced f ≡ record { refusal = told_number (receiver_sync_answer rx); receiver = flat_receiver (receiver_after_sync rx) })
    × (flat_fed f bytes (length slots)
    ≡ record {
      refusal = told_number (feed_answer rx bytes (length slots));
      receiver = flat_receiver fed.receiver;
      bytes = fed.bytes;
      slots = fed.slots;
    })
    × (flat_slots f bytes slots ≡ slots_after rx bytes slots)

-- anything that is not the flat form of an admitted record is refused with 3, comes back unaltered, and no slot is written
abbrev pub SpoiledRefused : Type 0
SpoiledRefused =
    (f : FlatReceiver) (bytes slots : List ℕ)
    → flat_admitted f ≡ false
    → (flat_synced f ≡ record { refusal = 3; receiver = f })
    × (flat_fed f bytes (length slots) ≡ record { refusal = 3; receiver = f; bytes = 0; slots = 0 })
    × (flat_slots f bytes slots ≡ slots)
