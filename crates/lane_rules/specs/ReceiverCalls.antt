-- Document 01, "Receiver", the receiver's lists of calls. "Each lends any number of slots and any number of the line's bytes, from the
-- first unused one on."
use Rattle.std.specs.Prelude.{ℕ, ◌≡◌, Bool, List, [], ◌∷◌, ◌++◌, length, take, drop}
use Rattle.refusal.specs.Refusal.{told_number}
use Rattle.lane_rules.specs.Line.{byte_bits}
use Rattle.lane_rules.specs.Receiver.{is_locked, receiver_sync_answer, receiver_after_sync}
use Rattle.lane_rules.specs.Feeding.{run_of, feed_answer, fed_by, slots_after}
use Rattle.lane_rules.specs.declared.Receiver.{Receiver}
use Rattle.lane_rules.specs.declared.Outcome.{Outcome}

-- SYNC, or feeding: the number of bytes lent, and slots of any content. Feeding is by `feed` or by `feed_frames` (document 02, Q-13),
-- whose contracts are the same: so a list of these calls stands for every list that mixes the two.
pub data ReceiverCall : Type 0 where
  sync : ReceiverCall
  feed : ℕ → List ℕ → ReceiverCall

-- what a list of calls gives: the record, the bytes of the line left, each call's refusal number, and the slots used, end to end
pub record Reception : Type 0 where
  pub receiver : Receiver
  pub left : List ℕ
  pub refusals : List ℕ
  pub items : List ℕ

-- of a receiver, a line and a list of calls
unfoldable pub receive : Receiver → List ℕ → List ReceiverCall → Reception
receive rx line [] = record { receiver = rx; left = line; refusals = []; items = [] }
receive rx line (sync ∷ cs) =
    let r = receive (receiver_after_sync rx) line cs in
    record { receiver = r.receiver; left = r.left; refusals = told_number (receiver_sync_answer rx) ∷ r.refusals; items = r.items }
receive rx line (feed lent slots ∷ cs) =
    let a = fed_by rx (take lent line) (length slots) in
    let r = receive a.receiver (drop a.bytes line) cs in
    record {
      receiver = r.receiver;
      left = r.left;
      refusals = told_number (feed_answer rx (take lent line) (length slots)) ∷ r.refusals;
      items = take a.slots (slots_after rx (take lent line) slots) ++ r.items;
    }

-- what one call gives: its refusal number, the bytes and slots used, what all the lent slots then hold, the totals after it, and whether
-- the receiver then is in Locked
pub record Given : Type 0 where
  pub refusal : ℕ
  pub bytes : ℕ
  pub slots : ℕ
  pub content : List ℕ
  pub samples : ℕ
  pub gaps : ℕ
  pub losses : ℕ
  pub locked : Bool

-- what each call of a list gives
unfoldable pub calls_give : Receiver → List ℕ → List ReceiverCall → List Given
calls_give rx line [] = []
calls_give rx line (sync ∷ cs) =
    let r = receiver_after_sync rx in
    record {
      refusal = told_number (receiver_sync_answer rx);
      bytes = 0;
      slots = 0;
      content = [];
      samples = r.samples;
      gaps = r.gaps;
      losses = r.losses;
      locked = is_locked r.mode;
    }
    ∷ calls_give r line cs
calls_give rx line (feed lent slots ∷ cs) =
    let a = fed_by rx (take lent line) (length slots) in
    let r = a.receiver in
    record {
      refusal = told_number (feed_answer rx (take lent line) (length slots));
      bytes = a.bytes;
      slots = a.slots;
      content = slots_after rx (take lent line) slots;
      samples = r.samples;
      gaps = r.gaps;
      losses = r.losses;
      locked = is_locked r.mode;
    }
    ∷ calls_give r (drop a.bytes line) cs

-- the outcomes of the bits of all bytes reported as used
unfoldable pub outcomes_of : Receiver → List ℕ → List ReceiverCall → List Outcome
outcomes_of rx line [] = []
outcomes_of rx line (sync ∷ cs) = outcomes_of (receiver_after_sync rx) line cs
outcomes_of rx line (feed lent slots ∷ cs) =
    let a = fed_by rx (take lent line) (length slots) in
    (run_of rx.mode (byte_bits (take a.bytes line))).outcomes ++ outcomes_of a.receiver (drop a.bytes line) cs

unfoldable pub OnlyFeeding : List ReceiverCall → Type 0
OnlyFeeding [] = Unit {0}
OnlyFeeding (sync ∷ cs) = ⊥
OnlyFeeding (feed lent slots ∷ cs) = OnlyFeeding cs

-- no call was refused
unfoldable pub NoneRefused : List ℕ → Type 0
NoneRefused [] = Unit {0}
NoneRefused (n ∷ ns) = (n ≡ 0) × NoneRefused ns
