-- What is promised of the lane, over whole lists of calls, on the definitions that the contracts cite. Each is proved in
-- proofs/Laws.antt under its name in small letters; PromiseSums.antt has those of document 02's Q-5, PromiseCrossed.antt those of Q-2.
-- Demand 1, a defined end: NeverRefused, AdmittedKept, SenderAdmittedKept, FreshAdmitted, StartedAdmitted, TotalsAreKept.
-- Demand 2, frames and items by the rules: LineInNumbers, SequenceSent, StartIsStartWith, HuntStartsEmpty, OnlySequencesLock, LockedFollows,
-- SequencesLock, FeedingProgress, SendingEnds, SendingProgress.
-- Demand 3, no wrong item after one sequence, and balance: Lock, Alignment, LockLost, Resynchronisation, OneHitOneGap, NoneWrong,
-- FeedingUsesAll, Balance; PermittedStarts, SendersLists, Lines, FeedingLists: that none of them is empty.
use Rattle.std.specs.Prelude.{ℕ, ◌+◌, ◌-◌, ◌*◌, ◌/◌, min, ◌≤◌, ◌<◌, ◌≡◌, Bool, true, false, List, [], ◌∷◌, ◌++◌, ◌⊎◌, length, take, replicate, IsOkAnd}
use Rattle.frame.specs.Scrambler.{state_after}
use Rattle.frame.specs.Seeds.{permitted}
use Rattle.lane_rules.specs.Line.{frame_bits, byte_bits, AreBits, AreBytes}
use Rattle.lane_rules.specs.Sender.{sequence_frames, alignment_pairs, sender_admitted, start_with_answer, start_answer}
use Rattle.lane_rules.specs.Sender.{alignment_permitted, fresh_sender, started_values}
use Rattle.lane_rules.specs.Sending.{are_samples, send_answer}
use Rattle.lane_rules.specs.Receiver.{no_bits, hunting, is_locked, mode_admitted, receiver_admitted, fresh_receiver, receiver_after_sync}
use Rattle.lane_rules.specs.Collecting.{step_of}
use Rattle.lane_rules.specs.Feeding.{items_in, largest, run_of, fed_by, samples_among, gaps_among}
use Rattle.lane_rules.specs.SenderCalls.{SenderCall, send, all_written, sender_at_end, sender_refusals, refusals_due}
use Rattle.lane_rules.specs.SenderCalls.{SendersList, sequence_bits, later_bits, samples_sent}
use Rattle.lane_rules.specs.ReceiverCalls.{ReceiverCall, Reception, receive, outcomes_of, OnlyFeeding, NoneRefused}
use Rattle.lane_rules.specs.LockedFrames.{is_hunt, loss_at, judged_at, tally_of}
use Rattle.lane_rules.specs.Locking.{Locking, JustLocked, LockedSince}
use Rattle.lane_rules.specs.Crossed.{straight}
use Rattle.lane_rules.specs.Bursts.{Arrives, spaced, BurstErrorBound}
use Rattle.lane_rules.specs.Balance.{Balanced}
use Rattle.lane_rules.specs.declared.Sender.{Sender}
use Rattle.lane_rules.specs.declared.Sent.{Sent}
use Rattle.lane_rules.specs.declared.Stop.TheVariants as Stop
use Rattle.lane_rules.specs.declared.Partial.{Partial}
use Rattle.lane_rules.specs.declared.Mode.{Mode}
use Rattle.lane_rules.specs.declared.Mode.TheVariants.{Hunt, Flash, Locked}
use Rattle.lane_rules.specs.declared.Receiver.{Receiver}

-- 1. From every admitted record, after any bits and the sequence's last bit, the receiver is locked: no bits held, no faulty frame yet,
-- the state 32 steps after the seed, expected clock bit 0. Here and below the line is made of the bits of the very bytes that the sending
-- calls wrote, so a sender and a receiver that disagree on the order of bytes or bits do not keep this.
abbrev pub Lock : Type 0
Lock = (rx : Receiver) (noise : List ℕ) (list : SendersList) → receiver_admitted rx ≡ true → AreBits noise
    → (run_of rx.mode (noise ++ sequence_bits list)).mode
    ≡ Locked no_bits 0 (state_after 32 list.sender.seed) 0

-- A sequence is as many alignment frames as the sender's record says, and 32 frames more.
abbrev pub SequenceSent : Type 0
SequenceSent = (list : SendersList) → (proving : List ℕ)
    × (sequence_bits list ≡ frame_bits (alignment_pairs (list.sender.alignment / 2) ++ proving)) × (length proving ≡ 32)

-- Its alignment frames do the first part: twelve or more bring every admitted mode to Flash, which holds the last of them.
abbrev pub Alignment : Type 0
Alignment = (m : Mode) (pairs : ℕ) → mode_admitted m ≡ true → 12 ≤ 2 * pairs
    → (run_of m (frame_bits (alignment_pairs pairs))).mode ≡ Flash no_bits 0x00FF

-- From every admitted lock, at any bit offset, alignment frames lose lock within one part frame and eight whole ones: of any so many
-- of their bits, some first ones lead to Hunt.
abbrev pub LockLost : Type 0
LockLost = (part : Partial) (results state clock pairs : ℕ) (before bits after : List ℕ)
    → mode_admitted (Locked part results state clock) ≡ true → frame_bits (alignment_pairs pairs) ≡ before ++ (bits ++ after)
    → length bits ≡ 15 + 16 * 8
    → (n : ℕ) × ((run_of (Locked part results state clock) (take n bits)).mode ≡ hunting)

-- "Each entry to Hunt starts with no bits": by a frame that does not fit, by the loss of lock, and by SYNC.
pub record HuntStartsEmpty : Type 0 where
  pub by_bit : (m : Mode) (b : ℕ) → is_hunt m ≡ false → is_hunt (step_of m b).mode ≡ true → (step_of m b).mode ≡ Hunt 0 0
  pub by_sync : (rx : Receiver) → receiver_admitted rx ≡ true → (receiver_after_sync rx).mode ≡ Hunt 0 0

-- Only what the rules name locks: where a receiver that once hunted with no bits held, as it does fresh, after SYNC and after each loss of
-- lock, goes into Locked, its bits end in bits that lock, and its state and expected clock bit are theirs; ..
abbrev pub OnlySequencesLock : Type 0
OnlySequencesLock = (bits : List ℕ) (b : ℕ) (part : Partial) (results state clock : ℕ) → AreBits bits → b < 2
    → is_locked (run_of hunting bits).mode ≡ false → (step_of (run_of hunting bits).mode b).mode ≡ Locked part results state clock
    → (part ≡ no_bits) × (results ≡ 0) × JustLocked state clock (bits ++ (b ∷ []))

-- .. while it is Locked, the state steps and the expected clock bit toggles with each frame since; ..
abbrev pub LockedFollows : Type 0
LockedFollows = (bits : List ℕ) (part : Partial) (results state clock : ℕ) → AreBits bits
    → (run_of hunting bits).mode ≡ Locked part results state clock → LockedSince part state clock bits

-- .. and all that the rules name locks: pairs in both orders, and every state.
abbrev pub SequencesLock : Type 0
SequencesLock = (start clock : ℕ) (bits : List ℕ) → Locking start clock bits
    → (run_of hunting bits).mode ≡ Locked no_bits 0 (state_after 32 start) clock

-- 2. What a list of feeding calls gives on a line with noise, the sequence and later frames: no call is refused; the slots used hold
-- the items of the bits up to the sequence's last one, `before`, then one item for each later frame, within the burst error bound.
pub record Resynchronised (longest : ℕ) (rx : Receiver) (before : List ℕ) (list : SendersList) (ts : List Bool) (got : Reception)
    : Type 0 where
  pub none_refused : NoneRefused got.refusals
  pub later : List ℕ
  pub items : got.items ≡ items_in (run_of rx.mode before).outcomes ++ later
  pub bound : BurstErrorBound longest ts (samples_sent list) later

-- of spaced bursts of at most `longest` frames, where the wires carry the frames' bits straight or crossed
abbrev pub Resynchronises : (List ℕ → List ℕ) → ℕ → Type 0
Resynchronises wires longest =
    (rx : Receiver) (list : SendersList) (ts : List Bool) (noise arrived tail line : List ℕ) (calls : List ReceiverCall)
    → receiver_admitted rx ≡ true → Arrives ts (later_bits list) arrived → spaced longest ts ≡ true → length tail ≤ 7
    → byte_bits line ≡ noise ++ (wires (sequence_bits list) ++ (wires arrived ++ tail))
    → OnlyFeeding calls → (receive rx line calls).left ≡ []
    → Resynchronised longest rx (noise ++ wires (sequence_bits list)) list ts (receive rx line calls)

-- "A burst of at most two adjacent frames now spoils at most two items, provided at least five untouched frames part any two bursts."
abbrev pub Resynchronisation : Type 0
Resynchronisation = Resynchronises straight 2

-- "One hit, one gap": a single touched frame spoils at most one item.
abbrev pub OneHitOneGap : Type 0
OneHitOneGap = Resynchronises straight 1

-- With no frame touched the later items are the samples taken: the number of wrong items is zero.
abbrev pub GivesSamples : (List ℕ → List ℕ) → Type 0
GivesSamples wires = (rx : Receiver) (list : SendersList) (noise tail line : List ℕ) (calls : List ReceiverCall)
    → receiver_admitted rx ≡ true → length tail ≤ 7
    → byte_bits line ≡ noise ++ (wires (sequence_bits list) ++ (wires (later_bits list) ++ tail))
    → OnlyFeeding calls → (receive rx line calls).left ≡ []
    → NoneRefused (receive rx line calls).refusals
    × ((receive rx line calls).items
    ≡ items_in (run_of rx.mode (noise ++ wires (sequence_bits list))).outcomes ++ samples_sent list)

abbrev pub NoneWrong : Type 0
NoneWrong = GivesSamples straight

-- 3. A feeding call with a slot for every byte uses all its bytes.
abbrev pub FeedingUsesAll : Type 0
FeedingUsesAll = (rx : Receiver) (bytes : List ℕ) (slots : ℕ) → receiver_admitted rx ≡ true → length bytes ≤ slots
    → (fed_by rx bytes slots).bytes ≡ length bytes

-- Feeding "stops before a byte when no slot is free", and nowhere else: all bytes are used or all slots are, and before each byte used a slot
-- was free; so where there is a byte and a slot, at least one byte is used.
pub record Progress (rx : Receiver) (bytes : List ℕ) (slots : ℕ) : Type 0 where
  pub to_the_end : ((fed_by rx bytes slots).bytes ≡ length bytes) ⊎ ((fed_by rx bytes slots).slots ≡ slots)
  pub in_time : (k : ℕ) → k < (fed_by rx bytes slots).bytes
      → length (items_in (run_of rx.mode (byte_bits (take k bytes))).outcomes) < slots
  pub at_least_one : 1 ≤ length bytes → 1 ≤ slots → 1 ≤ (fed_by rx bytes slots).bytes

abbrev pub FeedingProgress : Type 0
FeedingProgress = (rx : Receiver) (bytes : List ℕ) (slots : ℕ) → receiver_admitted rx ≡ true → Progress rx bytes slots

-- No call of a receiver's list from an admitted record is refused.
abbrev pub NeverRefused : Type 0
NeverRefused = (rx : Receiver) (line : List ℕ) (calls : List ReceiverCall) → receiver_admitted rx ≡ true
    → NoneRefused (receive rx line calls).refusals

-- Sending good samples from an admitted record, with room for the frames left of the sequence and one for each sample, ends as all
-- sent, with all samples taken and two bytes a frame.
unfoldable pub frames_due : Sender → List ℕ → ℕ
frames_due tx samples = (sequence_frames tx - tx.position) + length samples

abbrev pub SendingEnds : Type 0
SendingEnds = (tx : Sender) (samples : List ℕ) (room : ℕ) → sender_admitted tx ≡ true → are_samples samples ≡ true
    → 2 * frames_due tx samples ≤ room
    → IsOkAnd (send_answer tx samples room)
    (λ sent. (sent.stop ≡ Stop.AllSent) × (sent.taken ≡ length samples) × (sent.written ≡ 2 * frames_due tx samples))

-- With less room it sends as many frames as have room, those of the sequence first, and stops as out of space; it stops so only with
-- under two bytes left.
pub record SendingGoes (tx : Sender) (samples : List ℕ) (room : ℕ) (sent : Sent) : Type 0 where
  pub written : sent.written ≡ 2 * min (room / 2) (frames_due tx samples)
  pub taken : sent.taken ≡ min (room / 2) (frames_due tx samples) - (sequence_frames tx - tx.position)
  pub out_of_space : room / 2 < frames_due tx samples → sent.stop ≡ Stop.OutOfSpace
  pub only_then : sent.stop ≡ Stop.OutOfSpace → room - sent.written < 2

abbrev pub SendingProgress : Type 0
SendingProgress = (tx : Sender) (samples : List ℕ) (room : ℕ) → sender_admitted tx ≡ true → are_samples samples ≡ true
    → IsOkAnd (send_answer tx samples room) (SendingGoes tx samples room)

-- Two ends that are wrong together keep every promise of agreement; so here is a short line in numbers, with 12 alignment frames and no
-- samples: "seed 1 from R 0 gives scrambled frames 0x0001, 0xBFF7, 0x0048, 0xBDF7, 0x1248". Of the bytes of a frame "the low byte is
-- first", and of a byte's bits "bit 0 of each byte is earliest".
pub record LineInNumbers : Type 0 where
  pub bytes : all_written (fresh_sender 1 12) (send [] (replicate 34 0) ∷ [])
      ≡ 0x00 ∷ 0xFF ∷ 0xFF ∷ 0x00 ∷ 0x00 ∷ 0xFF ∷ 0xFF ∷ 0x00 ∷ 0x00 ∷ 0xFF ∷ 0xFF ∷ 0x00 ∷
      0x00 ∷ 0xFF ∷ 0xFF ∷ 0x00 ∷ 0x00 ∷ 0xFF ∷ 0xFF ∷ 0x00 ∷ 0x00 ∷ 0xFF ∷ 0xFF ∷ 0x00 ∷
      0x01 ∷ 0x00 ∷ 0xF7 ∷ 0xBF ∷ 0x48 ∷ 0x00 ∷ 0xF7 ∷ 0xBD ∷ 0x48 ∷ 0x12 ∷ []
  pub bits : byte_bits (0x01 ∷ []) ≡ 1 ∷ 0 ∷ 0 ∷ 0 ∷ 0 ∷ 0 ∷ 0 ∷ 0 ∷ []

-- There are such lists, so no promise is empty. Every permitted seed starts a sender with every permitted number of alignment frames; ..
abbrev pub PermittedStarts : Type 0
PermittedStarts = (seed alignment : ℕ) → permitted seed ≡ true → alignment_permitted alignment ≡ true
    → started_values (start_with_answer seed alignment) ≡ (0, fresh_sender seed alignment)

-- .. from every admitted record there is a sender's list that sends just these samples; ..
abbrev pub SendersLists : Type 0
SendersLists = (tx : Sender) (samples : List ℕ) → sender_admitted tx ≡ true → are_samples samples ≡ true
    → (list : SendersList) × (list.sender ≡ tx) × (samples_sent list ≡ samples)

-- .. any bits with at most seven more are a line of whole bytes; ..
abbrev pub Lines : Type 0
Lines = (bits : List ℕ) → AreBits bits
    → (tail : List ℕ) × (line : List ℕ) × (length tail ≤ 7) × AreBytes line × (byte_bits line ≡ bits ++ tail)

-- .. and for every line there are feeding calls that use it.
abbrev pub FeedingLists : Type 0
FeedingLists = (rx : Receiver) (line : List ℕ) → receiver_admitted rx ≡ true
    → (calls : List ReceiverCall) × OnlyFeeding calls × ((receive rx line calls).left ≡ [])

-- 4. After any list of feeding and SYNC calls the totals are the old ones plus the samples and gaps among the items handed out and the
-- times that lock was lost, each held at its largest value. The slots used hold the items of the bits of the bytes used, just one for each
-- frame judged in Locked, also for the one that loses lock.
pub record Totals (rx : Receiver) (line : List ℕ) (calls : List ReceiverCall) : Type 0 where
  pub samples : (receive rx line calls).receiver.samples ≡ min largest (rx.samples + samples_among (receive rx line calls).items)
  pub gaps : (receive rx line calls).receiver.gaps ≡ min largest (rx.gaps + gaps_among (receive rx line calls).items)
  pub losses : (receive rx line calls).receiver.losses ≡ min largest (rx.losses + tally_of loss_at rx line calls)
  pub items : (receive rx line calls).items ≡ items_in (outcomes_of rx line calls)
  pub one_each : length (receive rx line calls).items ≡ tally_of judged_at rx line calls

abbrev pub TotalsAreKept : Type 0
TotalsAreKept = (rx : Receiver) (line : List ℕ) (calls : List ReceiverCall) → receiver_admitted rx ≡ true
    → rx.samples ≤ largest → rx.gaps ≤ largest → rx.losses ≤ largest → Totals rx line calls

-- 5. For every list of SYNC and sending calls from a record just started, the line is balanced.
abbrev pub Balance : Type 0
Balance = (seed alignment : ℕ) (tx : Sender) (calls : List SenderCall) → started_values (start_with_answer seed alignment) ≡ (0, tx)
    → Balanced (byte_bits (all_written tx calls))

-- 6. Whatever bits come, an admitted record stays admitted.
abbrev pub AdmittedKept : Type 0
AdmittedKept = (m : Mode) (bits : List ℕ) → mode_admitted m ≡ true → AreBits bits → mode_admitted (run_of m bits).mode ≡ true

-- Whatever a sender's calls are, its admitted record stays admitted; so none is refused with 3, and none at all with good samples.
pub record SenderKept (tx : Sender) (calls : List SenderCall) : Type 0 where
  pub admitted : sender_admitted (sender_at_end tx calls) ≡ true
  pub refusals : sender_refusals tx calls ≡ refusals_due calls

abbrev pub SenderAdmittedKept : Type 0
SenderAdmittedKept = (tx : Sender) (calls : List SenderCall) → sender_admitted tx ≡ true → SenderKept tx calls

-- A fresh receiver's record is admitted, and so is the record of a sender just started, which has the number of alignment frames given.
abbrev pub FreshAdmitted : Type 0
FreshAdmitted = receiver_admitted fresh_receiver ≡ true

abbrev pub StartedAdmitted : Type 0
StartedAdmitted = (seed alignment : ℕ) (tx : Sender) → started_values (start_with_answer seed alignment) ≡ (0, tx)
    → (sender_admitted tx ≡ true) × (tx.alignment ≡ alignment)

-- Starting is starting with 32 alignment frames, so all that is promised of the one holds of the other.
abbrev pub StartIsStartWith : Type 0
StartIsStartWith = (seed : ℕ) → start_answer seed ≡ start_with_answer seed 32
