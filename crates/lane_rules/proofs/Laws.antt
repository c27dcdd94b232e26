-- The promises of specs/Promise.antt, PromiseSums.antt and PromiseCrossed.antt, each under its name. Assumes nothing.
use mathlib.Core.Path.{refl, sym, ap, subst}
use native.Mathlib.Omega.{arith}
use Rattle.lane_rules.specs.Sender.{fresh_sender}
use Rattle.lane_rules.specs.Receiver.{mode_admitted, fresh_receiver}
use Rattle.lane_rules.specs.Promise as Promise
use Rattle.lane_rules.specs.PromiseSums as PromiseSums
use Rattle.lane_rules.specs.PromiseCrossed as PromiseCrossed
use Rattle.lane_rules.specs.declared.Sender.{Sender}
use Rattle.lane_rules.proofs.Sending.SendersList as SendersList
use Rattle.lane_rules.proofs.Alignment.Alignment as Alignment
use Rattle.lane_rules.proofs.Locking.HuntEntry as HuntEntry
use Rattle.lane_rules.proofs.Locking.OnlyLocking as OnlyLocking
use Rattle.lane_rules.proofs.Locking.AllLocking as AllLocking
use Rattle.lane_rules.proofs.Resynchronisation.Resynchronisation as Resynchronisation
use Rattle.lane_rules.proofs.Feeding.FeedingRuns as FeedingRuns
use Rattle.lane_rules.proofs.Feeding.ReceiverLists as ReceiverLists
use Rattle.lane_rules.proofs.Sending.SendingEnds as SendingEnds
use Rattle.lane_rules.proofs.Sending.LineNumbers as LineNumbers
use Rattle.lane_rules.proofs.Sending.ListsExist as ListsExist
use Rattle.lane_rules.proofs.Totals.TotalsKept as TotalsKept
use Rattle.lane_rules.proofs.Totals.HeldSums as HeldSums
use Rattle.lane_rules.proofs.Totals.CountedFrames as CountedFrames
use Rattle.lane_rules.proofs.Totals.SumsKept as SumsKept
use Rattle.lane_rules.proofs.Balance.BalanceSeen as BalanceSeen
use Rattle.lane_rules.proofs.Crossed.CrossedBits as CrossedBits
use Rattle.lane_rules.proofs.Crossed.CrossedPairs as CrossedPairs
use Rattle.lane_rules.proofs.Crossed.CrossedSums as CrossedSums
use Rattle.lane_rules.proofs.Crossed.CrossedLane as CrossedLane
use Rattle.lane_rules.proofs.Balance.Balance as Balance
use Rattle.lane_rules.proofs.Modes.AdmittedKept as AdmittedKept
use Rattle.lane_rules.proofs.Sending.SenderLists as SenderLists
use Rattle.lane_rules.proofs.Sending.SenderRecord as SenderRecord
use Rattle.lane_rules.proofs.Sending.SenderRecord.{Admitted, facts_admitted, started_fresh}

-- 1. One sequence locks every receiver.
pub lock : Promise.Lock
lock = Resynchronisation.lock

pub sequence_sent : Promise.SequenceSent
sequence_sent = SendersList.sequence_sent

pub alignment : Promise.Alignment
alignment = Alignment.aligns

pub lock_lost : Promise.LockLost
lock_lost = Alignment.lock_lost

pub hunt_starts_empty : Promise.HuntStartsEmpty
hunt_starts_empty = HuntEntry.hunt_starts_empty

pub only_sequences_lock : Promise.OnlySequencesLock
only_sequences_lock = OnlyLocking.only_sequences_lock

pub locked_follows : Promise.LockedFollows
locked_follows = OnlyLocking.locked_follows

pub sequences_lock : Promise.SequencesLock
sequences_lock = AllLocking.sequences_lock

-- 2. Over whole lists of calls, with spaced bursts, ..
pub resynchronisation : Promise.Resynchronisation
resynchronisation = Resynchronisation.straight_resynchronises 2 (omega arith) (omega arith)

-- .. or with bursts of a single frame, ..
pub one_hit_one_gap : Promise.OneHitOneGap
one_hit_one_gap = Resynchronisation.straight_resynchronises 1 (omega arith) (omega arith)

-- .. and with no frame touched: no item is wrong.
pub none_wrong : Promise.NoneWrong
none_wrong = Resynchronisation.none_wrong

-- 3. Calls make progress.
pub feeding_uses_all : Promise.FeedingUsesAll
feeding_uses_all = FeedingRuns.feeding_uses_all

pub feeding_progress : Promise.FeedingProgress
feeding_progress = FeedingRuns.feeding_progress

pub never_refused : Promise.NeverRefused
never_refused = ReceiverLists.never_refused

pub sending_ends : Promise.SendingEnds
sending_ends = SendingEnds.sending_ends

pub sending_progress : Promise.SendingProgress
sending_progress = SendingEnds.sending_progress

pub line_in_numbers : Promise.LineInNumbers
line_in_numbers = LineNumbers.line_in_numbers

-- There are such lists.
pub permitted_starts : Promise.PermittedStarts
permitted_starts = ListsExist.permitted_starts

pub senders_lists : Promise.SendersLists
senders_lists = ListsExist.senders_lists

pub lines : Promise.Lines
lines = ListsExist.lines

pub feeding_lists : Promise.FeedingLists
feeding_lists = ListsExist.feeding_lists

-- 4. Totals are those of the items and losses, sums those of the frames judged in Locked.
pub totals_are_kept : Promise.TotalsAreKept
totals_are_kept = TotalsKept.totals_are_kept

pub sums_are_kept : PromiseSums.SumsAreKept
sums_are_kept = SumsKept.sums_are_kept

pub sums_are_free : PromiseSums.SumsAreFree
sums_are_free rx s = refl

pub sums_are_held : PromiseSums.SumsAreHeld
sums_are_held = HeldSums.sums_are_held

pub frames_count : PromiseSums.FramesCount
frames_count = CountedFrames.frames_count

pub sums_rest : PromiseSums.SumsRest
sums_rest = CountedFrames.sums_rest

pub found_at_lock : PromiseSums.FoundAtLock
found_at_lock = CountedFrames.found_at_lock

pub line_balance_seen : PromiseSums.LineBalanceSeen
line_balance_seen = BalanceSeen.line_balance_seen

-- Crossed pairs make no difference.
pub crossed_pairs : PromiseCrossed.CrossedPairs
crossed_pairs = CrossedPairs.crossed_pairs

pub crossed_records : PromiseCrossed.CrossedRecords
crossed_records = CrossedPairs.crossed_records

pub crossed_outcomes_lem : PromiseCrossed.CrossedOutcomes
crossed_outcomes_lem = CrossedPairs.crossed_outcomes_lem

pub crossed_sums_lem : PromiseCrossed.CrossedSums
crossed_sums_lem = CrossedSums.crossed_sums_lem

pub every_bit_inverted : PromiseCrossed.EveryBitInverted
every_bit_inverted = CrossedBits.every_bit_inverted

pub crossed_lane : PromiseCrossed.CrossedLane
crossed_lane = CrossedLane.crossed_lane

pub crossed_bursts : PromiseCrossed.CrossedBursts
crossed_bursts = CrossedLane.crossed_resynchronises 2 (omega arith) (omega arith)

pub crossed_one_hit : PromiseCrossed.CrossedOneHit
crossed_one_hit = CrossedLane.crossed_resynchronises 1 (omega arith) (omega arith)

-- 5. The line is balanced.
pub balance : Promise.Balance
balance = Balance.balance

-- 6. An admitted record stays admitted.
pub admitted_kept : Promise.AdmittedKept
admitted_kept = AdmittedKept.admitted_kept

pub sender_admitted_kept : Promise.SenderAdmittedKept
sender_admitted_kept = SenderLists.sender_admitted_kept

pub fresh_admitted : Promise.FreshAdmitted
unfolding mode_admitted fresh_receiver
fresh_admitted = refl

pub started_admitted : Promise.StartedAdmitted
unfolding fresh_sender
started_admitted seed n tx e =
    let fresh = started_fresh seed n tx e in (
      facts_admitted tx (subst Admitted fresh.2 (SenderRecord.fresh_admitted seed n fresh.0 fresh.1)),
      ap (λ (t : Sender). t.alignment) (sym fresh.2),
    )

pub start_is_start_with : Promise.StartIsStartWith
start_is_start_with = SenderRecord.start_is_start_with
