-- Demand 3 on lines and lists of calls: promises 1 and 2. Assumes nothing.
use Prim.Native.Nat.{ℕ, ◌/◌, ◌≤◌}
use mathlib.Core.Path.{◌≡◌, refl, ap, sym, subst, ◌∙◌}
use mathlib.Core.Bool.{true}
use mathlib.Core.List.{List, [], ◌++◌, append_assoc}
use native.Mathlib.Omega.{arith}
use lib.ListN.{length}
use Rattle.frame.specs.Scrambler.{state_after}
use Rattle.lane_rules.specs.Line.{frame_bits, byte_bits, AreBits}
use Rattle.lane_rules.specs.Receiver.{no_bits, mode_admitted, receiver_admitted}
use Rattle.lane_rules.specs.Feeding.{items_in, run_of}
use Rattle.lane_rules.specs.SenderCalls.{SendersList, sequence_bits, later_bits, samples_sent}
use Rattle.lane_rules.specs.ReceiverCalls.{ReceiverCall, receive, OnlyFeeding}
use Rattle.lane_rules.specs.Crossed.{straight}
use Rattle.lane_rules.specs.Bursts.{Arrives}
use Rattle.lane_rules.specs.Promise.{Lock, Resynchronises, GivesSamples, NoneWrong}
use Rattle.lane_rules.specs.declared.Mode.{Mode}
use Rattle.lane_rules.specs.declared.Mode.TheVariants.{Locked}
use Rattle.lane_rules.specs.declared.Receiver.{Receiver}
use Rattle.lane_rules.proofs.Basics.Bits.{are_bits_left, byte_bits_lem}
use Rattle.lane_rules.proofs.Feeding.Runs.{run_append_mode, run_append_items, items_of}
use Rattle.lane_rules.proofs.Modes.AdmittedKept.{admitted_kept}
use Rattle.lane_rules.proofs.Feeding.ReceiverLists.{never_refused, items_of_outcomes, feeding_is_one_run}
use Rattle.lane_rules.proofs.Sending.SenderRecord.{admitted_facts}
use Rattle.lane_rules.proofs.Sending.WrittenFrames.{sequence, later_frames}
use Rattle.lane_rules.proofs.Sending.SendersList.{sequence_bits_lem, later_bits_lem, list_writes}
use Rattle.lane_rules.proofs.Locking.SequenceLocks.{sequence_locks}
use Rattle.lane_rules.proofs.Resynchronisation.LockedItems.{none_wrong_once_locked}
use Rattle.lane_rules.proofs.Resynchronisation.ArrivedFrames.{frames_arrive}
use Rattle.lane_rules.proofs.Resynchronisation.BurstBound.{burst_bound}

-- ---- promise 1

-- the mode that a sequence leads to
abbrev pub locked_by : SendersList → Mode
locked_by list = Locked no_bits 0 (state_after 32 list.sender.seed) 0

mode_locks : (m : Mode) (noise : List ℕ) (list : SendersList) → mode_admitted m ≡ true → AreBits noise
    → (run_of m (noise ++ frame_bits (sequence list))).mode ≡ locked_by list
mode_locks m noise list good bits =
    let w = list_writes list in
    let a = admitted_facts list.sender list.admitted in
    run_append_mode m noise (frame_bits (sequence list))
    ∙ ap (λ (ws : List ℕ). (run_of (run_of m noise).mode (frame_bits ws)).mode) w.sequence_is
    ∙ sequence_locks (run_of m noise).mode (list.sender.alignment / 2) list.sender.seed w.proving
    (admitted_kept m noise good bits) (omega (arith, a.alignment_min)) a.seed_permitted w.proving_encode

pub lock : Lock
lock rx noise list good bits =
    ap (λ (first : List ℕ). (run_of rx.mode (noise ++ first)).mode) (sequence_bits_lem list) ∙ mode_locks rx.mode noise list good bits

-- ---- promise 2

-- feeding calls that use a line hand out the items of its bits
line_items : (rx : Receiver) (line : List ℕ) (calls : List ReceiverCall) → receiver_admitted rx ≡ true → OnlyFeeding calls
    → (receive rx line calls).left ≡ [] → (receive rx line calls).items ≡ items_of rx.mode (byte_bits line)
line_items rx line calls good only none =
    items_of_outcomes rx line calls good ∙ ap items_in (feeding_is_one_run rx line calls good only none)

-- the bits of a line, whose frames' bits came by these wires
abbrev pub line_bits : (List ℕ → List ℕ) → List ℕ → SendersList → List ℕ → List ℕ → List ℕ
line_bits wires noise list arrived tail = noise ++ (wires (frame_bits (sequence list)) ++ (wires (frame_bits arrived) ++ tail))

-- they give the items of the bits up to the sequence's last one, then those that the later frames give from lock on
abbrev pub FromLock : (List ℕ → List ℕ) → Type 0
FromLock wires = (m : Mode) (list : SendersList) (noise arrived tail : List ℕ) → mode_admitted m ≡ true
    → AreBits (line_bits wires noise list arrived tail)
    → items_of m (line_bits wires noise list arrived tail)
    ≡ items_of m (noise ++ wires (frame_bits (sequence list))) ++ items_of (locked_by list) (frame_bits arrived ++ wires tail)

pub straight_from_lock : FromLock straight
straight_from_lock m list noise arrived tail good bits =
    let first = frame_bits (sequence list) in
    let later = frame_bits arrived ++ tail in
    ap (items_of m) (sym (append_assoc noise first later)) ∙ run_append_items m (noise ++ first) later
    ∙ ap (λ (n : Mode). items_of m (noise ++ first) ++ items_of n later) (mode_locks m noise list good (are_bits_left noise _ bits))

module _ (wires : List ℕ → List ℕ) (from-lock : FromLock wires) (length-same : (bits : List ℕ) → length (wires bits) ≡ length bits) where
  -- where the frames `arrived` come for the later ones, the items of the whole line
  module _ (rx : Receiver) (list : SendersList) (noise arrived later tail line : List ℕ) (calls : List ReceiverCall)
      (good : receiver_admitted rx ≡ true) (later-is : later ≡ frame_bits arrived)
      (is : byte_bits line ≡ noise ++ (wires (sequence_bits list) ++ (wires later ++ tail)))
      (only : OnlyFeeding calls) (none : (receive rx line calls).left ≡ []) where
    line_is : byte_bits line ≡ line_bits wires noise list arrived tail
    line_is = is ∙ (λ i. noise ++ (wires (sequence_bits_lem list i) ++ (wires (later-is i) ++ tail)))

    items_are : (receive rx line calls).items
        ≡ items_of rx.mode (noise ++ wires (sequence_bits list)) ++ items_of (locked_by list) (frame_bits arrived ++ wires tail)
    items_are =
        line_items rx line calls good only none ∙ ap (items_of rx.mode) line_is
        ∙ from-lock rx.mode list noise arrived tail good (subst AreBits line_is (byte_bits_lem line))
        ∙ ap (λ (first : List ℕ). items_of rx.mode (noise ++ wires first) ++ items_of (locked_by list) (frame_bits arrived ++ wires tail))
        (sym (sequence_bits_lem list))

  pub resynchronises : (longest : ℕ) → 1 ≤ longest → longest ≤ 2 → Resynchronises wires longest
  resynchronises longest one two rx list ts noise arrived tail line calls good arrives spaced short is only none =
      let frames =
      frames_arrive ts (later_frames list) arrived (subst (λ (sent : List ℕ). Arrives ts sent arrived) (later_bits_lem list) arrives) in
      record {
        none_refused = never_refused rx line calls good;
        later = items_of (locked_by list) (frame_bits frames.0 ++ wires tail);
        items = items_are rx list noise frames.0 arrived tail line calls good (sym frames.2) is only none;
        bound =
            burst_bound longest (state_after 32 list.sender.seed) ts (samples_sent list) (later_frames list) frames.0 (wires tail) one
            two (omega (arith, length-same tail)) spaced (list_writes list).later_encode frames.1;
      }

  pub gives_samples : GivesSamples wires
  gives_samples rx list noise tail line calls good short is only none = (
    never_refused rx line calls good,
    items_are rx list noise (later_frames list) (later_bits list) tail line calls good (later_bits_lem list) is only none
        ∙ ap (λ (l : List ℕ). items_of rx.mode (noise ++ wires (sequence_bits list)) ++ l)
        (none_wrong_once_locked (state_after 32 list.sender.seed) (samples_sent list) (later_frames list) (wires tail)
        (omega (arith, length-same tail)) (list_writes list).later_encode),
  )

pub straight_resynchronises : (longest : ℕ) → 1 ≤ longest → longest ≤ 2 → Resynchronises straight longest
straight_resynchronises = resynchronises straight straight_from_lock (λ bits. refl)

pub none_wrong : NoneWrong
none_wrong = gives_samples straight straight_from_lock (λ bits. refl)
