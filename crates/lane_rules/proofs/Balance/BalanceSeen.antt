-- Line balance seen: on a sender's undamaged frames, from the lock that a sequence gives, the sums stay narrow. Assumes nothing.
use Prim.Native.Nat.{ℕ, ◌-◌, ◌/◌, ◌<◌}
use mathlib.Core.Path.{◌≡◌, refl, ap, sym, ◌∙◌, subst}
use mathlib.Core.Bool.{true}
use mathlib.Core.List.{List, [], ◌∷◌, ◌++◌, append_assoc}
use native.Mathlib.Omega.{arith}
use lib.Bits.{bit_xor}
use lib.IntN.{ℤ, ◌+ℤ◌}
use lib.ListN.{length}
use Rattle.frame.specs.Scrambler.{word_of, next_state, state_after}
use Rattle.frame.specs.Frame.{disparity_of, within}
use Rattle.frame.proofs.Laws.{reading_disparity}
use Rattle.lane_rules.specs.Line.{bits_lsb_first, frame_bits, AreBits}
use Rattle.lane_rules.specs.Sender.{proving_frames}
use Rattle.lane_rules.specs.SenderCalls.{sequence_bits, later_bits, samples_sent}
use Rattle.lane_rules.specs.ReceiverCalls.{receive}
use Rattle.lane_rules.specs.Sums.{no_sums, with_frame, sums_by, sums_after, NarrowSums}
use Rattle.lane_rules.specs.Receiver.{no_bits}
use Rattle.lane_rules.specs.Judging.{clock_of, scrambled_of, locked_by, judge_of}
use Rattle.lane_rules.specs.Feeding.{run_of}
use Rattle.lane_rules.specs.PromiseSums.{LineBalanceSeen}
use Rattle.lane_rules.specs.declared.Sums.{Sums}
use Rattle.lane_rules.specs.declared.Mode.{Mode}
use Rattle.lane_rules.specs.declared.Mode.TheVariants.{Locked}
use Rattle.lane_rules.specs.declared.Judged.{Judged}
use Rattle.lane_rules.specs.declared.Outcome.TheVariants as Outcome
use Rattle.lane_rules.proofs.Basics.Bits.{byte_bits_lem, are_bits_left}
use Rattle.lane_rules.proofs.Feeding.Runs.{run_append_outcomes}
use Rattle.lane_rules.proofs.Feeding.RunningTotals.{sums_append}
use Rattle.lane_rules.proofs.Sending.Encoding.{Encodes, none, more}
use Rattle.lane_rules.proofs.Modes.FaultRule.{sound_judged, none_faulty}
use Rattle.lane_rules.proofs.Feeding.WholeFrames.{frame_sums, part_sums}
use Rattle.lane_rules.proofs.Modes.AdmittedKept.{admitted_kept}
use Rattle.lane_rules.proofs.Feeding.ReceiverLists.{feeding_is_one_run}
use Rattle.lane_rules.proofs.Totals.SumsKept.{sums_after_lem}
use Rattle.lane_rules.proofs.Sending.SenderRecord.{admitted_facts}
use Rattle.lane_rules.proofs.Sending.WrittenFrames.{later_frames}
use Rattle.lane_rules.proofs.Sending.SendersList.{sequence_bits_lem, later_bits_lem, list_writes}
use Rattle.lane_rules.proofs.Sending.SentDisparities.{FramesWithin, later_balanced}
use Rattle.lane_rules.proofs.Balance.LockSums.{sequence_sums}
use Rattle.lane_rules.proofs.Balance.SeenSums.{Seen, seen_at_lock, seen_next, seen_narrow}
use Rattle.lane_rules.proofs.Resynchronisation.Resynchronisation.{lock}

-- ---- undamaged frames from lock on

-- one of them
judged : (s c w : ℕ) → clock_of w ≡ c
    → judge_of (Locked no_bits 0 s c) w
    ≡ record { mode = Locked no_bits 0 (next_state s) (1 - c); outcome = Outcome.Sample (bit_xor (scrambled_of w) (word_of s)) (disparity_of w) }
unfolding judge_of locked_by
judged s c w e =
    sound_judged 0 s c w 0 e none_faulty
    ∙ ap (λ (d : ℤ). record { mode = Locked no_bits 0 (next_state s) (1 - c); outcome = Outcome.Sample (bit_xor (scrambled_of w) (word_of s)) d })
    (reading_disparity w)

balanced_now : (r : ℤ) (ws : List ℕ) → FramesWithin r ws → within 16 r ≡ true
unfolding FramesWithin
balanced_now r [] b = b
balanced_now r (w ∷ ws) b = b.0

frames_seen : (q r : ℤ) (s c : ℕ) (xs ws tail : List ℕ) (t : Sums) → within 16 q ≡ true → length tail < 16 → Encodes s c xs ws
    → FramesWithin r ws → Seen q r t → NarrowSums (sums_after t (run_of (Locked no_bits 0 s c) (frame_bits ws ++ tail)).outcomes)
unfolding frame_bits FramesWithin sums_by
frames_seen q r s c xs ws tail t h l none b i =
    subst NarrowSums (sym (part_sums (Locked no_bits 0 s c) tt tail (omega arith) t)) (seen_narrow q r t i)
frames_seen q r s c xs ws tail t h l (more {w = w} {xs = xs'} {ws = ws'} a d e k) b i =
    subst NarrowSums (sym one)
    (frames_seen q (r +ℤ disparity_of w) (next_state s) (1 - c) xs' ws' tail (with_frame t (disparity_of w)) h l k b.1
    (seen_next q r (disparity_of w) t i (balanced_now _ ws' b.1) h))
  where
    one : sums_after t (run_of (Locked no_bits 0 s c) ((bits_lsb_first 16 w ++ frame_bits ws') ++ tail)).outcomes
        ≡ sums_after (with_frame t (disparity_of w)) (run_of (Locked no_bits 0 (next_state s) (1 - c)) (frame_bits ws' ++ tail)).outcomes
    one =
        ap (λ (bits : List ℕ). sums_after t (run_of (Locked no_bits 0 s c) bits).outcomes) (append_assoc (bits_lsb_first 16 w) (frame_bits ws') tail)
        ∙ frame_sums (Locked no_bits 0 s c) tt refl w (frame_bits ws' ++ tail) a t
        ∙ ap (λ (j : Judged). sums_after (sums_by t j.outcome) (run_of j.mode (frame_bits ws' ++ tail)).outcomes) (judged s c w e)

-- ---- the promise

pub line_balance_seen : LineBalanceSeen
unfolding proving_frames
line_balance_seen rx list noise tail line calls good short is only used =
    let w = list_writes list in
    let a = admitted_facts list.sender list.admitted in
    let sent = later_balanced list in
    let noise-bits : AreBits noise = are_bits_left noise _ (subst AreBits is (byte_bits_lem line)) in
    let first = sequence_bits list in
    let later = later_bits list ++ tail in
    let locked = Locked no_bits 0 (state_after 32 list.sender.seed) 0 in
    let m : Mode = (run_of rx.mode noise).mode in
    let t : Sums = sums_after rx.sums (run_of rx.mode noise).outcomes in
    let at_lock : sums_after rx.sums (run_of rx.mode (noise ++ first)).outcomes ≡ no_sums =
    ap (sums_after rx.sums) (run_append_outcomes rx.mode noise first)
    ∙ sums_append rx.sums (run_of rx.mode noise).outcomes (run_of m first).outcomes
    ∙ ap (λ (bits : List ℕ). sums_after t (run_of m bits).outcomes) (sequence_bits_lem list ∙ ap frame_bits w.sequence_is)
    ∙ sequence_sums m (list.sender.alignment / 2) list.sender.seed w.proving t (admitted_kept rx.mode noise good noise-bits)
    (omega (arith, a.alignment_min)) a.seed_permitted w.proving_encode in
    let sums : (receive rx line calls).receiver.sums
    ≡ sums_after no_sums (run_of locked (frame_bits (later_frames list) ++ tail)).outcomes =
    sums_after_lem rx line calls good
    ∙ ap (sums_after rx.sums) (feeding_is_one_run rx line calls good only used
    ∙ ap (λ (bits : List ℕ). (run_of rx.mode bits).outcomes) (is ∙ sym (append_assoc noise first later))
    ∙ run_append_outcomes rx.mode (noise ++ first) later)
    ∙ sums_append rx.sums (run_of rx.mode (noise ++ first)).outcomes _
    ∙ (λ i. sums_after (at_lock i) (run_of (lock rx noise list good noise-bits i) later).outcomes)
    ∙ ap (λ (bits : List ℕ). sums_after no_sums (run_of locked (bits ++ tail)).outcomes) (later_bits_lem list) in
    subst NarrowSums (sym sums)
    (frames_seen sent.0 sent.0 (state_after 32 list.sender.seed) 0 (samples_sent list) (later_frames list) tail no_sums
    (balanced_now sent.0 (later_frames list) sent.1) (omega arith) w.later_encode sent.1
    (seen_at_lock sent.0 (balanced_now sent.0 (later_frames list) sent.1)))
