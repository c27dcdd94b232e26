-- There are such lists of calls and such lines as the promises speak of. Assumes nothing.
use Prim.Native.Nat.{ℕ, zero, suc, ◌+◌, ◌-◌, ◌*◌, ◌/◌, ◌%◌, ◌≤◌}
use mathlib.Core.Path.{◌≡◌, refl, ap, sym, ◌∙◌}
use mathlib.Core.Bool.{true, true≢false}
use mathlib.Core.List.{List, [], ◌∷◌, ◌++◌, append-nil}
use native.Mathlib.Omega.{arith}
use lib.ListN.{length, take, drop, replicate, length-append, length-drop, length-replicate, take-append-drop, drop_of_length-le}
use lib.Seq.{take_all, take-append_seam, length-take-le}
use Rattle.std.specs.Prelude.{Result, Ok, Err}
use Rattle.refusal.specs.declared.Refusal.{Refusal}
use Rattle.frame.specs.Seeds.{seed_answer}
use Rattle.lane_rules.specs.Line.{byte_bits, frame_bytes, AreBits, AreBytes}
use Rattle.lane_rules.specs.Sender.{alignment_frames, proving_frames, sequence_frames, sender_admitted, ready_with, started_with, start_with_answer}
use Rattle.lane_rules.specs.Sender.{fresh_sender, started_values, synced, sender_synced}
use Rattle.lane_rules.specs.Sending.{are_samples, frames_sent, told_taken, told_written, over}
use Rattle.lane_rules.specs.SenderCalls.{send, bytes_written, samples_taken, all_written, all_taken, OnlySending, samples_sent}
use Rattle.lane_rules.specs.Feeding.{fed_by}
use Rattle.lane_rules.specs.ReceiverCalls.{feed, receive, OnlyFeeding}
use Rattle.lane_rules.specs.Promise.{frames_due, PermittedStarts, SendersLists, Lines, FeedingLists}
use Rattle.lane_rules.specs.declared.Sender.{Sender}
use Rattle.lane_rules.specs.declared.Sent.{Sent}
use Rattle.lane_rules.proofs.Basics.Bits.{value, so_many_bits, are_bits_append, are_bits_taken, are_bits_dropped}
use Rattle.lane_rules.proofs.Sending.SenderRecord.{admitted_facts, facts_admitted, sync_leaves, sync_admitted, refused_by_answer}
use Rattle.lane_rules.proofs.Sending.SendingLaws.{send_taken, buffer_taken}
use Rattle.lane_rules.proofs.Sending.SendingEnds.{ends_in}
use Rattle.lane_rules.proofs.Feeding.FeedingRuns.{feeding_uses_all}

-- ---- a sender just started

pub permitted_starts : PermittedStarts
unfolding start_with_answer started_with ready_with
permitted_starts seed n p h = go (seed_answer seed) refl
  where
    go : (c : Result Unit Refusal) → seed_answer seed ≡ c → started_values (started_with c seed n) ≡ (0, fresh_sender seed n)
    go (Ok _) e = rw h
    go (Err m) e = absurd (true≢false (sym p ∙ refused_by_answer seed m e))

-- ---- a sender's list

-- with room for all that is due, one sending call takes the samples and writes two bytes a frame
module _ (t : Sender) (samples : List ℕ) (h : sender_admitted t ≡ true) (good : are_samples samples ≡ true) where
  buffer : List ℕ
  buffer = replicate (2 * frames_due t samples) 0

  room : 2 * frames_due t samples ≤ length buffer
  unfolding buffer
  room = let n : length buffer ≡ 2 * frames_due t samples = length-replicate (2 * frames_due t samples) 0 in omega arith

  samples_taken_lem : samples_taken t (send samples buffer) ≡ samples
  unfolding samples_taken
  samples_taken_lem =
      ap (λ (a : Result Sent Refusal). take (told_taken a) samples) (send_taken t samples (length buffer) h good)
      ∙ ap (λ (n : ℕ). take n samples) (ends_in t samples (length buffer) h room).1
      ∙ take_all (length samples) samples (omega arith)

  bytes_written_lem : length (bytes_written t (send samples buffer)) ≡ 2 * frames_due t samples
  unfolding bytes_written over
  bytes_written_lem =
      let bytes = frame_bytes (frames_sent (length buffer / 2) t samples).frames in
      let e = send_taken t samples (length buffer) h good in
      ap length
      ((λ i. take (told_written (e i)) (buffer_taken t samples buffer h good i)) ∙ take-append_seam bytes (drop (length bytes) buffer))
      ∙ (ends_in t samples (length buffer) h room).2

pub senders_lists : SendersLists
unfolding OnlySending all_written all_taken samples_sent frames_due sequence_frames alignment_frames proving_frames synced
senders_lists tx samples h good =
    let t = sender_synced tx in
    let is : t ≡ synced tx = sync_leaves tx h in
    let fine : sender_admitted t ≡ true =
    ap sender_admitted is ∙ facts_admitted (synced tx) (sync_admitted tx (admitted_facts tx h)) in
    let call = send samples (buffer t samples fine good) in
    let position : t.position ≡ 0 = ap (λ (s : Sender). s.position) is in
    let alignment : t.alignment ≡ tx.alignment = ap (λ (s : Sender). s.alignment) is in
    let count : length (bytes_written t call ++ []) ≡ 2 * ((t.alignment + 32 - t.position) + length samples) =
    ap length (append-nil (bytes_written t call)) ∙ bytes_written_lem t samples fine good in (
      record { sender = tx; admitted = h; calls = call ∷ []; sending = tt; enough = omega arith },
      refl,
      append-nil (samples_taken t call) ∙ samples_taken_lem t samples fine good,
    )

-- ---- a line

whole_bytes : (k : ℕ) (bits : List ℕ) → AreBits bits → length bits ≡ 8 * k
    → (line : List ℕ) × AreBytes line × (byte_bits line ≡ bits)
unfolding byte_bits AreBytes
whole_bytes zero [] h n = ([], tt, refl)
whole_bytes zero (b ∷ bs) h n = absurd (omega arith)
whole_bytes (suc k) bits h n =
    let v = so_many_bits 8 (take 8 bits) (are_bits_taken 8 bits h) (length-take-le 8 bits (omega arith)) in
    let later = whole_bytes k (drop 8 bits) (are_bits_dropped 8 bits h) (omega (arith, length-drop 8 bits)) in
    (value (take 8 bits) ∷ later.0, (v.1, later.1), (λ i. v.0 i ++ later.2 i) ∙ take-append-drop 8 bits)

zero_bits : (n : ℕ) → AreBits (replicate n 0)
unfolding AreBits
zero_bits zero = tt
zero_bits (suc n) = (omega arith, zero_bits n)

pub lines : Lines
lines bits h =
    let n = (8 - length bits % 8) % 8 in
    let tail : List ℕ = replicate n 0 in
    let count : length tail ≡ n = length-replicate n 0 in
    let line = whole_bytes ((length bits + 7) / 8) (bits ++ tail) (are_bits_append bits tail h (zero_bits n))
    (length-append bits tail ∙ omega arith) in
    (tail, line.0, omega arith, line.1, line.2)

-- ---- feeding calls

pub feeding_lists : FeedingLists
unfolding OnlyFeeding receive
feeding_lists rx line good =
    let slots : List ℕ = replicate (length line) 0 in
    let all : take (length line) line ≡ line = take_all (length line) line (omega arith) in
    let count : length slots ≡ length line = length-replicate (length line) 0 in
    let lent : length (take (length line) line) ≡ length line = ap length all in
    let used : (fed_by rx (take (length line) line) (length slots)).bytes ≡ length (take (length line) line) =
    feeding_uses_all rx (take (length line) line) (length slots) good (omega arith) in
    let end : length line ≤ (fed_by rx (take (length line) line) (length slots)).bytes = omega arith in
    (feed (length line) slots ∷ [], tt, drop_of_length-le line end)
