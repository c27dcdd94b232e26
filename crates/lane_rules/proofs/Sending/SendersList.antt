-- What a sender's list writes: the alignment frames, the frames of sample 0 from the seed on, and a frame for each sample taken.
-- Assumes nothing.
use Prim.Native.Nat.{ℕ, ◌+◌, ◌/◌, ◌≤◌}
use mathlib.Core.Path.{◌≡◌, refl, sym, ap, ◌∙◌, subst}
use mathlib.Core.List.{List, ◌++◌}
use native.Mathlib.Omega.{arith}
use lib.ListN.{length, take, drop}
use lib.Seq.{take-append_seam, drop-append_seam}
use Rattle.frame.specs.Scrambler.{state_after}
use Rattle.lane_rules.specs.Line.{frame_bits, frame_bytes}
use Rattle.lane_rules.specs.Sender.{alignment_frames, alignment_pairs, proving_frames, sequence_frames, synced, sender_synced}
use Rattle.lane_rules.specs.SenderCalls.{SendersList, bytes_sent, sequence_bits, later_bits, samples_sent, all_written}
use Rattle.lane_rules.specs.Promise.{SequenceSent}
use Rattle.lane_rules.specs.declared.Sender.{Sender}
use Rattle.lane_rules.proofs.Basics.Bits.{length_bytes}
use Rattle.lane_rules.proofs.Sending.WrittenFrames as WrittenFrames
use Rattle.lane_rules.proofs.Sending.FrameBytes.{frames_in, frames_in_bytes}
use Rattle.lane_rules.proofs.Sending.WrittenFrames.{frames_of, sequence, later_frames}
use Rattle.lane_rules.proofs.Sending.Encoding.{Encodes, encodes_length, ListWrites}
use Rattle.lane_rules.proofs.Sending.SenderRecord.{admitted_facts, sync_leaves, sync_admitted}
use Rattle.lane_rules.proofs.Sending.CallFrames.{sendings_written}
use Rattle.lane_rules.proofs.Sending.SequenceFrames.{Follow, end, alignment, proving, sample, FromPosition0, from_position_0}

-- the record after SYNC, and what it writes
module _ (list : SendersList) where
  after_sync : Sender
  after_sync = synced list.sender

  after_sync_is : sender_synced list.sender ≡ after_sync
  unfolding after_sync
  after_sync_is = sync_leaves list.sender list.admitted

  written : (ws : List ℕ) × (all_written (sender_synced list.sender) list.calls ≡ frame_bytes ws)
      × Follow (sender_synced list.sender) ws (samples_sent list)
  unfolding samples_sent
  written =
      sendings_written Follow (λ t. end) (λ t ws xs h r. alignment h r) (λ t ws xs h k r. proving h k r)
      (λ t x ws xs h g r. sample h g r) list.calls (sender_synced list.sender) list.sending

  enough_frames : list.sender.alignment + 32 ≤ length written.0
  unfolding sequence_frames alignment_frames proving_frames
  enough_frames =
      let l = list.enough in
      let n = ap length written.1 ∙ length_bytes written.0 in
      omega arith

  frames : FromPosition0 after_sync written.0 (samples_sent list)
  unfolding after_sync synced
  frames =
      from_position_0 (synced list.sender) written.0 (samples_sent list) refl refl
      (sync_admitted list.sender (admitted_facts list.sender list.admitted)) enough_frames
      (subst (λ (t : Sender). Follow t written.0 (samples_sent list)) after_sync_is written.2)

  frames_are : frames_of list ≡ (alignment_pairs (list.sender.alignment / 2) ++ frames.first) ++ frames.later
  unfolding frames_of bytes_sent after_sync synced
  frames_are = ap frames_in written.1 ∙ frames_in_bytes written.0 ∙ frames.parts

  -- the bits of the bytes written are those of the frames
  pub sequence_bits_lem : sequence_bits list ≡ frame_bits (sequence list)
  unfolding bytes_sent
  sequence_bits_lem = WrittenFrames.sequence_bits_lem list written.0 written.1

  pub later_bits_lem : later_bits list ≡ frame_bits (later_frames list)
  unfolding bytes_sent
  later_bits_lem = WrittenFrames.later_bits_lem list written.0 written.1

  pub list_writes : ListWrites list
  unfolding sequence later_frames sequence_frames alignment_frames proving_frames after_sync synced
  list_writes =
      let f = frames in
      let n = f.count in
      let aligned = alignment_pairs (list.sender.alignment / 2) in
      record {
        proving = f.first;
        sequence_is = (λ i. take (sym n i) (frames_are i)) ∙ take-append_seam (aligned ++ f.first) f.later;
        proving_encode = f.first_encode;
        later_encode =
            subst (λ (l : List ℕ). Encodes (state_after 32 list.sender.seed) 0 (samples_sent list) l)
            (sym ((λ i. drop (sym n i) (frames_are i)) ∙ drop-append_seam (aligned ++ f.first) f.later))
            f.later_encode;
      }

pub sequence_sent : SequenceSent
sequence_sent list =
    let w = list_writes list in
    (w.proving, sequence_bits_lem list ∙ ap frame_bits w.sequence_is, encodes_length w.proving_encode)
