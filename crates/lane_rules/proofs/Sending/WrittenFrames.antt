-- The frames that a sender's bytes are, and that the bits of those bytes are the bits of these frames, the sequence's first.
-- Assumes nothing.
use Prim.Native.Nat.{ℕ, ◌*◌}
use mathlib.Core.Path.{◌≡◌, ap, sym, ◌∙◌}
use mathlib.Core.List.{List}
use lib.ListN.{take, drop}
use Rattle.lane_rules.specs.Line.{frame_bits, byte_bits, frame_bytes}
use Rattle.lane_rules.specs.Sender.{sequence_frames}
use Rattle.lane_rules.specs.SenderCalls.{SendersList, bytes_sent, sequence_bits, later_bits}
use Rattle.lane_rules.proofs.Basics.Bits.{bytes_bits}
use Rattle.lane_rules.proofs.Sending.FrameBytes.{frames_in, frames_in_bytes, take_bytes, drop_bytes}

-- the frames of a sender's list, those of the sequence, and the later ones
unfoldable pub frames_of : SendersList → List ℕ
frames_of l = frames_in (bytes_sent l)

unfoldable pub sequence : SendersList → List ℕ
sequence l = take (sequence_frames l.sender) (frames_of l)

unfoldable pub later_frames : SendersList → List ℕ
later_frames l = drop (sequence_frames l.sender) (frames_of l)

-- where the bytes of a list are those of frames, its bits are theirs
module _ (list : SendersList) (ws : List ℕ) (is : bytes_sent list ≡ frame_bytes ws) where
  frames_are : frames_of list ≡ ws
  unfolding frames_of
  frames_are = ap frames_in is ∙ frames_in_bytes ws

  pub sequence_bits_lem : sequence_bits list ≡ frame_bits (sequence list)
  unfolding sequence_bits sequence
  sequence_bits_lem =
      let n = sequence_frames list.sender in
      ap (λ (l : List ℕ). byte_bits (take (2 * n) l)) is ∙ ap byte_bits (take_bytes n ws) ∙ bytes_bits (take n ws)
      ∙ ap (λ (l : List ℕ). frame_bits (take n l)) (sym frames_are)

  pub later_bits_lem : later_bits list ≡ frame_bits (later_frames list)
  unfolding later_bits later_frames
  later_bits_lem =
      let n = sequence_frames list.sender in
      ap (λ (l : List ℕ). byte_bits (drop (2 * n) l)) is ∙ ap byte_bits (drop_bytes n ws) ∙ bytes_bits (drop n ws)
      ∙ ap (λ (l : List ℕ). frame_bits (drop n l)) (sym frames_are)
