-- The line of seed 1 in numbers, computed. Assumes nothing.
use mathlib.Core.Path.{refl}
use lib.Count.{ones_in}
use Rattle.frame.specs.Scrambler.{is_state, upper_bits, next_state}
use Rattle.frame.specs.Seeds.{permitted}
use Rattle.frame.specs.Frame.{is_clock, within, plain_frame, disparity_in, inverts, sent_frame, new_r}
use Rattle.lane_rules.specs.Line.{bits_lsb_first, byte_bits, frame_bytes}
use Rattle.lane_rules.specs.Sender.{alignment_frames, alignment_permitted, proving_frames, sequence_frames, sender_admitted, fresh_sender}
use Rattle.lane_rules.specs.Sender.{alignment_frame, next_position, alignment_next, scrambled_next, next_frame}
use Rattle.lane_rules.specs.Sending.{in_sequence, samples_due, sample_due, all_sent, stopped, before, frames_sent, are_samples, sent_frames}
use Rattle.lane_rules.specs.Sending.{send_answer, over, buffer_after}
use Rattle.lane_rules.specs.SenderCalls.{bytes_written, all_written}
use Rattle.lane_rules.specs.Promise.{LineInNumbers}

pub line_in_numbers : LineInNumbers
unfolding
    ones_in is_state upper_bits next_state permitted is_clock within plain_frame disparity_in inverts sent_frame new_r bits_lsb_first byte_bits frame_bytes
    alignment_frames alignment_permitted proving_frames sequence_frames sender_admitted fresh_sender alignment_frame next_position alignment_next
    scrambled_next next_frame in_sequence samples_due sample_due all_sent stopped before frames_sent are_samples sent_frames send_answer over
    buffer_after bytes_written all_written
line_in_numbers = record { bytes = refl; bits = refl }
