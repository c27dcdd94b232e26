-- Document 01's trial values marked P, proved together: the definitions give them. Assumes nothing.
use mathlib.Core.Path.{refl}
use lib.Count.{ones_in}
use Rattle.frame.specs.Scrambler.{is_state, upper_bits, next_state, next_answer}
use Rattle.frame.specs.Seeds.{permitted, seed_answer}
use Rattle.frame.specs.Frame.{is_sample, is_clock, plain_frame, disparity_in, within, inverts, new_r, sent_frame, build_answer}
use Rattle.frame.specs.Frame.{uninverted, reading_of}
use Rattle.lane_rules.specs.Line.{frame_bytes}
use Rattle.lane_rules.specs.Sender.{alignment_frames, alignment_permitted, proving_frames, sequence_frames, sender_admitted, fresh_sender, started_by}
use Rattle.lane_rules.specs.Sender.{start_answer, alignment_frame, next_position, alignment_next, scrambled_next, next_frame}
use Rattle.lane_rules.specs.Sending.{in_sequence, samples_due, sample_due, all_sent, stopped, before, frames_sent, are_samples, sent_frames}
use Rattle.lane_rules.specs.Sending.{send_answer, over, buffer_after}
use Rattle.lane_rules.specs.SenderCalls.{sender_after, bytes_written}
use Rattle.lane_rules.specs.Judging.{judge_flash, recovered, proves, first_by, judge_first, judge_of}
use Rattle.bits.specs.Bits.{bits_msb_first, number_of, bits_in, bytes_msb_first, pack}
use Rattle.strip_rules.specs.Strip.{run_of, item_behind, items_behind, content_bits, padding, strip_bits, strip_of, any_above}
use Rattle.strip_rules.specs.Writing.{writing}
use Rattle.strip_rules.specs.Reading.{first_run, first_in, walk, head_in, end_in, body_in, strip_in}
use Rattle.trial.specs.Table.{frames_in, aligned_sender, one_by_one, table, Agree}

pub trial_values : Agree table
unfolding
    Agree table aligned_sender one_by_one is_state upper_bits next_state next_answer is_sample is_clock plain_frame disparity_in ones_in
    within inverts new_r sent_frame build_answer uninverted reading_of permitted seed_answer frame_bytes frames_in alignment_frames
    alignment_permitted proving_frames sequence_frames sender_admitted fresh_sender started_by start_answer alignment_frame next_position
    alignment_next scrambled_next next_frame in_sequence samples_due sample_due all_sent stopped before frames_sent are_samples sent_frames
    send_answer over buffer_after sender_after bytes_written judge_flash recovered proves first_by judge_first judge_of bits_msb_first
    number_of bits_in bytes_msb_first pack run_of item_behind items_behind content_bits padding strip_bits strip_of any_above writing first_run first_in walk
    head_in end_in body_in strip_in
trial_values = refl
