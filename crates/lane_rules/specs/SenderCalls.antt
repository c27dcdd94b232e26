-- Document 01, "Receiver", the sender's lists of calls. "In every list a call gets the record as the call before it left or returned
-- it, and nothing else changes that record."
use Rattle.std.specs.Prelude.{ℕ, ◌*◌, ◌≤◌, ◌≡◌, true, cond, List, [], ◌∷◌, ◌++◌, length, take, drop}
use Rattle.lane_rules.specs.Line.{byte_bits}
use Rattle.refusal.specs.Refusal.{told_number}
use Rattle.lane_rules.specs.Sender.{sender_admitted, sequence_frames, sync_answer, sender_synced}
use Rattle.lane_rules.specs.Sending.{are_samples, send_answer, sender_sent, told_taken, told_written, buffer_after}
use Rattle.lane_rules.specs.declared.Sender.{Sender}

-- SYNC, or sending of samples into a buffer of any content
pub data SenderCall : Type 0 where
  sync : SenderCall
  send : List ℕ → List ℕ → SenderCall

-- the record that a call leaves or returns
unfoldable pub sender_after : Sender → SenderCall → Sender
sender_after t sync = sender_synced t
sender_after t (send samples buffer) = sender_sent t (send_answer t samples (length buffer))

-- its refusal number
unfoldable pub sender_refusal : Sender → SenderCall → ℕ
sender_refusal t sync = told_number (sync_answer t)
sender_refusal t (send samples buffer) = told_number (send_answer t samples (length buffer))

-- the bytes that a call writes: as many as it reports, from the front of its buffer
unfoldable pub bytes_written : Sender → SenderCall → List ℕ
bytes_written t sync = []
bytes_written t (send samples buffer) = take (told_written (send_answer t samples (length buffer))) (buffer_after t samples buffer)

-- the samples that a call takes: as many as it reports, from the front of its list
unfoldable pub samples_taken : Sender → SenderCall → List ℕ
samples_taken t sync = []
samples_taken t (send samples buffer) = take (told_taken (send_answer t samples (length buffer))) samples

-- "The frames are the bytes written, end to end; .."
unfoldable pub all_written : Sender → List SenderCall → List ℕ
all_written t [] = []
all_written t (c ∷ cs) = bytes_written t c ++ all_written (sender_after t c) cs

-- ".. the samples sent are those taken, end to end."
unfoldable pub all_taken : Sender → List SenderCall → List ℕ
all_taken t [] = []
all_taken t (c ∷ cs) = samples_taken t c ++ all_taken (sender_after t c) cs

-- the record that a list of calls leaves, and each call's refusal number
unfoldable pub sender_at_end : Sender → List SenderCall → Sender
sender_at_end t [] = t
sender_at_end t (c ∷ cs) = sender_at_end (sender_after t c) cs

unfoldable pub sender_refusals : Sender → List SenderCall → List ℕ
sender_refusals t [] = []
sender_refusals t (c ∷ cs) = sender_refusal t c ∷ sender_refusals (sender_after t c) cs

-- "4: any sample of the list above 16383": all that a call on an admitted record is refused for
unfoldable pub refusal_due : SenderCall → ℕ
refusal_due sync = 0
refusal_due (send samples buffer) = cond (are_samples samples) 0 4

unfoldable pub refusals_due : List SenderCall → List ℕ
refusals_due [] = []
refusals_due (c ∷ cs) = refusal_due c ∷ refusals_due cs

unfoldable pub OnlySending : List SenderCall → Type 0
OnlySending [] = Unit {0}
OnlySending (sync ∷ cs) = ⊥
OnlySending (send samples buffer ∷ cs) = OnlySending cs

-- "Sender's list: the SYNC call on any admitted sender record, then any sending calls, refused ones and those out of space included,
-- that write at least the sequence."
pub record SendersList : Type 0 where
  pub sender : Sender
  pub admitted : sender_admitted sender ≡ true
  pub calls : List SenderCall
  pub sending : OnlySending calls
  pub enough : 2 * sequence_frames sender ≤ length (all_written (sender_synced sender) calls)

-- the bytes of a sender's list
unfoldable pub bytes_sent : SendersList → List ℕ
bytes_sent l = all_written (sender_synced l.sender) l.calls

-- "The sequence is the frames of positions 0 to 63", and ends earlier with fewer alignment frames: the bits of the first bytes, two a
-- frame.
unfoldable pub sequence_bits : SendersList → List ℕ
sequence_bits l = byte_bits (take (2 * sequence_frames l.sender) (bytes_sent l))

-- Later frames are those after it: the bits of the bytes that follow.
unfoldable pub later_bits : SendersList → List ℕ
later_bits l = byte_bits (drop (2 * sequence_frames l.sender) (bytes_sent l))

-- the samples of the later frames
unfoldable pub samples_sent : SendersList → List ℕ
samples_sent l = all_taken (sender_synced l.sender) l.calls
