-- Document 01, "Sender": sending.
use Rattle.std.specs.Prelude.{ℕ, zero, suc, ◌+◌, ◌/◌, Bool, true, false, cond, ◌&&◌, List, [], ◌∷◌, ◌++◌, ltb, eqb, length, get_or, drop, Result, Ok, Err}
use Rattle.refusal.specs.declared.Refusal.{Refusal}
use Rattle.frame.specs.Frame.{is_sample}
use Rattle.lane_rules.specs.Line.{frame_bytes}
use Rattle.lane_rules.specs.Sender.{sequence_frames, sender_admitted, next_frame}
use Rattle.lane_rules.specs.declared.Sender.{Sender}
use Rattle.lane_rules.specs.declared.Stop.{Stop}
use Rattle.lane_rules.specs.declared.Sent.{Sent}

-- within the sequence, where frames take no samples; document 01's 64 is its end with 32 alignment frames
unfoldable pub in_sequence : Sender → Bool
in_sequence t = ltb t.position (sequence_frames t)

-- the number of samples that the next frame takes
unfoldable pub samples_due : Sender → ℕ
samples_due t = cond (in_sequence t) 0 1

-- the sample of the next frame: 0 in the sequence; "from 64 on, the caller's samples"
unfoldable pub sample_due : Sender → List ℕ → ℕ
sample_due t xs = cond (in_sequence t) 0 (get_or xs 0 0)

-- "at position 64 with no sample left", of the number of samples left
unfoldable pub all_sent : Sender → ℕ → Bool
all_sent t left = cond (in_sequence t) false (eqb left 0)

-- frames sent: the record after them, the samples taken for them, the frames, and how it stopped
pub record Frames : Type 0 where
  pub sender : Sender
  pub taken : ℕ
  pub frames : List ℕ
  pub stop : Stop

unfoldable pub stopped : Sender → Stop → Frames
stopped t s = record { sender = t; taken = 0; frames = []; stop = s }

-- one frame w, for which n samples were taken, and those after it
unfoldable pub before : ℕ → ℕ → Frames → Frames
before n w f = record { sender = f.sender; taken = n + f.taken; frames = w ∷ f.frames; stop = f.stop }

-- "Before each frame: at position 64 with no sample left, stop as all sent; else with under two bytes left, stop as out of space."
-- The first argument is the room in frames.
unfoldable pub frames_sent : ℕ → Sender → List ℕ → Frames
frames_sent zero t xs = stopped t (cond (all_sent t (length xs)) Stop.AllSent Stop.OutOfSpace)
frames_sent (suc room) t xs =
    let f = next_frame t (sample_due t xs) in
    let later = frames_sent room f.sender (drop (samples_due t) xs) in
    cond (all_sent t (length xs)) (stopped t Stop.AllSent) (before (samples_due t) f.frame later)

-- no sample above 16383
unfoldable pub are_samples : List ℕ → Bool
are_samples [] = true
are_samples (x ∷ xs) = is_sample x && are_samples xs

-- what sending did where frames were sent: "It reports samples taken and bytes written."
unfoldable pub sent_frames : Frames → Sent
sent_frames f =
    record { sender = f.sender; stop = f.stop; taken = f.taken; written = length (frame_bytes f.frames) }

-- What `send` answers, with so many bytes of room. Refusals: 3 for the record; then "4: any sample of the list above 16383".
unfoldable pub send_answer : Sender → List ℕ → ℕ → Result Sent Refusal
send_answer t xs room =
    cond (sender_admitted t)
    (cond (are_samples xs) (Ok (sent_frames (frames_sent (room / 2) t xs))) (Err Refusal.Sample))
    (Err Refusal.Record)

-- "A refusal gives its number and zeros for other values, returns the record unaltered": the record that sending leaves or returns, ..
abbrev pub sender_sent : Sender → Result Sent Refusal → Sender
sender_sent t (Ok sent) = sent.sender
sender_sent t (Err refusal) = t

-- .. and the samples taken and the bytes written that it reports
abbrev pub told_taken : Result Sent Refusal → ℕ
told_taken (Ok sent) = sent.taken
told_taken (Err refusal) = 0

abbrev pub told_written : Result Sent Refusal → ℕ
told_written (Ok sent) = sent.written
told_written (Err refusal) = 0

-- new content over the front of the old: "Later bytes keep their content."
unfoldable pub over : List ℕ → List ℕ → List ℕ
over new old = new ++ drop (length new) old

-- What the lent buffer then holds.
unfoldable pub buffer_after : Sender → List ℕ → List ℕ → List ℕ
buffer_after t xs buf =
    cond (sender_admitted t && are_samples xs) (over (frame_bytes (frames_sent (length buf / 2) t xs).frames) buf) buf
