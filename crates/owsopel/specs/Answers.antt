-- What each call answers to C, from the answer of the call behind it; the number and values of each case of an answer that is an enum.
-- "A refusal gives its number and zeros for other values, returns the record unaltered, and writes nothing."
use Rattle.std.specs.Prelude.{ℕ, List, Result, Ok, Err}
use Rattle.frame.specs.Answers.{stepped_values, built_values, sampled_values}
use Rattle.frame.specs.declared.frame.Built.{Built}
use Rattle.lane_rules.specs.Sender.{started_values}
use Rattle.lane_rules.specs.Receiver.{receiver_sync_answer}
use Rattle.lane_rules.specs.Feeding.{feed_answer, slots_after}
use Rattle.lane_rules.specs.declared.Sender.{Sender}
use Rattle.lane_rules.specs.declared.Stop.{Stop}
use Rattle.lane_rules.specs.declared.Sent.{Sent}
use Rattle.lane_rules.specs.declared.Fed.{Fed}
use Rattle.lane_rules.specs.declared.Receiver.{Receiver}
use Rattle.refusal.specs.Refusal.{number_of}
use Rattle.refusal.specs.declared.Refusal.{Refusal}
use Rattle.owsopel.specs.Flat.{flat_receiver, receiver_in}
use Rattle.strip_rules.specs.Form.{form_number}
use Rattle.strip_rules.specs.declared.Reading.{Reading}
use Rattle.strip_rules.specs.declared.Converted.{Converted}
use Rattle.owsopel.specs.declared.frames.FlatStepped.{FlatStepped}
use Rattle.owsopel.specs.declared.frames.FlatBuilt.{FlatBuilt}
use Rattle.owsopel.specs.declared.frames.FlatSampled.{FlatSampled}
use Rattle.owsopel.specs.declared.sender.FlatStarted.{FlatStarted}
use Rattle.owsopel.specs.declared.sender.FlatSent.{FlatSent}
use Rattle.owsopel.specs.declared.flat.FlatReceiver.{FlatReceiver}
use Rattle.owsopel.specs.declared.receiver.FlatSynced.{FlatSynced}
use Rattle.owsopel.specs.declared.receiver.FlatFed.{FlatFed}
use Rattle.owsopel.specs.declared.strips.FlatWritten.{FlatWritten}
use Rattle.owsopel.specs.declared.strips.FlatReading.{FlatReading}
use Rattle.owsopel.specs.declared.strips.FlatConverted.{FlatConverted}

-- of `ows_next`
abbrev pub flat_stepped : Result ℕ Refusal → FlatStepped
flat_stepped s = record { refusal = (stepped_values s).0; state = (stepped_values s).1 }

-- of `ows_build`
abbrev pub flat_built : Result Built Refusal → FlatBuilt
flat_built b = record { refusal = (built_values b).0; frame = (built_values b).1; r = (built_values b).2 }

-- of `ows_read_sample`
abbrev pub flat_sampled : Result ℕ Refusal → FlatSampled
flat_sampled s = record { refusal = (sampled_values s).0; sample = (sampled_values s).1 }

-- of `ows_start` and `ows_start_with`
abbrev pub flat_started : Result Sender Refusal → FlatStarted
flat_started s = record { refusal = (started_values s).0; sender = (started_values s).1 }

-- of `ows_send`, of the record given: how it stopped, 0 where refused, ..
abbrev pub stop_number : Stop → ℕ
stop_number Stop.AllSent = 1
stop_number Stop.OutOfSpace = 2

-- .. and all that it answers; a refusal "returns the record unaltered"
abbrev pub flat_sent : Sender → Result Sent Refusal → FlatSent
flat_sent tx (Ok s) = record { refusal = 0; stop = stop_number s.stop; sender = s.sender; taken = s.taken; written = s.written }
flat_sent tx (Err refusal) = record { refusal = number_of refusal; stop = 0; sender = tx; taken = 0; written = 0 }

-- the record after SYNC, by the record that the flat one is, if it is any. Refusal 3: it is none, or it is not admitted.
abbrev pub synced_from : Result Receiver Refusal → Result Receiver Refusal
synced_from (Err r) = Err r
synced_from (Ok rx) = receiver_sync_answer rx

abbrev pub synced_in : FlatReceiver → Result Receiver Refusal
synced_in f = synced_from (receiver_in f)

-- of `ows_receiver_sync`
abbrev pub flat_record : Result Receiver Refusal → FlatReceiver → FlatSynced
flat_record (Err r) f = record { refusal = number_of r; receiver = f }
flat_record (Ok rx) f = record { refusal = 0; receiver = flat_receiver rx }

abbrev pub flat_synced : FlatReceiver → FlatSynced
flat_synced f = flat_record (synced_in f) f

-- of feeding, from the answer of the call behind it
abbrev pub flat_answer : Result Fed Refusal → FlatReceiver → FlatFed
flat_answer (Err r) f = record { refusal = number_of r; receiver = f; bytes = 0; slots = 0 }
flat_answer (Ok a) f = record { refusal = 0; receiver = flat_receiver a.receiver; bytes = a.bytes; slots = a.slots }

-- of `ows_feed`, and of `ows_feed_frames` (document 02, Q-13), with so many slots. Refusal 3, as for SYNC.
abbrev pub fed_from : Result Receiver Refusal → FlatReceiver → List ℕ → ℕ → FlatFed
fed_from (Err r) f bytes slots = flat_answer (Err r) f
fed_from (Ok rx) f bytes slots = flat_answer (feed_answer rx bytes slots) f

abbrev pub flat_fed : FlatReceiver → List ℕ → ℕ → FlatFed
flat_fed f bytes slots = fed_from (receiver_in f) f bytes slots

-- what the lent slots then hold
abbrev pub slots_from : Result Receiver Refusal → List ℕ → List ℕ → List ℕ
slots_from (Err r) bytes slots = slots
slots_from (Ok rx) bytes slots = slots_after rx bytes slots

abbrev pub flat_slots : FlatReceiver → List ℕ → List ℕ → List ℕ
flat_slots f bytes slots = slots_from (receiver_in f) bytes slots

-- of `ows_write_strip` and `ows_write_short_strip`
abbrev pub flat_written : Result ℕ Refusal → FlatWritten
flat_written (Ok bytes) = record { refusal = 0; bytes = bytes }
flat_written (Err refusal) = record { refusal = number_of refusal; bytes = 0 }

-- of `ows_read_strip` and `ows_check_strip`
abbrev pub flat_reading : Result Reading Refusal → FlatReading
flat_reading (Ok strip) =
    record { refusal = 0; lane = strip.lane; count = strip.count; form = form_number strip.form; used = strip.used }
flat_reading (Err refusal) = record { refusal = number_of refusal; lane = 0; count = 0; form = 0; used = 0 }

-- of `ows_shorten_strip` and `ows_expand_strip`
abbrev pub flat_converted : Result Converted Refusal → FlatConverted
flat_converted (Ok converted) = record { refusal = 0; used = converted.used; bytes = converted.bytes }
flat_converted (Err refusal) = record { refusal = number_of refusal; used = 0; bytes = 0 }
