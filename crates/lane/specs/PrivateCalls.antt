-- What only the contracts of private calls cite, in feeding by whole frames. The public contracts and the promises do not rest on it.
use Rattle.std.specs.Prelude.{ℕ, ◌+◌, ◌-◌, ◌*◌, ◌%◌, ◌^◌, ◌≤◌, ◌≡◌, true, List, length, drop}
use Rattle.std.proofs.lemmas.List.Edits.{sets}
use Rattle.lane_rules.specs.Receiver.{mode_admitted}
use Rattle.lane_rules.specs.Feeding.{items_in, total, counted, Feed, feed_of}
use Rattle.lane_modes.specs.PrivateCalls.{with_byte}
use Rattle.lane_rules.specs.declared.Partial.{Partial}
use Rattle.lane_rules.specs.declared.Sums.{Sums}
use Rattle.lane_rules.specs.declared.Mode.{Mode}
use Rattle.lane_rules.specs.declared.Fed.{Fed}

-- the bits held with two bytes above them
abbrev pub with_two : Partial → ℕ → ℕ → ℕ
with_two p x y = with_byte (record { bits = with_byte p x; count = p.count + 8 }) y

-- ---- feeding that goes on from a place

abbrev pub fed_from : Fed → List ℕ → ℕ → Feed
fed_from p bytes slots = feed_of p.receiver.mode (drop p.bytes bytes) (slots - p.slots)

-- what it answers in the end
unfoldable pub answer_from : Fed → List ℕ → ℕ → Fed
answer_from p bytes slots =
    let f = fed_from p bytes slots in
    record {
      receiver = counted p.receiver f.mode f.outcomes;
      bytes = p.bytes + f.used;
      slots = p.slots + length (items_in f.outcomes);
    }

-- what the slots hold in the end
unfoldable pub slots_from : Fed → List ℕ → List ℕ → List ℕ
slots_from p bytes slots = sets slots p.slots (items_in (fed_from p bytes (length slots)).outcomes)

-- a small sum, and the most frames of a run: as each has a disparity within 16, they leave such a sum inside the limits of 32 bits
abbrev pub small_sum : ℕ
small_sum = 1073741824

abbrev pub longest_run : ℕ
longest_run = 33554432

-- the results after n sound frames
unfoldable pub sound_results : ℕ → ℕ → ℕ
sound_results results n = results * 2 ^ n % 256

-- the place after n sound frames of two bytes
abbrev pub sound_place : Fed → Mode → Sums → ℕ → Fed
sound_place p m s n =
    let rx = p.receiver in
    record {
      receiver = record { mode = m; samples = total rx.samples n; gaps = rx.gaps; losses = rx.losses; sums = s };
      bytes = p.bytes + 2 * n;
      slots = p.slots + n;
    }

-- a place that feeding can go on from
pub record Stands (p : Fed) (bytes slots : List ℕ) : Type 0 where
  pub good : mode_admitted p.receiver.mode ≡ true
  pub within : p.bytes ≤ length bytes
  pub fits : p.slots ≤ length slots

-- feeding stands at p, and goes on to give an answer and to fill the slots
pub record Along (bytes : List ℕ) (answer : Fed) (filled : List ℕ) (p : Fed) (slots : List ℕ) : Type 0 where
  pub stands : Stands p bytes slots
  pub ends : answer_from p bytes (length slots) ≡ answer
  pub content : slots_from p bytes slots ≡ filled

-- from p with slots on, feeding came to q with slots t, on the same way
abbrev pub Onward : List ℕ → Fed → List ℕ → Fed → List ℕ → Type 0
Onward bytes p slots q t = Along bytes (answer_from p bytes (length slots)) (slots_from p bytes slots) q t
