-- The receiver's record as C holds it: a mode number 0 to 4 and the parts of all modes, those that a mode has not being 0.
use Rattle.std.specs.Prelude.{Bool, false, cond, ◌&&◌, ℕ, eqb, Result, Ok, Err}
use Rattle.lane_rules.specs.Receiver.{receiver_admitted}
use Rattle.lane_rules.specs.declared.Partial.{Partial}
use Rattle.lane_rules.specs.declared.Mode.{Mode}
use Rattle.lane_rules.specs.declared.Mode.TheVariants.{Hunt, Flash, First, Prove, Locked}
use Rattle.lane_rules.specs.declared.Receiver.{Receiver}
use Rattle.owsopel.specs.declared.flat.FlatMode.{FlatMode}
use Rattle.owsopel.specs.declared.flat.FlatReceiver.{FlatReceiver}
use Rattle.refusal.specs.declared.Refusal.{Refusal}

-- the numbers of the modes
abbrev pub hunt_number : ℕ
hunt_number = 0

abbrev pub flash_number : ℕ
flash_number = 1

abbrev pub first_number : ℕ
first_number = 2

abbrev pub prove_number : ℕ
prove_number = 3

abbrev pub locked_number : ℕ
locked_number = 4

-- the number and parts of a mode
abbrev pub flat_mode : Mode → FlatMode
flat_mode (Hunt bits count) = record {
  number = hunt_number;
  bits = bits;
  count = count;
  frame = 0;
  word = 0;
  read = 0;
  results = 0;
  state = 0;
  clock = 0;
}
flat_mode (Flash part frame) = record {
  number = flash_number;
  bits = part.bits;
  count = part.count;
  frame = frame;
  word = 0;
  read = 0;
  results = 0;
  state = 0;
  clock = 0;
}
flat_mode (First part word clock) = record {
  number = first_number;
  bits = part.bits;
  count = part.count;
  frame = 0;
  word = word;
  read = 0;
  results = 0;
  state = 0;
  clock = clock;
}
flat_mode (Prove part read state clock) = record {
  number = prove_number;
  bits = part.bits;
  count = part.count;
  frame = 0;
  word = 0;
  read = read;
  results = 0;
  state = state;
  clock = clock;
}
flat_mode (Locked part results state clock) = record {
  number = locked_number;
  bits = part.bits;
  count = part.count;
  frame = 0;
  word = 0;
  read = 0;
  results = results;
  state = state;
  clock = clock;
}

abbrev pub flat_receiver : Receiver → FlatReceiver
flat_receiver rx = record { mode = flat_mode rx.mode; samples = rx.samples; gaps = rx.gaps; losses = rx.losses; sums = rx.sums }

-- the bits held of a frame
abbrev pub part_in : FlatMode → Partial
part_in f = record { bits = f.bits; count = f.count }

-- the mode that a flat one's number names, with its parts
abbrev pub named_mode : FlatMode → Mode
named_mode f =
    cond (eqb f.number hunt_number) (Hunt f.bits f.count)
    (cond (eqb f.number flash_number) (Flash (part_in f) f.frame)
    (cond (eqb f.number first_number) (First (part_in f) f.word f.clock)
    (cond (eqb f.number prove_number) (Prove (part_in f) f.read f.state f.clock)
    (Locked (part_in f) f.results f.state f.clock))))

-- whether two flat modes are the same
abbrev pub same_mode : FlatMode → FlatMode → Bool
same_mode f g =
    eqb f.number g.number
    && eqb f.bits g.bits
    && eqb f.count g.count
    && eqb f.frame g.frame
    && eqb f.word g.word
    && eqb f.read g.read
    && eqb f.results g.results
    && eqb f.state g.state
    && eqb f.clock g.clock

-- The mode that a flat one is. Refusal 3: it has parts that the mode it names has not, or another number.
abbrev pub mode_in : FlatMode → Result Mode Refusal
mode_in f = cond (same_mode (flat_mode (named_mode f)) f) (Ok (named_mode f)) (Err Refusal.Record)

-- the record with a mode, if that is one, and the totals and sums of a flat one
abbrev pub receiver_with : Result Mode Refusal → FlatReceiver → Result Receiver Refusal
receiver_with (Ok m) f = Ok (record { mode = m; samples = f.samples; gaps = f.gaps; losses = f.losses; sums = f.sums })
receiver_with (Err r) f = Err r

-- The record that a flat one is. Refusal 3, as for its mode.
abbrev pub receiver_in : FlatReceiver → Result Receiver Refusal
receiver_in f = receiver_with (mode_in f.mode) f

-- whether it is the flat form of an admitted record
abbrev pub is_admitted : Result Receiver Refusal → Bool
is_admitted (Ok rx) = receiver_admitted rx
is_admitted (Err r) = false

abbrev pub flat_admitted : FlatReceiver → Bool
flat_admitted f = is_admitted (receiver_in f)
