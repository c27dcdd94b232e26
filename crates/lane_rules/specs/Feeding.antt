-- Document 01, "Receiver": feeding, items and totals.
use Rattle.std.specs.Prelude.{ℕ, zero, suc, ◌+◌, ◌-◌, min, cond, Result, Ok, Err, List, [], ◌∷◌, ◌++◌, eqb, length}
use Rattle.std.specs.Result.{result_unwrap_or}
use Rattle.refusal.specs.declared.Refusal.{Refusal}
use Rattle.frame.specs.Frame.{is_sample}
use Rattle.lane_rules.specs.Line.{bits_lsb_first}
use Rattle.lane_rules.specs.Sending.{over}
use Rattle.lane_rules.specs.Sums.{sums_after}
use Rattle.lane_rules.specs.Receiver.{receiver_admitted}
use Rattle.lane_rules.specs.Collecting.{step_of}
use Rattle.lane_rules.specs.declared.Mode.{Mode}
use Rattle.lane_rules.specs.declared.Receiver.{Receiver}
use Rattle.lane_rules.specs.declared.Outcome.{Outcome}
use Rattle.lane_rules.specs.declared.Fed.{Fed}

-- ---- items

-- "0 to 16383 a sample, 16384 a gap"
abbrev pub gap_item : ℕ
gap_item = 16384

-- the item that an outcome hands out, if any
abbrev pub item_of : Outcome → List ℕ
item_of Outcome.Nothing = []
item_of Outcome.Found = []
item_of (Outcome.Sample x d) = x ∷ []
item_of (Outcome.Gap d) = gap_item ∷ []
item_of (Outcome.Loss d) = gap_item ∷ []

unfoldable pub items_in : List Outcome → List ℕ
items_in [] = []
items_in (o ∷ os) = item_of o ++ items_in os

-- the samples and the gaps among items
unfoldable pub samples_among : List ℕ → ℕ
samples_among [] = 0
samples_among (z ∷ zs) = cond (is_sample z) (suc (samples_among zs)) (samples_among zs)

unfoldable pub gaps_among : List ℕ → ℕ
gaps_among [] = 0
gaps_among (z ∷ zs) = cond (eqb z gap_item) (suc (gaps_among zs)) (gaps_among zs)

-- ---- totals: "Each item handed out adds 1 to the samples or to the gaps"; the loss of lock "adds a loss"

-- what an outcome adds to each total
pub record Added : Type 0 where
  pub samples : ℕ
  pub gaps : ℕ
  pub losses : ℕ

abbrev pub added : Outcome → Added
added Outcome.Nothing = record { samples = 0; gaps = 0; losses = 0 }
added Outcome.Found = record { samples = 0; gaps = 0; losses = 0 }
added (Outcome.Sample x d) = record { samples = 1; gaps = 0; losses = 0 }
added (Outcome.Gap d) = record { samples = 0; gaps = 1; losses = 0 }
added (Outcome.Loss d) = record { samples = 0; gaps = 1; losses = 1 }

-- what outcomes add, for one of the totals
unfoldable pub sum_of : (Added → ℕ) → List Outcome → ℕ
sum_of part [] = 0
sum_of part (o ∷ os) = part (added o) + sum_of part os

abbrev pub samples_in : List Outcome → ℕ
samples_in os = sum_of (λ a. a.samples) os

abbrev pub gaps_in : List Outcome → ℕ
gaps_in os = sum_of (λ a. a.gaps) os

abbrev pub losses_in : List Outcome → ℕ
losses_in os = sum_of (λ a. a.losses) os

-- the largest 64-bit number
unfoldable pub largest : ℕ
largest = 18446744073709551615

-- a total with n more, as far as there is room: totals "stay at their largest value once there"
unfoldable pub total : ℕ → ℕ → ℕ
total x n = x + min n (largest - x)

-- the record in mode m, with outcomes added to its totals and its sums
unfoldable pub counted : Receiver → Mode → List Outcome → Receiver
counted rx m os = record {
  mode = m;
  samples = total rx.samples (samples_in os);
  gaps = total rx.gaps (gaps_in os);
  losses = total rx.losses (losses_in os);
  sums = sums_after rx.sums os;
}

-- ---- bits and bytes

-- what bits give: the mode after them, and the outcome of each
pub record Run : Type 0 where
  pub mode : Mode
  pub outcomes : List Outcome

unfoldable pub run_of : Mode → List ℕ → Run
run_of m [] = record { mode = m; outcomes = [] }
run_of m (b ∷ bs) =
    let j = step_of m b in
    let r = run_of j.mode bs in
    record { mode = r.mode; outcomes = j.outcome ∷ r.outcomes }

-- what feeding gives: the mode, the bytes used, and the outcomes of their bits
pub record Feed : Type 0 where
  pub mode : Mode
  pub used : ℕ
  pub outcomes : List Outcome

-- "Feeding takes bytes and item slots; it stops before a byte when no slot is free, .."
unfoldable pub feed_of : Mode → List ℕ → ℕ → Feed
feed_of m [] free = record { mode = m; used = 0; outcomes = [] }
feed_of m (b ∷ bs) zero = record { mode = m; used = 0; outcomes = [] }
feed_of m (b ∷ bs) (suc free) =
    let r = run_of m (bits_lsb_first 8 b) in
    let f = feed_of r.mode bs (suc free - length (items_in r.outcomes)) in
    record { mode = f.mode; used = suc f.used; outcomes = r.outcomes ++ f.outcomes }

-- What `feed` answers, with so many slots; it "reports bytes and slots used". Refusal 3: a record that is not admitted. Document 02,
-- Q-13: "For every record, bytes and slots", `feed_frames` "gives the items, bytes used and record of the bit receiver".
unfoldable pub feed_answer : Receiver → List ℕ → ℕ → Result Fed Refusal
feed_answer rx bytes slots =
    let f = feed_of rx.mode bytes slots in
    let handed = length (items_in f.outcomes) in
    cond (receiver_admitted rx)
    (Ok (record { receiver = counted rx f.mode f.outcomes; bytes = f.used; slots = handed }))
    (Err Refusal.Record)

-- What a call has then fed: a refused one no bytes, and the record stays as it is.
abbrev pub fed_by : Receiver → List ℕ → ℕ → Fed
fed_by rx bytes slots = result_unwrap_or (feed_answer rx bytes slots) (record { receiver = rx; bytes = 0; slots = 0 })

-- What the lent slots then hold. "Unused slots keep their content."
unfoldable pub slots_after : Receiver → List ℕ → List ℕ → List ℕ
slots_after rx bytes slots =
    cond (receiver_admitted rx) (over (items_in (feed_of rx.mode bytes (length slots)).outcomes) slots) slots
