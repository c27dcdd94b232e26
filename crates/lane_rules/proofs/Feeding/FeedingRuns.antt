-- One feeding call is the run of the bits of the bytes that it uses. Assumes nothing.
use Prim.Native.Nat.{ℕ, zero, suc, ◌+◌, ◌-◌, ◌≤◌, ◌<◌}
use mathlib.Core.Path.{◌≡◌, refl, ap, sym, subst, ◌∙◌}
use mathlib.Core.Bool.{true}
use mathlib.Core.Logic.{◌⊎◌, inl, inr, ⊎_elim}
use mathlib.Core.List.{List, [], ◌∷◌, ◌++◌}
use native.Mathlib.Omega.{arith}
use lib.ListN.{length, take, drop, length-take, length-append}
use lib.Seq.{take-take, take-append_seam}
use Rattle.std.specs.Prelude.{Result, Ok}
use Rattle.std.specs.Result.{result_unwrap_or}
use Rattle.refusal.specs.Refusal.{told_number}
use Rattle.refusal.specs.declared.Refusal.{Refusal}
use Rattle.lane_rules.specs.Line.{bits_lsb_first, byte_bits}
use Rattle.lane_rules.specs.Sending.{over}
use Rattle.lane_rules.specs.Receiver.{mode_admitted, receiver_admitted}
use Rattle.lane_rules.specs.Feeding.{items_in, counted, run_of, feed_of, feed_answer, fed_by, slots_after}
use Rattle.lane_rules.specs.Promise.{FeedingUsesAll, FeedingProgress}
use Rattle.lane_rules.specs.declared.Mode.{Mode}
use Rattle.lane_rules.specs.declared.Receiver.{Receiver}
use Rattle.lane_rules.specs.declared.Outcome.{Outcome}
use Rattle.lane_rules.specs.declared.Fed.{Fed}
use Rattle.lane_rules.proofs.Basics.Bits.{byte_bits_lem}
use Rattle.lane_rules.proofs.Feeding.Runs.{run_append_mode, run_append_outcomes, run_append_items, items_append, items_of}
use Rattle.lane_rules.proofs.Feeding.ItemSpacing.{byte_once}
use Rattle.lane_rules.proofs.Modes.AdmittedKept.{admitted_kept}

-- ---- feeding a mode

-- no more bytes are used than lent, ..
used_within : (m : Mode) (bytes : List ℕ) (free : ℕ) → (feed_of m bytes free).used ≤ length bytes
unfolding feed_of
used_within m [] free = omega arith
used_within m (b ∷ bs) zero = omega arith
used_within m (b ∷ bs) (suc n) =
    omega (arith, used_within (run_of m (bits_lsb_first 8 b)).mode bs (suc n - length (items_of m (bits_lsb_first 8 b))))

-- .. and with a slot for every byte all of them
uses_all : (m : Mode) (bytes : List ℕ) (free : ℕ) → length bytes ≤ free → (feed_of m bytes free).used ≡ length bytes
unfolding feed_of
uses_all m [] free h = refl
uses_all m (b ∷ bs) zero h = absurd (omega arith)
uses_all m (b ∷ bs) (suc n) h =
    ap suc (uses_all (run_of m (bits_lsb_first 8 b)).mode bs (suc n - length (items_of m (bits_lsb_first 8 b))) (omega (arith, byte_once m b)))

feed_mode : (m : Mode) (bytes : List ℕ) (free : ℕ)
    → (feed_of m bytes free).mode ≡ (run_of m (byte_bits (take (feed_of m bytes free).used bytes))).mode
unfolding feed_of byte_bits run_of
feed_mode m [] free = refl
feed_mode m (b ∷ bs) zero = refl
feed_mode m (b ∷ bs) (suc n) =
    feed_mode (run_of m (bits_lsb_first 8 b)).mode bs (suc n - length (items_of m (bits_lsb_first 8 b))) ∙ sym (run_append_mode m (bits_lsb_first 8 b) _)

feed_outcomes : (m : Mode) (bytes : List ℕ) (free : ℕ)
    → (feed_of m bytes free).outcomes ≡ (run_of m (byte_bits (take (feed_of m bytes free).used bytes))).outcomes
unfolding feed_of byte_bits run_of
feed_outcomes m [] free = refl
feed_outcomes m (b ∷ bs) zero = refl
feed_outcomes m (b ∷ bs) (suc n) =
    ap (λ (os : List Outcome). (run_of m (bits_lsb_first 8 b)).outcomes ++ os)
    (feed_outcomes (run_of m (bits_lsb_first 8 b)).mode bs (suc n - length (items_of m (bits_lsb_first 8 b))))
    ∙ sym (run_append_outcomes m (bits_lsb_first 8 b) _)

-- it stops where all bytes are used, or all slots, ..
to_the_end : (m : Mode) (bytes : List ℕ) (free : ℕ)
    → ((feed_of m bytes free).used ≡ length bytes) ⊎ (length (items_in (feed_of m bytes free).outcomes) ≡ free)
unfolding feed_of items_in
to_the_end m [] free = inl refl
to_the_end m (b ∷ bs) zero = inr refl
to_the_end m (b ∷ bs) (suc n) =
    let now = run_of m (bits_lsb_first 8 b) in
    let left = suc n - length (items_of m (bits_lsb_first 8 b)) in
    let later = feed_of now.mode bs left in
    let count : length (items_in (now.outcomes ++ later.outcomes)) ≡ length (items_of m (bits_lsb_first 8 b)) + length (items_in later.outcomes) =
    ap length (items_append now.outcomes later.outcomes) ∙ length-append (items_of m (bits_lsb_first 8 b)) (items_in later.outcomes) in
    ⊎_elim (λ (e : later.used ≡ length bs). inl (ap suc e))
    (λ (e : length (items_in later.outcomes) ≡ left). inr (omega (arith, byte_once m b))) (to_the_end now.mode bs left)

-- .. and before each byte used a slot was free
in_time : (m : Mode) (bytes : List ℕ) (free k : ℕ) → k < (feed_of m bytes free).used → length (items_of m (byte_bits (take k bytes))) < free
unfolding feed_of byte_bits run_of items_in
in_time m [] free k h = absurd (omega arith)
in_time m (b ∷ bs) zero k h = absurd (omega arith)
in_time m (b ∷ bs) (suc n) zero h = omega arith
in_time m (b ∷ bs) (suc n) (suc k) h =
    let next = (run_of m (bits_lsb_first 8 b)).mode in
    let left = suc n - length (items_of m (bits_lsb_first 8 b)) in
    let some : length (items_of next (byte_bits (take k bs))) < left = in_time next bs left k (omega arith) in
    let count : length (items_of m (bits_lsb_first 8 b ++ byte_bits (take k bs)))
    ≡ length (items_of m (bits_lsb_first 8 b)) + length (items_of next (byte_bits (take k bs))) =
    ap length (run_append_items m (bits_lsb_first 8 b) (byte_bits (take k bs)))
    ∙ length-append (items_of m (bits_lsb_first 8 b)) (items_of next (byte_bits (take k bs))) in
    omega arith

one_used : (m : Mode) (bytes : List ℕ) (free : ℕ) → 1 ≤ length bytes → 1 ≤ free → 1 ≤ (feed_of m bytes free).used
unfolding feed_of
one_used m [] free h k = absurd (omega arith)
one_used m (b ∷ bs) zero h k = absurd (omega arith)
one_used m (b ∷ bs) (suc n) h k = omega arith

-- ---- the call, from an admitted record

-- what is answered where n slots are filled
abbrev pub fed_with : Receiver → List ℕ → ℕ → Fed
fed_with rx bytes n =
    let f = feed_of rx.mode bytes n in
    record { receiver = counted rx f.mode f.outcomes; bytes = f.used; slots = length (items_in f.outcomes) }

-- the call feeds with all its slots: their number stands in an equation, so that any other number is refused as such
module _ (rx : Receiver) (good : receiver_admitted rx ≡ true) where
  with_slots : (bytes : List ℕ) (n slots : ℕ) → n ≡ slots → fed_with rx bytes n ≡ fed_with rx bytes slots
  with_slots bytes n slots e = ap (fed_with rx bytes) e

  pub fed_taken : (bytes : List ℕ) (slots : ℕ) → feed_answer rx bytes slots ≡ Ok (fed_with rx bytes slots)
  unfolding feed_answer
  fed_taken bytes slots = rw good (ap Ok (with_slots bytes _ slots (omega arith)))

  pub fed_is : (bytes : List ℕ) (slots : ℕ) → fed_by rx bytes slots ≡ fed_with rx bytes slots
  fed_is bytes slots =
      ap (λ (a : Result Fed Refusal). result_unwrap_or a (record { receiver = rx; bytes = 0; slots = 0 })) (fed_taken bytes slots)

  pub fed_ok : (bytes : List ℕ) (slots : ℕ) → Ok (fed_by rx bytes slots) ≡ feed_answer rx bytes slots
  fed_ok bytes slots = ap Ok (fed_is bytes slots) ∙ sym (fed_taken bytes slots)

  over_slots : (bytes slots : List ℕ) (n : ℕ) → n ≡ length slots
      → over (items_in (feed_of rx.mode bytes n).outcomes) slots ≡ over (items_in (feed_of rx.mode bytes (length slots)).outcomes) slots
  over_slots bytes slots n e = ap (λ (k : ℕ). over (items_in (feed_of rx.mode bytes k).outcomes) slots) e

  pub slots_taken : (bytes slots : List ℕ)
      → slots_after rx bytes slots ≡ over (items_in (feed_of rx.mode bytes (length slots)).outcomes) slots
  unfolding slots_after
  slots_taken bytes slots = rw good (over_slots bytes slots _ (omega arith))

-- the bits of the bytes that a feeding call on a line reports as used
abbrev pub bits_used : Receiver → List ℕ → ℕ → List ℕ → List ℕ
bits_used rx line lent slots = byte_bits (take (fed_by rx (take lent line) (length slots)).bytes line)

-- what a feeding call does that is lent a part of a line
pub record FeedingCall (rx : Receiver) (line : List ℕ) (lent : ℕ) (slots : List ℕ) : Type 0 where
  pub taken : told_number (feed_answer rx (take lent line) (length slots)) ≡ 0
  pub ends : (fed_by rx (take lent line) (length slots)).receiver
      ≡ counted rx (run_of rx.mode (bits_used rx line lent slots)).mode (run_of rx.mode (bits_used rx line lent slots)).outcomes
  pub hands : take (fed_by rx (take lent line) (length slots)).slots (slots_after rx (take lent line) slots)
      ≡ items_in (run_of rx.mode (bits_used rx line lent slots)).outcomes
  pub good : receiver_admitted (fed_by rx (take lent line) (length slots)).receiver ≡ true

pub feeding_call : (rx : Receiver) (line : List ℕ) (lent : ℕ) (slots : List ℕ) → receiver_admitted rx ≡ true
    → FeedingCall rx line lent slots
unfolding counted over
feeding_call rx line lent slots good =
    let part = take lent line in
    let f = feed_of rx.mode part (length slots) in
    let answer = fed_is rx good part (length slots) in
    let used : (fed_by rx part (length slots)).bytes ≡ f.used = ap (λ (a : Fed). a.bytes) answer in
    let within : f.used ≤ lent = omega (arith, used_within rx.mode part (length slots), length-take lent line) in
    let same : byte_bits (take f.used part) ≡ bits_used rx line lent slots =
    ap byte_bits (take-take f.used lent line within ∙ ap (λ (n : ℕ). take n line) (sym used)) in
    let mode : f.mode ≡ (run_of rx.mode (bits_used rx line lent slots)).mode =
    feed_mode rx.mode part (length slots) ∙ ap (λ (bs : List ℕ). (run_of rx.mode bs).mode) same in
    let outcomes : f.outcomes ≡ (run_of rx.mode (bits_used rx line lent slots)).outcomes =
    feed_outcomes rx.mode part (length slots) ∙ ap (λ (bs : List ℕ). (run_of rx.mode bs).outcomes) same in
    let ends = ap (λ (a : Fed). a.receiver) answer ∙ (λ i. counted rx (mode i) (outcomes i)) in
    record {
      taken = ap (λ (a : Result Fed Refusal). told_number a) (fed_taken rx good part (length slots));
      ends = ends;
      hands =
          (λ i. take (answer i).slots (slots_taken rx good part slots i))
          ∙ take-append_seam (items_in f.outcomes) (drop (length (items_in f.outcomes)) slots) ∙ ap items_in outcomes;
      good =
          ap (λ (r : Receiver). mode_admitted r.mode) ends
          ∙ admitted_kept rx.mode (bits_used rx line lent slots) good (byte_bits_lem _);
    }

-- a call with a slot for every byte uses all its bytes
pub feeding_uses_all : FeedingUsesAll
feeding_uses_all rx bytes slots good h =
    ap (λ (a : Fed). a.bytes) (fed_is rx good bytes slots) ∙ uses_all rx.mode bytes slots h

-- it stops just where no slot is free
pub feeding_progress : FeedingProgress
feeding_progress rx bytes slots good =
    let a = fed_by rx bytes slots in
    let f = feed_of rx.mode bytes slots in
    let used : a.bytes ≡ f.used = ap (λ (a : Fed). a.bytes) (fed_is rx good bytes slots) in
    let handed : a.slots ≡ length (items_in f.outcomes) = ap (λ (a : Fed). a.slots) (fed_is rx good bytes slots) in
    record {
      to_the_end =
          ⊎_elim (λ (e : f.used ≡ length bytes). inl (used ∙ e))
          (λ (e : length (items_in f.outcomes) ≡ slots). inr (handed ∙ e)) (to_the_end rx.mode bytes slots);
      in_time = λ k h. in_time rx.mode bytes slots k (omega arith);
      at_least_one = λ some free. subst (λ (n : ℕ). 1 ≤ n) (sym used) (one_used rx.mode bytes slots some free);
    }
