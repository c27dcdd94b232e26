-- Feeding bit by bit: the loop over the bits of a byte. Assumes nothing.
use Prim.Native.Nat.{ℕ, suc, ◌+◌, ◌-◌, ◌/◌, ◌%◌, ◌≤◌, ◌<◌}
use mathlib.Core.Path.{◌≡◌, refl, ap, sym, ◌∙◌}
use mathlib.Core.Bool.{true}
use mathlib.Core.List.{List, [], ◌∷◌, ◌++◌}
use native.Mathlib.Nat.{add-zero}
use native.Mathlib.Omega.{arith}
use lib.ListN.{length, set, length-append}
use lib.Seq.{sets, length-sets}
use Rattle.lane_rules.specs.Receiver.{mode_admitted}
use Rattle.lane_rules.specs.Collecting.{step_of}
use Rattle.lane_rules.specs.Feeding.{item_of, items_in, counted, Run}
use Rattle.lane_rules.specs.declared.Receiver.{Receiver}
use Rattle.lane_rules.specs.declared.Judged.{Judged}
use Rattle.lane_rules.proofs.Feeding.ItemSpacing.{byte_once}
use Rattle.lane_rules.proofs.Modes.AdmittedKept.{step_kept}
use Rattle.lane_modes.proofs.Bytes.LeftBits.{left, left_items, byte_run, left_next}
use Rattle.lane.proofs.Steps.CountedOutcomes.{counted_more}

-- ---- lists and records

pub sets_append : (l : List ℕ) (i : ℕ) (xs ys : List ℕ) → sets l i (xs ++ ys) ≡ sets (sets l i xs) (i + length xs) ys
sets_append l i [] ys = rw add-zero
sets_append l i (x ∷ xs) ys =
    sets_append (set l i x) (suc i) xs ys ∙ ap (λ (k : ℕ). sets (sets (set l i x) (suc i) xs) k ys) (omega arith)

-- the record after a run from it
abbrev pub after : Receiver → Run → Receiver
after rx r = counted rx r.mode r.outcomes

-- ---- the inner loop: slots s with u used and record rx before it, x the byte; now slots t, v used, record ry, n bits left of y

pub record Inner (s : List ℕ) (rx : Receiver) (u x : ℕ) (t : List ℕ) (ry : Receiver) (v y n : ℕ) : Type 0 where
  pub good : mode_admitted ry.mode ≡ true
  pub long : length t ≡ length s
  pub room : v + length (left_items ry.mode n y) ≤ length t
  pub ends : after ry (left ry.mode n y) ≡ after rx (byte_run rx.mode x)
  pub number : v + length (left_items ry.mode n y) ≡ u + length (left_items rx.mode 8 x)
  pub content : sets t v (left_items ry.mode n y) ≡ sets s u (left_items rx.mode 8 x)

pub inner_holds : (s : List ℕ) (rx : Receiver) (u x : ℕ) → mode_admitted rx.mode ≡ true → u < length s
    → Inner s rx u x s rx u x 8
inner_holds s rx u x g h =
    record { good = g; long = refl; room = omega (arith, byte_once rx.mode x); ends = refl; number = refl; content = refl }

module _ {s : List ℕ} {rx : Receiver} {u x : ℕ} {t : List ℕ} {ry : Receiver} {v y n : ℕ} (i : Inner s rx u x t ry v y n) (h : 0 < n) where
  -- what the step gives, and what is left after it
  abbrev judged : Judged
  judged = step_of ry.mode (y % 2)

  abbrev rest : Run
  rest = left judged.mode (n - 1) (y / 2)

  items_next : left_items ry.mode n y ≡ item_of judged.outcome ++ items_in rest.outcomes
  unfolding items_in
  items_next = ap (λ (r : Run). items_in r.outcomes) (left_next ry.mode n y h)

  pub item_room : v + length (item_of judged.outcome) ≤ length t
  item_room =
      omega (arith, i.room, ap length items_next, length-append (item_of judged.outcome) (items_in rest.outcomes))

  inner_step : Inner s rx u x (sets t v (item_of judged.outcome)) (counted ry judged.mode (judged.outcome ∷ []))
      (v + length (item_of judged.outcome)) (y / 2) (n - 1)
  unfolding counted
  inner_step =
      let o = item_of judged.outcome in
      let more = items_in rest.outcomes in
      let count : length (left_items ry.mode n y) ≡ length o + length more = ap length items_next ∙ length-append o more in
      let same : length (sets t v o) ≡ length t = length-sets t v o in
      record {
        good = step_kept ry.mode (y % 2) i.good (omega arith);
        long = same ∙ i.long;
        room = omega (arith, i.room, count, same);
        ends =
            counted_more ry judged.mode rest.mode (judged.outcome ∷ []) rest.outcomes
            ∙ ap (after ry) (sym (left_next ry.mode n y h)) ∙ i.ends;
        number = omega (arith, i.number, count);
        content = sym (sets_append t v o more) ∙ ap (sets t v) (sym items_next) ∙ i.content;
      }

  pub inner_again : (j : Judged) → j ≡ judged → (t' : List ℕ) (v' : ℕ) (rz : Receiver)
      → v' ≡ v + length (item_of j.outcome) → t' ≡ sets t v (item_of j.outcome)
      → rz ≡ counted ry j.mode (j.outcome ∷ []) → Inner s rx u x t' rz v' (y / 2) (n - 1)
  inner_again j e t' v' rz ve te re = rw (ve, te, re, e) inner_step
