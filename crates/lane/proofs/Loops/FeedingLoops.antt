-- Feeding: the loop over the bytes, and its two ends. Assumes nothing.
use Prim.Native.Nat.{ℕ, zero, suc, ◌+◌, ◌-◌, ◌≤◌, ◌<◌}
use mathlib.Core.Path.{◌≡◌, refl, ap, sym, ◌∙◌}
use mathlib.Core.Bool.{true}
use mathlib.Core.List.{List, [], ◌∷◌, ◌++◌}
use native.Mathlib.Nat.{zero-add, sub-zero}
use native.Mathlib.Numerals.{add-one}
use native.Mathlib.Omega.{arith}
use lib.ListN.{length, get_or, drop, length-append, drop_of_length-le}
use lib.Seq.{sets, sets-eq, drop-cons}
use Rattle.lane_rules.specs.Sending.{over}
use Rattle.lane_rules.specs.Receiver.{mode_admitted}
use Rattle.lane_rules.specs.Feeding.{items_in, counted, Run, Feed, feed_of, fed_by, slots_after}
use Rattle.lane_rules.specs.declared.Mode.{Mode}
use Rattle.lane_rules.specs.declared.Receiver.{Receiver}
use Rattle.lane_rules.specs.declared.Fed.{Fed}
use Rattle.lane_rules.proofs.Feeding.Runs.{items_append}
use Rattle.lane_rules.proofs.Feeding.FeedingRuns.{fed_is, slots_taken}
use Rattle.lane_modes.proofs.Bytes.LeftBits.{left_items, byte_run, left_none}
use Rattle.lane.proofs.Steps.CountedOutcomes.{counted_none, counted_more}
use Rattle.lane.proofs.Loops.BitLoop.{sets_append, after, Inner}

-- ---- the outer loop

abbrev pub stopped : Mode → Feed
stopped m = record { mode = m; used = 0; outcomes = [] }

abbrev pub bytes_after : Run → Feed → Feed
bytes_after r f = record { mode = f.mode; used = suc f.used; outcomes = r.outcomes ++ f.outcomes }

feed_cons : (m : Mode) (b : ℕ) (bs : List ℕ) (free : ℕ) → 0 < free
    → feed_of m (b ∷ bs) free ≡ bytes_after (byte_run m b) (feed_of (byte_run m b).mode bs (free - length (left_items m 8 b)))
unfolding feed_of
feed_cons m b bs zero h = absurd (omega arith)
feed_cons m b bs (suc n) h = refl

feed_full : (m : Mode) (bs : List ℕ) (free : ℕ) → free ≤ 0 → feed_of m bs free ≡ stopped m
unfolding feed_of
feed_full m [] free h = refl
feed_full m (b ∷ bs) zero h = refl
feed_full m (b ∷ bs) (suc n) h = absurd (omega arith)

pub stops_out : (m : Mode) (bs : List ℕ) (k free : ℕ) → length bs ≤ k → feed_of m (drop k bs) free ≡ stopped m
unfolding feed_of
stops_out m bs k free h = rw (drop_of_length-le bs h)

pub feed_next : (m : Mode) (bytes : List ℕ) (k free : ℕ) → k < length bytes → 0 < free
    → feed_of m (drop k bytes) free
    ≡ bytes_after (byte_run m (get_or bytes k 0))
    (feed_of (byte_run m (get_or bytes k 0)).mode (drop (k + 1) bytes) (free - length (left_items m 8 (get_or bytes k 0))))
feed_next m bytes k free h r = rw (add-one k, drop-cons bytes k 0 h) (feed_cons m (get_or bytes k 0) (drop (suc k) bytes) free r)

-- what feeding gives from a record
abbrev fed : Receiver → List ℕ → ℕ → Feed
fed rx bytes free = feed_of rx.mode bytes free

abbrev fed_items : Feed → List ℕ
fed_items f = items_in f.outcomes

abbrev after_feed : Receiver → Feed → Receiver
after_feed rx f = counted rx f.mode f.outcomes

-- record rx and slots s before it; now slots t with v used, record ry, and `at` bytes passed
pub record Outer (rx : Receiver) (bytes s : List ℕ) (t : List ℕ) (ry : Receiver) (at v : ℕ) : Type 0 where
  pub good : mode_admitted ry.mode ≡ true
  pub long : length t ≡ length s
  pub within : at ≤ length bytes
  pub fits : v ≤ length t
  pub ends : after_feed ry (fed ry (drop at bytes) (length t - v)) ≡ after_feed rx (fed rx bytes (length s))
  pub taken : at + (fed ry (drop at bytes) (length t - v)).used ≡ (fed rx bytes (length s)).used
  pub number : v + length (fed_items (fed ry (drop at bytes) (length t - v))) ≡ length (fed_items (fed rx bytes (length s)))
  pub content : sets t v (fed_items (fed ry (drop at bytes) (length t - v))) ≡ sets s 0 (fed_items (fed rx bytes (length s)))

pub outer_holds : (rx : Receiver) (bytes s : List ℕ) → mode_admitted rx.mode ≡ true → Outer rx bytes s s rx 0 0
outer_holds rx bytes s g =
    record {
      good = g;
      long = refl;
      within = omega arith;
      fits = omega arith;
      ends = rw sub-zero;
      taken = rw sub-zero (zero-add _);
      number = rw sub-zero (zero-add _);
      content = rw sub-zero;
    }

-- after a byte: the inner loop has ended with slots t', v' used and record ry'
module _ (rx : Receiver) (bytes s t : List ℕ) (ry : Receiver) (k v : ℕ) (t' : List ℕ) (ry' : Receiver) (v' y n : ℕ)
    (o : Outer rx bytes s t ry k v) (h : k < length bytes) (l : v < length t)
    (i : Inner t ry v (get_or bytes k 0) t' ry' v' y n) (z : n ≤ 0) where
  abbrev byte : Run
  byte = byte_run ry.mode (get_or bytes k 0)

  byte_ends_lem : ry' ≡ after ry byte
  byte_ends_lem = sym (counted_none ry') ∙ ap (after ry') (sym (left_none ry'.mode n y z)) ∙ i.ends

  byte_mode : ry'.mode ≡ byte.mode
  unfolding counted
  byte_mode = ap (λ (r : Receiver). r.mode) byte_ends_lem

  byte_none : left_items ry'.mode n y ≡ []
  unfolding items_in
  byte_none = ap (λ (r : Run). items_in r.outcomes) (left_none ry'.mode n y z)

  byte_number : v + length (items_in byte.outcomes) ≡ v'
  byte_number = omega (arith, i.number, ap length byte_none)

  byte_content : t' ≡ sets t v (items_in byte.outcomes)
  byte_content = ap (sets t' v') (sym byte_none) ∙ i.content

  abbrev later : Feed
  later = fed ry' (drop (k + 1) bytes) (length t' - v')

  byte_next : fed ry (drop k bytes) (length t - v) ≡ bytes_after byte later
  byte_next =
      let free : length t - v - length (items_in byte.outcomes) ≡ length t' - v' = omega (arith, i.long, byte_number) in
      feed_next ry.mode bytes k (length t - v) h (omega arith) ∙ rw (← byte_mode, free)

  items_split : fed_items (fed ry (drop k bytes) (length t - v)) ≡ items_in byte.outcomes ++ fed_items later
  items_split = ap fed_items byte_next ∙ items_append byte.outcomes later.outcomes

  pub outer_again : Outer rx bytes s t' ry' (k + 1) v'
  outer_again =
      let items = items_in byte.outcomes in
      let more = fed_items later in
      record {
        good = i.good;
        long = i.long ∙ o.long;
        within = omega arith;
        fits = omega (arith, i.room);
        ends =
            ap (λ (r : Receiver). counted r later.mode later.outcomes) byte_ends_lem
            ∙ counted_more ry byte.mode later.mode byte.outcomes later.outcomes
            ∙ ap (after_feed ry) (sym byte_next) ∙ o.ends;
        taken = omega (arith, o.taken, ap (λ (f : Feed). f.used) byte_next);
        number = omega (arith, o.number, ap length items_split, length-append items more, byte_number);
        content =
            ap (λ (q : List ℕ). sets q v' more) byte_content ∙ ap (λ (j : ℕ). sets (sets t v items) j more) (sym byte_number)
            ∙ sym (sets_append t v items more) ∙ ap (sets t v) (sym items_split) ∙ o.content;
      }

-- the end: no byte is left, or no slot is free
pub outer_ends : (rx : Receiver) (bytes s t : List ℕ) (ry : Receiver) (b k v : ℕ) → mode_admitted rx.mode ≡ true → b ≡ k
    → Outer rx bytes s t ry k v → fed ry (drop k bytes) (length t - v) ≡ stopped ry.mode
    → (◌≡◌ {A = Fed} (record { receiver = ry; bytes = b; slots = v }) (fed_by rx bytes (length s)))
    × (t ≡ slots_after rx bytes s)
unfolding over items_in
outer_ends rx bytes s t ry b k v g same o e =
    let f = fed rx bytes (length s) in
    let ends : ry ≡ after_feed rx f = sym (counted_none ry) ∙ ap (after_feed ry) (sym e) ∙ o.ends in
    let taken : b ≡ f.used = omega (arith, o.taken, ap (λ (q : Feed). q.used) e) in
    let number : v ≡ length (fed_items f) = omega (arith, o.number, ap (λ (q : Feed). length (fed_items q)) e) in
    let content : t ≡ sets s 0 (fed_items f) = ap (λ (q : Feed). sets t v (fed_items q)) (sym e) ∙ o.content in
    let fits : 0 + length (fed_items f) ≤ length s = omega (arith, o.fits, o.long, number) in (
      (λ i. record { receiver = ends i; bytes = taken i; slots = number i }) ∙ sym (fed_is rx g bytes (length s)),
      content ∙ sets-eq (fed_items f) s 0 fits ∙ ap (λ (q : ℕ). fed_items f ++ drop q s) (zero-add (length (fed_items f)))
          ∙ sym (slots_taken rx g bytes s),
    )

pub stops_full : (m : Mode) (bs t : List ℕ) (v : ℕ) → length t ≤ v → feed_of m bs (length t - v) ≡ stopped m
stops_full m bs t v h = feed_full m bs (length t - v) (omega arith)
