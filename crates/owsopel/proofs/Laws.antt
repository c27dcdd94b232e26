-- The promises of specs/Promise.antt. Assumes nothing.
use Prim.Native.Nat.{ℕ}
use mathlib.Core.Path.{◌≡◌, refl, sym, ap, ◌∙◌}
use mathlib.Core.List.{List}
use lib.ListN.{length}
use mathlib.Core.Bool.{Bool, true, false, cond, ◌&&◌, false≢true}
use native.Mathlib.Omega.{arith}
use lib.Dec.{eqb}
use borrow.Author.Tests.{eqb-true, eq-eqb}
use Rattle.lane_rules.specs.declared.Mode.{Mode}
use Rattle.lane_rules.specs.declared.Mode.TheVariants.{Hunt, Flash, First, Prove, Locked}
use Rattle.lane_rules.specs.declared.Receiver.{Receiver}
use Rattle.lane_rules.specs.declared.Fed.{Fed}
use Rattle.lane_rules.specs.Receiver.{receiver_admitted, receiver_sync_answer}
use Rattle.lane_rules.specs.Feeding.{feed_answer, slots_after}
use Rattle.owsopel.specs.Flat.{flat_mode, flat_receiver, named_mode, same_mode, mode_in, receiver_with, receiver_in, is_admitted}
use Rattle.owsopel.specs.Answers.{synced_from, flat_record, flat_answer, fed_from, slots_from}
use Rattle.owsopel.specs.Promise.{FlatReadBack, ReadIsFlat, CallsAgree, SpoiledRefused}
use Rattle.owsopel.specs.declared.flat.FlatMode.{FlatMode}
use Rattle.owsopel.specs.declared.flat.FlatReceiver.{FlatReceiver}
use Rattle.std.specs.Prelude.{Result, Ok, Err}
use Rattle.std.specs.Result.{result_unwrap_or}
use Rattle.refusal.specs.Refusal.{told_number}
use Rattle.refusal.specs.declared.Refusal.{Refusal}

-- ---- the test of two flat modes

same_self : (f : FlatMode) → same_mode f f ≡ true
same_self f =
    simp (
      eq-eqb f.number f.number refl,
      eq-eqb f.bits f.bits refl,
      eq-eqb f.count f.count refl,
      eq-eqb f.frame f.frame refl,
      eq-eqb f.word f.word refl,
      eq-eqb f.read f.read refl,
      eq-eqb f.results f.results refl,
      eq-eqb f.state f.state refl,
      eq-eqb f.clock f.clock refl,
    )

-- the test of a part, and of the parts before it
module _ (before : Bool) (a b : ℕ) (e : (before && eqb a b) ≡ true) where
  earlier : before ≡ true
  earlier = go before e
    where
      go : (t : Bool) → (t && eqb a b) ≡ true → t ≡ true
      go true h = refl
      go false h = h

  equal : a ≡ b
  equal = eqb-true a b (go before e)
    where
      go : (t : Bool) → (t && eqb a b) ≡ true → eqb a b ≡ true
      go true h = h
      go false h = absurd (false≢true h)

same_equal : (f g : FlatMode) → same_mode f g ≡ true → f ≡ g
same_equal f g e =
    let t0 = eqb f.number g.number in
    let t1 = t0 && eqb f.bits g.bits in
    let t2 = t1 && eqb f.count g.count in
    let t3 = t2 && eqb f.frame g.frame in
    let t4 = t3 && eqb f.word g.word in
    let t5 = t4 && eqb f.read g.read in
    let t6 = t5 && eqb f.results g.results in
    let t7 = t6 && eqb f.state g.state in
    let e7 = earlier t7 f.clock g.clock e in
    let e6 = earlier t6 f.state g.state e7 in
    let e5 = earlier t5 f.results g.results e6 in
    let e4 = earlier t4 f.read g.read e5 in
    let e3 = earlier t3 f.word g.word e4 in
    let e2 = earlier t2 f.frame g.frame e3 in
    let e1 = earlier t1 f.count g.count e2 in
    let e0 = earlier t0 f.bits g.bits e1 in
    let number = eqb-true f.number g.number e0 in
    let bits = equal t0 f.bits g.bits e1 in
    let count = equal t1 f.count g.count e2 in
    let frame = equal t2 f.frame g.frame e3 in
    let word = equal t3 f.word g.word e4 in
    let read = equal t4 f.read g.read e5 in
    let results = equal t5 f.results g.results e6 in
    let state = equal t6 f.state g.state e7 in
    let clock = equal t7 f.clock g.clock e in
    λ i. record {
      number = number i;
      bits = bits i;
      count = count i;
      frame = frame i;
      word = word i;
      read = read i;
      results = results i;
      state = state i;
      clock = clock i;
    }

-- ---- modes

named_read_back : (m : Mode) → named_mode (flat_mode m) ≡ m
named_read_back (Hunt bits count) = refl
named_read_back (Flash part frame) = refl
named_read_back (First part word clock) = refl
named_read_back (Prove part read state clock) = refl
named_read_back (Locked part results state clock) = refl

mode_read_back : (m : Mode) → mode_in (flat_mode m) ≡ Ok m
mode_read_back m = rw (named_read_back m, same_self (flat_mode m))

-- ---- records

receiver_is_flat : (f : FlatReceiver) (rx : Receiver) (t : Bool) → same_mode (flat_mode (named_mode f.mode)) f.mode ≡ t
    → receiver_with (cond t (Ok (named_mode f.mode)) (Err Refusal.Record)) f ≡ Ok rx → flat_receiver rx ≡ f
receiver_is_flat f rx true d h =
    let is : record { mode = named_mode f.mode; samples = f.samples; gaps = f.gaps; losses = f.losses; sums = f.sums } ≡ rx = cc h in
    ap flat_receiver (sym is) ∙ (λ i. record { mode = same_equal _ f.mode d i; samples = f.samples; gaps = f.gaps; losses = f.losses; sums = f.sums })
receiver_is_flat f rx false d h = let z : ◌≡◌ {A = ℕ} 0 1 = cc h in absurd (omega arith)

-- ---- the promises

pub flat_read_back : FlatReadBack
flat_read_back rx = ap (λ (m : Result Mode Refusal). receiver_with m (flat_receiver rx)) (mode_read_back rx.mode)

pub read_is_flat : ReadIsFlat
read_is_flat f rx e = receiver_is_flat f rx _ refl e

-- an answer on the flat form of a record, as C sees it
record_told : (a : Result Receiver Refusal) (rx : Receiver)
    → flat_record a (flat_receiver rx) ≡ record { refusal = told_number a; receiver = flat_receiver (result_unwrap_or a rx) }
record_told (Ok after) rx = refl
record_told (Err r) rx = refl

answer_told : (a : Result Fed Refusal) (rx : Receiver)
    → let fed = result_unwrap_or a (record { receiver = rx; bytes = 0; slots = 0 }) in
    flat_answer a (flat_receiver rx)
    ≡ record { refusal = told_number a; receiver = flat_receiver fed.receiver; bytes = fed.bytes; slots = fed.slots }
answer_told (Ok fed) rx = refl
answer_told (Err r) rx = refl

pub calls_agree : CallsAgree
calls_agree rx bytes slots =
    let f = flat_receiver rx in
    let is = flat_read_back rx in (
      ap (λ (r : Result Receiver Refusal). flat_record (synced_from r) f) is ∙ record_told (receiver_sync_answer rx) rx,
      ap (λ (r : Result Receiver Refusal). fed_from r f bytes (length slots)) is ∙ answer_told (feed_answer rx bytes (length slots)) rx,
      ap (λ (r : Result Receiver Refusal). slots_from r bytes slots) is,
    )

-- a record that is not admitted: the lane's answers
module _ (rx : Receiver) (n : receiver_admitted rx ≡ false) where
  sync_refused : receiver_sync_answer rx ≡ Err Refusal.Record
  unfolding receiver_sync_answer
  sync_refused = rw n

  feed_refused : (bytes : List ℕ) (slots : ℕ) → feed_answer rx bytes slots ≡ Err Refusal.Record
  unfolding feed_answer
  feed_refused bytes slots = rw n

  slots_kept : (bytes slots : List ℕ) → slots_after rx bytes slots ≡ slots
  unfolding slots_after
  slots_kept bytes slots = rw n

-- why a flat record is none
mode_refused : (f : FlatReceiver) (r : Refusal) → receiver_in f ≡ Err r → r ≡ Refusal.Record
mode_refused f r e = go (same_mode (flat_mode (named_mode f.mode)) f.mode) e
  where
    go : (t : Bool) → receiver_with (cond t (Ok (named_mode f.mode)) (Err Refusal.Record)) f ≡ Err r → r ≡ Refusal.Record
    go true h = let z : ◌≡◌ {A = ℕ} 0 1 = cc h in absurd (omega arith)
    go false h = sym (cc h)

pub spoiled_refused : SpoiledRefused
spoiled_refused f bytes slots h = go (receiver_in f) refl h
  where
    go : (s : Result Receiver Refusal) → receiver_in f ≡ s → is_admitted s ≡ false
        → (flat_record (synced_from s) f ≡ record { refusal = 3; receiver = f })
        × (fed_from s f bytes (length slots) ≡ record { refusal = 3; receiver = f; bytes = 0; slots = 0 })
        × (slots_from s bytes slots ≡ slots)
    go (Err r) e n = let three = mode_refused f r e in (rw three, rw three, refl)
    go (Ok rx) e n = (
      rw (sync_refused rx n),
      rw (feed_refused rx n bytes (length slots)),
      slots_kept rx n bytes slots,
    )
