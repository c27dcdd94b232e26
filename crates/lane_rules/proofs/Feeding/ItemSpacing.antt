-- Items are at least 16 bits apart: 16 bits, and so a byte, hand out at most one. Assumes nothing.
use Prim.Native.Nat.{ℕ, ◌+◌, ◌≤◌, ◌<◌}
use mathlib.Core.Path.{◌≡◌, refl, ap}
use mathlib.Core.Bool.{Bool, true, false}
use mathlib.Core.List.{List, [], ◌∷◌, ◌++◌}
use mathlib.Core.Logic.{◌⊎◌, inl, inr, ⊎_elim}
use native.Mathlib.Omega.{arith}
use borrow.Author.Tests.{lt-ltb}
use lib.Dec.{ltb}
use lib.ListN.{length}
use Rattle.lane_rules.specs.Line.{bits_lsb_first}
use Rattle.lane_rules.specs.Receiver.{no_bits, is_locked}
use Rattle.lane_rules.specs.Judging.{judge_prove, locked_by, judge_locked, proved, judge_of}
use Rattle.lane_rules.specs.Collecting.{hunt_of, collect_of, held_part, holding, collected, step_of}
use Rattle.lane_rules.specs.Feeding.{item_of, items_in, run_of}
use Rattle.lane_rules.specs.declared.Partial.{Partial}
use Rattle.lane_rules.specs.declared.Mode.{Mode}
use Rattle.lane_rules.specs.declared.Mode.TheVariants.{Hunt, Flash, First, Prove, Locked}
use Rattle.lane_rules.specs.declared.Outcome.{Outcome}
use Rattle.lane_rules.specs.declared.Judged.{Judged}
use Rattle.std.specs.Prelude.{Option, Some, None}
use Rattle.lane_rules.specs.declared.Collected.{Collected}
use Rattle.lane_rules.specs.declared.Collected.TheVariants.{Frame, Part}
use Rattle.lane_rules.proofs.Basics.Bits.{length_bits}
use Rattle.std.proofs.lemmas.Bool.{cond_both}
use Rattle.lane_rules.proofs.Modes.NextModes.{hunt_next, flash_next, first_next, prove_next}
use Rattle.lane_rules.proofs.Feeding.Runs.{items_of}

-- the bits that a locked receiver holds of its frame, and 0 in any other mode
abbrev pub locked_bits : Mode → ℕ
locked_bits (Hunt bits count) = 0
locked_bits (Flash part frame) = 0
locked_bits (First part word clock) = 0
locked_bits (Prove part read state clock) = 0
locked_bits (Locked part results state clock) = part.count

-- no bits of a frame are held
abbrev pub Bare : Mode → Type 0
Bare m = held_part m ≡ no_bits

bare_locked : (m : Mode) → Bare m → locked_bits m ≡ 0
unfolding held_part
bare_locked (Hunt bits count) e = refl
bare_locked (Flash part frame) e = refl
bare_locked (First part word clock) e = refl
bare_locked (Prove part read state clock) e = refl
bare_locked (Locked part results state clock) e = ap (λ (p : Partial). p.count) e

pub hunt_bare : (bits count bit : ℕ) → Bare (hunt_of bits count bit)
unfolding held_part
hunt_bare bits count bit = hunt_next Bare bits count bit (λ v n. refl) (λ f. refl)

locked_by_bare : (l : Option ℕ) (faulty : Bool) (s c w : ℕ) → Bare (locked_by l faulty s c w).mode
unfolding locked_by held_part
locked_by_bare (Some n) true s c w = refl
locked_by_bare (Some n) false s c w = refl
locked_by_bare None faulty s c w = refl

-- a judged frame leaves no bits held
pub judge_bare : (m : Mode) (w : ℕ) → Bare (judge_of m w).mode
unfolding judge_of judge_locked held_part
judge_bare (Hunt bits count) w = refl
judge_bare (Flash part frame) w = flash_next Bare frame w refl (λ d c. refl)
judge_bare (First part word clock) w = first_next Bare word clock w (λ s c. refl) refl
judge_bare (Prove part read state clock) w = prove_next Bare read state clock w (λ n s c. refl) (λ s c. refl) refl
judge_bare (Locked part results state clock) w = locked_by_bare _ _ state clock w

-- nothing is handed out, and at most n bits are held
abbrev Waits : ℕ → Judged → Type 0
Waits n j = (item_of j.outcome ≡ []) × (locked_bits j.mode ≤ n)

-- lock found hands out nothing
proved_no_item : (m : Mode) → item_of (proved m).outcome ≡ []
proved_no_item m = cond_both (is_locked m) _ _ (λ (o : Outcome). item_of o ≡ []) (λ e. refl) (λ e. refl)

-- a mode that is not Locked
waits_other : (m : Mode) (g : Collected) → (j : (w : ℕ) → item_of (judge_of m w).outcome ≡ [])
    → ((p : Partial) → locked_bits (holding m p) ≡ 0) → Waits 1 (collected m g)
unfolding collected
waits_other m (Part p) j h = (refl, omega (arith, h p))
waits_other m (Frame w) j h = (j w, omega (arith, bare_locked _ (judge_bare m w)))

locked_early : (p : Partial) (f s k b : ℕ) → ltb p.count 15 ≡ true
    → Waits (p.count + 1) (collected (Locked p f s k) (collect_of p b))
unfolding collect_of collected holding
locked_early p f s k b e = rw e (refl, omega arith)

-- under 15 bits held: nothing is handed out, and at most one bit more is held
early : (m : Mode) (b : ℕ) → locked_bits m < 15 → Waits (locked_bits m + 1) (step_of m b)
unfolding step_of judge_of holding
early (Hunt bits count) b h = (refl, omega (arith, bare_locked _ (hunt_bare bits count b)))
early (Flash p f) b h = waits_other (Flash p f) (collect_of p b) (λ w. refl) (λ q. refl)
early (First p d k) b h = waits_other (First p d k) (collect_of p b) (λ w. refl) (λ q. refl)
early (Prove p r s k) b h = waits_other (Prove p r s k) (collect_of p b) (λ w. proved_no_item (judge_prove r s k w)) (λ q. refl)
early (Locked p f s k) b h = locked_early p f s k b (lt-ltb p.count 15 h)

-- whoever hands out an item holds no bits afterwards
abbrev OnceThen : Judged → Type 0
OnceThen j = (item_of j.outcome ≡ []) ⊎ (locked_bits j.mode ≡ 0)

collected_once : (m : Mode) (g : Collected) → OnceThen (collected m g)
unfolding collected
collected_once m (Part p) = inl refl
collected_once m (Frame w) = inr (bare_locked _ (judge_bare m w))

any_once : (m : Mode) (b : ℕ) → OnceThen (step_of m b)
unfolding step_of
any_once (Hunt bits count) b = inl refl
any_once (Flash p f) b = collected_once (Flash p f) (collect_of p b)
any_once (First p d k) b = collected_once (First p d k) (collect_of p b)
any_once (Prove p r s k) b = collected_once (Prove p r s k) (collect_of p b)
any_once (Locked p f s k) b = collected_once (Locked p f s k) (collect_of p b)

none_yet : (m : Mode) (bs : List ℕ) → locked_bits m + length bs ≤ 15 → items_of m bs ≡ []
unfolding run_of items_in
none_yet m [] h = refl
none_yet m (b ∷ bs) h =
    let q = early m b (omega arith) in
    rw q.0 (none_yet (step_of m b).mode bs (omega (arith, q.1)))

-- 16 bits hand out at most one item
pub at_most_one : (m : Mode) (bs : List ℕ) → length bs ≤ 16 → length (items_of m bs) ≤ 1
unfolding run_of items_in
at_most_one m [] h = omega arith
at_most_one m (b ∷ bs) h =
    ⊎_elim
    (λ (q : item_of (step_of m b).outcome ≡ []). rw q (at_most_one (step_of m b).mode bs (omega arith)))
    (λ (q : locked_bits (step_of m b).mode ≡ 0). rw (none_yet (step_of m b).mode bs (omega arith)) (single (step_of m b).outcome))
    (any_once m b)
  where
    single : (o : Outcome) → length (item_of o ++ []) ≤ 1
    single Outcome.Nothing = omega arith
    single Outcome.Found = omega arith
    single (Outcome.Sample x d) = omega arith
    single (Outcome.Gap d) = omega arith
    single (Outcome.Loss d) = omega arith

pub byte_once : (m : Mode) (b : ℕ) → length (items_of m (bits_lsb_first 8 b)) ≤ 1
byte_once m b = at_most_one m (bits_lsb_first 8 b) (omega (arith, length_bits 8 b))
