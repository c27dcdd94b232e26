-- Crossed lines, bit by bit: the inverse of a mode goes with the inverted bit to the inverse, and hands out the same. Assumes nothing.
use Prim.Native.Nat.{ℕ, ◌+◌, ◌-◌, ◌*◌, ◌/◌, ◌^◌, ◌≤◌, ◌<◌}
use mathlib.Core.Path.{◌≡◌, refl, ap, ◌∙◌}
use mathlib.Core.Bool.{Bool, true, false, cond, ◌&&◌, ◌||◌}
use mathlib.Core.Logic.{◌⊎◌, inl, inr, ⊎_elim}
use native.Mathlib.Omega.{arith}
use lib.Bits.{bit_xor}
use lib.Dec.{ltb, eqb}
use borrow.Author.Tests.{eq-eqb, ne_eqb, eqb-true, eqb-false, ltb-false}
use Rattle.frame.specs.Scrambler.{word_of}
use Rattle.frame.specs.Frame.{inverted}
use Rattle.lane_rules.specs.Receiver.{no_bits, is_locked}
use Rattle.lane_rules.specs.Judging.{clock_of, scrambled_of, judge_flash, judge_prove, proved, locked_by, judge_locked, judge_of}
use Rattle.lane_rules.specs.Collecting.{alignment_pair, hunt_with, hunt_of, collect_of, holding, collected, step_of}
use Rattle.lane_rules.specs.Crossed.{crossed_number, crossed_part, crossed_mode, crossed_outcome}
use Rattle.lane_rules.specs.declared.Partial.{Partial}
use Rattle.lane_rules.specs.declared.Mode.{Mode}
use Rattle.lane_rules.specs.declared.Mode.TheVariants.{Hunt, Flash, First, Prove, Locked}
use Rattle.lane_rules.specs.declared.Outcome.TheVariants as Outcome
use Rattle.lane_rules.specs.declared.Judged.{Judged}
use Rattle.std.specs.Prelude.{Option, Some, None}
use Rattle.lane_rules.specs.declared.Collected.{Collected}
use Rattle.lane_rules.specs.declared.Collected.TheVariants.{Frame, Part}
use Rattle.lane_rules.proofs.Modes.ModeRecord.{PartIn, Admitted}
use Rattle.lane_rules.proofs.Basics.Tests.{is_one_of, one_of, same_test}
use Rattle.lane_rules.proofs.Basics.Bits.{place_lt}
use Rattle.lane_rules.proofs.Modes.NextModes.{prove_next}
use Rattle.lane_rules.proofs.Crossed.CrossedBits.{bit_crossed}
use Rattle.lane_rules.proofs.Crossed.CrossedReadings.{data_same, clock_same, balance_crossed}
use Rattle.lane_rules.proofs.Crossed.CrossedFirst.{first_crossed}

-- what the crossed line's bit or frame gives, j, beside what the line's gives, k
pub record Mirrors (j k : Judged) : Type 0 where
  pub mode : j.mode ≡ crossed_mode k.mode
  pub outcome : j.outcome ≡ crossed_outcome k.outcome

-- ---- Hunt

-- where x is one of two numbers, y is the other
other_of : (x y a b : ℕ) → (x ≡ a → y ≡ b) → (x ≡ b → y ≡ a) → (eqb x a || eqb x b) ≡ true → (eqb y a || eqb y b) ≡ true
other_of x y a b f g e = one_of y a b (⊎_elim (λ p. inr (f p)) (λ p. inl (g p)) (is_one_of x a b e))

-- the two alignment frames in one order are, inverted, those in the other
pair_crossed : (v : ℕ) → v < 2 ^ 32 → alignment_pair (crossed_number 32 v) ≡ alignment_pair v
unfolding alignment_pair
pair_crossed v h =
    same_test _ _ (other_of (crossed_number 32 v) v _ _ (λ e. omega arith) (λ e. omega arith))
    (other_of v (crossed_number 32 v) _ _ (λ e. omega arith) (λ e. omega arith))

hunt_with_crossed : (v n : ℕ) → v < 2 ^ n → hunt_with (crossed_number n v) n ≡ crossed_mode (hunt_with v n)
unfolding hunt_with crossed_mode
hunt_with_crossed v n h = go (eqb n 32) refl
  where
    at_32 : (t : Bool) → (v : ℕ) → v < 2 ^ 32
        → cond t (Flash no_bits (crossed_number 32 v / 2 ^ 16)) (Hunt (crossed_number 32 v) 32)
        ≡ crossed_mode (cond t (Flash no_bits (v / 2 ^ 16)) (Hunt v 32))
    at_32 true v l = ap (Flash no_bits) (omega arith)
    at_32 false v l = refl

    go : (t : Bool) → eqb n 32 ≡ t
        → cond (t && alignment_pair (crossed_number n v)) (Flash no_bits (crossed_number n v / 2 ^ 16)) (Hunt (crossed_number n v) n)
        ≡ crossed_mode (cond (t && alignment_pair v) (Flash no_bits (v / 2 ^ 16)) (Hunt v n))
    go false e = refl
    go true e =
        let is = eqb-true n 32 e in
        rw (is, pair_crossed v (rw is at h)) (at_32 (alignment_pair v) v (rw is at h))

hunt_crossed : (v n b : ℕ) → n ≤ 32 → v < 2 ^ n → b < 2 → hunt_of (crossed_number n v) n (1 - b) ≡ crossed_mode (hunt_of v n b)
unfolding hunt_of
hunt_crossed v n b l h k = go (ltb n 32) refl
  where
    go : (t : Bool) → ltb n 32 ≡ t
        → cond t (hunt_with (crossed_number n v + (1 - b) * 2 ^ n) (n + 1)) (hunt_with (crossed_number n v / 2 + (1 - b) * 2 ^ 31) 32)
        ≡ crossed_mode (cond t (hunt_with (v + b * 2 ^ n) (n + 1)) (hunt_with (v / 2 + b * 2 ^ 31) 32))
    go true e =
        ap (λ (x : ℕ). hunt_with x (n + 1)) (bit_crossed n v b h k)
        ∙ hunt_with_crossed (v + b * 2 ^ n) (n + 1) (place_lt v n b h k)
    go false e =
        let is : n ≡ 32 = omega (arith, ltb-false n 32 e) in
        let f : v < 2 ^ 32 = rw is at h in
        let x : crossed_number n v / 2 + (1 - b) * 2 ^ 31 ≡ crossed_number 32 (v / 2 + b * 2 ^ 31) = rw is (omega arith) in
        ap (λ (y : ℕ). hunt_with y 32) x ∙ hunt_with_crossed (v / 2 + b * 2 ^ 31) 32 (omega arith)

-- ---- collecting

abbrev crossed_collected : Collected → Collected
crossed_collected (Part p) = Part (crossed_part p)
crossed_collected (Frame w) = Frame (inverted w)

-- a frame collected is one of 16 bits
abbrev Whole : Collected → Type 0
Whole (Part p) = Unit {0}
Whole (Frame w) = w < 65536

module _ (p : Partial) (b : ℕ) (h : PartIn p) (l : b < 2) where
  collect_crossed : collect_of (crossed_part p) (1 - b) ≡ crossed_collected (collect_of p b)
  unfolding collect_of
  collect_crossed = go (ltb p.count 15) refl
    where
      more : crossed_number p.count p.bits + (1 - b) * 2 ^ p.count ≡ crossed_number (p.count + 1) (p.bits + b * 2 ^ p.count)
      more = bit_crossed p.count p.bits b h.1 l

      go : (t : Bool) → ltb p.count 15 ≡ t
          → cond t (Part (record { bits = crossed_number p.count p.bits + (1 - b) * 2 ^ p.count; count = p.count + 1 }))
          (Frame (crossed_number p.count p.bits + (1 - b) * 2 ^ p.count))
          ≡ crossed_collected (cond t (Part (record { bits = p.bits + b * 2 ^ p.count; count = p.count + 1 }))
          (Frame (p.bits + b * 2 ^ p.count)))
      go true e = ap (λ (x : ℕ). Part (record { bits = x; count = p.count + 1 })) more
      go false e =
          let is : p.count + 1 ≡ 16 = omega (arith, ltb-false p.count 15 e, h.0) in
          ap Frame (more ∙ ap (λ (n : ℕ). crossed_number n (p.bits + b * 2 ^ p.count)) is)

  collect_whole : Whole (collect_of p b)
  unfolding collect_of
  collect_whole = go (ltb p.count 15) refl
    where
      go : (t : Bool) → ltb p.count 15 ≡ t
          → Whole (cond t (Part (record { bits = p.bits + b * 2 ^ p.count; count = p.count + 1 })) (Frame (p.bits + b * 2 ^ p.count)))
      go true e = tt
      go false e =
          let is : p.count + 1 ≡ 16 = omega (arith, ltb-false p.count 15 e, h.0) in
          let f : p.bits + b * 2 ^ p.count < 2 ^ 16 = rw is at (place_lt p.bits p.count b h.1 l) in
          f

holding_crossed : (m : Mode) (p : Partial) → holding (crossed_mode m) (crossed_part p) ≡ crossed_mode (holding m p)
unfolding holding crossed_mode
holding_crossed (Hunt bits count) p = refl
holding_crossed (Flash part frame) p = refl
holding_crossed (First part word clock) p = refl
holding_crossed (Prove part read state clock) p = refl
holding_crossed (Locked part results state clock) p = refl

-- ---- judging

flash_crossed : (held w : ℕ) → held < 65536 → w < 65536 → judge_flash (inverted held) (inverted w) ≡ crossed_mode (judge_flash held w)
unfolding judge_flash crossed_mode
flash_crossed held w h l = go (eqb w (inverted held)) refl
  where
    go : (t : Bool) → eqb w (inverted held) ≡ t
        → cond (eqb (inverted w) (inverted (inverted held))) (Flash no_bits (inverted w)) (First no_bits (scrambled_of (inverted w)) (clock_of (inverted w)))
        ≡ crossed_mode (cond t (Flash no_bits w) (First no_bits (scrambled_of w) (clock_of w)))
    go true e = rw (eq-eqb (inverted w) (inverted (inverted held)) (omega (arith, eqb-true w (inverted held) e)))
    go false e =
        let d : w ≡ 65535 - held → ⊥ = eqb-false w (inverted held) e in
        rw (ne_eqb (inverted w) (inverted (inverted held)) (λ x. d (omega arith)), data_same w l, clock_same w l)

-- with no bits held, Hunt, Prove and Locked are their own inverses
prove_crossed : (n s c w : ℕ) → w < 65536 → judge_prove n s c (inverted w) ≡ crossed_mode (judge_prove n s c w)
unfolding judge_prove crossed_mode
prove_crossed n s c w h =
    rw (data_same w h, clock_same w h)
    (prove_next (λ (m : Mode). m ≡ crossed_mode m) n s c w (λ k t d. refl) (λ t d. refl) refl)

pub locked_same : (m : Mode) → is_locked (crossed_mode m) ≡ is_locked m
unfolding crossed_mode
locked_same (Hunt bits count) = refl
locked_same (Flash part frame) = refl
locked_same (First part word clock) = refl
locked_same (Prove part read state clock) = refl
locked_same (Locked part results state clock) = refl

found_crossed : (t u : Bool) → u ≡ t → cond u Outcome.Found Outcome.Nothing ≡ crossed_outcome (cond t Outcome.Found Outcome.Nothing)
found_crossed true u e = rw e
found_crossed false u e = rw e

proved_crossed : (m : Mode) → Mirrors (proved (crossed_mode m)) (proved m)
proved_crossed m = record { mode = refl; outcome = found_crossed (is_locked m) _ (locked_same m) }

locked_by_crossed : (l : Option ℕ) (faulty : Bool) (s c w : ℕ) → w < 65536
    → Mirrors (locked_by l faulty s c (inverted w)) (locked_by l faulty s c w)
unfolding locked_by crossed_mode
locked_by_crossed (Some n) true s c w h = record { mode = refl; outcome = ap Outcome.Gap (balance_crossed w h) }
locked_by_crossed (Some n) false s c w h =
    record { mode = refl; outcome = λ i. Outcome.Sample (bit_xor (data_same w h i) (word_of s)) (balance_crossed w h i) }
locked_by_crossed None faulty s c w h = record { mode = refl; outcome = ap Outcome.Loss (balance_crossed w h) }

locked_crossed : (r s c w : ℕ) → w < 65536 → Mirrors (judge_locked r s c (inverted w)) (judge_locked r s c w)
unfolding judge_locked
locked_crossed r s c w h = rw (clock_same w h) (locked_by_crossed _ _ s c w h)

-- Flash holds a frame of 16 bits
held_whole : (f : ℕ) → (f ≡ 0xFF00) ⊎ (f ≡ 0x00FF) → f < 65536
held_whole f (inl e) = omega arith
held_whole f (inr e) = omega arith

judge_crossed : (m : Mode) (w : ℕ) → Admitted m → w < 65536 → Mirrors (judge_of (crossed_mode m) (inverted w)) (judge_of m w)
unfolding judge_of crossed_mode
judge_crossed (Hunt bits count) w a h = record { mode = refl; outcome = refl }
judge_crossed (Flash part frame) w a h = record { mode = flash_crossed frame w (held_whole frame a.1) h; outcome = refl }
judge_crossed (First part word clock) w a h = record { mode = first_crossed word clock w h; outcome = refl }
judge_crossed (Prove part read state clock) w a h =
    rw (prove_crossed read state clock w h) (proved_crossed (judge_prove read state clock w))
judge_crossed (Locked part results state clock) w a h = locked_crossed results state clock w h

-- ---- one bit

collected_crossed : (m : Mode) (g : Collected) → Admitted m → Whole g
    → Mirrors (collected (crossed_mode m) (crossed_collected g)) (collected m g)
unfolding collected
collected_crossed m (Part p) a h = record { mode = holding_crossed m p; outcome = refl }
collected_crossed m (Frame w) a h = judge_crossed m w a h

module _ (m : Mode) (p : Partial) (b : ℕ) (a : Admitted m) (h : PartIn p) (l : b < 2) where
  frame_bit_crossed : Mirrors (collected (crossed_mode m) (collect_of (crossed_part p) (1 - b))) (collected m (collect_of p b))
  frame_bit_crossed = rw (collect_crossed p b h l) (collected_crossed m (collect_of p b) a (collect_whole p b h l))

pub step_crossed : (m : Mode) (b : ℕ) → Admitted m → b < 2 → Mirrors (step_of (crossed_mode m) (1 - b)) (step_of m b)
unfolding step_of crossed_mode
step_crossed (Hunt bits count) b a l = record { mode = hunt_crossed bits count b a.0 a.1 l; outcome = refl }
step_crossed (Flash p f) b a l = frame_bit_crossed (Flash p f) p b a a.0 l
step_crossed (First p d k) b a l = frame_bit_crossed (First p d k) p b a a.0 l
step_crossed (Prove p r s k) b a l = frame_bit_crossed (Prove p r s k) p b a a.0 l
step_crossed (Locked p f s k) b a l = frame_bit_crossed (Locked p f s k) p b a a.0 l
