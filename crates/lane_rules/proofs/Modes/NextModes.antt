-- The modes that each mode can go to: what holds of all of them holds of the next one. Assumes nothing.
use Prim.Native.Nat.{ℕ, ◌+◌, ◌-◌, ◌*◌, ◌/◌, ◌^◌, ◌≤◌, ◌<◌}
use mathlib.Core.Bool.{Bool, true, false}
use lib.Dec.{ltb, eqb}
use borrow.Author.Tests.{ltb-true, ltb-false}
use Rattle.std.proofs.lemmas.Bool.{cond_both}
use Rattle.frame.specs.Scrambler.{next_state}
use Rattle.frame.specs.Frame.{inverted}
use Rattle.lane_rules.specs.Receiver.{no_bits, hunting, most_read}
use Rattle.lane_rules.specs.Judging.{clock_of, scrambled_of, judge_flash, first_by, judge_first, prove_by, judge_prove, locked_by, judge_of}
use Rattle.lane_rules.specs.Collecting.{is_alignment, hunt_with, hunt_of, collect_of, holding, collected}
use Rattle.lane_rules.specs.declared.Partial.{Partial}
use Rattle.lane_rules.specs.declared.Mode.{Mode}
use Rattle.lane_rules.specs.declared.Mode.TheVariants.{Hunt, Flash, First, Prove, Locked}
use Rattle.std.specs.Prelude.{Option, Some, None}
use Rattle.lane_rules.specs.declared.Collected.{Collected}
use Rattle.lane_rules.specs.declared.Collected.TheVariants.{Frame, Part}

module _ (P : Mode → Type 0) where
  hunt_with_next : (v n : ℕ) → P (Hunt v n) → ((f : ℕ) → P (Flash no_bits f)) → P (hunt_with v n)
  unfolding hunt_with
  hunt_with_next v n h f = cond_both (is_alignment v n) (Flash no_bits (v / 2 ^ 16)) (Hunt v n) P (λ e. f _) (λ e. h)

  -- Hunt
  pub hunt_next : (v n b : ℕ) → ((v n : ℕ) → P (Hunt v n)) → ((f : ℕ) → P (Flash no_bits f)) → P (hunt_of v n b)
  unfolding hunt_of
  hunt_next v n b h f =
      cond_both (ltb n 32) (hunt_with (v + b * 2 ^ n) (n + 1)) (hunt_with (v / 2 + b * 2 ^ 31) 32) P
      (λ e. hunt_with_next _ _ (h _ _) f) (λ e. hunt_with_next _ _ (h _ _) f)

  -- Flash
  pub flash_next : (f w : ℕ) → P (Flash no_bits w) → ((d c : ℕ) → P (First no_bits d c)) → P (judge_flash f w)
  unfolding judge_flash
  flash_next f w g h =
      cond_both (eqb w (inverted f)) (Flash no_bits w) (First no_bits (scrambled_of w) (clock_of w)) P (λ e. g) (λ e. h _ _)

  first_by_next : (t : Bool) (s c : ℕ) → ((s c : ℕ) → P (Prove no_bits 2 s c)) → P hunting → P (first_by t s c)
  unfolding first_by
  first_by_next true s c p h = p _ _
  first_by_next false s c p h = h

  -- First
  pub first_next : (d c w : ℕ) → ((s c : ℕ) → P (Prove no_bits 2 s c)) → P hunting → P (judge_first d c w)
  unfolding judge_first
  first_next d c w p h = first_by_next _ _ _ p h

  prove_by_next : (t : Bool) (n s c : ℕ) → ((n s c : ℕ) → P (Prove no_bits n s c)) → ((s c : ℕ) → P (Locked no_bits 0 s c))
      → P hunting → P (prove_by t n s c)
  unfolding prove_by
  prove_by_next true n s c p l h =
      cond_both (ltb n most_read) (Prove no_bits (n + 1) (next_state s) c) (Locked no_bits 0 (next_state s) (1 - c)) P
      (λ e. p _ _ _) (λ e. l _ _)
  prove_by_next false n s c p l h = h

  -- Prove
  pub prove_next : (n s c w : ℕ) → ((n s c : ℕ) → P (Prove no_bits n s c)) → ((s c : ℕ) → P (Locked no_bits 0 s c)) → P hunting
      → P (judge_prove n s c w)
  unfolding judge_prove
  prove_next n s c w p l h = prove_by_next _ _ _ _ p l h

  -- a bit that leaves a frame unfinished, or finishes it
  pub collected_next : (m : Mode) (p : Partial) (b : ℕ)
      → (p.count < 15 → P (holding m (record { bits = p.bits + b * 2 ^ p.count; count = p.count + 1 })))
      → (15 ≤ p.count → P (judge_of m (p.bits + b * 2 ^ p.count)).mode)
      → P (collected m (collect_of p b)).mode
  unfolding collect_of collected
  collected_next m p b f g =
      let bits = p.bits + b * 2 ^ p.count in
      cond_both (ltb p.count 15) (Part (record { bits = bits; count = p.count + 1 })) (Frame bits) (λ (c : Collected). P (collected m c).mode)
      (λ e. f (ltb-true _ _ e)) (λ e. g (ltb-false _ _ e))

  -- Locked
  pub locked_next : (l : Option ℕ) (faulty : Bool) (s c w : ℕ) → ((n s c : ℕ) → P (Locked no_bits n s c)) → P hunting
      → P (locked_by l faulty s c w).mode
  unfolding locked_by
  locked_next (Some n) true s c w k h = k _ _ _
  locked_next (Some n) false s c w k h = k _ _ _
  locked_next None faulty s c w k h = h
