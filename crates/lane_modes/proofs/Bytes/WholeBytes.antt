-- A byte in one go, in a mode that collects frames. Assumes nothing.
use Prim.Native.Nat.{ℕ, zero, suc, ◌+◌, ◌-◌, ◌*◌, ◌/◌, ◌%◌, ◌^◌, ◌≤◌, ◌<◌}
use mathlib.Core.Path.{◌≡◌, refl, ap, sym, subst, ◌∙◌}
use mathlib.Core.Bool.{Bool, true, false, cond}
use mathlib.Core.List.{List, [], ◌∷◌, ◌++◌, append-nil}
use native.Mathlib.Omega.{arith}
use native.Mathlib.Nat.{add_comm}
use native.Mathlib.Numerals.{add-one}
use lib.ListN.{length}
use lib.Dec.{ltb}
use lib.Pow.{mod-pow-add, high, low, shr-shr}
use borrow.Author.Tests.{ltb-true, ltb-false}
use Rattle.lane_rules.specs.Line.{bits_lsb_first}
use Rattle.lane_rules.specs.Judging.{quiet, judge_of}
use Rattle.lane_rules.specs.Collecting.{held_part, holding}
use Rattle.lane_rules.specs.Feeding.{run_of}
use Rattle.lane_rules.specs.Outcomes.{told}
use Rattle.lane_rules.specs.declared.Partial.{Partial}
use Rattle.lane_rules.specs.declared.Mode.{Mode}
use Rattle.lane_rules.specs.declared.Outcome.{Outcome}
use Rattle.lane_rules.specs.declared.Judged.{Judged}
use Rattle.lane_modes.specs.PrivateCalls.{Gives, with_byte, byte_held, byte_ends, byte_collected}
use Rattle.lane_rules.proofs.Basics.Bits.{value, value_bits, length_bits}
use Rattle.lane_rules.proofs.Feeding.Runs.{run_append_mode, run_append_outcomes}
use Rattle.lane_rules.proofs.Modes.ModeRecord.{PartIn}
use Rattle.lane_rules.proofs.Feeding.ItemSpacing.{Bare, judge_bare}
use Rattle.lane_rules.proofs.Feeding.WholeFrames.{Collects, part_of, Judges, whole_of, bits_judge}
use Rattle.lane_rules.proofs.Modes.OutcomeRanges.{judged_in_range}
use Rattle.lane_modes.proofs.Bytes.ToldOutcomes.{told_append}
use Rattle.lane_modes.proofs.Bytes.HeldBits.{part_is, with_bits, part_mode, part_outcomes, bare_outcomes}

-- ---- the bits of a byte in two parts

value_low : (n x : ℕ) → value (bits_lsb_first n x) ≡ x % 2 ^ n
unfolding value bits_lsb_first
value_low zero x = omega arith
value_low (suc n) x =
    let e : x % 2 ^ (n + 1) ≡ (x / 2 % 2 ^ n) * 2 + x % 2 = mod-pow-add x n 1 in
    let f : x % 2 ^ suc n ≡ x % 2 ^ (n + 1) = ap (λ (k : ℕ). x % 2 ^ k) (sym (add-one n)) in
    omega (arith, value_low n (x / 2), e, f)

bits_split : (a b n x : ℕ) → n ≡ a + b → bits_lsb_first n x ≡ bits_lsb_first a x ++ bits_lsb_first b (x / 2 ^ a)
unfolding bits_lsb_first
bits_split zero b n x e =
    let f : n ≡ b = omega arith in
    let g : x ≡ x / 1 = omega arith in
    λ i. bits_lsb_first (f i) (g i)
bits_split (suc a) b zero x e = absurd (omega arith)
bits_split (suc a) b (suc n) x e =
    let g : x / 2 / 2 ^ a ≡ x / 2 ^ suc a = shr-shr x 1 a ∙ ap (λ (k : ℕ). x / 2 ^ k) (let f : 1 + a ≡ suc a = omega arith in f) in
    ap (λ (l : List ℕ). x % 2 ∷ l)
    (bits_split a b n (x / 2) (omega arith) ∙ ap (λ (y : ℕ). bits_lsb_first a (x / 2) ++ bits_lsb_first b y) g)

-- ---- a byte above under 8 bits held, and one that ends a frame

module _ (m : Mode) (c : Collects m) (x : ℕ) (l : x < 256) where
  abbrev p : Partial
  p = held_part m

  pub held_gives : p.count < 8 → Gives (run_of m (bits_lsb_first 8 x)) (byte_held m x)
  unfolding told
  held_gives h =
      let few : (part_of m).count + length (bits_lsb_first 8 x) < 16 = rw (part_is m) (omega (arith, length_bits 8 x)) in
      let e : with_bits (part_of m) (bits_lsb_first 8 x) ≡ record { bits = with_byte p x; count = p.count + 8 } =
      ap (λ (q : Partial). with_bits q (bits_lsb_first 8 x)) (part_is m)
      ∙ (λ i. record { bits = p.bits + value_bits 8 x l i * 2 ^ p.count; count = p.count + length_bits 8 x i }) in
      record {
        mode = sym (part_mode m c (bits_lsb_first 8 x) few ∙ ap (holding m) e);
        outcomes = sym (part_outcomes m c (bits_lsb_first 8 x) few);
        range = tt;
      }

  module _ (h : PartIn p) (k : 8 ≤ p.count) (n : ℕ) (s : suc n + p.count ≡ 16) where
    abbrev frame : ℕ
    frame = with_byte p x

    -- the frame and what is left, as the code has them
    order : frame ≡ x * 2 ^ p.count + p.bits
    order = add_comm p.bits (x * 2 ^ p.count)

    above : frame / 2 ^ p.count ≡ x
    above = ap (λ (w : ℕ). w / 2 ^ p.count) order ∙ high x p.count h.1

    below : frame % 2 ^ p.count ≡ p.bits
    below = ap (λ (w : ℕ). w % 2 ^ p.count) order ∙ low x p.count h.1

    frame_is : whole_of p (bits_lsb_first (suc n) x) ≡ frame % 65536
    frame_is =
        let a : whole_of p (bits_lsb_first (suc n) x) ≡ p.bits + x % 2 ^ suc n * 2 ^ p.count =
        ap (λ (v : ℕ). p.bits + v * 2 ^ p.count) (value_low (suc n) x) in
        let b : frame % 2 ^ (suc n + p.count) ≡ x % 2 ^ suc n * 2 ^ p.count + p.bits =
        mod-pow-add frame (suc n) p.count ∙ (λ i. above i % 2 ^ suc n * 2 ^ p.count + below i) in
        a ∙ add_comm p.bits _ ∙ sym b ∙ ap (λ (j : ℕ). frame % 2 ^ j) s

    rest_is : x / 2 ^ suc n ≡ frame / 65536
    rest_is =
        ap (λ (v : ℕ). v / 2 ^ suc n) (sym above) ∙ shr-shr frame p.count (suc n)
        ∙ ap (λ (j : ℕ). frame / 2 ^ j) (add_comm p.count (suc n) ∙ s)

    abbrev judged : Judged
    judged = judge_of m (frame % 65536)

    frame_judged : Judges (run_of m (bits_lsb_first (suc n) x)) judged
    unfolding bits_lsb_first
    frame_judged =
        let long : (part_of m).count + suc (length (bits_lsb_first n (x / 2))) ≡ 16 =
        rw (part_is m) (omega (arith, length_bits n (x / 2))) in
        let w : whole_of (part_of m) (bits_lsb_first (suc n) x) ≡ frame % 65536 =
        ap (λ (q : Partial). whole_of q (bits_lsb_first (suc n) x)) (part_is m) ∙ frame_is in
        subst (λ (v : ℕ). Judges (run_of m (bits_lsb_first (suc n) x)) (judge_of m v)) w (bits_judge m c (x % 2) (bits_lsb_first n (x / 2)) long)

    abbrev rest : List ℕ
    rest = bits_lsb_first (p.count - 8) (frame / 65536)

    byte_is : bits_lsb_first 8 x ≡ bits_lsb_first (suc n) x ++ rest
    byte_is =
        bits_split (suc n) (p.count - 8) 8 x (omega arith)
        ∙ ap (λ (y : ℕ). bits_lsb_first (suc n) x ++ bits_lsb_first (p.count - 8) y) rest_is

    pub ends_gives : Gives (run_of m (bits_lsb_first 8 x)) (byte_ends m x)
    ends_gives =
        let few : length rest < 16 = omega (arith, length_bits (p.count - 8) (frame / 65536), h.0) in
        let quiet : told (run_of judged.mode rest).outcomes ≡ [] = bare_outcomes rest judged.mode (judge_bare m (frame % 65536)) few in
        record {
          mode =
              sym (ap (λ (bs : List ℕ). (run_of m bs).mode) byte_is ∙ run_append_mode m (bits_lsb_first (suc n) x) rest
              ∙ ap (λ (d : Mode). (run_of d rest).mode) frame_judged.mode);
          outcomes =
              sym (ap (λ (bs : List ℕ). told (run_of m bs).outcomes) byte_is
              ∙ ap told (run_append_outcomes m (bits_lsb_first (suc n) x) rest)
              ∙ told_append (run_of m (bits_lsb_first (suc n) x)).outcomes _
              ∙ (λ i. frame_judged.outcomes i ++ told (run_of (frame_judged.mode i) rest).outcomes)
              ∙ ap (λ (os : List Outcome). told (judged.outcome ∷ []) ++ os) quiet ∙ append-nil _);
          range = judged_in_range m (frame % 65536);
        }

  pub byte_gives : PartIn p → Gives (run_of m (bits_lsb_first 8 x)) (byte_collected m x)
  byte_gives h = go (ltb p.count 8) refl
    where
      go : (t : Bool) → ltb p.count 8 ≡ t → Gives (run_of m (bits_lsb_first 8 x)) (cond t (byte_held m x) (byte_ends m x))
      go true e = held_gives (ltb-true p.count 8 e)
      go false e =
          let k : 8 ≤ p.count = ltb-false p.count 8 e in
          ends_gives h k (15 - p.count) (omega (arith, h.0))

-- ---- what the calls need

-- a byte in a mode that holds no bits
pub bare_gives : (m : Mode) → Bare m → (x : ℕ) → Gives (run_of m (bits_lsb_first 8 x)) (quiet (run_of m (bits_lsb_first 8 x)).mode)
unfolding told
bare_gives m e x =
    record { mode = refl; outcomes = sym (bare_outcomes (bits_lsb_first 8 x) m e (omega (arith, length_bits 8 x))); range = tt }
