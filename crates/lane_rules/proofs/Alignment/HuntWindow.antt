-- Hunt, with any bits held, finds the alignment pattern with its 32nd bit at the latest. Assumes nothing.
use Prim.Native.Nat.{ℕ, zero, suc, ◌+◌, ◌*◌, ◌/◌, ◌^◌, ◌≤◌, ◌<◌}
use mathlib.Core.Path.{◌≡◌, refl, ap, sym, subst, ◌∙◌}
use mathlib.Core.Logic.{inr}
use mathlib.Core.Bool.{◌&&◌}
use mathlib.Core.List.{List}
use native.Mathlib.Omega.{arith}
use native.Mathlib.Nat.{suc-add, pow-suc, pow-succ', mul-add, mul_assoc, mul_left_comm}
use lib.Dec.{ltb, eqb}
use lib.Pow.{pow-add}
use borrow.Author.Tests.{ltb-true, ltb-false}
use Rattle.std.specs.Cmp.{second_so}
use Rattle.lane_rules.specs.Receiver.{no_bits}
use Rattle.lane_rules.specs.Collecting.{alignment_pair, hunt_with, hunt_of, step_of}
use Rattle.lane_rules.specs.Feeding.{run_of}
use Rattle.lane_rules.specs.declared.Mode.{Mode}
use Rattle.lane_rules.specs.declared.Mode.TheVariants.{Hunt, Flash}
use Rattle.lane_rules.proofs.Basics.Bits.{value}
use Rattle.lane_rules.proofs.Feeding.WholeFrames.{whole_more}
use Rattle.std.proofs.lemmas.Bool.{cond_both}
use Rattle.lane_rules.proofs.Modes.AdmittedKept.{pair_half}
use Rattle.lane_rules.proofs.Alignment.AlignmentPattern.{pattern_bit, pattern, stretch, stretch_32}
use Rattle.lane_rules.proofs.Alignment.AlignedRuns.{Aligns}
use Rattle.lane_rules.proofs.Alignment.AlignedFrames.{aligns_flash}

-- of n bits held, at most 32, whose number is v, the latest k have the number q
record Latest (v n k q : ℕ) : Type 0 where
  older : ℕ
  rest : ℕ
  count : n ≡ older + k
  most : n ≤ 32
  small : rest < 2 ^ older
  bits : v ≡ rest + 2 ^ older * q

placed : (e k q b : ℕ) → 2 ^ e * (q + b * 2 ^ k) ≡ 2 ^ e * q + b * 2 ^ (e + k)
placed e k q b =
    mul-add (2 ^ e) q (b * 2 ^ k)
    ∙ ap (λ (x : ℕ). 2 ^ e * q + x) (mul_left_comm (2 ^ e) b (2 ^ k) ∙ ap (λ (x : ℕ). b * x) (sym (pow-add 2 e k)))

-- a bit comes in where fewer than 32 are held
latest_more : (v n k q b : ℕ) → Latest v n k q → n < 32 → Latest (v + b * 2 ^ n) (n + 1) (k + 1) (q + b * 2 ^ k)
latest_more v n k q b l h = record {
  older = l.older;
  rest = l.rest;
  count = omega (arith, l.count);
  most = omega arith;
  small = l.small;
  bits = ap (λ (x : ℕ). v + b * 2 ^ x) l.count ∙ omega (arith, l.bits, placed l.older k q b);
}

-- a bit comes in where 32 are held, and the earliest, an older one, goes
latest_full : (v k q b : ℕ) → Latest v 32 k q → k < 32 → Latest (v / 2 + b * 2 ^ 31) 32 (k + 1) (q + b * 2 ^ k)
latest_full v k q b l h = go l.older l.count l.small l.bits
  where
    go : (e : ℕ) → 32 ≡ e + k → l.rest < 2 ^ e → v ≡ l.rest + 2 ^ e * q
        → Latest (v / 2 + b * 2 ^ 31) 32 (k + 1) (q + b * 2 ^ k)
    go zero c s d = absurd (omega arith)
    go (suc e) c s d =
        let double : 2 ^ suc e * q ≡ 2 * (2 ^ e * q) = ap (λ (x : ℕ). x * q) (pow-succ' 2 e) ∙ mul_assoc 2 (2 ^ e) q in
        let top : b * 2 ^ 31 ≡ b * 2 ^ (e + k) = ap (λ (x : ℕ). b * 2 ^ x) (let s : 31 ≡ e + k = omega arith in s) in
        record {
          older = e;
          rest = l.rest / 2;
          count = omega arith;
          most = omega arith;
          small = omega (arith, pow-suc 2 e);
          bits = omega (arith, double, top, placed e k q b);
        }

-- Hunt with one bit of the pattern more, n bits of it being left then
next_bit : (v c n : ℕ) → Aligns (hunt_of v c (pattern_bit n)) n → Aligns (Hunt v c) (suc n)
unfolding run_of step_of pattern
next_bit v c n a = a

one_more : (v c k q n : ℕ) → Latest v c k q → k < 32
    → ((w d : ℕ) → Latest w d (k + 1) (q + pattern_bit n * 2 ^ k) → Aligns (hunt_with w d) n) → Aligns (Hunt v c) (suc n)
unfolding hunt_of
one_more v c k q n l h f =
    next_bit v c n
    (cond_both (ltb c 32) (hunt_with (v + pattern_bit n * 2 ^ c) (c + 1)) (hunt_with (v / 2 + pattern_bit n * 2 ^ 31) 32) (λ (m : Mode). Aligns m n)
    (λ e. f _ _ (latest_more v c k q (pattern_bit n) l (ltb-true c 32 e)))
    (λ e. let full : c ≡ 32 = omega (arith, ltb-false c 32 e, l.most) in
    f _ _ (latest_full v k q (pattern_bit n) (subst (λ (x : ℕ). Latest v x k q) full l) h)))

-- 32 bits of the pattern have come
whole_window : (v c : ℕ) → Latest v c 32 0x00FFFF00 → hunt_with v c ≡ Flash no_bits 0x00FF
unfolding hunt_with alignment_pair
whole_window v c l =
    let none : l.older ≡ 0 = omega (arith, l.count, l.most) in
    let full : c ≡ 32 = omega (arith, l.count) in
    let empty : l.rest < 2 ^ 0 = subst (λ (x : ℕ). l.rest < 2 ^ x) none l.small in
    let same : v ≡ 0x00FFFF00 = l.bits ∙ ap (λ (x : ℕ). l.rest + 2 ^ x * 0x00FFFF00) none ∙ omega arith in
    rw (full, same)

-- the bits that have come and those to come make the whole window
more_come : (j i k q : ℕ) → q + value (stretch (suc j) (32 * i)) * 2 ^ k ≡ 0x00FFFF00
    → q + pattern_bit (j + 32 * i) * 2 ^ k + value (stretch j (32 * i)) * 2 ^ (k + 1) ≡ 0x00FFFF00
unfolding stretch value
more_come j i k q e = whole_more q k (pattern_bit (j + 32 * i)) (value (stretch j (32 * i))) ∙ e

none_come : (i k q : ℕ) → q + value (stretch 0 (32 * i)) * 2 ^ k ≡ 0x00FFFF00 → q ≡ 0x00FFFF00
unfolding stretch value
none_come i k q e = omega arith

all_come : (i : ℕ) → 0 + value (stretch 32 (32 * i)) * 2 ^ 0 ≡ 0x00FFFF00
unfolding stretch value pattern_bit
all_come i = ap (λ (l : List ℕ). 0 + value l * 2 ^ 0) (stretch_32 32 i)

-- j bits of 32 are to come, and after them 32 * i
module _ (i : ℕ) (h : 4 ≤ i) where
  window : (j v c k q : ℕ) → k + j ≡ 32 → q + value (stretch j (32 * i)) * 2 ^ k ≡ 0x00FFFF00 → Latest v c k q
      → Aligns (hunt_with v c) (j + 32 * i)
  unfolding hunt_with
  window zero v c k q d e l =
      let full : Latest v c 32 0x00FFFF00 = rw (let b : k ≡ 32 = omega arith in b, none_come i k q e) at l in
      rw (whole_window v c full) (aligns_flash 0x00FF (0 + 32 * i) (inr refl) (omega arith))
  window (suc j) v c k q d e l =
      cond_both (eqb c 32 && alignment_pair v) (Flash no_bits (v / 2 ^ 16)) (Hunt v c) (λ (m : Mode). Aligns m (suc j + 32 * i))
      (λ t. aligns_flash (v / 2 ^ 16) (suc j + 32 * i) (pair_half v (second_so (eqb c 32) _ t)) (omega arith))
      (λ t. rw suc-add
      (one_more v c k q (j + 32 * i) l (omega arith)
      (λ w x m. window j w x (k + 1) (q + pattern_bit (j + 32 * i) * 2 ^ k) (omega arith) (more_come j i k q e) m)))

  pub aligns_hunt : (v c : ℕ) → c ≤ 32 → v < 2 ^ c → Aligns (Hunt v c) (32 + 32 * i)
  aligns_hunt v c m s =
      let l : Latest v c 0 0 = record { older = c; rest = v; count = omega arith; most = m; small = s; bits = omega arith } in
      rw suc-add
      (one_more v c 0 0 (31 + 32 * i) l (omega arith)
      (λ w x n. window 31 w x 1 (0 + pattern_bit (31 + 32 * i) * 2 ^ 0) (omega arith) (more_come 31 i 0 0 (all_come i)) n))
