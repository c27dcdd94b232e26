-- Runs over the end of the alignment pattern: a stretch of it, a whole frame of it, and Hunt with no bits. Assumes nothing.
use Prim.Native.Nat.{ℕ, zero, suc, ◌+◌, ◌*◌, ◌-◌, ◌/◌, ◌%◌, ◌≤◌, ◌<◌}
use mathlib.Core.Path.{◌≡◌, refl, ap, subst, ◌∙◌}
use mathlib.Core.Logic.{◌⊎◌}
use mathlib.Core.Bool.{Bool, true, false, ◌&&◌, ◌||◌, not}
use mathlib.Core.List.{List, ◌++◌}
use native.Mathlib.Omega.{arith}
use lib.Dec.{T, eqb, eqb→eq}
use Rattle.lane_rules.specs.Receiver.{no_bits, hunting}
use Rattle.lane_rules.specs.Judging.{judge_flash, judge_of}
use Rattle.lane_rules.specs.Collecting.{alignment_pair, hunt_with, hunt_of, collect_of, holding, collected, step_of}
use Rattle.lane_rules.specs.Feeding.{run_of}
use Rattle.lane_rules.specs.declared.Partial.{Partial}
use Rattle.lane_rules.specs.declared.Mode.{Mode}
use Rattle.lane_rules.specs.declared.Mode.TheVariants.{Hunt, Flash, First, Prove, Locked}
use Rattle.lane_rules.proofs.Basics.Bits.{value}
use Rattle.std.proofs.Math.Facts.{and_yes}
use Rattle.lane_rules.proofs.Basics.Tables.{imply, below}
use Rattle.lane_rules.proofs.Feeding.Runs.{run_append_mode}
use Rattle.lane_rules.proofs.Basics.Tests.{one_of}
use Rattle.lane_rules.proofs.Feeding.WholeFrames.{Collects, part_of, whole_of, bits_judge}
use Rattle.lane_rules.proofs.Alignment.AlignmentPattern.{pattern_bit, pattern, stretch, pattern_stretch, stretch_append, length_stretch, stretch_32}
use Rattle.lane_rules.proofs.Alignment.AlignmentPattern.{frame_at, frame_mod}

-- with n bits of the pattern left, a mode is brought to Flash, which holds the last frame
abbrev pub Aligns : Mode → ℕ → Type 0
Aligns m n = (run_of m (pattern n)).mode ≡ Flash no_bits 0x00FF

aligns_after : (m : Mode) (k n : ℕ) → Aligns (run_of m (stretch k n)).mode n → Aligns m (k + n)
aligns_after m k n a = rw pattern_stretch (run_append_mode m (stretch k n) (pattern n) ∙ a)

-- bits that fill a frame
stretch_judged : (m : Mode) (k n : ℕ) → Collects m → (part_of m).count + suc k ≡ 16
    → (run_of m (stretch (suc k) n)).mode ≡ (judge_of m (whole_of (part_of m) (stretch (suc k) n))).mode
unfolding stretch
stretch_judged m k n c h = (bits_judge m c (pattern_bit (k + n)) (stretch k n) (omega (arith, length_stretch k n))).mode

pub aligns_part : (m : Mode) (k n : ℕ) → Collects m → (part_of m).count + suc k ≡ 16
    → Aligns (judge_of m (whole_of (part_of m) (stretch (suc k) n))).mode n → Aligns m (suc k + n)
aligns_part m k n c h a = aligns_after m (suc k) n (rw (stretch_judged m k n c h) a)

-- a whole frame
frame_judged : (m : Mode) (n : ℕ) → Collects m → part_of m ≡ no_bits → (run_of m (stretch 16 n)).mode ≡ (judge_of m (frame_at n)).mode
unfolding frame_at
frame_judged m n c e =
    let v : whole_of (part_of m) (stretch 16 n) ≡ value (stretch 16 n) =
    ap (λ (p : Partial). whole_of p (stretch 16 n)) e ∙ omega arith in
    stretch_judged m 15 n c (ap (λ (p : Partial). p.count + 16) e) ∙ ap (λ (w : ℕ). (judge_of m w).mode) v

pub aligns_frame : (m : Mode) (n : ℕ) → Collects m → part_of m ≡ no_bits → Aligns (judge_of m (frame_at n)).mode n
    → Aligns m (16 + n)
aligns_frame m n c e a = aligns_after m 16 n (rw (frame_judged m n c e) a)

-- ---- modes without unknown contents, by computing

is_aligned : Mode → Bool
is_aligned (Hunt bits count) = false
is_aligned (Flash part frame) = eqb part.bits 0 && (eqb part.count 0 && eqb frame 0x00FF)
is_aligned (First part word clock) = false
is_aligned (Prove part read state clock) = false
is_aligned (Locked part results state clock) = false

aligned : (m : Mode) → T (is_aligned m) → m ≡ Flash no_bits 0x00FF
unfolding is_aligned
aligned (Hunt bits count) t = absurd t
aligned (Flash part frame) t =
    let h = and_yes (eqb part.bits 0) _ t in
    let k = and_yes (eqb part.count 0) _ h.1 in
    let none : part ≡ no_bits = λ i. record { bits = eqb→eq part.bits 0 h.0 i; count = eqb→eq part.count 0 k.0 i } in
    λ i. Flash (none i) (eqb→eq frame 0x00FF k.1 i)
aligned (First part word clock) t = absurd t
aligned (Prove part read state clock) t = absurd t
aligned (Locked part results state clock) t = absurd t

-- aligned, it stays so
one_pair_more : (run_of (Flash no_bits 0x00FF) (stretch 32 0)).mode ≡ Flash no_bits 0x00FF
unfolding run_of step_of collected collect_of holding judge_of judge_flash stretch pattern_bit
one_pair_more = refl

no_bits_left : Aligns (Flash no_bits 0x00FF) 0
unfolding run_of pattern
no_bits_left = refl

stays_aligned : (i : ℕ) → Aligns (Flash no_bits 0x00FF) (32 * i)
stays_aligned zero = no_bits_left
stays_aligned (suc i) =
    subst (Aligns (Flash no_bits 0x00FF)) (let e : 32 + 32 * i ≡ 32 * suc i = omega arith in e)
    (aligns_after (Flash no_bits 0x00FF) 32 (32 * i) (rw (stretch_32 32 i, one_pair_more) (stays_aligned i)))

-- a mode that is aligned by the last k bits is so by 32 * i bits more
aligns_computed : (m : Mode) (k i : ℕ) → T (is_aligned (run_of m (stretch k 0)).mode) → Aligns m (k + 32 * i)
aligns_computed m k i t = aligns_after m k (32 * i) (rw (stretch_32 k i, aligned _ t) (stays_aligned i))

-- Hunt with no bits: the pattern is found with 47 bits at the latest
hunting_table : (k : ℕ) → k < 32 → T (is_aligned (run_of hunting (stretch (47 + k) 0)).mode)
unfolding run_of step_of collected collect_of holding judge_of judge_flash hunt_of hunt_with alignment_pair stretch pattern_bit is_aligned
hunting_table k h = below (λ j. is_aligned (run_of hunting (stretch (47 + j) 0)).mode) 32 tt k h

pub aligns_hunting : (n : ℕ) → 47 ≤ n → Aligns hunting n
aligns_hunting n h =
    let k : ℕ = (n - 47) % 32 in
    let i : ℕ = (n - 47) / 32 in
    let e : 47 + k + 32 * i ≡ n = omega arith in
    subst (Aligns hunting) e (aligns_computed hunting (47 + k) i (hunting_table k (omega arith)))

-- with n bits of the pattern left, a mode comes to Hunt with no bits after at most k of them
pub record HuntsWithin (k : ℕ) (m : Mode) (n : ℕ) : Type 0 where
  pub bits : ℕ
  pub left : ℕ
  pub few : bits ≤ k
  pub whole : bits + left ≡ n
  pub hunts : (run_of m (stretch bits left)).mode ≡ hunting

pub hunts_now : (k n : ℕ) → HuntsWithin k hunting n
unfolding run_of stretch
hunts_now k n = record { bits = 0; left = n; few = omega arith; whole = omega arith; hunts = refl }

pub hunts_later : (k j n : ℕ) (m : Mode) → k ≤ j → HuntsWithin k m n → HuntsWithin j m n
hunts_later k j n m h r =
    record { bits = r.bits; left = r.left; few = omega (arith, r.few); whole = r.whole; hunts = r.hunts }

hunts_after : (m : Mode) (j k n : ℕ) → HuntsWithin k (run_of m (stretch j n)).mode n → HuntsWithin (j + k) m (j + n)
hunts_after m j k n r = record {
  bits = j + r.bits;
  left = r.left;
  few = omega (arith, r.few);
  whole = omega (arith, r.whole);
  hunts =
      ap (λ (l : List ℕ). (run_of m l).mode)
      (stretch_append j r.bits r.left ∙ ap (λ (i : ℕ). stretch j i ++ stretch r.bits r.left) r.whole)
      ∙ run_append_mode m (stretch j n) (stretch r.bits r.left) ∙ r.hunts;
}

-- by bits that fill a frame, and by a whole frame
pub hunts_part : (m : Mode) (j k n : ℕ) → Collects m → (part_of m).count + suc j ≡ 16
    → HuntsWithin k (judge_of m (whole_of (part_of m) (stretch (suc j) n))).mode n → HuntsWithin (suc j + k) m (suc j + n)
hunts_part m j k n c h r = hunts_after m (suc j) k n (rw (stretch_judged m j n c h) r)

pub hunts_frame : (m : Mode) (k n : ℕ) → Collects m → part_of m ≡ no_bits → HuntsWithin k (judge_of m (frame_at n)).mode n
    → HuntsWithin (16 + k) m (16 + n)
hunts_frame m k n c e r = hunts_after m 16 k n (rw (frame_judged m n c e) r)

-- and from there to Flash
pub hunts_align : (k n : ℕ) (m : Mode) → HuntsWithin k m n → k + 47 ≤ n → Aligns m n
hunts_align k n m r h =
    subst (Aligns m) r.whole
    (aligns_after m r.bits r.left (rw r.hunts (aligns_hunting r.left (omega (arith, r.few, r.whole)))))

-- Flash that holds the frame of the pattern that has just come
abbrev is_alignment : ℕ → Bool
is_alignment f = eqb f 0xFF00 || eqb f 0x00FF

held_table : (k : ℕ) → k < 32
    → T (not (is_alignment (frame_at k)) || is_aligned (run_of (Flash no_bits (frame_at k)) (stretch k 0)).mode)
unfolding run_of step_of collected collect_of holding judge_of judge_flash stretch pattern_bit value frame_at is_aligned
held_table k h =
    below (λ j. not (is_alignment (frame_at j)) || is_aligned (run_of (Flash no_bits (frame_at j)) (stretch j 0)).mode) 32 tt k h

pub aligns_held : (n : ℕ) → (frame_at n ≡ 0xFF00) ⊎ (frame_at n ≡ 0x00FF) → Aligns (Flash no_bits (frame_at n)) n
aligns_held n a =
    let k : ℕ = n % 32 in
    let i : ℕ = n / 32 in
    let e : k + 32 * i ≡ n = omega arith in
    let b : is_alignment (frame_at k) ≡ true = rw (frame_mod n) (one_of (frame_at n) _ _ a) in
    subst (Aligns (Flash no_bits (frame_at n))) e
    (subst (λ (f : ℕ). Aligns (Flash no_bits f) (k + 32 * i)) (frame_mod n)
    (aligns_computed (Flash no_bits (frame_at k)) k i (imply _ _ b (held_table k (omega arith)))))
