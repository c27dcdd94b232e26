-- The alignment pattern brings every mode that collects frames to Flash, whatever it holds. Assumes nothing.
use Prim.Native.Nat.{ℕ, suc, ◌+◌, ◌*◌, ◌-◌, ◌≤◌}
use mathlib.Core.Path.{◌≡◌, refl, subst}
use mathlib.Core.Logic.{◌⊎◌}
use mathlib.Core.Bool.{Bool, true, false, not, ◌&&◌}
use native.Mathlib.Omega.{arith}
use lib.Dec.{eqb, ltb}
use borrow.Author.Tests.{eq-eqb}
use Rattle.frame.specs.Scrambler.{word_of, next_state}
use Rattle.frame.specs.Frame.{inverted}
use Rattle.lane_rules.specs.Sender.{proving_frames}
use Rattle.lane_rules.specs.Receiver.{no_bits, most_read}
use Rattle.lane_rules.specs.Judging.{clock_of, scrambled_of, judge_flash, first_by, judge_first, prove_by, judge_prove, locked_by}
use Rattle.lane_rules.specs.Judging.{judge_locked, judge_of}
use Rattle.lane_rules.specs.declared.Mode.{Mode}
use Rattle.lane_rules.specs.declared.Mode.TheVariants.{Hunt, Flash, First, Prove, Locked}
use Rattle.std.specs.Prelude.{Option, Some, None}
use Rattle.lane_rules.proofs.Modes.ModeRecord.{PartIn, Admitted}
use Rattle.lane_rules.proofs.Feeding.WholeFrames.{Collects, part_of, whole_of}
use Rattle.std.proofs.lemmas.Bool.{cond_both}
use Rattle.lane_rules.proofs.Modes.AdmittedKept.{flash_kept, judge_kept}
use Rattle.lane_rules.proofs.Alignment.AlignmentPattern.{stretch, frame_at}
use Rattle.lane_rules.proofs.Alignment.AlignedRuns.{Aligns, aligns_part, aligns_frame, aligns_hunting, hunts_align, aligns_held}
use Rattle.lane_rules.proofs.Alignment.LockLost.{next_same_clock, just_locked_hunts, locked_hunts}

-- ---- Prove, where the last frame was the pattern's: the coming one has its clock bit

prove_same : (r s c n : ℕ) → 47 ≤ n → clock_of (frame_at n) ≡ c → Aligns (Prove no_bits r s c) (16 + n)
unfolding judge_of judge_prove prove_by
prove_same r s c n h e = aligns_frame (Prove no_bits r s c) n tt refl (go (eqb (scrambled_of (frame_at n)) (word_of s)))
  where
    go : (t : Bool) → Aligns (prove_by (t && not (eqb (clock_of (frame_at n)) c)) r s (clock_of (frame_at n))) n
    go true = rw (eq-eqb (clock_of (frame_at n)) c e) (aligns_hunting n h)
    go false = aligns_hunting n h

prove_next : (r s n : ℕ) → 63 ≤ n → Aligns (Prove no_bits r s (clock_of (frame_at n))) n
prove_next r s n h =
    next_same_clock (Aligns (Prove no_bits r s (clock_of (frame_at n)))) n (omega arith) (λ k b same. prove_same r s _ k (omega arith) same)

prove_judged : (t : Bool) (r s n : ℕ) → 47 + 16 * 7 ≤ n → Aligns (prove_by t r s (clock_of (frame_at n))) n
unfolding prove_by
prove_judged true r s n h =
    cond_both (ltb r most_read) _ _ (λ (m : Mode). Aligns m n)
    (λ e. prove_next (r + 1) (next_state s) n (omega arith))
    (λ e. hunts_align (16 * 7) n _ (just_locked_hunts (next_state s) n (omega arith)) (omega arith))
prove_judged false r s n h = aligns_hunting n (omega arith)

-- ---- First, whatever clock bit it keeps: Hunt, or Prove, which reads one frame of the pattern and ends at the next

prove_begins : (t : Bool) (s n : ℕ) → 63 ≤ n → Aligns (prove_by t 2 s (clock_of (frame_at n))) n
unfolding prove_by proving_frames
prove_begins true s n h = prove_next 3 (next_state s) n h
prove_begins false s n h = aligns_hunting n (omega arith)

first_judged : (t : Bool) (s c n : ℕ) → 63 ≤ n → Aligns (first_by t s c) (16 + n)
unfolding first_by judge_of judge_prove
first_judged true s c n h = aligns_frame (Prove no_bits 2 (next_state (next_state s)) c) n tt refl (prove_begins _ _ n h)
first_judged false s c n h = aligns_hunting (16 + n) (omega arith)

first_aligns : (p c n : ℕ) → 63 ≤ n → Aligns (First no_bits p c) (16 + (16 + n))
unfolding judge_of judge_first
first_aligns p c n h = aligns_frame (First no_bits p c) (16 + n) tt refl (first_judged _ _ _ n h)

-- ---- Flash: its frame of the pattern is the held one inverted, or First comes

flash_judged : (f n : ℕ) → (f ≡ 0xFF00) ⊎ (f ≡ 0x00FF) → 95 ≤ n → Aligns (judge_flash f (frame_at n)) n
unfolding judge_flash
flash_judged f n a h =
    cond_both (eqb (frame_at n) (inverted f)) (Flash no_bits (frame_at n)) (First no_bits (scrambled_of (frame_at n)) (clock_of (frame_at n))) (λ (m : Mode). Aligns m n)
    (λ e. let kept : Admitted (Flash no_bits (frame_at n)) = rw e at (flash_kept f (frame_at n) a) in aligns_held n kept.1)
    (λ e. let whole : 16 + (16 + (n - 32)) ≡ n = omega arith in
    subst (Aligns (First no_bits (scrambled_of (frame_at n)) (clock_of (frame_at n)))) whole (first_aligns _ _ (n - 32) (omega arith)))

pub aligns_flash : (f n : ℕ) → (f ≡ 0xFF00) ⊎ (f ≡ 0x00FF) → 111 ≤ n → Aligns (Flash no_bits f) n
unfolding judge_of
aligns_flash f n a h =
    let e : 16 + (n - 16) ≡ n = omega arith in
    subst (Aligns (Flash no_bits f)) e (aligns_frame (Flash no_bits f) (n - 16) tt refl (flash_judged f (n - 16) a (omega arith)))

-- ---- every mode, with no bits held

-- no bits held
unfoldable Clear : Mode → Type 0
Clear (Hunt bits count) = (bits ≡ 0) × (count ≡ 0)
Clear (Flash part frame) = part ≡ no_bits
Clear (First part word clock) = part ≡ no_bits
Clear (Prove part read state clock) = part ≡ no_bits
Clear (Locked part results state clock) = part ≡ no_bits

clear_aligns : (m : Mode) (n : ℕ) → Admitted m → Clear m → 47 + 16 * 7 ≤ n → Aligns m (16 + n)
unfolding Clear judge_of judge_prove
clear_aligns (Hunt bits count) n a e h = rw (e.0, e.1) (aligns_hunting (16 + n) (omega arith))
clear_aligns (Flash part frame) n a e h = rw e (aligns_flash frame (16 + n) a.1 (omega arith))
clear_aligns (First part word clock) n a e h =
    let whole : 16 + (16 + (n - 16)) ≡ 16 + n = omega arith in
    rw e (subst (Aligns (First no_bits word clock)) whole (first_aligns word clock (n - 16) (omega arith)))
clear_aligns (Prove part read state clock) n a e h =
    aligns_frame (Prove part read state clock) n tt e (prove_judged _ read state n h)
clear_aligns (Locked part results state clock) n a e h =
    rw e (hunts_align (16 * 8) (16 + n) _ (locked_hunts results state clock (16 + n) a.1 a.3 (omega arith)) (omega arith))

-- ---- after a judged frame no bits are held

flash_clear : (f w : ℕ) → Clear (judge_flash f w)
unfolding judge_flash Clear
flash_clear f w = cond_both (eqb w (inverted f)) _ _ Clear (λ e. refl) (λ e. refl)

first_clear : (t : Bool) (s c : ℕ) → Clear (first_by t s c)
unfolding first_by Clear
first_clear true s c = refl
first_clear false s c = (refl, refl)

prove_clear : (t : Bool) (r s c : ℕ) → Clear (prove_by t r s c)
unfolding prove_by Clear
prove_clear true r s c = cond_both (ltb r most_read) _ _ Clear (λ e. refl) (λ e. refl)
prove_clear false r s c = (refl, refl)

locked_clear : (l : Option ℕ) (faulty : Bool) (s c w : ℕ) → Clear (locked_by l faulty s c w).mode
unfolding locked_by Clear
locked_clear (Some n) true s c w = refl
locked_clear (Some n) false s c w = refl
locked_clear None faulty s c w = (refl, refl)

judged_clear : (m : Mode) (w : ℕ) → Collects m → Clear (judge_of m w).mode
unfolding judge_of judge_first judge_prove judge_locked
judged_clear (Hunt bits count) w c = absurd c
judged_clear (Flash part frame) w c = flash_clear frame w
judged_clear (First part word clock) w c = first_clear _ _ _
judged_clear (Prove part read state clock) w c = prove_clear _ _ _ _
judged_clear (Locked part results state clock) w c = locked_clear _ _ _ _ _

-- the bits held of a frame are in their range
part_admitted_lem : (m : Mode) → Collects m → Admitted m → PartIn (part_of m)
part_admitted_lem (Hunt bits count) c a = absurd c
part_admitted_lem (Flash part frame) c a = a.0
part_admitted_lem (First part word clock) c a = a.0
part_admitted_lem (Prove part read state clock) c a = a.0
part_admitted_lem (Locked part results state clock) c a = a.0

-- a mode that collects frames, with any bits held: the rest of its frame, and then no bits are held
pub aligns_collecting : (m : Mode) (n : ℕ) → Collects m → Admitted m → 79 + 16 * 7 ≤ n → Aligns m n
aligns_collecting m n c a h =
    let held : PartIn (part_of m) = part_admitted_lem m c a in
    let k : ℕ = 15 - (part_of m).count in
    let r : ℕ = n - (32 - (part_of m).count) in
    let e : suc k + (16 + r) ≡ n = omega (arith, held.0) in
    let w : ℕ = whole_of (part_of m) (stretch (suc k) (16 + r)) in
    subst (Aligns m) e
    (aligns_part m k (16 + r) c (omega (arith, held.0))
    (clear_aligns (judge_of m w).mode r (judge_kept m w a) (judged_clear m w c) (omega arith)))
