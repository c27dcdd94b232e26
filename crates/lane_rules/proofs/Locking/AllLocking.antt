-- Bits that lock, from Hunt with no bits held: the receiver is locked after them. Assumes nothing.
use Prim.Native.Nat.{ℕ, zero, suc, ◌+◌, ◌*◌, ◌-◌, ◌%◌, ◌≤◌, ◌<◌}
use mathlib.Core.Path.{◌≡◌, refl, ap, sym, subst, ◌∙◌}
use mathlib.Core.Logic.{◌⊎◌, inl, inr, ◌≢◌, ⊎_elim}
use mathlib.Core.Bool.{true}
use mathlib.Core.List.{List, [], ◌∷◌, ◌++◌}
use native.Mathlib.Omega.{arith}
use lib.ListN.{length, take}
use borrow.Author.Tests.{eq-eqb, ne_eqb, lt-ltb, le-ltb}
use Rattle.frame.specs.Scrambler.{is_state, word_of, next_state, state_after}
use Rattle.frame.specs.Frame.{inverted}
use Rattle.frame.proofs.Laws.{state_range, state_recovered}
use Rattle.lane_rules.specs.Line.{bits_lsb_first, frame_bits}
use Rattle.lane_rules.specs.Sender.{proving_frames}
use Rattle.lane_rules.specs.Receiver.{no_bits, hunting, most_read}
use Rattle.lane_rules.specs.Judging.{clock_of, scrambled_of, judge_flash, recovered, proves, first_by, judge_first, prove_by, judge_of}
use Rattle.lane_rules.specs.Collecting.{alignment_pair, hunt_with, hunt_of, step_of}
use Rattle.lane_rules.specs.Feeding.{run_of}
use Rattle.lane_rules.specs.Locking.{alternating, alternate_after, FollowScrambler}
use Rattle.lane_rules.specs.Promise.{SequencesLock}
use Rattle.lane_rules.specs.declared.Mode.{Mode}
use Rattle.lane_rules.specs.declared.Mode.TheVariants.{Flash, First, Prove, Locked}
use Rattle.lane_rules.proofs.Basics.Bits.{frame_bits_append}
use Rattle.lane_rules.proofs.Feeding.Runs.{run_append_mode, no_frames}
use Rattle.lane_rules.proofs.Sending.Encoding.{state_after_next}
use Rattle.lane_rules.proofs.Feeding.WholeFrames.{frame_mode}
use Rattle.lane_rules.proofs.Modes.AdmittedKept.{clock_range}
use Rattle.lane_rules.proofs.Locking.SequenceLocks.{judge_prove_lem}
use Rattle.lane_rules.proofs.Locking.LockingFrames.{turn_inverted}

abbrev IsAlignment : ℕ → Type 0
IsAlignment f = (f ≡ 0xFF00) ⊎ (f ≡ 0x00FF)

other_alignment : (f : ℕ) → IsAlignment f → IsAlignment (inverted f)
other_alignment f h = ⊎_elim (λ e. inr (omega arith)) (λ e. inl (omega arith)) h

alignment_small : (f : ℕ) → IsAlignment f → f < 65536
alignment_small f h = ⊎_elim (λ e. omega arith) (λ e. omega arith) h

-- ---- Hunt finds the pair

pair_found : (f : ℕ) → IsAlignment f → (run_of hunting (frame_bits (alternating f 2))).mode ≡ Flash no_bits (inverted f)
unfolding run_of step_of hunt_of hunt_with alignment_pair frame_bits bits_lsb_first alternating
pair_found f (inl e) = rw e refl
pair_found f (inr e) = rw e refl

-- ---- Flash goes with the alternating frames

flash_turns : (n held : ℕ) (frames : List ℕ) → IsAlignment held
    → (run_of (Flash no_bits held) (frame_bits (alternating (inverted held) n ++ frames))).mode
    ≡ (run_of (Flash no_bits (alternate_after held n)) (frame_bits frames)).mode
unfolding alternating alternate_after frame_bits judge_of judge_flash
flash_turns zero held frames h = refl
flash_turns (suc n) held frames h =
    let w = inverted held in
    let a = other_alignment held h in
    frame_mode (Flash no_bits held) tt refl w (frame_bits (alternating (inverted w) n ++ frames)) (alignment_small w a)
    ∙ ap (λ (m : Mode). (run_of m (frame_bits (alternating (inverted w) n ++ frames))).mode)
    (let e : (judge_of (Flash no_bits held) w).mode ≡ Flash no_bits w = rw (eq-eqb w (inverted held) refl) in e)
    ∙ flash_turns n w frames a

-- ---- the 32 frames

flash_reads : (held w : ℕ) → w ≢ inverted held → (judge_of (Flash no_bits held) w).mode ≡ First no_bits (scrambled_of w) (clock_of w)
unfolding judge_of judge_flash
flash_reads held w d = rw (ne_eqb w (inverted held) d)

first_proves : (s c w : ℕ) → is_state s ≡ true → c ≤ 1 → scrambled_of w ≡ word_of (next_state s) → clock_of w ≡ 1 - c
    → (judge_of (First no_bits (word_of s) c) w).mode ≡ Prove no_bits 2 (next_state (next_state s)) (1 - c)
unfolding judge_of judge_first first_by recovered proves
first_proves s c w h l d e =
    let r : word_of s + 16384 * (scrambled_of w % 8) ≡ s = ap (λ (q : ℕ). word_of s + 16384 * (q % 8)) d ∙ state_recovered s h in
    let live = ne_eqb s 0 (λ x. omega (arith, (state_range s h).0)) in
    rw (ne_eqb (clock_of w) c (λ x. omega arith), r, live, eq-eqb (scrambled_of w) (word_of (next_state s)) d, e)

-- n frames are read, and k + 1 are to come
prove_follows : (k n s c : ℕ) (ws : List ℕ) → c ≤ 1 → n + suc k ≡ 32 → length ws ≡ suc k → FollowScrambler s (1 - c) ws
    → (run_of (Prove no_bits n s c) (frame_bits ws)).mode ≡ Locked no_bits 0 (state_after (suc k) s) ((c + k) % 2)
unfolding frame_bits prove_by proving_frames state_after FollowScrambler
prove_follows k n s c [] l h e f = absurd (omega arith)
prove_follows zero n s c (w ∷ []) l h e f =
    let last : 1 - (1 - c) ≡ (c + 0) % 2 = omega arith in
    frame_mode (Prove no_bits n s c) tt refl w [] f.0
    ∙ ap (λ (m : Mode). (run_of m (frame_bits [])).mode)
    (judge_prove_lem n s c w l f.1 f.2 ∙ rw (le-ltb n most_read (omega arith)) (ap (λ (x : ℕ). Locked no_bits 0 (next_state s) x) last))
    ∙ no_frames (Locked no_bits 0 (next_state s) ((c + 0) % 2))
prove_follows zero n s c (w ∷ (v ∷ ws)) l h e f = absurd (omega arith)
prove_follows (suc k) n s c (w ∷ ws) l h e f =
    let toggled : (1 - c + k) % 2 ≡ (c + suc k) % 2 = omega arith in
    frame_mode (Prove no_bits n s c) tt refl w (frame_bits ws) f.0
    ∙ ap (λ (m : Mode). (run_of m (frame_bits ws)).mode)
    (judge_prove_lem n s c w l f.1 f.2 ∙ rw (lt-ltb n most_read (omega arith)))
    ∙ prove_follows k (n + 1) (next_state s) (1 - c) ws (omega arith) (omega arith) (omega arith) f.3
    ∙ (λ i. Locked no_bits 0 (state_after_next (suc k) s i) (toggled i))

flash_locks : (held s c : ℕ) (ws : List ℕ) → is_state s ≡ true → length ws ≡ 32 → take 1 ws ≢ inverted held ∷ [] → FollowScrambler s c ws
    → (run_of (Flash no_bits held) (frame_bits ws)).mode ≡ Locked no_bits 0 (state_after 32 s) c
unfolding frame_bits FollowScrambler
flash_locks held s c [] h n d f = absurd (omega arith)
flash_locks held s c (v ∷ []) h n d f = absurd (omega arith)
flash_locks held s c (v ∷ (w ∷ ws)) h n d f =
    let g = f.3 in
    let low : c ≤ 1 = subst (λ (x : ℕ). x ≤ 1) f.2 (clock_range v) in
    let toggled : (1 - c + 29) % 2 ≡ c = omega arith in
    frame_mode (Flash no_bits held) tt refl v (frame_bits (w ∷ ws)) f.0
    ∙ ap (λ (m : Mode). (run_of m (frame_bits (w ∷ ws))).mode)
    (flash_reads held v (λ e. d (ap (λ (x : ℕ). x ∷ []) e)) ∙ (λ i. First no_bits (f.1 i) (f.2 i)))
    ∙ frame_mode (First no_bits (word_of s) c) tt refl w (frame_bits ws) g.0
    ∙ ap (λ (m : Mode). (run_of m (frame_bits ws)).mode) (first_proves s c w h low g.1 g.2)
    ∙ prove_follows 29 2 (next_state (next_state s)) (1 - c) ws (omega arith) refl (omega arith) g.3
    ∙ (λ i. Locked no_bits 0 ((state_after_next 30 (next_state s) ∙ state_after_next 31 s) i) (toggled i))

pub sequences_lock : SequencesLock
unfolding alternating alternate_after
sequences_lock start clock bits l =
    let f = l.first in
    let later = alternating (inverted (inverted f)) l.more ++ l.frames in
    let held = alternate_after (inverted f) l.more in
    let next : alternate_after f (suc (suc l.more)) ≡ inverted held = turn_inverted f (suc l.more) in
    ap (λ (x : List ℕ). (run_of hunting x).mode) (l.bits_are ∙ frame_bits_append (alternating f 2) later)
    ∙ run_append_mode hunting (frame_bits (alternating f 2)) (frame_bits later)
    ∙ ap (λ (m : Mode). (run_of m (frame_bits later)).mode) (pair_found f l.alignment)
    ∙ flash_turns l.more (inverted f) l.frames (other_alignment f l.alignment)
    ∙ flash_locks held start clock l.frames l.state l.count (λ e. l.not_alternate (e ∙ ap (λ (x : ℕ). x ∷ []) (sym next))) l.follow
