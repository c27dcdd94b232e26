-- From alignment to lock: 32 frames of sample 0 from a permitted seed lock the receiver on the seed's state. Assumes nothing.
use Prim.Native.Nat.{ℕ, zero, suc, ◌+◌, ◌*◌, ◌-◌, ◌%◌, ◌≤◌}
use mathlib.Core.Path.{◌≡◌, refl, ap, ◌∙◌}
use mathlib.Core.Bool.{true}
use mathlib.Core.List.{List, [], ◌∷◌, ◌++◌}
use native.Mathlib.Omega.{arith}
use lib.Bits.{xor_zero_l}
use lib.ListN.{replicate}
use borrow.Author.Tests.{eq-eqb, ne_eqb, lt-ltb, le-ltb}
use Rattle.frame.specs.Scrambler.{is_state, word_of, next_state, state_after}
use Rattle.frame.specs.Seeds.{permitted}
use Rattle.frame.proofs.Laws.{permitted_state}
use Rattle.lane_rules.specs.Line.{frame_bits}
use Rattle.lane_rules.specs.Sender.{alignment_pairs, proving_frames}
use Rattle.lane_rules.specs.Receiver.{no_bits, mode_admitted, most_read}
use Rattle.lane_rules.specs.Judging.{clock_of, scrambled_of, prove_by, judge_prove}
use Rattle.lane_rules.specs.Judging.{judge_of}
use Rattle.lane_rules.specs.Feeding.{run_of}
use Rattle.lane_rules.specs.declared.Mode.{Mode}
use Rattle.lane_rules.specs.declared.Mode.TheVariants.{Flash, First, Prove, Locked}
use Rattle.lane_rules.proofs.Basics.Bits.{frame_bits_append}
use Rattle.lane_rules.proofs.Feeding.Runs.{run_append_mode, no_frames}
use Rattle.lane_rules.proofs.Sending.Encoding.{state_after_next, Encodes, none, more}
use Rattle.lane_rules.proofs.Feeding.WholeFrames.{frame_mode}
use Rattle.lane_rules.proofs.Alignment.Alignment.{aligns}
use Rattle.lane_rules.proofs.Locking.FirstFrames.{flash_first, first_prove}

-- Prove, on the frames after it
pub judge_prove_lem : (n s c w : ℕ) → c ≤ 1 → scrambled_of w ≡ word_of s → clock_of w ≡ 1 - c
    → (judge_of (Prove no_bits n s c) w).mode ≡ prove_by true n s (1 - c)
unfolding judge_of judge_prove
judge_prove_lem n s c w l d e = rw (ne_eqb (clock_of w) c (λ x. omega arith), eq-eqb (scrambled_of w) (word_of s) d, e)

-- n frames are read, the last of them with clock bit c, and k + 1 are to come
prove_run : (k n s c : ℕ) (ws : List ℕ) → n + suc k ≡ 32 → c ≡ (n + 1) % 2 → Encodes s (1 - c) (replicate (suc k) 0) ws
    → (run_of (Prove no_bits n s c) (frame_bits ws)).mode ≡ Locked no_bits 0 (state_after (suc k) s) 0
unfolding frame_bits prove_by proving_frames state_after
prove_run zero n s c ws h p (more {w = w} a d e none) =
    let last : 1 - c ≡ 1 = omega arith in
    frame_mode (Prove no_bits n s c) tt refl w [] a
    ∙ ap (λ (m : Mode). (run_of m (frame_bits [])).mode)
    (judge_prove_lem n s c w (omega arith) (d ∙ xor_zero_l (word_of s)) e ∙ rw (le-ltb n most_read (omega arith), last))
    ∙ no_frames (Locked no_bits 0 (next_state s) 0)
prove_run (suc k) n s c ws h p (more {w = w} {ws = ws'} a d e r) =
    frame_mode (Prove no_bits n s c) tt refl w (frame_bits ws') a
    ∙ ap (λ (m : Mode). (run_of m (frame_bits ws')).mode)
    (judge_prove_lem n s c w (omega arith) (d ∙ xor_zero_l (word_of s)) e ∙ rw (lt-ltb n most_read (omega arith)))
    ∙ prove_run k (n + 1) (next_state s) (1 - c) ws' (omega arith) (omega arith) r
    ∙ ap (λ (x : ℕ). Locked no_bits 0 x 0) (state_after_next (suc k) s)

-- from alignment to lock
pub locks : (s : ℕ) (ws : List ℕ) → permitted s ≡ true → Encodes s 0 (replicate 32 0) ws
    → (run_of (Flash no_bits 0x00FF) (frame_bits ws)).mode ≡ Locked no_bits 0 (state_after 32 s) 0
unfolding frame_bits
locks s ws p (more {w = v} a d e (more {w = w} {ws = ws'} b f g r)) =
    let h : is_state s ≡ true = permitted_state s p in
    frame_mode (Flash no_bits 0x00FF) tt refl v (frame_bits (w ∷ ws')) a
    ∙ ap (λ (m : Mode). (run_of m (frame_bits (w ∷ ws'))).mode) (flash_first s v p (d ∙ xor_zero_l (word_of s)) e)
    ∙ frame_mode (First no_bits (word_of s) 0) tt refl w (frame_bits ws') b
    ∙ ap (λ (m : Mode). (run_of m (frame_bits ws')).mode) (first_prove s w h (f ∙ xor_zero_l (word_of (next_state s))) g)
    ∙ prove_run 29 2 (next_state (next_state s)) 1 ws' refl refl r
    ∙ ap (λ (x : ℕ). Locked no_bits 0 x 0) (state_after_next 30 (next_state s) ∙ state_after_next 31 s)

-- one synchronisation sequence locks every admitted mode
pub sequence_locks : (m : Mode) (n s : ℕ) (ws : List ℕ) → mode_admitted m ≡ true → 12 ≤ 2 * n → permitted s ≡ true
    → Encodes s 0 (replicate 32 0) ws
    → (run_of m (frame_bits (alignment_pairs n ++ ws))).mode ≡ Locked no_bits 0 (state_after 32 s) 0
sequence_locks m n s ws a h p r =
    ap (λ (bits : List ℕ). (run_of m bits).mode) (frame_bits_append (alignment_pairs n) ws)
    ∙ run_append_mode m (frame_bits (alignment_pairs n)) (frame_bits ws)
    ∙ ap (λ (k : Mode). (run_of k (frame_bits ws)).mode) (aligns m n a h)
    ∙ locks s ws p r
