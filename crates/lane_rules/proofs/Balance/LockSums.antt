-- The sums at the lock that a sequence gives are 0. Assumes nothing.
use Prim.Native.Nat.{ℕ, zero, suc, ◌+◌, ◌-◌, ◌*◌, ◌≤◌, ◌<◌}
use mathlib.Core.Path.{◌≡◌, refl, ap, ◌∙◌}
use mathlib.Core.Bool.{true}
use mathlib.Core.List.{List, [], ◌∷◌, ◌++◌}
use native.Mathlib.Omega.{arith}
use lib.Bits.{xor_zero_l}
use lib.ListN.{replicate}
use borrow.Author.Tests.{lt-ltb, le-ltb}
use Rattle.frame.specs.Scrambler.{is_state, word_of, next_state}
use Rattle.frame.specs.Seeds.{permitted}
use Rattle.frame.proofs.Laws.{permitted_state}
use Rattle.lane_rules.specs.Line.{frame_bits}
use Rattle.lane_rules.specs.Sender.{alignment_pairs, proving_frames}
use Rattle.lane_rules.specs.Sums.{no_sums, sums_by, sums_after}
use Rattle.lane_rules.specs.Receiver.{no_bits, mode_admitted, most_read}
use Rattle.lane_rules.specs.Judging.{clock_of, scrambled_of, prove_by, proved, judge_of}
use Rattle.lane_rules.specs.Feeding.{run_of}
use Rattle.lane_rules.specs.declared.Sums.{Sums}
use Rattle.lane_rules.specs.declared.Mode.{Mode}
use Rattle.lane_rules.specs.declared.Mode.TheVariants.{Flash, First, Prove, Locked}
use Rattle.lane_rules.specs.declared.Judged.{Judged}
use Rattle.lane_rules.proofs.Basics.Bits.{frame_bits_append}
use Rattle.lane_rules.proofs.Feeding.Runs.{run_append_outcomes}
use Rattle.lane_rules.proofs.Feeding.RunningTotals.{sums_append}
use Rattle.lane_rules.proofs.Sending.Encoding.{Encodes, none, more}
use Rattle.lane_rules.proofs.Feeding.WholeFrames.{frame_sums}
use Rattle.lane_rules.proofs.Alignment.Alignment.{aligns}
use Rattle.lane_rules.proofs.Locking.FirstFrames.{flash_first, first_prove}
use Rattle.lane_rules.proofs.Locking.SequenceLocks.{judge_prove_lem}

-- the sums after a judged frame and the bits after it
abbrev sums_from : Sums → Judged → List ℕ → Sums
sums_from t j bits = sums_after (sums_by t j.outcome) (run_of j.mode bits).outcomes

-- Prove, on a frame that fits
module _ (n s c w : ℕ) (l : c ≤ 1) (d : scrambled_of w ≡ word_of s) (e : clock_of w ≡ 1 - c) where
  goes_on : n < most_read → judge_of (Prove no_bits n s c) w ≡ proved (Prove no_bits (n + 1) (next_state s) (1 - c))
  unfolding judge_of prove_by proving_frames
  goes_on h =
      let m : prove_by true n s (1 - c) ≡ Prove no_bits (n + 1) (next_state s) (1 - c) = rw (lt-ltb n most_read h) in
      ap proved (judge_prove_lem n s c w l d e ∙ m)

  locks : most_read ≤ n → judge_of (Prove no_bits n s c) w ≡ proved (Locked no_bits 0 (next_state s) (1 - (1 - c)))
  unfolding judge_of prove_by proving_frames
  locks h =
      let m : prove_by true n s (1 - c) ≡ Locked no_bits 0 (next_state s) (1 - (1 - c)) = rw (le-ltb n most_read h) in
      ap proved (judge_prove_lem n s c w l d e ∙ m)

-- n frames are read, and k + 1 are to come
prove_sums : (k n s c : ℕ) (ws : List ℕ) (t : Sums) → n + suc k ≡ 32 → c ≤ 1 → Encodes s (1 - c) (replicate (suc k) 0) ws
    → sums_after t (run_of (Prove no_bits n s c) (frame_bits ws)).outcomes ≡ no_sums
unfolding frame_bits run_of sums_after sums_by
prove_sums zero n s c ws t h l (more {w = w} a d e none) =
    frame_sums (Prove no_bits n s c) tt refl w [] a t
    ∙ ap (λ (j : Judged). sums_from t j []) (locks n s c w l (d ∙ xor_zero_l (word_of s)) e (omega arith))
prove_sums (suc k) n s c ws t h l (more {w = w} {ws = ws'} a d e r) =
    frame_sums (Prove no_bits n s c) tt refl w (frame_bits ws') a t
    ∙ ap (λ (j : Judged). sums_from t j (frame_bits ws')) (goes_on n s c w l (d ∙ xor_zero_l (word_of s)) e (omega arith))
    ∙ prove_sums k (n + 1) (next_state s) (1 - c) ws' t (omega arith) (omega arith) r

-- from alignment to lock
lock_sums : (s : ℕ) (ws : List ℕ) (t : Sums) → permitted s ≡ true → Encodes s 0 (replicate 32 0) ws
    → sums_after t (run_of (Flash no_bits 0x00FF) (frame_bits ws)).outcomes ≡ no_sums
unfolding frame_bits judge_of sums_by
lock_sums s ws t p (more {w = v} a d e (more {w = w} {ws = ws'} b f g r)) =
    let h : is_state s ≡ true = permitted_state s p in
    frame_sums (Flash no_bits 0x00FF) tt refl v (frame_bits (w ∷ ws')) a t
    ∙ ap (λ (m : Mode). sums_after t (run_of m (frame_bits (w ∷ ws'))).outcomes)
    (flash_first s v p (d ∙ xor_zero_l (word_of s)) e)
    ∙ frame_sums (First no_bits (word_of s) 0) tt refl w (frame_bits ws') b t
    ∙ ap (λ (m : Mode). sums_after t (run_of m (frame_bits ws')).outcomes)
    (first_prove s w h (f ∙ xor_zero_l (word_of (next_state s))) g)
    ∙ prove_sums 29 2 (next_state (next_state s)) 1 ws' t refl (omega arith) r

-- from every admitted mode, one synchronisation sequence leaves the sums 0
pub sequence_sums : (m : Mode) (n s : ℕ) (ws : List ℕ) (t : Sums) → mode_admitted m ≡ true → 12 ≤ 2 * n → permitted s ≡ true
    → Encodes s 0 (replicate 32 0) ws
    → sums_after t (run_of m (frame_bits (alignment_pairs n ++ ws))).outcomes ≡ no_sums
sequence_sums m n s ws t a h p r =
    let aligned = frame_bits (alignment_pairs n) in
    ap (λ (bits : List ℕ). sums_after t (run_of m bits).outcomes) (frame_bits_append (alignment_pairs n) ws)
    ∙ ap (sums_after t) (run_append_outcomes m aligned (frame_bits ws))
    ∙ sums_append t (run_of m aligned).outcomes _
    ∙ ap (λ (k : Mode). sums_after (sums_after t (run_of m aligned).outcomes) (run_of k (frame_bits ws)).outcomes) (aligns m n a h)
    ∙ lock_sums s ws (sums_after t (run_of m aligned).outcomes) p r
