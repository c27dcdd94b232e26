-- Balance: for every list of SYNC and sending calls from a record just started, the line is balanced. Assumes nothing.
use Prim.Native.Nat.{ℕ, zero, suc, ◌+◌, ◌-◌, ◌*◌, ◌≤◌, ◌<◌}
use mathlib.Core.Path.{◌≡◌, refl, sym, ap, ◌∙◌, subst}
use mathlib.Core.Bool.{Bool, true, false, cond}
use mathlib.Core.List.{List, [], ◌∷◌, ◌++◌}
use native.Mathlib.Omega.{arith}
use lib.Dec.{leb}
use lib.ListN.{take, replicate}
use lib.Seq.{take-nil, take-append-le, take-append-add}
use borrow.Author.Tests.{leb-true, leb-false}
use Rattle.frame.specs.Seeds.{permitted}
use Rattle.frame.specs.Frame.{is_sample}
use Rattle.frame.proofs.Difference.{within_high, within_low, within_in}
use Rattle.lane_rules.specs.Line.{bits_lsb_first, frame_bits, byte_bits, frame_bytes}
use Rattle.std.specs.Prelude.{Ok, Err}
use Rattle.std.specs.Result.{result_unwrap_or}
use Rattle.refusal.specs.declared.Refusal.{Refusal}
use Rattle.lane_rules.specs.Sender.{alignment_permitted, sender_admitted, fresh_sender, synced, sync_answer, sender_synced, alignment_next, scrambled_next}
use Rattle.lane_rules.specs.SenderCalls.{SenderCall, all_written}
use Rattle.lane_rules.specs.Balance.{ones, zeros, Balanced}
use Rattle.lane_rules.specs.Promise.{Balance}
use Rattle.lane_rules.specs.declared.Sender.{Sender}
use Rattle.lane_rules.proofs.Basics.Bits.{length_bits, bytes_bits}
use Rattle.lane_rules.proofs.Sending.SenderRecord.{fresh_admitted, started_fresh, sync_admitted}
use Rattle.lane_rules.proofs.Sending.CallFrames.{calls_written}
use Rattle.lane_rules.proofs.Balance.BitCounts.{ones_append, zeros_append, ones_and_zeros, ones_and_zeros_first, ones_first}
use Rattle.lane_rules.proofs.Balance.BitCounts.{zeros_first, disparity_of_bits}
use Rattle.lane_rules.proofs.Balance.RunLengths.{run_after, last_bit, RunsAtMost32, runs_append, runs_later, run_bound}
use Rattle.lane_rules.proofs.Balance.LineState.{LineState, aligning, alignment_keeps}
use Rattle.lane_rules.proofs.Balance.BalanceStep.{scrambled_keeps}

-- ---- frames, after o ones, z zeros and a run of m bits b

-- at each frame's end ones and zeros are within 16, and no run is longer than 32
unfoldable FramesBalanced : ℕ → ℕ → ℕ → ℕ → List ℕ → Type 0
FramesBalanced o z b m [] = (o ≤ z + 16) × (z ≤ o + 16) × (m ≤ 32)
FramesBalanced o z b m (w ∷ ws) =
    (o ≤ z + 16) × (z ≤ o + 16) × RunsAtMost32 b m (bits_lsb_first 16 w)
    × FramesBalanced (o + ones (bits_lsb_first 16 w)) (z + zeros (bits_lsb_first 16 w)) (last_bit b (bits_lsb_first 16 w)) (run_after b m (bits_lsb_first 16 w)) ws

high : (t : Sender) (o z m : ℕ) → LineState t o z m → o ≤ z + 16
high t o z m s = within_high 16 t.r o z s.r_is s.admitted.r_within

low : (t : Sender) (o z m : ℕ) → LineState t o z m → z ≤ o + 16
low t o z m s = within_low 16 t.r o z s.r_is s.admitted.r_within

-- the frames ws, where they follow the record t, are balanced in every state of the line
abbrev BalancedAfter : Sender → List ℕ → List ℕ → Type 0
BalancedAfter t ws xs = (o z b m : ℕ) → LineState t o z m → FramesBalanced o z b m ws

none_balanced : (t : Sender) → BalancedAfter t [] []
unfolding FramesBalanced
none_balanced t o z b m s = (high t o z m s, low t o z m s, omega (arith, s.run.run_max))

alignment_balanced : (t : Sender) (ws xs : List ℕ) → t.position < t.alignment
    → BalancedAfter (alignment_next t).sender ws xs → BalancedAfter t ((alignment_next t).frame ∷ ws) xs
unfolding FramesBalanced
alignment_balanced t ws xs h later o z b m s =
    let k = alignment_keeps t o z b m s h in
    (high t o z m s, low t o z m s, k.runs, later _ _ _ _ k.next)

scrambled_balanced : (t : Sender) (x : ℕ) (ws xs : List ℕ) → t.alignment ≤ t.position → (t.position < t.alignment + 32 → x ≡ 0)
    → is_sample x ≡ true
    → BalancedAfter (scrambled_next t x).sender ws xs → BalancedAfter t ((scrambled_next t x).frame ∷ ws) xs
unfolding FramesBalanced
scrambled_balanced t x ws xs h x-0 good later o z b m s =
    let k = scrambled_keeps t x o z b m s good h x-0 in
    (high t o z m s, low t o z m s, k.runs, later _ _ _ _ k.next)

-- ---- SYNC

sync_keeps : (t : Sender) (o z m : ℕ) → LineState t o z m → LineState (synced t) o z m
unfolding synced
sync_keeps t o z m s = record {
  admitted = sync_admitted t s.admitted;
  r_is = s.r_is;
  run = aligning (synced t) m (omega arith) refl refl s.run.run_max (λ h. absurd (omega arith));
}

sync_answer_keeps : (t : Sender) (o z m : ℕ) → LineState t o z m → LineState (sender_synced t) o z m
unfolding sync_answer
sync_answer_keeps t o z m s = go (sender_admitted t)
  where
    go : (c : Bool) → LineState (result_unwrap_or (cond c (Ok (synced t)) (Err Refusal.Record)) t) o z m
    go true = sync_keeps t o z m s
    go false = s

-- ---- all calls

calls_balanced : (t : Sender) (cs : List SenderCall) → (ws : List ℕ) × (all_written t cs ≡ frame_bytes ws) × BalancedAfter t ws []
unfolding is_sample
calls_balanced t cs =
    calls_written BalancedAfter none_balanced alignment_balanced
    (λ t ws xs h k later. scrambled_balanced t 0 ws xs h (λ _. refl) refl later)
    (λ t x ws xs h good later. scrambled_balanced t x ws xs (omega arith) (λ k. absurd (omega arith)) good later)
    (λ t ws xs later o z b m s. later o z b m (sync_answer_keeps t o z m s)) cs t

-- ---- the bits of balanced frames

first_frames : (w : ℕ) (ws : List ℕ) (k : ℕ)
    → take (16 + k) (bits_lsb_first 16 w ++ frame_bits ws) ≡ bits_lsb_first 16 w ++ take k (frame_bits ws)
first_frames w ws k =
    ap (λ (n : ℕ). take (n + k) (bits_lsb_first 16 w ++ frame_bits ws)) (sym (length_bits 16 w))
    ∙ take-append-add (bits_lsb_first 16 w) (frame_bits ws) k

balanced_high : (ws : List ℕ) (o z b m : ℕ) → FramesBalanced o z b m ws → o ≤ z + 16
unfolding FramesBalanced
balanced_high [] o z b m h = h.0
balanced_high (w ∷ ws) o z b m h = h.0

balanced_low : (ws : List ℕ) (o z b m : ℕ) → FramesBalanced o z b m ws → z ≤ o + 16
unfolding FramesBalanced
balanced_low [] o z b m h = h.1
balanced_low (w ∷ ws) o z b m h = h.1

-- o and z, and the ones and zeros among bits, differ by at most n in all
abbrev CountsWithin : ℕ → ℕ → ℕ → List ℕ → Type 0
CountsWithin n o z bits = (o + ones bits ≤ z + zeros bits + n) × (z + zeros bits ≤ o + ones bits + n)

at_frame_ends : (ws : List ℕ) (frames o z b m : ℕ) → FramesBalanced o z b m ws
    → CountsWithin 16 o z (take (16 * frames) (frame_bits ws))
unfolding FramesBalanced frame_bits ones zeros
at_frame_ends [] frames o z b m h = rw (take-nil (16 * frames)) (omega (arith, h.0), omega (arith, h.1))
at_frame_ends (w ∷ ws) zero o z b m h = (omega (arith, h.0), omega (arith, h.1))
at_frame_ends (w ∷ ws) (suc frames) o z b m h =
    let r = at_frame_ends ws frames (o + ones (bits_lsb_first 16 w)) (z + zeros (bits_lsb_first 16 w)) _ _ h.3 in
    rw (one_more frames, first_frames w ws (16 * frames), ones_append, zeros_append) (omega (arith, r.0), omega (arith, r.1))
  where
    one_more : (n : ℕ) → 16 * suc n ≡ 16 + 16 * n
    one_more n = omega arith

-- within 16 at both ends of a frame: within 24 after each of its bits
after_each_bit : (ws : List ℕ) (k o z b m : ℕ) → FramesBalanced o z b m ws → CountsWithin 24 o z (take k (frame_bits ws))
unfolding FramesBalanced frame_bits ones zeros
after_each_bit [] k o z b m h = rw (take-nil k) (omega (arith, h.0), omega (arith, h.1))
after_each_bit (w ∷ ws) k o z b m h =
    go (leb k 16) refl (after_each_bit ws (k - 16) (o + ones (bits_lsb_first 16 w)) (z + zeros (bits_lsb_first 16 w)) _ _ h.3)
  where
    end_high : o + ones (bits_lsb_first 16 w) ≤ z + zeros (bits_lsb_first 16 w) + 16
    end_high = balanced_high ws (o + ones (bits_lsb_first 16 w)) (z + zeros (bits_lsb_first 16 w)) _ _ h.3

    end_low : z + zeros (bits_lsb_first 16 w) ≤ o + ones (bits_lsb_first 16 w) + 16
    end_low = balanced_low ws (o + ones (bits_lsb_first 16 w)) (z + zeros (bits_lsb_first 16 w)) _ _ h.3

    past : (k : ℕ) → 16 < k → k ≡ 16 + (k - 16)
    past k h = omega arith

    go : (c : Bool) → leb k 16 ≡ c
        → CountsWithin 24 (o + ones (bits_lsb_first 16 w)) (z + zeros (bits_lsb_first 16 w)) (take (k - 16) (frame_bits ws))
        → CountsWithin 24 o z (take k (bits_lsb_first 16 w ++ frame_bits ws))
    go true e r =
        rw (take-append-le k (bits_lsb_first 16 w) (frame_bits ws) (omega (arith, leb-true k 16 e, length_bits 16 w))) (
          omega (
            arith,
            h.0,
            h.1,
            end_high,
            end_low,
            ones_and_zeros_first k 16 w (leb-true k 16 e),
            ones_first k 16 w,
            zeros_first k 16 w,
            ones_and_zeros 16 w,
          ),
          omega (
            arith,
            h.0,
            h.1,
            end_high,
            end_low,
            ones_and_zeros_first k 16 w (leb-true k 16 e),
            ones_first k 16 w,
            zeros_first k 16 w,
            ones_and_zeros 16 w,
          ),
        )
    go false e r =
        rw (past k (leb-false k 16 e), first_frames w ws (k - 16), ones_append, zeros_append)
        (omega (arith, r.0), omega (arith, r.1))

runs_of_frames : (ws : List ℕ) (o z b m : ℕ) → FramesBalanced o z b m ws → RunsAtMost32 b m (frame_bits ws)
unfolding FramesBalanced frame_bits RunsAtMost32
runs_of_frames [] o z b m h = h.2
runs_of_frames (w ∷ ws) o z b m h = runs_append b m (bits_lsb_first 16 w) (frame_bits ws) h.2 (runs_of_frames ws _ _ _ _ h.3)

frames_balanced : (ws : List ℕ) → FramesBalanced 0 0 0 0 ws → Balanced (frame_bits ws)
frames_balanced ws h = record {
  frame_ends = λ n.
      let counts = at_frame_ends ws n 0 0 0 0 h in
      within_in _ _ _ _ (disparity_of_bits (take (16 * n) (frame_bits ws))) (omega (arith, counts.0)) (omega (arith, counts.1));
  each_bit = λ k.
      let counts = after_each_bit ws k 0 0 0 0 h in
      within_in _ _ _ _ (disparity_of_bits (take k (frame_bits ws))) (omega (arith, counts.0)) (omega (arith, counts.1));
  runs = λ n b early late e.
      let rest = runs_later 0 0 early (replicate n b ++ late) (subst (RunsAtMost32 0 0) e (runs_of_frames ws 0 0 0 0 h)) in
      omega (arith, run_bound (last_bit 0 early) (run_after 0 0 early) b n late rest);
}

-- ---- from a record just started

fresh_state : (seed n : ℕ) → permitted seed ≡ true → alignment_permitted n ≡ true → LineState (fresh_sender seed n) 0 0 0
unfolding fresh_sender
fresh_state seed n h k = record {
  admitted = fresh_admitted seed n h k;
  r_is = refl;
  run = aligning (fresh_sender seed n) 0 (omega arith) refl refl (omega arith) (λ k. omega arith);
}

pub balance : Balance
balance seed n t cs e =
    let fresh = started_fresh seed n t e in
    let sent = calls_balanced t cs in
    let begun = subst (λ (s : Sender). LineState s 0 0 0) fresh.2 (fresh_state seed n fresh.0 fresh.1) in
    subst Balanced (sym (ap byte_bits sent.1 ∙ bytes_bits sent.0))
    (frames_balanced sent.0 (sent.2 0 0 0 0 begun))
