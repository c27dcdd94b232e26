-- The later frames of a sender's list keep its running disparity R within 16 at each frame's end. Assumes nothing.
use Prim.Native.Nat.{ℕ, zero, suc, ◌%◌}
use mathlib.Core.Path.{◌≡◌, refl, sym, ap, ◌∙◌, subst}
use mathlib.Core.Bool.{Bool, true, false, cond}
use mathlib.Core.List.{List, [], ◌∷◌}
use lib.Count.{ones_in}
use lib.Dec.{eqb}
use lib.IntN.{ℤ, ◌+ℤ◌, +ℤ_idr}
use lib.ListN.{drop}
use Rattle.frame.specs.Frame.{is_sample, disparity_in, disparity_of, within}
use Rattle.frame.proofs.Laws.{new_r_sum}
use Rattle.lane_rules.specs.Sender.{sequence_frames, synced, sender_synced, alignment_frame, alignment_next, scrambled_next}
use Rattle.lane_rules.specs.SenderCalls.{SendersList, bytes_sent}
use Rattle.lane_rules.specs.declared.Sender.{Sender}
use Rattle.lane_rules.proofs.Sending.FrameBytes.{frames_in, frames_in_bytes}
use Rattle.lane_rules.proofs.Sending.WrittenFrames.{frames_of, later_frames}
use Rattle.lane_rules.proofs.Sending.SenderRecord.{Admitted, admitted_facts, sync_leaves, sync_admitted, alignment_admitted, scrambled_admitted}
use Rattle.lane_rules.proofs.Sending.SenderRecord.{built_values_lem}
use Rattle.lane_rules.proofs.Sending.CallFrames.{sendings_written}

-- from R on, within 16 before each of the frames and after the last
unfoldable pub FramesWithin : ℤ → List ℕ → Type 0
FramesWithin r [] = within 16 r ≡ true
FramesWithin r (w ∷ ws) = (within 16 r ≡ true) × FramesWithin (r +ℤ disparity_of w) ws

-- the frames ws, where they follow the record t
abbrev WithinAfter : Sender → List ℕ → List ℕ → Type 0
WithinAfter t ws xs = Admitted t → FramesWithin t.r ws

none_balanced : (t : Sender) → WithinAfter t [] []
unfolding FramesWithin
none_balanced t a = a.r_within

-- an alignment frame has as many ones as zeros
alignment_r : (t : Sender) → (alignment_next t).sender.r ≡ t.r +ℤ disparity_of (alignment_next t).frame
unfolding alignment_next alignment_frame disparity_in ones_in
alignment_r t = go (eqb (t.position % 2) 0)
  where
    go : (e : Bool) → t.r ≡ t.r +ℤ disparity_of (cond e 0xFF00 0x00FF)
    go true = sym (+ℤ_idr t.r)
    go false = sym (+ℤ_idr t.r)

alignment_balanced : (t : Sender) (ws xs : List ℕ) → WithinAfter (alignment_next t).sender ws xs
    → WithinAfter t ((alignment_next t).frame ∷ ws) xs
unfolding FramesWithin
alignment_balanced t ws xs later a =
    (a.r_within, subst (λ (r : ℤ). FramesWithin r ws) (alignment_r t) (later (alignment_admitted t a)))

scrambled_balanced : (t : Sender) (x : ℕ) (ws xs ys : List ℕ) → is_sample x ≡ true → WithinAfter (scrambled_next t x).sender ws xs
    → WithinAfter t ((scrambled_next t x).frame ∷ ws) ys
unfolding FramesWithin
scrambled_balanced t x ws xs ys good later a = (
  a.r_within,
  subst (λ (r : ℤ). FramesWithin r ws) (new_r_sum x t.state t.clock t.r _ _ (built_values_lem t x a good))
      (later (scrambled_admitted t x a good)),
)

-- without the first n frames
dropped : (n : ℕ) (r : ℤ) (ws : List ℕ) → FramesWithin r ws → (q : ℤ) × FramesWithin q (drop n ws)
unfolding FramesWithin
dropped zero r ws h = (r, h)
dropped (suc n) r [] h = (r, h)
dropped (suc n) r (w ∷ ws) h = dropped n (r +ℤ disparity_of w) ws h.1

pub later_balanced : (list : SendersList) → (r : ℤ) × FramesWithin r (later_frames list)
unfolding later_frames frames_of bytes_sent is_sample
later_balanced list =
    let first = sender_synced list.sender in
    let is : first ≡ synced list.sender = sync_leaves list.sender list.admitted in
    let a : Admitted first =
    subst Admitted (sym is) (sync_admitted list.sender (admitted_facts list.sender list.admitted)) in
    let sent = sendings_written WithinAfter none_balanced (λ t ws xs _ later. alignment_balanced t ws xs later)
    (λ t ws xs _ _ later. scrambled_balanced t 0 ws xs xs refl later)
    (λ t x ws xs _ good later. scrambled_balanced t x ws xs (x ∷ xs) good later) list.calls first list.sending in
    dropped (sequence_frames list.sender) first.r _
    (subst (FramesWithin first.r) (sym (ap frames_in sent.1 ∙ frames_in_bytes sent.0)) (sent.2 a))
