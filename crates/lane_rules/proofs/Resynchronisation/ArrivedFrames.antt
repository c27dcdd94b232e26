-- The bits that arrive for frames are frames: untouched ones are those sent. Assumes nothing.
use Prim.Native.Nat.{ℕ, ◌≤◌, ◌<◌}
use mathlib.Core.Path.{◌≡◌, ap, sym, subst, ◌∙◌}
use mathlib.Core.Logic.{◌≢◌}
use mathlib.Core.Bool.{Bool, true, false}
use mathlib.Core.List.{List, [], ◌∷◌, ◌++◌}
use native.Mathlib.Omega.{arith}
use lib.ListN.{length, take, drop, take-append-drop}
use lib.Seq.{take_at, drop_at, length-take-le}
use Rattle.lane_rules.specs.Line.{bits_lsb_first, frame_bits, AreBits}
use Rattle.lane_rules.specs.Bursts.{Touched, Arrives}
use Rattle.lane_rules.proofs.Basics.Bits.{length_bits, value, so_many_bits}

-- which of the frames sent are touched, the frames sent, and the frames that arrive for them
pub data FramesArrive : List Bool → List ℕ → List ℕ → Type 0 where
  none : FramesArrive [] [] []
  untouched : {ts : List Bool} {w : ℕ} {ws vs : List ℕ} → FramesArrive ts ws vs → FramesArrive (false ∷ ts) (w ∷ ws) (w ∷ vs)
  touched : {ts : List Bool} {w v : ℕ} {ws vs : List ℕ} → v < 65536 → v ≢ w → FramesArrive ts ws vs
      → FramesArrive (true ∷ ts) (w ∷ ws) (v ∷ vs)

-- the first frame of frames' bits, and the others
module _ (w : ℕ) (ws : List ℕ) where
  first_frame : take 16 (frame_bits (w ∷ ws)) ≡ bits_lsb_first 16 w
  unfolding frame_bits
  first_frame = take_at (bits_lsb_first 16 w) (frame_bits ws) 16 (length_bits 16 w)

  other_frames : drop 16 (frame_bits (w ∷ ws)) ≡ frame_bits ws
  unfolding frame_bits
  other_frames = drop_at (bits_lsb_first 16 w) (frame_bits ws) 16 (length_bits 16 w)

-- the frames that arrive, and that their bits are those that arrive
abbrev Arrived : List Bool → List ℕ → List ℕ → Type 0
Arrived ts ws bits = (vs : List ℕ) × FramesArrive ts ws vs × (frame_bits vs ≡ bits)

one_untouched : (ts : List Bool) (w : ℕ) (ws bits : List ℕ) → take 16 bits ≡ bits_lsb_first 16 w → Arrived ts ws (drop 16 bits)
    → Arrived (false ∷ ts) (w ∷ ws) bits
unfolding frame_bits
one_untouched ts w ws bits e a =
    (w ∷ a.0, untouched a.1, (λ i. sym e i ++ a.2 i) ∙ take-append-drop 16 bits)

one_touched : (ts : List Bool) (w : ℕ) (ws bits : List ℕ) → AreBits (take 16 bits) → 16 ≤ length bits → take 16 bits ≢ bits_lsb_first 16 w
    → Arrived ts ws (drop 16 bits) → Arrived (true ∷ ts) (w ∷ ws) bits
unfolding frame_bits
one_touched ts w ws bits h n d a =
    let v = so_many_bits 16 (take 16 bits) h (length-take-le 16 bits n) in (
      value (take 16 bits) ∷ a.0,
      touched v.1 (λ e. d (sym v.0 ∙ ap (bits_lsb_first 16) e)) a.1,
      (λ i. v.0 i ++ a.2 i) ∙ take-append-drop 16 bits,
    )

no_frames : (w : ℕ) (ws : List ℕ) → frame_bits (w ∷ ws) ≡ [] → ⊥
no_frames w ws e =
    let n : length (take 16 (frame_bits (w ∷ ws))) ≡ 16 = ap length (first_frame w ws) ∙ length_bits 16 w in
    let z : length (take 16 (frame_bits (w ∷ ws))) ≡ 0 = ap (λ (l : List ℕ). length (take 16 l)) e in
    omega arith

no_bits_lem : 16 ≤ length (frame_bits []) → ⊥
unfolding frame_bits
no_bits_lem h = omega arith

pub frames_arrive : (ts : List Bool) (ws bits : List ℕ) → Arrives ts (frame_bits ws) bits → Arrived ts ws bits
unfolding Arrives Touched
frames_arrive [] [] bits a = ([], none, a.0 ∙ sym a.1)
frames_arrive [] (w ∷ ws) bits a = absurd (no_frames w ws a.0)
frames_arrive (t ∷ ts) [] bits a = absurd (no_bits_lem a.0)
frames_arrive (false ∷ ts) (w ∷ ws) bits a =
    one_untouched ts w ws bits (a.2 ∙ first_frame w ws)
    (frames_arrive ts ws (drop 16 bits) (subst (λ (l : List ℕ). Arrives ts l (drop 16 bits)) (other_frames w ws) a.3))
frames_arrive (true ∷ ts) (w ∷ ws) bits a =
    one_touched ts w ws bits a.2.0 a.1 (λ e. a.2.1 (e ∙ sym (first_frame w ws)))
    (frames_arrive ts ws (drop 16 bits) (subst (λ (l : List ℕ). Arrives ts l (drop 16 bits)) (other_frames w ws) a.3))
