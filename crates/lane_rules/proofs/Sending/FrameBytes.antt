-- The frames that bytes are, and the first of them by their bytes. Assumes nothing.
use Prim.Native.Nat.{ℕ, zero, suc, ◌+◌, ◌*◌, ◌/◌, ◌%◌}
use mathlib.Core.Path.{◌≡◌, refl, ap, ◌∙◌}
use mathlib.Core.List.{List, [], ◌∷◌}
use native.Mathlib.Omega.{arith}
use lib.ListN.{take, drop}
use Rattle.lane_rules.specs.Line.{frame_bytes}

-- the frames that bytes are
unfoldable pub frames_in : List ℕ → List ℕ
frames_in [] = []
frames_in (a ∷ []) = []
frames_in (a ∷ (b ∷ bs)) = (a + 256 * b) ∷ frames_in bs

pub frames_in_bytes : (ws : List ℕ) → frames_in (frame_bytes ws) ≡ ws
unfolding frame_bytes frames_in
frames_in_bytes [] = refl
frames_in_bytes (w ∷ ws) = λ i. (let e : w % 256 + 256 * (w / 256) ≡ w = omega arith in e) i ∷ frames_in_bytes ws i

-- the first n frames are the first 2 n bytes
two_more : (n : ℕ) → 2 * suc n ≡ suc (suc (2 * n))
two_more n = omega arith

pub take_bytes : (n : ℕ) (ws : List ℕ) → take (2 * n) (frame_bytes ws) ≡ frame_bytes (take n ws)
unfolding frame_bytes
take_bytes zero ws = refl
take_bytes (suc n) [] = ap (λ (k : ℕ). take k (frame_bytes [])) (two_more n)
take_bytes (suc n) (w ∷ ws) =
    ap (λ (k : ℕ). take k (frame_bytes (w ∷ ws))) (two_more n) ∙ ap (λ (l : List ℕ). w % 256 ∷ (w / 256 ∷ l)) (take_bytes n ws)

pub drop_bytes : (n : ℕ) (ws : List ℕ) → drop (2 * n) (frame_bytes ws) ≡ frame_bytes (drop n ws)
unfolding frame_bytes
drop_bytes zero ws = refl
drop_bytes (suc n) [] = ap (λ (k : ℕ). drop k (frame_bytes [])) (two_more n)
drop_bytes (suc n) (w ∷ ws) = ap (λ (k : ℕ). drop k (frame_bytes (w ∷ ws))) (two_more n) ∙ drop_bytes n ws
