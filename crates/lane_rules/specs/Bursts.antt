-- Document 01, "Receiver", with the figures of document 02, Q-3: touched frames, bursts and wrong items.
use Rattle.std.specs.Prelude.{ℕ, zero, suc, ◌+◌, ◌-◌, ◌≤◌, ◌≡◌, ◌≢◌, Bool, true, false, cond, ◌&&◌, not, List, [], ◌∷◌, eqb, length, take, drop}
use Rattle.lane_rules.specs.Line.{AreBits}

-- "A frame is touched when at least one of its bits is flipped": the bits sent and those that arrive for them
unfoldable pub Touched : Bool → List ℕ → List ℕ → Type 0
Touched true sent arrived = AreBits arrived × (arrived ≢ sent)
Touched false sent arrived = arrived ≡ sent

-- which of the frames sent are touched, the bits of all of them as sent, and those that arrive, sixteen a frame
unfoldable pub Arrives : List Bool → List ℕ → List ℕ → Type 0
Arrives [] sent arrived = (sent ≡ []) × (arrived ≡ [])
Arrives (t ∷ ts) sent arrived =
    (16 ≤ length sent) × (16 ≤ length arrived) × Touched t (take 16 sent) (take 16 arrived)
    × Arrives ts (drop 16 sent) (drop 16 arrived)

-- the place of a frame among spaced bursts, by the frames before it
pub data BurstPlace : Type 0 where
  resting : ℕ → BurstPlace  -- outside a burst, with so many untouched frames to come before the next
  bursting : ℕ → BurstPlace  -- right after a touched frame, with so many more allowed in its burst

-- Document 02, Q-3: "provided at least five untouched frames part any two bursts"
abbrev pub untouched_between : ℕ
untouched_between = 5

-- bursts of at most `longest` adjacent frames, with at least five untouched frames between any two
unfoldable pub spaced_from : ℕ → BurstPlace → List Bool → Bool
spaced_from longest p [] = true
spaced_from longest (resting zero) (false ∷ ts) = spaced_from longest (resting zero) ts
spaced_from longest (resting (suc n)) (false ∷ ts) = spaced_from longest (resting n) ts
spaced_from longest (resting zero) (true ∷ ts) = spaced_from longest (bursting (longest - 1)) ts
spaced_from longest (resting (suc n)) (true ∷ ts) = false
spaced_from longest (bursting n) (false ∷ ts) = spaced_from longest (resting (untouched_between - 1)) ts
spaced_from longest (bursting zero) (true ∷ ts) = false
spaced_from longest (bursting (suc n)) (true ∷ ts) = spaced_from longest (bursting n) ts

-- spaced bursts, from lock on: a burst may begin right after the sequence
abbrev pub spaced : ℕ → List Bool → Bool
spaced longest ts = spaced_from longest (resting 0) ts

-- "It is wrong if it differs, so a gap counts": 1 for a wrong item
unfoldable pub wrong : ℕ → ℕ → ℕ
wrong sample item = cond (eqb item sample) 0 1

-- "Its wrong items are those from its first frame up to the next burst": the number before the first burst, then of each burst.
-- n are counted already; `last` says whether the frame before was touched, so a touched frame after an untouched one begins a burst.
unfoldable pub wrong_per_burst : ℕ → Bool → List Bool → List ℕ → List ℕ → List ℕ
wrong_per_burst n last [] xs zs = n ∷ []
wrong_per_burst n last (t ∷ ts) [] zs = n ∷ []
wrong_per_burst n last (t ∷ ts) (x ∷ xs) [] = n ∷ []
wrong_per_burst n last (t ∷ ts) (x ∷ xs) (z ∷ zs) =
    cond (t && not last) (n ∷ wrong_per_burst (wrong x z) t ts xs zs) (wrong_per_burst (n + wrong x z) t ts xs zs)

unfoldable pub AtMost : ℕ → List ℕ → Type 0
AtMost k [] = Unit {0}
AtMost k (n ∷ ns) = (n ≤ k) × AtMost k ns

-- one item for each frame, and that of an untouched frame is its sample: "no untouched frame yields a gap or a false sample"
pub data UntouchedRight : List Bool → List ℕ → List ℕ → Type 0 where
  none : UntouchedRight [] [] []
  of_touched : {ts : List Bool} {x z : ℕ} {xs zs : List ℕ} → UntouchedRight ts xs zs
      → UntouchedRight (true ∷ ts) (x ∷ xs) (z ∷ zs)
  of_untouched : {ts : List Bool} {x z : ℕ} {xs zs : List ℕ} → z ≡ x → UntouchedRight ts xs zs
      → UntouchedRight (false ∷ ts) (x ∷ xs) (z ∷ zs)

-- The burst error bound, of bursts of at most `longest` frames: the touched frames, the samples sent in the frames, and the items. None
-- is wrong before the first burst, at most `longest` are from a burst's first frame up to the next burst, and none of an untouched frame.
pub record BurstErrorBound (longest : ℕ) (ts : List Bool) (samples items : List ℕ) : Type 0 where
  pub of_bursts : List ℕ
  pub wrong_are : wrong_per_burst 0 false ts samples items ≡ 0 ∷ of_bursts
  pub few : AtMost longest of_bursts
  pub untouched_right : UntouchedRight ts samples items
