-- Which bits count in the sums: those that end a frame in Locked, and each with its frame as received; lock is found where Locked begins.
-- Assumes nothing.
use Prim.Native.Nat.{ℕ, ◌<◌}
use mathlib.Core.Path.{◌≡◌, refl, ap, sym}
use mathlib.Core.Bool.{Bool, true, false, cond, false≢true}
use mathlib.Core.Logic.{inl, inr}
use mathlib.Core.List.{[], ◌∷◌}
use borrow.Author.Tests.{lt-ltb}
use Rattle.frame.specs.Frame.{disparity_of}
use Rattle.frame.proofs.Laws.{reading_disparity}
use Rattle.lane_rules.specs.Sums.{disparities_in, is_found}
use Rattle.lane_rules.specs.Receiver.{is_locked}
use Rattle.lane_rules.specs.Judging.{judge_prove, locked_by, judge_locked, proved, judge_of}
use Rattle.lane_rules.specs.Collecting.{collect_of, held_part, holding, collected, step_of}
use Rattle.lane_rules.specs.PromiseSums.{FramesCount, SumsRest, FoundAtLock}
use Rattle.lane_rules.specs.declared.Partial.{Partial}
use Rattle.lane_rules.specs.declared.Mode.{Mode}
use Rattle.lane_rules.specs.declared.Mode.TheVariants.{Hunt, Flash, First, Prove, Locked}
use Rattle.lane_rules.specs.declared.Outcome.{Outcome}
use Rattle.lane_rules.specs.declared.Judged.{Judged}
use Rattle.std.specs.Prelude.{Option, Some, None}
use Rattle.lane_rules.specs.declared.Collected.{Collected}
use Rattle.lane_rules.specs.declared.Collected.TheVariants.{Frame, Part}
use Rattle.std.proofs.lemmas.Bool.{cond_both}
use Rattle.lane_rules.proofs.Modes.NextModes.{hunt_next, flash_next, first_next}

-- ---- frames judged in Locked

by_lock : (l : Option ℕ) (faulty : Bool) (s c w : ℕ) → disparities_in ((locked_by l faulty s c w).outcome ∷ []) ≡ disparity_of w ∷ []
unfolding disparities_in locked_by
by_lock (Some n) true s c w = ap (λ d. d ∷ []) (reading_disparity w)
by_lock (Some n) false s c w = ap (λ d. d ∷ []) (reading_disparity w)
by_lock None faulty s c w = ap (λ d. d ∷ []) (reading_disparity w)

pub frames_count : FramesCount
unfolding judge_of judge_locked
frames_count part results state clock w = by_lock _ _ state clock w

-- ---- all other bits

-- nothing counts
abbrev pub Rests : Judged → Type 0
Rests j = disparities_in (j.outcome ∷ []) ≡ []

proved_rests : (m : Mode) → Rests (proved m)
unfolding disparities_in
proved_rests m =
    cond_both (is_locked m) _ _ (λ (o : Outcome). disparities_in (o ∷ []) ≡ []) (λ e. refl) (λ e. refl)

judged_rests : (m : Mode) (w : ℕ) → is_locked m ≡ false → Rests (judge_of m w)
unfolding disparities_in judge_of
judged_rests (Hunt bits count) w e = refl
judged_rests (Flash part frame) w e = refl
judged_rests (First part word clock) w e = refl
judged_rests (Prove part read state clock) w e = proved_rests (judge_prove read state clock w)
judged_rests (Locked part results state clock) w e = absurd (false≢true (sym e))

collected_rests : (m : Mode) (g : Collected) → is_locked m ≡ false → Rests (collected m g)
unfolding disparities_in collected
collected_rests m (Part p) e = refl
collected_rests m (Frame w) e = judged_rests m w e

-- a bit before the frame's last
part_rests : (m : Mode) (p : Partial) (b : ℕ) → p.count < 15 → Rests (collected m (collect_of p b))
unfolding disparities_in collected collect_of
part_rests m p b h = rw (lt-ltb p.count 15 h) refl

pub step_rests : (m : Mode) (b : ℕ) → is_locked m ≡ false → Rests (step_of m b)
unfolding disparities_in step_of
step_rests (Hunt bits count) b e = refl
step_rests (Flash part frame) b e = collected_rests (Flash part frame) (collect_of part b) e
step_rests (First part word clock) b e = collected_rests (First part word clock) (collect_of part b) e
step_rests (Prove part read state clock) b e = collected_rests (Prove part read state clock) (collect_of part b) e
step_rests (Locked part results state clock) b e = absurd (false≢true (sym e))

pub sums_rest : SumsRest
unfolding held_part step_of
sums_rest m b (inl e) = step_rests m b e
sums_rest (Hunt bits count) b (inr h) = step_rests (Hunt bits count) b refl
sums_rest (Flash part frame) b (inr h) = part_rests (Flash part frame) part b h
sums_rest (First part word clock) b (inr h) = part_rests (First part word clock) part b h
sums_rest (Prove part read state clock) b (inr h) = part_rests (Prove part read state clock) part b h
sums_rest (Locked part results state clock) b (inr h) = part_rests (Locked part results state clock) part b h

-- ---- lock found

-- where Locked begins, and only there
abbrev Finds : Judged → Type 0
Finds j = is_found j.outcome ≡ is_locked j.mode

-- a mode to which nothing is handed out
abbrev Unlocked : Mode → Type 0
Unlocked m = false ≡ is_locked m

proved_finds : (m : Mode) → Finds (proved m)
proved_finds m = go (is_locked m)
  where
    go : (b : Bool) → is_found (cond b Outcome.Found Outcome.Nothing) ≡ b
    go true = refl
    go false = refl

judged_finds : (m : Mode) (w : ℕ) → is_locked m ≡ false → Finds (judge_of m w)
unfolding judge_of
judged_finds (Hunt bits count) w e = refl
judged_finds (Flash part frame) w e = flash_next Unlocked frame w refl (λ d c. refl)
judged_finds (First part word clock) w e = first_next Unlocked word clock w (λ s c. refl) refl
judged_finds (Prove part read state clock) w e = proved_finds (judge_prove read state clock w)
judged_finds (Locked part results state clock) w e = absurd (false≢true (sym e))

collected_finds : (m : Mode) (g : Collected) → is_locked m ≡ false → ((p : Partial) → Unlocked (holding m p)) → Finds (collected m g)
unfolding collected
collected_finds m (Part p) e h = h p
collected_finds m (Frame w) e h = judged_finds m w e

-- in Locked none is found
by_lock_finds : (l : Option ℕ) (faulty : Bool) (s c w : ℕ) → is_found (locked_by l faulty s c w).outcome ≡ false
unfolding locked_by
by_lock_finds (Some n) true s c w = refl
by_lock_finds (Some n) false s c w = refl
by_lock_finds None faulty s c w = refl

locked_finds : (part : Partial) (results state clock : ℕ) (g : Collected)
    → is_found (collected (Locked part results state clock) g).outcome ≡ false
unfolding collected judge_of judge_locked
locked_finds part results state clock (Part p) = refl
locked_finds part results state clock (Frame w) = by_lock_finds _ _ state clock w

pub found_at_lock : FoundAtLock
unfolding step_of holding
found_at_lock (Hunt bits count) b = hunt_next Unlocked bits count b (λ v n. refl) (λ f. refl)
found_at_lock (Flash part frame) b = collected_finds (Flash part frame) (collect_of part b) refl (λ p. refl)
found_at_lock (First part word clock) b = collected_finds (First part word clock) (collect_of part b) refl (λ p. refl)
found_at_lock (Prove part read state clock) b = collected_finds (Prove part read state clock) (collect_of part b) refl (λ p. refl)
found_at_lock (Locked part results state clock) b = locked_finds part results state clock (collect_of part b)
