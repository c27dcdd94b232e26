-- Each entry to Hunt starts with no bits. Assumes nothing.
use Prim.Native.Nat.{ℕ}
use mathlib.Core.Path.{◌≡◌, refl, sym, ap}
use mathlib.Core.Bool.{true, false}
use Rattle.lane_rules.specs.Receiver.{hunting}
use Rattle.lane_rules.specs.Judging.{judge_locked, judge_of}
use Rattle.lane_rules.specs.Collecting.{holding, step_of}
use Rattle.lane_rules.specs.LockedFrames.{is_hunt}
use Rattle.lane_rules.specs.Promise.{HuntStartsEmpty}
use Rattle.lane_rules.specs.declared.Mode.{Mode}
use Rattle.lane_rules.specs.declared.Mode.TheVariants.{Hunt, Flash, First, Prove, Locked}
use Rattle.lane_rules.specs.declared.Receiver.{Receiver}
use Rattle.lane_rules.proofs.Basics.Tables.{impossible}
use Rattle.lane_rules.proofs.Modes.NextModes.{flash_next, first_next, prove_next, locked_next, collected_next}
use Rattle.lane_rules.proofs.Feeding.ReceiverLists.{sync_record}

-- a mode that is Hunt has no bits
abbrev Empty : Mode → Type 0
Empty m = is_hunt m ≡ true → m ≡ hunting

enters_empty : (m : Mode) (b : ℕ) → is_hunt m ≡ false → Empty (step_of m b).mode
unfolding step_of holding judge_of judge_locked
enters_empty (Hunt bits count) b e = impossible (sym e)
enters_empty (Flash p held) b e =
    collected_next Empty (Flash p held) p b (λ k. impossible) (λ k. flash_next Empty held _ impossible (λ d c. impossible))
enters_empty (First p word clock) b e =
    collected_next Empty (First p word clock) p b (λ k. impossible) (λ k. first_next Empty word clock _ (λ s c. impossible) (λ h. refl))
enters_empty (Prove p read state clock) b e =
    collected_next Empty (Prove p read state clock) p b (λ k. impossible)
    (λ k. prove_next Empty read state clock _ (λ n s c. impossible) (λ s c. impossible) (λ h. refl))
enters_empty (Locked p results state clock) b e =
    collected_next Empty (Locked p results state clock) p b (λ k. impossible)
    (λ k. locked_next Empty _ _ state clock _ (λ n s c. impossible) (λ h. refl))

pub hunt_starts_empty : HuntStartsEmpty
hunt_starts_empty = record {
  by_bit = enters_empty;
  by_sync = λ rx good. ap (λ (r : Receiver). r.mode) (sync_record rx good);
}
