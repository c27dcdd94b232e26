-- What is handed out is in its range: samples, and the disparities of frames. Assumes nothing.
use Prim.Native.Nat.{ℕ, ◌^◌, ◌<◌}
use mathlib.Core.Path.{◌≡◌, ap, ◌∙◌}
use mathlib.Core.Bool.{Bool, true, false}
use native.Mathlib.Omega.{arith}
use lib.Bits.{bit_xor, xor_lt}
use borrow.Author.Tests.{le-leb}
use Rattle.frame.specs.Scrambler.{word_of}
use Rattle.frame.specs.Frame.{is_sample, within}
use Rattle.frame.proofs.Laws.{reading_ranges, reading_disparity, disparity_within}
use Rattle.lane_rules.specs.Outcomes.{OutcomeIn}
use Rattle.lane_rules.specs.Receiver.{is_locked}
use Rattle.lane_rules.specs.Judging.{scrambled_of, balance_of, judge_prove, proved, locked_by, judge_locked, judge_of}
use Rattle.lane_rules.specs.Collecting.{collect_of, collected, step_of}
use Rattle.lane_rules.specs.declared.Mode.{Mode}
use Rattle.lane_rules.specs.declared.Mode.TheVariants.{Hunt, Flash, First, Prove, Locked}
use Rattle.std.specs.Prelude.{Option, Some, None}
use Rattle.lane_rules.specs.declared.Collected.{Collected}
use Rattle.lane_rules.specs.declared.Collected.TheVariants.{Frame, Part}
use Rattle.std.proofs.lemmas.Bool.{cond_both}

pub balance_within : (w : ℕ) → within 16 (balance_of w) ≡ true
balance_within w = ap (within 16) (reading_disparity w) ∙ disparity_within w

proved_in_range : (m : Mode) → OutcomeIn (proved m).outcome
proved_in_range m = cond_both (is_locked m) _ _ OutcomeIn (λ e. tt) (λ e. tt)

locked_in_range : (l : Option ℕ) (faulty : Bool) (s c w : ℕ) → OutcomeIn (locked_by l faulty s c w).outcome
unfolding locked_by is_sample
locked_in_range (Some n) true s c w = balance_within w
locked_in_range (Some n) false s c w =
    let x : bit_xor (scrambled_of w) (word_of s) < 2 ^ 14 = xor_lt 14 (scrambled_of w) (word_of s) (omega (arith, (reading_ranges w).1)) (omega arith) in
    (le-leb (bit_xor (scrambled_of w) (word_of s)) 16383 (omega arith), balance_within w)
locked_in_range None faulty s c w = balance_within w

pub judged_in_range : (m : Mode) (w : ℕ) → OutcomeIn (judge_of m w).outcome
unfolding judge_of judge_locked
judged_in_range (Hunt bits count) w = tt
judged_in_range (Flash part frame) w = tt
judged_in_range (First part word clock) w = tt
judged_in_range (Prove part read state clock) w = proved_in_range (judge_prove read state clock w)
judged_in_range (Locked part results state clock) w =
    locked_in_range _ _ state clock w

collected_in_range : (m : Mode) (g : Collected) → OutcomeIn (collected m g).outcome
unfolding collected
collected_in_range m (Part p) = tt
collected_in_range m (Frame w) = judged_in_range m w

pub step_in_range : (m : Mode) (b : ℕ) → OutcomeIn (step_of m b).outcome
unfolding step_of
step_in_range (Hunt bits count) b = tt
step_in_range (Flash p f) b = collected_in_range (Flash p f) (collect_of p b)
step_in_range (First p d k) b = collected_in_range (First p d k) (collect_of p b)
step_in_range (Prove p r s k) b = collected_in_range (Prove p r s k) (collect_of p b)
step_in_range (Locked p f s k) b = collected_in_range (Locked p f s k) (collect_of p b)
