-- A receiver that hunted with no bits held goes into Locked only where its bits end in bits that lock. Assumes nothing.
use Prim.Native.Nat.{ℕ, suc, ◌+◌, ◌-◌, ◌*◌, ◌<◌}
use mathlib.Core.Path.{◌≡◌, ap, sym, subst, ◌∙◌}
use mathlib.Core.Bool.{Bool, true, false}
use mathlib.Core.List.{List, [], ◌∷◌, ◌++◌, append_assoc, append-nil}
use native.Mathlib.Omega.{arith}
use lib.ListN.{length, length-append}
use Rattle.frame.specs.Scrambler.{next_state, state_after}
use Rattle.lane_rules.specs.Line.{AreBits}
use Rattle.lane_rules.specs.Receiver.{no_bits, hunting, is_locked}
use Rattle.lane_rules.specs.Judging.{locked_by, judge_locked, judge_of}
use Rattle.lane_rules.specs.Collecting.{holding, step_of}
use Rattle.lane_rules.specs.Feeding.{run_of}
use Rattle.lane_rules.specs.Locking.{LockedSince}
use Rattle.lane_rules.specs.Promise.{OnlySequencesLock, LockedFollows}
use Rattle.lane_rules.specs.declared.Partial.{Partial}
use Rattle.lane_rules.specs.declared.Mode.{Mode}
use Rattle.lane_rules.specs.declared.Mode.TheVariants.{Hunt, Flash, First, Prove, Locked}
use Rattle.std.specs.Prelude.{Option, Some, None}
use Rattle.lane_rules.proofs.Basics.Tables.{impossible}
use Rattle.lane_rules.proofs.Modes.NextModes.{hunt_next, flash_next, first_next, collected_next}
use Rattle.lane_rules.proofs.Locking.LockingFrames.{Aligned, OneRead, Following}
use Rattle.lane_rules.proofs.Locking.SeenBits.{with_bit, held_more}
use Rattle.lane_rules.proofs.Locking.SeenModes.{Seen, Enters, hunting_seen, hunt_seen, flash_seen, first_seen, prove_seen, prove_enters}

-- ---- Locked

module _ (p : Partial) (state clock b : ℕ) (done : List ℕ) (l : LockedSince p state clock done) where
  since_more : length (l.since ++ (b ∷ [])) ≡ 16 * l.judged + p.count + 1
  since_more = length-append l.since (b ∷ []) ∙ ap (λ (k : ℕ). k + 1) l.since_is

  more_parts : done ++ (b ∷ []) ≡ l.until ++ (l.since ++ (b ∷ []))
  more_parts = ap (λ (x : List ℕ). x ++ (b ∷ [])) l.parts ∙ append_assoc l.until l.since (b ∷ [])

  part_since : LockedSince (with_bit p b) state clock (done ++ (b ∷ []))
  part_since = record {
    until = l.until;
    since = l.since ++ (b ∷ []);
    parts = more_parts;
    first_state = l.first_state;
    first_clock = l.first_clock;
    locked = l.locked;
    judged = l.judged;
    since_is = omega (arith, since_more);
    state_is = l.state_is;
    clock_is = l.clock_is;
  }

  frame_since : p.count ≡ 15 → LockedSince no_bits (next_state state) (1 - clock) (done ++ (b ∷ []))
  unfolding state_after
  frame_since h = record {
    until = l.until;
    since = l.since ++ (b ∷ []);
    parts = more_parts;
    first_state = l.first_state;
    first_clock = l.first_clock;
    locked = l.locked;
    judged = suc l.judged;
    since_is = omega (arith, since_more);
    state_is = ap next_state l.state_is;
    clock_is = omega (arith, l.clock_is);
  }

  locked_seen : (r : Option ℕ) (faulty : Bool) (w : ℕ) → p.count ≡ 15 → Seen (locked_by r faulty state clock w).mode (done ++ (b ∷ []))
  unfolding locked_by
  locked_seen (Some n) true w h = (omega arith, frame_since h)
  locked_seen (Some n) false w h = (omega arith, frame_since h)
  locked_seen None faulty w h = hunting_seen _

-- ---- one bit, and any bits

-- what holds of a mode and the bits done, once the bit b has come
abbrev After : (Mode → List ℕ → Type 0) → ℕ → List ℕ → Mode → Type 0
After P b done m = P m (done ++ (b ∷ []))

step_seen : (m : Mode) (b : ℕ) (done : List ℕ) → b < 2 → Seen m done → Seen (step_of m b).mode (done ++ (b ∷ []))
unfolding step_of holding judge_of judge_locked
step_seen (Hunt bits count) b done h s = hunt_seen bits count b done h s.0 s.1
step_seen (Flash p held) b done h s =
    collected_next (After Seen b done) (Flash p held) p b (λ k. held_more p b done h (Aligned held) s k) (λ k. flash_seen p b done h k held s)
step_seen (First p word clock) b done h s =
    collected_next (After Seen b done) (First p word clock) p b (λ k. held_more p b done h (OneRead word clock) s k)
    (λ k. first_seen p b done h k word clock s)
step_seen (Prove p read state clock) b done h s =
    collected_next (After Seen b done) (Prove p read state clock) p b
    (λ k. (s.0, held_more p b done h (Following read state clock) s.1 k)) (λ k. prove_seen p b done h k read state clock s.0 s.1)
step_seen (Locked p results state clock) b done h s =
    collected_next (After Seen b done) (Locked p results state clock) p b (λ k. (omega arith, part_since p state clock b done s.1))
    (λ k. locked_seen p state clock b done s.1 _ _ _ (omega (arith, s.0)))

run_seen : (m : Mode) (bits done : List ℕ) → AreBits bits → Seen m done → Seen (run_of m bits).mode (done ++ bits)
unfolding run_of AreBits
run_seen m [] done h s = subst (Seen m) (sym (append-nil done)) s
run_seen m (b ∷ bs) done h s =
    subst (Seen (run_of (step_of m b).mode bs).mode) (append_assoc done (b ∷ []) bs)
    (run_seen (step_of m b).mode bs (done ++ (b ∷ [])) h.1 (step_seen m b done h.0 s))

hunted_seen : (bits : List ℕ) → AreBits bits → Seen (run_of hunting bits).mode bits
hunted_seen bits h = run_seen hunting bits [] h (hunting_seen [])

pub locked_follows : LockedFollows
locked_follows bits part results state clock h e =
    let s : Seen (Locked part results state clock) bits = subst (λ (m : Mode). Seen m bits) e (hunted_seen bits h) in
    s.1

step_enters : (m : Mode) (b : ℕ) (done : List ℕ) → b < 2 → is_locked m ≡ false → Seen m done → Enters (step_of m b).mode (done ++ (b ∷ []))
unfolding step_of holding judge_of
step_enters (Hunt bits count) b done h l s =
    hunt_next (After Enters b done) bits count b (λ v n. tt) (λ f. tt)
step_enters (Flash p held) b done h l s =
    collected_next (After Enters b done) (Flash p held) p b (λ k. tt)
    (λ k. flash_next (After Enters b done) held _ tt (λ d c. tt))
step_enters (First p word clock) b done h l s =
    collected_next (After Enters b done) (First p word clock) p b (λ k. tt)
    (λ k. first_next (After Enters b done) word clock _ (λ t c. tt) tt)
step_enters (Prove p read state clock) b done h l s =
    collected_next (After Enters b done) (Prove p read state clock) p b (λ k. tt)
    (λ k. prove_enters p b done h k read state clock s.0 s.1)
step_enters (Locked p results state clock) b done h l s = impossible (sym l)

pub only_sequences_lock : OnlySequencesLock
only_sequences_lock bits b part results state clock h small hunted e =
    subst (λ (m : Mode). Enters m (bits ++ (b ∷ []))) e (step_enters (run_of hunting bits).mode b bits small hunted (hunted_seen bits h))
