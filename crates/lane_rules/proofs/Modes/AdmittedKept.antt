-- Whatever bits come, an admitted mode stays admitted: promise 6. Assumes nothing.
use Prim.Native.Nat.{ℕ, ◌+◌, ◌-◌, ◌*◌, ◌/◌, ◌%◌, ◌^◌, ◌≤◌, ◌<◌}
use mathlib.Core.Path.{◌≡◌, refl}
use mathlib.Core.Bool.{Bool, true, false, not}
use mathlib.Core.Logic.{◌⊎◌, inl, inr, ⊎_elim}
use mathlib.Core.List.{[], ◌∷◌}
use native.Mathlib.Omega.{arith}
use borrow.Author.Tests.{ltb-true, ltb-false, eqb-true, not-true, eqb-false}
use lib.Dec.{ltb, eqb}
use Rattle.frame.specs.Scrambler.{is_state, next_state}
use Rattle.frame.specs.Frame.{inverted}
use Rattle.std.specs.Cmp.{first_so, second_so}
use Rattle.frame.proofs.Laws.{next_keeps_state, reading_ranges, in_state_range}
use Rattle.lane_rules.specs.Line.{AreBits}
use Rattle.lane_rules.specs.Sender.{proving_frames}
use Rattle.lane_rules.specs.Receiver.{no_bits, results_admitted, mode_admitted, most_read}
use Rattle.lane_rules.specs.Judging.{clock_of, scrambled_of, judge_flash, recovered, proves, first_by, judge_first, prove_by, judge_prove, locked_by, judge_locked, judge_of}
use Rattle.lane_rules.specs.Collecting.{alignment_pair, is_alignment, hunt_with, hunt_of, collect_of, holding, collected, step_of}
use Rattle.lane_rules.specs.Feeding.{run_of}
use Rattle.lane_rules.specs.Promise.{AdmittedKept}
use Rattle.lane_rules.specs.declared.Partial.{Partial}
use Rattle.lane_rules.specs.declared.Mode.{Mode}
use Rattle.lane_rules.specs.declared.Mode.TheVariants.{Hunt, Flash, First, Prove, Locked}
use Rattle.std.specs.Prelude.{Option, Some, None}
use Rattle.lane_rules.specs.declared.Collected.{Collected}
use Rattle.lane_rules.specs.declared.Collected.TheVariants.{Frame, Part}
use Rattle.lane_rules.proofs.Basics.Bits.{place_lt}
use Rattle.lane_rules.proofs.Basics.Tests.{is_one_of}
use Rattle.std.proofs.lemmas.Bool.{cond_both}
use Rattle.lane_rules.proofs.Modes.FaultRule.{no_results, results_kept}
use Rattle.lane_rules.proofs.Modes.ModeRecord.{PartIn, Admitted, admitted_facts, facts_admitted}

-- the recovered state is a state unless it is 0
pub recovered_state : (p q : ℕ) → p ≤ 16383 → eqb (p + 16384 * (q % 8)) 0 ≡ false → is_state (p + 16384 * (q % 8)) ≡ true
recovered_state p q h k = let n = eqb-false (p + 16384 * (q % 8)) 0 k in in_state_range _ (omega arith) (omega arith)

none_in : PartIn no_bits
none_in = (omega arith, omega arith)

pub clock_range : (w : ℕ) → clock_of w ≤ 1
clock_range w = (reading_ranges w).0

data_range : (w : ℕ) → scrambled_of w ≤ 16383
data_range w = (reading_ranges w).1

-- ---- Hunt

pub pair_half : (v : ℕ) → alignment_pair v ≡ true → (v / 2 ^ 16 ≡ 0xFF00) ⊎ (v / 2 ^ 16 ≡ 0x00FF)
unfolding alignment_pair
pair_half v e = ⊎_elim (λ h. inr (omega arith)) (λ h. inl (omega arith)) (is_one_of v _ _ e)

hunt_with_kept : (v n : ℕ) → n ≤ 32 → v < 2 ^ n → Admitted (hunt_with v n)
unfolding hunt_with
hunt_with_kept v n h k =
    cond_both (is_alignment v n) (Flash no_bits (v / 2 ^ 16)) (Hunt v n) Admitted
    (λ e. (none_in, pair_half v (second_so (eqb n 32) (alignment_pair v) e)))
    (λ e. (h, k))

hunt_kept : (v n b : ℕ) → n ≤ 32 → v < 2 ^ n → b < 2 → Admitted (hunt_of v n b)
unfolding hunt_of
hunt_kept v n b h k l =
    cond_both (ltb n 32) (hunt_with (v + b * 2 ^ n) (n + 1)) (hunt_with (v / 2 + b * 2 ^ 31) 32) Admitted
    (λ e. hunt_with_kept (v + b * 2 ^ n) (n + 1) (omega (arith, ltb-true n 32 e)) (place_lt v n b k l))
    (λ e. let f : n ≡ 32 =
    omega (arith, ltb-false n 32 e) in hunt_with_kept (v / 2 + b * 2 ^ 31) 32 (omega arith) (omega (arith, rw f at k)))

-- ---- the frames judged

pub flash_kept : (f w : ℕ) → (f ≡ 0xFF00) ⊎ (f ≡ 0x00FF) → Admitted (judge_flash f w)
unfolding judge_flash
flash_kept f w h =
    cond_both (eqb w (inverted f)) (Flash no_bits w) (First no_bits (scrambled_of w) (clock_of w)) Admitted
    (λ e. let g : w ≡ 65535 - f = eqb-true _ _ e in (none_in, ⊎_elim (λ x. inr (omega arith)) (λ x. inl (omega arith)) h))
    (λ e. (none_in, data_range w, clock_range w))

first_by_kept : (t : Bool) (s c : ℕ) → (t ≡ true → is_state s ≡ true) → c ≤ 1 → Admitted (first_by t s c)
unfolding first_by
first_by_kept true s c h k =
    (none_in, omega arith, omega arith, next_keeps_state (next_state s) (next_keeps_state s (h refl)), k)
first_by_kept false s c h k = (omega arith, omega arith)

first_kept : (p c w : ℕ) → p ≤ 16383 → Admitted (judge_first p c w)
unfolding judge_first proves recovered
first_kept p c w h =
    first_by_kept _ (p + 16384 * (scrambled_of w % 8)) (clock_of w)
    (λ e. recovered_state p (scrambled_of w) h
    (not-true _ (first_so _ _ (second_so (not (eqb (clock_of w) c)) _ e)))) (clock_range w)

prove_by_kept : (t : Bool) (n s c : ℕ) → 2 ≤ n → is_state s ≡ true → c ≤ 1 → Admitted (prove_by t n s c)
unfolding prove_by proving_frames
prove_by_kept true n s c h k l =
    cond_both (ltb n most_read) (Prove no_bits (n + 1) (next_state s) c) (Locked no_bits 0 (next_state s) (1 - c)) Admitted
    (λ e. (none_in, omega arith, omega (arith, ltb-true n most_read e), next_keeps_state s k, l))
    (λ e. (none_in, no_results, next_keeps_state s k, omega arith))
prove_by_kept false n s c h k l = (omega arith, omega arith)

locked_by_kept : (l : Option ℕ) (faulty : Bool) (s c w : ℕ) → ((n : ℕ) → l ≡ Some n → results_admitted n ≡ true)
    → is_state s ≡ true → c ≤ 1 → Admitted (locked_by l faulty s c w).mode
unfolding locked_by
locked_by_kept (Some n) true s c w h k l = (none_in, h n refl, next_keeps_state s k, omega arith)
locked_by_kept (Some n) false s c w h k l = (none_in, h n refl, next_keeps_state s k, omega arith)
locked_by_kept None faulty s c w h k l = (omega arith, omega arith)

pub judge_kept : (m : Mode) (w : ℕ) → Admitted m → Admitted (judge_of m w).mode
unfolding judge_of judge_prove judge_locked
judge_kept (Hunt bits count) w a = a
judge_kept (Flash part frame) w a = flash_kept frame w a.1
judge_kept (First part word clock) w a = first_kept word clock w a.1
judge_kept (Prove part read state clock) w a = prove_by_kept _ read state (clock_of w) a.1 a.3 (clock_range w)
judge_kept (Locked part results state clock) w a =
    locked_by_kept _ _ state clock w (λ n e. results_kept _ n _ e) a.2 a.3

-- ---- one bit

holding_kept : (m : Mode) (p : Partial) → Admitted m → PartIn p → Admitted (holding m p)
unfolding holding
holding_kept (Hunt bits count) p a h = a
holding_kept (Flash part frame) p a h = (h, a.1)
holding_kept (First part word clock) p a h = (h, a.1, a.2)
holding_kept (Prove part read state clock) p a h = (h, a.1, a.2, a.3, a.4)
holding_kept (Locked part results state clock) p a h = (h, a.1, a.2, a.3)

part_kept : (m : Mode) (p : Partial) → Admitted m → PartIn p → Admitted (collected m (Part p)).mode
unfolding collected
part_kept m p a h = holding_kept m p a h

frame_kept : (m : Mode) (w : ℕ) → Admitted m → Admitted (collected m (Frame w)).mode
unfolding collected
frame_kept m w a = judge_kept m w a

collected_kept : (m : Mode) (p : Partial) (b : ℕ) → Admitted m → PartIn p → b < 2 → Admitted (collected m (collect_of p b)).mode
unfolding collect_of
collected_kept m p b a h l =
    let bits = p.bits + b * 2 ^ p.count in
    cond_both (ltb p.count 15) (Part (record { bits = bits; count = p.count + 1 })) (Frame bits) (λ (g : Collected). Admitted (collected m g).mode)
    (λ e. part_kept m _ a (omega (arith, ltb-true p.count 15 e), place_lt p.bits p.count b h.1 l))
    (λ e. frame_kept m bits a)

step_facts : (m : Mode) (b : ℕ) → Admitted m → b < 2 → Admitted (step_of m b).mode
unfolding step_of
step_facts (Hunt bits count) b a l = hunt_kept bits count b a.0 a.1 l
step_facts (Flash p f) b a l = collected_kept (Flash p f) p b a a.0 l
step_facts (First p d k) b a l = collected_kept (First p d k) p b a a.0 l
step_facts (Prove p r s k) b a l = collected_kept (Prove p r s k) p b a a.0 l
step_facts (Locked p f s k) b a l = collected_kept (Locked p f s k) p b a a.0 l

pub step_kept : (m : Mode) (b : ℕ) → mode_admitted m ≡ true → b < 2 → mode_admitted (step_of m b).mode ≡ true
step_kept m b e l = facts_admitted _ (step_facts m b (admitted_facts m e) l)

pub admitted_kept : AdmittedKept
unfolding run_of AreBits
admitted_kept m [] e h = e
admitted_kept m (b ∷ bs) e h = admitted_kept (step_of m b).mode bs (step_kept m b e h.0) h.1
