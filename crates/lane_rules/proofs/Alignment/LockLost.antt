-- The alignment pattern loses every lock: of its frames, at any bit offset, each second one is faulty. Assumes nothing.
use Prim.Native.Nat.{ℕ, zero, suc, ◌+◌, ◌*◌, ◌-◌, ◌^◌, ◌≤◌, ◌<◌}
use mathlib.Core.Path.{◌≡◌, refl, ap, sym, subst, ◌∙◌}
use mathlib.Core.Bool.{Bool, true, false, not}
use native.Mathlib.Omega.{arith}
use lib.Dec.{eqb}
use borrow.Author.Tests.{eq-eqb, ne_eqb, eqb-true, eqb-false}
use Rattle.frame.specs.Frame.{reading_of, content_in}
use Rattle.lane_rules.specs.Receiver.{no_bits, hunting, results_admitted}
use Rattle.lane_rules.specs.Judging.{clock_of, is_faulty, fault_rule, locked_by, judge_locked, judge_of}
use Rattle.lane_rules.specs.declared.Partial.{Partial}
use Rattle.lane_rules.specs.declared.Mode.{Mode}
use Rattle.lane_rules.specs.declared.Mode.TheVariants.{Locked}
use Rattle.std.specs.Prelude.{Option, Some, None}
use Rattle.lane_rules.proofs.Modes.ModeRecord.{Admitted}
use Rattle.lane_rules.proofs.Modes.FaultRule.{no_results, results_kept, LosesWithin, now, later, seven_lose, eight_lose}
use Rattle.lane_rules.proofs.Modes.AdmittedKept.{clock_range}
use Rattle.lane_rules.proofs.Alignment.AlignmentPattern.{frame_at, reads_same}
use Rattle.lane_rules.proofs.Alignment.AlignedRuns.{HuntsWithin, hunts_now, hunts_later, hunts_part, hunts_frame}

-- two whole frames of the pattern, one after the other, have the same clock bit: n bits are left after one, k after the next
pub next_same_clock : (P : ℕ → Type 0) (n : ℕ) → 16 ≤ n
    → ((k : ℕ) → n ≡ 16 + k → clock_of (frame_at k) ≡ clock_of (frame_at n) → P (16 + k)) → P n
next_same_clock P n h f =
    let k : ℕ = n - 16 in
    let e : 16 + k ≡ n = omega arith in
    let same : content_in (reading_of (frame_at k)) ≡ content_in (reading_of (frame_at n)) =
    sym (reads_same k) ∙ ap (λ (i : ℕ). content_in (reading_of (frame_at i))) e in
    subst P e (f k (sym e) (ap (λ (r : ℕ × ℕ). r.0) same))

-- with the expected clock bit toggled, a clock bit is faulty where it was sound, and the other way round
other_turn : (x c : ℕ) → x ≤ 1 → c ≤ 1 → eqb x (1 - c) ≡ not (eqb x c)
other_turn x c h k = go (eqb x c) refl
  where
    go : (t : Bool) → eqb x c ≡ t → eqb x (1 - c) ≡ not t
    go true e = ne_eqb x (1 - c) (λ d. omega (arith, eqb-true x c e))
    go false e = eq-eqb x (1 - c) (let d : x ≡ c → ⊥ = eqb-false x c e in omega arith)

-- what a frame w that is faulty or not does to Locked with no bits held
module _ (r s c w : ℕ) (t : Bool) (d : is_faulty c w ≡ t) where
  judged_lost : fault_rule r t ≡ None → hunting ≡ (judge_of (Locked no_bits r s c) w).mode
  unfolding judge_of judge_locked locked_by
  judged_lost e = rw (d, e)

  -- whatever the state then is
  judged_kept : (P : Mode → Type 0) (q : ℕ) → fault_rule r t ≡ Some q → ((z : ℕ) → P (Locked no_bits q z (1 - c)))
      → P (judge_of (Locked no_bits r s c) w).mode
  unfolding judge_of judge_locked locked_by
  judged_kept P q e f = rw (d, e) (go t)
    where
      go : (u : Bool) → P (locked_by (Some q) u s c w).mode
      go true = f _
      go false = f _

some_frame : {k r : ℕ} {t : Bool} → LosesWithin k t r → 1 ≤ k
some_frame (now e) = omega arith
some_frame (later e l) = omega arith

-- frames of the pattern are faulty and sound in turn
turns : (k r s c n : ℕ) (t : Bool) → LosesWithin k t r → c ≤ 1 → 16 * k ≤ 16 + n → is_faulty c (frame_at n) ≡ t
    → HuntsWithin (16 * k) (Locked no_bits r s c) (16 + n)
turns k r s c n t (now {n = j} e) h l d =
    hunts_later (16 + 0) (16 * suc j) (16 + n) _ (omega arith)
    (hunts_frame (Locked no_bits r s c) 0 n tt refl
    (subst (λ (m : Mode). HuntsWithin 0 m n) (judged_lost r s c (frame_at n) t d e) (hunts_now 0 n)))
turns k r s c n t (later {n = j} {q = q} e g) h l d =
    subst (λ (i : ℕ). HuntsWithin i (Locked no_bits r s c) (16 + n)) (let a : 16 + 16 * j ≡ 16 * suc j = omega arith in a)
    (hunts_frame (Locked no_bits r s c) (16 * j) n tt refl
    (judged_kept r s c (frame_at n) t d (λ (m : Mode). HuntsWithin (16 * j) m n) q e
    (λ z. next_same_clock (HuntsWithin (16 * j) (Locked no_bits q z (1 - c))) n (omega (arith, some_frame g))
    (λ i b same. turns j q z (1 - c) i (not t) g (omega arith) (omega arith)
    (ap not (ap (λ (x : ℕ). eqb x (1 - c)) same ∙ other_turn (clock_of (frame_at n)) c (clock_range (frame_at n)) h) ∙ ap not d)))))

-- just locked on a frame of the pattern, the next one is faulty
pub just_locked_hunts : (s n : ℕ) → 16 * 7 ≤ n → HuntsWithin (16 * 7) (Locked no_bits 0 s (1 - clock_of (frame_at n))) n
just_locked_hunts s n h =
    next_same_clock (HuntsWithin (16 * 7) (Locked no_bits 0 s (1 - clock_of (frame_at n)))) n (omega arith)
    (λ k b same. turns 7 0 s (1 - clock_of (frame_at n)) k true (seven_lose 0 no_results) (omega arith) (omega arith)
    (ap not (ne_eqb (clock_of (frame_at k)) (1 - clock_of (frame_at n)) (λ e. omega (arith, clock_range (frame_at n))))))

-- any lock, with no bits held
pub locked_hunts : (r s c n : ℕ) → results_admitted r ≡ true → c ≤ 1 → 16 * 8 ≤ n → HuntsWithin (16 * 8) (Locked no_bits r s c) n
locked_hunts r s c n a h l =
    let e : 16 + (n - 16) ≡ n = omega arith in
    subst (HuntsWithin (16 * 8) (Locked no_bits r s c)) e
    (turns 8 r s c (n - 16) _ (eight_lose r a (is_faulty c (frame_at (n - 16)))) h (omega arith) refl)

-- with bits held: after the frame that they begin
judged_hunts : (p : Partial) (r s c w n : ℕ) → 16 * 8 ≤ n → HuntsWithin (16 * 8) (judge_of (Locked p r s c) w).mode n
unfolding judge_of judge_locked locked_by
judged_hunts p r s c w n h = go (fault_rule r (is_faulty c w)) (is_faulty c w) refl
  where
    go : (l : Option ℕ) (t : Bool) → fault_rule r (is_faulty c w) ≡ l → HuntsWithin (16 * 8) (locked_by l t s c w).mode n
    go (Some q) true e = locked_hunts q _ (1 - c) n (results_kept r q _ e) (omega arith) h
    go (Some q) false e = locked_hunts q _ (1 - c) n (results_kept r q _ e) (omega arith) h
    go None t e = hunts_now (16 * 8) n

-- From any admitted lock, at any bit offset, the pattern loses lock within one part frame and eight whole ones.
pub locked_hunts_within : (p : Partial) (r s c n : ℕ) → Admitted (Locked p r s c) → 15 + 16 * 8 ≤ n
    → HuntsWithin (15 + 16 * 8) (Locked p r s c) n
locked_hunts_within p r s c n a h = go p.count refl
  where
    go : (k : ℕ) → p.count ≡ k → HuntsWithin (15 + 16 * 8) (Locked p r s c) n
    go zero e =
        let none : p.bits < 2 ^ 0 = subst (λ (i : ℕ). p.bits < 2 ^ i) e a.0.1 in
        let is : p.bits ≡ 0 = omega arith in
        hunts_later (16 * 8) (15 + 16 * 8) n _ (omega arith)
        (subst (λ (q : Partial). HuntsWithin (16 * 8) (Locked q r s c) n) (λ i. record { bits = sym is i; count = sym e i })
        (locked_hunts r s c n a.1 a.3 (omega arith)))
    go (suc k) e =
        let j : ℕ = 15 - p.count in
        let rest : ℕ = n - suc j in
        let whole : suc j + rest ≡ n = omega arith in
        subst (HuntsWithin (15 + 16 * 8) (Locked p r s c)) whole
        (hunts_later (suc j + 16 * 8) (15 + 16 * 8) (suc j + rest) _ (omega arith)
        (hunts_part (Locked p r s c) j (16 * 8) rest tt (omega (arith, a.0.0)) (judged_hunts p r s c _ rest (omega arith))))
