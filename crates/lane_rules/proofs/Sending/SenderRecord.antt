-- The sender's record: what its test of admission shows, the answers on a seed and on starting, and that SYNC and a frame keep a record
-- admitted. Assumes nothing.
use Prim.Native.Nat.{ℕ, ◌+◌, ◌%◌, ◌≤◌, ◌<◌}
use mathlib.Core.Path.{◌≡◌, refl, sym, ap, ◌∙◌}
use mathlib.Core.Bool.{Bool, true, false, not, cond, ◌&&◌, false≢true}
use native.Mathlib.Omega.{arith}
use lib.Dec.{leb, ltb, eqb}
use borrow.Author.Tests.{leb-true, le-leb, lt-ltb, le-ltb, ltb-true, ltb-false, eqb-true, eq-eqb}
use Rattle.std.specs.Prelude.{Result, Ok, Err, is_ok}
use Rattle.refusal.specs.declared.Refusal.{Refusal}
use Rattle.frame.specs.Scrambler.{is_state, word_of}
use Rattle.frame.specs.Seeds.{permitted, seed_answer}
use Rattle.frame.specs.Frame.{is_sample, is_clock, within, build_answer}
use Rattle.frame.specs.Answers.{checked_values, built_values}
use Rattle.std.specs.Cmp.{first_so, second_so}
use Rattle.frame.proofs.Laws.{taken_permitted, permitted_state, next_keeps_state, build_taken, new_r_within}
use Rattle.lane_rules.specs.Sender.{alignment_frames, smallest_alignment, largest_alignment, alignment_step, alignment_permitted, proving_frames}
use Rattle.lane_rules.specs.Sender.{sequence_frames, sender_admitted}
use Rattle.lane_rules.specs.Sender.{fresh_sender, ready_with, started_with, start_with_answer, started_by, start_answer, started_values}
use Rattle.lane_rules.specs.Sender.{synced, sync_answer, sender_synced}
use Rattle.lane_rules.specs.Sender.{next_position, alignment_next, scrambled_next, next_frame}
use Rattle.lane_rules.specs.declared.Sender.{Sender}

-- a permitted number of alignment frames
pub alignment_in : (n : ℕ) → alignment_permitted n ≡ true → (n % alignment_step ≡ 0) × (smallest_alignment ≤ n) × (n ≤ largest_alignment)
unfolding alignment_permitted
alignment_in n h =
    let a = first_so (eqb (n % alignment_step) 0 && leb smallest_alignment n) _ h in (
      eqb-true (n % alignment_step) 0 (first_so (eqb (n % alignment_step) 0) _ a),
      leb-true smallest_alignment n (second_so (eqb (n % alignment_step) 0) _ a),
      leb-true n largest_alignment (second_so (eqb (n % alignment_step) 0 && leb smallest_alignment n) _ h),
    )

pub in_alignment : (n : ℕ) → n % alignment_step ≡ 0 → smallest_alignment ≤ n → n ≤ largest_alignment → alignment_permitted n ≡ true
unfolding alignment_permitted
in_alignment n h k l = simp (eq-eqb (n % alignment_step) 0 h, le-leb smallest_alignment n k, le-leb n largest_alignment l)

-- the facts of an admitted record
pub record Admitted (t : Sender) : Type 0 where
  pub seed_permitted : permitted t.seed ≡ true
  pub state_good : is_state t.state ≡ true
  pub clock_max : t.clock ≤ 1
  pub r_within : within 16 t.r ≡ true
  pub alignment_even : t.alignment % alignment_step ≡ 0
  pub alignment_min : smallest_alignment ≤ t.alignment
  pub alignment_max : t.alignment ≤ largest_alignment
  pub position_max : t.position ≤ t.alignment + 32

pub admitted_facts : (t : Sender) → sender_admitted t ≡ true → Admitted t
unfolding sender_admitted is_clock sequence_frames alignment_frames proving_frames
admitted_facts t h =
    let a = second_so (permitted t.seed) _ h in
    let b = second_so (is_state t.state) _ a in
    let c = second_so (is_clock t.clock) _ b in
    let d = second_so (within 16 t.r) _ c in
    let e = alignment_in t.alignment (first_so (alignment_permitted t.alignment) _ d) in
    record {
      seed_permitted = first_so (permitted t.seed) _ h;
      state_good = first_so (is_state t.state) _ a;
      clock_max = leb-true t.clock 1 (first_so (is_clock t.clock) _ b);
      r_within = first_so (within 16 t.r) _ c;
      alignment_even = e.0;
      alignment_min = e.1;
      alignment_max = e.2;
      position_max = leb-true t.position (t.alignment + 32) (second_so (alignment_permitted t.alignment) _ d);
    }

pub facts_admitted : (t : Sender) → Admitted t → sender_admitted t ≡ true
unfolding sender_admitted is_clock sequence_frames alignment_frames proving_frames
facts_admitted t a =
    simp (
      a.seed_permitted,
      a.state_good,
      le-leb t.clock 1 a.clock_max,
      a.r_within,
      in_alignment t.alignment a.alignment_even a.alignment_min a.alignment_max,
      le-leb t.position (t.alignment + 32) a.position_max,
    )

-- ---- the test of a seed

-- the seed is taken just where it is permitted
pub seed_tested : (s : ℕ) → is_ok (seed_answer s) ≡ permitted s
unfolding permitted seed_answer
seed_tested s = go (is_state s) (eqb (word_of s) 0x00FF)
  where
    go : (a b : Bool) → is_ok (cond a (cond b (Err Refusal.SeedWord) (Ok (tt {0}))) (Err Refusal.SeedRange)) ≡ (a && not b)
    go true true = refl
    go true false = refl
    go false b = refl

pub permitted_by_answer : (s : ℕ) (u : Unit) → seed_answer s ≡ Ok u → permitted s ≡ true
permitted_by_answer s u e = sym (seed_tested s) ∙ ap is_ok e

pub refused_by_answer : (s : ℕ) (n : Refusal) → seed_answer s ≡ Err n → permitted s ≡ false
refused_by_answer s n e = sym (seed_tested s) ∙ ap is_ok e

-- ---- starting

pub start_is_start_with : (seed : ℕ) → start_answer seed ≡ start_with_answer seed 32
unfolding start_answer started_by start_with_answer started_with ready_with alignment_permitted
start_is_start_with seed = go (seed_answer seed)
  where
    go : (c : Result Unit Refusal) → started_by c seed ≡ started_with c seed 32
    go (Ok _) = refl
    go (Err n) = refl

pub fresh_admitted : (seed n : ℕ) → permitted seed ≡ true → alignment_permitted n ≡ true → Admitted (fresh_sender seed n)
unfolding fresh_sender within
fresh_admitted seed n h k =
    let a = alignment_in n k in
    record {
      seed_permitted = h;
      state_good = permitted_state seed h;
      clock_max = omega arith;
      r_within = refl;
      alignment_even = omega (arith, a.0);
      alignment_min = omega (arith, a.1);
      alignment_max = omega (arith, a.2);
      position_max = omega arith;
    }

-- what is taken gives a fresh record
pub started_fresh : (seed n : ℕ) (t : Sender) → started_values (start_with_answer seed n) ≡ (0, t)
    → (permitted seed ≡ true) × (alignment_permitted n ≡ true) × (fresh_sender seed n ≡ t)
unfolding start_with_answer started_with ready_with
started_fresh seed n t e = go (seed_answer seed) refl (alignment_permitted n) refl e
  where
    go : (c : Result Unit Refusal) → seed_answer seed ≡ c → (b : Bool) → alignment_permitted n ≡ b → started_values (started_with c seed n) ≡ (0, t)
        → (permitted seed ≡ true) × (alignment_permitted n ≡ true) × (fresh_sender seed n ≡ t)
    go (Ok u) h true k p =
        (permitted_by_answer seed u h, k, ap (λ (v : ℕ × Sender). v.1) (rw k at p))
    go (Ok u) h false k p =
        let z : ◌≡◌ {A = ℕ} 19 0 = ap (λ (v : ℕ × Sender). v.0) (rw k at p) in absurd (omega arith)
    go (Err m) h b k p =
        let taken = taken_permitted seed (ap checked_values h ∙ ap (λ (v : ℕ × Sender). v.0) p) in
        absurd (false≢true (sym (refused_by_answer seed m h) ∙ taken))

-- ---- SYNC

pub sync_taken : (t : Sender) → sender_admitted t ≡ true → sync_answer t ≡ Ok (synced t)
unfolding sync_answer
sync_taken t h = rw h

pub sync_leaves : (t : Sender) → sender_admitted t ≡ true → sender_synced t ≡ synced t
sync_leaves t h = rw (sync_taken t h)

pub sync_admitted : (t : Sender) → Admitted t → Admitted (synced t)
unfolding synced within
sync_admitted t a = record {
  seed_permitted = a.seed_permitted;
  state_good = permitted_state t.seed a.seed_permitted;
  clock_max = omega arith;
  r_within = search a.r_within;
  alignment_even = a.alignment_even;
  alignment_min = a.alignment_min;
  alignment_max = a.alignment_max;
  position_max = omega arith;
}

-- ---- a frame

pub frame_of_alignment : (t : Sender) (x : ℕ) → t.position < t.alignment → next_frame t x ≡ alignment_next t
unfolding next_frame alignment_frames
frame_of_alignment t x h = rw (lt-ltb t.position t.alignment h)

pub frame_of_sample : (t : Sender) (x : ℕ) → t.alignment ≤ t.position → next_frame t x ≡ scrambled_next t x
unfolding next_frame alignment_frames
frame_of_sample t x h = rw (le-ltb t.position t.alignment h)

-- the position after a frame
pub position_rises : (t : Sender) → t.position < t.alignment + 32 → next_position t ≡ t.position + 1
unfolding next_position sequence_frames alignment_frames proving_frames
position_rises t h = rw (lt-ltb t.position (t.alignment + 32) h)

pub position_stays : (t : Sender) → t.alignment + 32 ≤ t.position → next_position t ≡ t.position
unfolding next_position sequence_frames alignment_frames proving_frames
position_stays t h = rw (le-ltb t.position (t.alignment + 32) h)

pub position_kept : (t : Sender) → t.position ≤ t.alignment + 32 → next_position t ≤ t.alignment + 32
position_kept t h = go (ltb t.position (t.alignment + 32)) refl
  where
    go : (b : Bool) → ltb t.position (t.alignment + 32) ≡ b → next_position t ≤ t.alignment + 32
    go true e = let p = ltb-true t.position (t.alignment + 32) e in omega (arith, position_rises t p)
    go false e = let p = ltb-false t.position (t.alignment + 32) e in omega (arith, position_stays t p)

-- the frame of a sample, and R after it, are what `build` answers
pub frame_built : (t : Sender) (x : ℕ) → Admitted t → is_sample x ≡ true
    → build_answer x t.state t.clock t.r ≡ Ok (record { frame = (scrambled_next t x).frame; r = (scrambled_next t x).sender.r })
unfolding is_clock scrambled_next
frame_built t x a h =
    build_taken x t.state t.clock t.r a.state_good (le-leb t.clock 1 a.clock_max) a.r_within h

pub built_values_lem : (t : Sender) (x : ℕ) → Admitted t → is_sample x ≡ true
    → built_values (build_answer x t.state t.clock t.r) ≡ (0, (scrambled_next t x).frame, (scrambled_next t x).sender.r)
built_values_lem t x a h = ap built_values (frame_built t x a h)

pub new_r_admitted : (t : Sender) (x : ℕ) → Admitted t → is_sample x ≡ true → within 16 (scrambled_next t x).sender.r ≡ true
new_r_admitted t x a h =
    new_r_within x t.state t.clock t.r (scrambled_next t x).frame (scrambled_next t x).sender.r (built_values_lem t x a h)

pub alignment_admitted : (t : Sender) → Admitted t → Admitted (alignment_next t).sender
unfolding alignment_next
alignment_admitted t a = record {
  seed_permitted = a.seed_permitted;
  state_good = a.state_good;
  clock_max = a.clock_max;
  r_within = a.r_within;
  alignment_even = a.alignment_even;
  alignment_min = a.alignment_min;
  alignment_max = a.alignment_max;
  position_max = position_kept t a.position_max;
}

pub scrambled_admitted : (t : Sender) (x : ℕ) → Admitted t → is_sample x ≡ true → Admitted (scrambled_next t x).sender
unfolding scrambled_next
scrambled_admitted t x a h = record {
  seed_permitted = a.seed_permitted;
  state_good = next_keeps_state t.state a.state_good;
  clock_max = omega arith;
  r_within = new_r_admitted t x a h;
  alignment_even = a.alignment_even;
  alignment_min = a.alignment_min;
  alignment_max = a.alignment_max;
  position_max = position_kept t a.position_max;
}

pub frame_admitted : (t : Sender) (x : ℕ) → Admitted t → is_sample x ≡ true → Admitted (next_frame t x).sender
frame_admitted t x a h = go (ltb t.position t.alignment) refl
  where
    go : (b : Bool) → ltb t.position t.alignment ≡ b → Admitted (next_frame t x).sender
    go true e = rw (frame_of_alignment t x (ltb-true t.position t.alignment e)) (alignment_admitted t a)
    go false e = rw (frame_of_sample t x (ltb-false t.position t.alignment e)) (scrambled_admitted t x a h)
