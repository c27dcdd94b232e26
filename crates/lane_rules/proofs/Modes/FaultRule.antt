-- The laws of the rule on faults, which the laws of the receiver cite in place of its clauses. Each is one computed test of the results
-- of eight frames, 0 to 255. Assumes nothing.
use Prim.Native.Nat.{ℕ, zero, suc, ◌+◌, ◌*◌, ◌%◌, ◌^◌, ◌≤◌, ◌<◌}
use mathlib.Core.Path.{◌≡◌, refl, ap, ◌∙◌}
use mathlib.Core.Logic.{◌≢◌}
use mathlib.Core.Bool.{Bool, true, false, cond, not, ◌&&◌, ◌||◌}
use native.Mathlib.Omega.{arith}
use lib.Count.{ones_in}
use lib.Dec.{T, leb}
use borrow.Author.Tests.{eq-eqb, ne_eqb, leb-true, le-leb}
use Rattle.std.specs.Cmp.{first_so}
use Rattle.std.proofs.Math.Facts.{and_yes}
use Rattle.frame.proofs.Test.{is_true}
use Rattle.lane_rules.specs.Receiver.{faults_in, most_faults, results_admitted}
use Rattle.lane_rules.specs.Judging.{clock_of, with_result, fault_rule, is_faulty, locked_by, judge_locked}
use Rattle.lane_rules.specs.Bursts.{untouched_between}
use Rattle.std.specs.Prelude.{Option, Some, None}
use Rattle.lane_rules.proofs.Basics.Tables.{below, imply}

-- ---- faulty frames: those whose clock bit is not the expected one

sound_clock : (c w : ℕ) → clock_of w ≡ c → is_faulty c w ≡ false
sound_clock c w e = ap not (eq-eqb (clock_of w) c e)

faulty_clock : (c w : ℕ) → clock_of w ≢ c → is_faulty c w ≡ true
faulty_clock c w n = ap not (ne_eqb (clock_of w) c n)

-- what Locked makes of a frame that keeps lock
module _ (r s c w q : ℕ) where
  kept_by : (t : Bool) → is_faulty c w ≡ t → fault_rule r t ≡ Some q → judge_locked r s c w ≡ locked_by (Some q) t s c w
  unfolding judge_locked
  kept_by t e k = ap (λ (u : Bool). locked_by (fault_rule r u) u s c w) e ∙ ap (λ (l : Option ℕ). locked_by l t s c w) k

  pub sound_judged : clock_of w ≡ c → fault_rule r false ≡ Some q → judge_locked r s c w ≡ locked_by (Some q) false s c w
  sound_judged e = kept_by false (sound_clock c w e)

  pub faulty_judged : clock_of w ≢ c → fault_rule r true ≡ Some q → judge_locked r s c w ≡ locked_by (Some q) true s c w
  faulty_judged n = kept_by true (faulty_clock c w n)

-- ---- admitted results

pub results_range : (r : ℕ) → results_admitted r ≡ true → r < 256
unfolding results_admitted
results_range r e = let h : r ≤ 255 = leb-true r 255 (first_so (leb r 255) _ e) in omega arith

pub no_results : results_admitted 0 ≡ true
unfolding results_admitted faults_in ones_in
no_results = refl

-- lock is kept with admitted results
pub results_kept : (r n : ℕ) (faulty : Bool) → fault_rule r faulty ≡ Some n → results_admitted n ≡ true
unfolding fault_rule with_result results_admitted
results_kept r n faulty e = go (leb (faults_in after) most_faults) refl e
  where
    after : ℕ
    after = (2 * r + cond faulty 1 0) % 2 ^ 8

    go : (t : Bool) → leb (faults_in after) most_faults ≡ t → cond t (Some after) None ≡ Some n
        → (leb n 255 && leb (faults_in n) most_faults) ≡ true
    go true d e =
        let h : after ≡ n = cc e in
        rw (← h, d, le-leb after 255 (omega arith))
    go false d e = let z : ◌≡◌ {A = ℕ} 0 1 = cc e in absurd (omega arith)

-- with no faulty frame yet, a sound one leaves it so
pub none_faulty : fault_rule 0 false ≡ Some 0
unfolding fault_rule with_result faults_in ones_in
none_faulty = refl

-- ---- tests of the frames to come

-- lock is kept with results that pass a test
abbrev kept_with : (ℕ → Bool) → Option ℕ → Bool
kept_with f (Some n) = f n
kept_with f None = false

-- lock is lost, or kept with results that pass a test
abbrev lost_or : (ℕ → Bool) → Option ℕ → Bool
lost_or f (Some n) = f n
lost_or f None = true

-- any n frames keep lock
unfoldable pub any_keep : ℕ → ℕ → Bool
any_keep zero r = true
any_keep (suc n) r = kept_with (any_keep n) (fault_rule r true) && kept_with (any_keep n) (fault_rule r false)

-- n sound frames keep lock, and after them any two
unfoldable pub rests : ℕ → ℕ → Bool
rests zero r = any_keep 2 r
rests (suc n) r = kept_with (rests n) (fault_rule r false)

-- frames faulty and sound in turn, at most n of them, lose lock; t says whether the next one is faulty
unfoldable turns_lose : ℕ → Bool → ℕ → Bool
turns_lose zero t r = false
turns_lose (suc n) t r = lost_or (turns_lose n (not t)) (fault_rule r t)

-- ---- bursts

-- what a frame gives that keeps lock: admitted results that pass a test
pub record Keeps (r : ℕ) (faulty : Bool) (f : ℕ → Bool) : Type 0 where
  pub results : ℕ
  pub kept : fault_rule r faulty ≡ Some results
  pub admitted : results_admitted results ≡ true
  pub passed : T (f results)

keeps : (r : ℕ) (faulty : Bool) (f : ℕ → Bool) → T (kept_with f (fault_rule r faulty)) → Keeps r faulty f
keeps r faulty f t = go (fault_rule r faulty) refl t
  where
    go : (l : Option ℕ) → fault_rule r faulty ≡ l → T (kept_with f l) → Keeps r faulty f
    go (Some n) e t = record { results = n; kept = e; admitted = results_kept r n faulty e; passed = t }
    go None e t = absurd t

pub burst_goes_on : (n r : ℕ) (faulty : Bool) → T (any_keep (suc n) r) → Keeps r faulty (any_keep n)
unfolding any_keep
burst_goes_on n r true t = keeps r true (any_keep n) ((and_yes (kept_with (any_keep n) (fault_rule r true)) _ t).0)
burst_goes_on n r false t = keeps r false (any_keep n) ((and_yes (kept_with (any_keep n) (fault_rule r true)) _ t).1)

pub burst_begins : (r : ℕ) (faulty : Bool) → T (rests 0 r) → Keeps r faulty (any_keep 1)
unfolding rests
burst_begins r faulty t = burst_goes_on 1 r faulty t

-- fewer frames than that one
pub any_fewer : (n r : ℕ) → n ≤ 1 → T (any_keep 1 r) → T (any_keep n r)
unfolding any_keep
any_fewer zero r h t = tt
any_fewer (suc zero) r h t = t
any_fewer (suc (suc n)) r h t = absurd (omega arith)

pub rest_goes_on : (n r : ℕ) → T (rests (suc n) r) → Keeps r false (rests n)
unfolding rests
rest_goes_on n r t = keeps r false (rests n) t

-- with no faulty frame yet
pub any_two_at_first : T (rests 0 0)
unfolding rests any_keep fault_rule with_result faults_in ones_in
any_two_at_first = tt

-- after admitted results, five sound frames keep lock, and after them any two; and once any two do, so does a sound frame
rest_table : (r : ℕ) → r < 256
    → T (not (results_admitted r) || (rests untouched_between r && (not (any_keep 2 r) || kept_with (any_keep 2) (fault_rule r false))))
unfolding rests any_keep fault_rule with_result results_admitted faults_in ones_in
rest_table r h =
    below
    (λ q. not (results_admitted q) || (rests untouched_between q && (not (any_keep 2 q) || kept_with (any_keep 2) (fault_rule q false))))
    256 tt r h

module _ (r : ℕ) (a : results_admitted r ≡ true) where
  both : T (rests untouched_between r && (not (any_keep 2 r) || kept_with (any_keep 2) (fault_rule r false)))
  both = imply (results_admitted r) _ a (rest_table r (results_range r a))

  pub rests_after : T (rests untouched_between r)
  rests_after = (and_yes (rests untouched_between r) _ both).0

  pub rested : T (rests 0 r) → Keeps r false (rests 0)
  unfolding rests
  rested t = keeps r false (any_keep 2) (imply (any_keep 2 r) _ (is_true _ t) ((and_yes (rests untouched_between r) _ both).1))

-- ---- alignment

-- frames faulty and sound in turn, at most n of them, lose lock
pub data LosesWithin : ℕ → Bool → ℕ → Type 0 where
  now : {n r : ℕ} {t : Bool} → fault_rule r t ≡ None → LosesWithin (suc n) t r
  later : {n r q : ℕ} {t : Bool} → fault_rule r t ≡ Some q → LosesWithin n (not t) q → LosesWithin (suc n) t r

losing : (n r : ℕ) (t : Bool) → T (turns_lose n t r) → LosesWithin n t r
unfolding turns_lose
losing zero r t h = absurd h
losing (suc n) r t h = go (λ q k. losing n q (not t) k) (fault_rule r t) refl h
  where
    go : ((q : ℕ) → T (turns_lose n (not t) q) → LosesWithin n (not t) q) → (l : Option ℕ) → fault_rule r t ≡ l
        → T (lost_or (turns_lose n (not t)) l) → LosesWithin (suc n) t r
    go f (Some q) e k = later {r = r} {q = q} e (f q k)
    go f None e k = now {r = r} e

-- seven do if the first is faulty, and eight in any case
turns_table : (r : ℕ) → r < 256 → T (turns_lose 7 true r && (turns_lose 8 true r && turns_lose 8 false r))
unfolding turns_lose fault_rule with_result faults_in ones_in
turns_table r h = below (λ q. turns_lose 7 true q && (turns_lose 8 true q && turns_lose 8 false q)) 256 tt r h

module _ (r : ℕ) (a : results_admitted r ≡ true) where
  table : T (turns_lose 7 true r && (turns_lose 8 true r && turns_lose 8 false r))
  table = turns_table r (results_range r a)

  pub seven_lose : LosesWithin 7 true r
  seven_lose = losing 7 r true ((and_yes (turns_lose 7 true r) _ table).0)

  pub eight_lose : (t : Bool) → LosesWithin 8 t r
  eight_lose true = losing 8 r true ((and_yes (turns_lose 8 true r) _ ((and_yes (turns_lose 7 true r) _ table).1)).0)
  eight_lose false = losing 8 r false ((and_yes (turns_lose 8 true r) _ ((and_yes (turns_lose 7 true r) _ table).1)).1)
