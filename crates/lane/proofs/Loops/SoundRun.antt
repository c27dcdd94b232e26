-- Feeding by whole frames: a run of sound frames while locked, as the loop of `sound_frames` goes on. Assumes nothing.
use Prim.Native.Nat.{ℕ, ◌+◌, ◌-◌, ◌*◌, ◌/◌, ◌%◌, ◌<◌}
use mathlib.Core.Path.{◌≡◌, refl, ap, sym, subst, ◌∙◌}
use mathlib.Core.Bool.{true}
use mathlib.Core.List.{List}
use native.Mathlib.Omega.{arith}
use lib.Bits.{bit_xor}
use lib.IntN.{ℤ, ◌+ℤ◌}
use lib.ListN.{length, get_or, set, length-set}
use Rattle.frame.specs.Scrambler.{word_of, next_state}
use Rattle.frame.specs.Frame.{scrambled_data, within, reading_of}
use Rattle.frame.specs.declared.frame.Reading.{Reading}
use Rattle.frame.proofs.Difference.{within_add}
use Rattle.frame.proofs.Laws.{state_range}
use Rattle.lane_rules.specs.Sums.{largest_sum, with_frame}
use Rattle.lane_rules.specs.Outcomes.{IsDisparity}
use Rattle.lane_rules.specs.Receiver.{mode_admitted}
use Rattle.lane_rules.specs.Judging.{clock_of, scrambled_of, balance_of}
use Rattle.lane_rules.specs.declared.Partial.{Partial}
use Rattle.lane_rules.specs.declared.Sums.{Sums}
use Rattle.lane_rules.specs.declared.Mode.{Mode}
use Rattle.lane_rules.specs.declared.Mode.TheVariants.{Locked}
use Rattle.lane_rules.specs.declared.Fed.{Fed}
use Rattle.lane.specs.PrivateCalls.{small_sum, longest_run, answer_from, slots_from, sound_results, sound_place, Stands, Along, with_two}
use Rattle.lane_rules.proofs.Modes.FaultRule.{results_range}
use Rattle.lane_rules.proofs.Modes.ModeRecord.{PartIn, admitted_facts}
use Rattle.lane_rules.proofs.Modes.OutcomeRanges.{balance_within}
use Rattle.lane_rules.proofs.Feeding.RunningTotals.{total_0}
use Rattle.frame.proofs.Difference.{within_wider}
use Rattle.lane.proofs.Steps.SumsRead.{inside_is}
use Rattle.lane.proofs.Loops.SoundFrame.{results_none, sound_along}

-- ---- the loop: from a place with results f and slots s on; after n frames p is held, with state st, clock bit c and sums u

pub record Sounding (bytes : List ℕ) (answer : Fed) (filled : List ℕ) (from : Fed) (f : ℕ) (s : List ℕ) (p : Partial) (st c : ℕ) (u : Sums) (n : ℕ) (t : List ℕ) : Type 0 where
  pub along : Along bytes answer filled (sound_place from (Locked p (sound_results f n) st c) u n) t
  pub few : p.count < 8
  pub small : within (small_sum + 16 * n) u.sum ≡ true
  pub long : length t ≡ length s

module _ (bytes : List ℕ) (from : Fed) (p : Partial) (f st c : ℕ) (s : List ℕ) where
  pub sounding_holds : Stands from bytes s → from.receiver.mode ≡ Locked p f st c → p.count < 8
      → within small_sum from.receiver.sums.sum ≡ true
      → Sounding bytes (answer_from from bytes (length s)) (slots_from from bytes s) from f s p (st % 131072) c from.receiver.sums 0 s
  sounding_holds g e h small =
      let rx = from.receiver in
      let good : mode_admitted (Locked p f st c) ≡ true = subst (λ (m : Mode). mode_admitted m ≡ true) e g.good in
      let range : f < 256 = results_range f (admitted_facts (Locked p f st c) good).1 in
      let mode : rx.mode ≡ Locked p (sound_results f 0) st c = e ∙ ap (λ (r : ℕ). Locked p r st c) (results_none f range) in
      let bytes-are : from.bytes ≡ from.bytes + 2 * 0 = omega arith in
      let slots-are : from.slots ≡ from.slots + 0 = omega arith in
      let same : from ≡ sound_place from (Locked p (sound_results f 0) st c) rx.sums 0 =
      λ i. record {
        receiver = record {
          mode = mode i;
          samples = sym (total_0 rx.samples) i;
          gaps = rx.gaps;
          losses = rx.losses;
          sums = rx.sums;
        };
        bytes = bytes-are i;
        slots = slots-are i;
      } in
      let state : st ≡ st % 131072 = omega (arith, state_range st (admitted_facts (Locked p f st c) good).2) in
      subst (λ (x : ℕ). Sounding bytes (answer_from from bytes (length s)) (slots_from from bytes s) from f s p x c rx.sums 0 s) state
      (record {
        along = subst (λ (q : Fed). Along bytes (answer_from from bytes (length s)) (slots_from from bytes s) q s) same (record { stands = g; ends = refl; content = refl });
        few = h;
        small = ap (λ (k : ℕ). within k rx.sums.sum) (let k : small_sum + 16 * 0 ≡ small_sum = omega arith in k) ∙ small;
        long = refl;
      })

module _ {bytes : List ℕ} {answer : Fed} {filled : List ℕ} {from : Fed} {f : ℕ} {s : List ℕ} {p : Partial} {st c : ℕ} {u : Sums} {n : ℕ} {t : List ℕ}
    (i : Sounding bytes answer filled from f s p st c u n t) where
  pub sounding_part : PartIn p
  sounding_part = (admitted_facts (Locked p (sound_results f n) st c) i.along.stands.good).0

  -- the sum with one more frame
  pub sounding_inside : n < longest_run → (d : ℤ) → IsDisparity d → within largest_sum (u.sum +ℤ d) ≡ true
  sounding_inside h d k =
      within_wider (small_sum + 16 * n + 16) largest_sum (u.sum +ℤ d) (omega arith)
      (within_add (small_sum + 16 * n) 16 u.sum d i.small k)

  sounding_small : n < longest_run → (d : ℤ) → IsDisparity d → within (small_sum + 16 * (n + 1)) (with_frame u d).sum ≡ true
  unfolding with_frame
  sounding_small h d k =
      ap (within (small_sum + 16 * (n + 1))) (sym (inside_is (u.sum +ℤ d) (sounding_inside h d k)))
      ∙ ap (λ (m : ℕ). within m (u.sum +ℤ d)) (let m : small_sum + 16 * (n + 1) ≡ small_sum + 16 * n + 16 = omega arith in m)
      ∙ within_add (small_sum + 16 * n) 16 u.sum d i.small k

  module _ (h : from.bytes + 2 * n + 1 < length bytes) (l : from.slots + n < length t) (run : n < longest_run) (bx : get_or bytes (from.bytes + 2 * n) 0 < 256)
      (by : get_or bytes (from.bytes + 2 * n + 1) 0 < 256) where
    abbrev whole : ℕ
    whole = with_two p (get_or bytes (from.bytes + 2 * n) 0) (get_or bytes (from.bytes + 2 * n + 1) 0)

    pub sounding_again : (w : ℕ) → w ≡ whole → (r : Reading) → r ≡ reading_of (w % 65536) → r.clock ≡ c
        → (x : ℕ) → x ≡ scrambled_data r.scrambled st → (d : ℤ) → d ≡ balance_of (w % 65536)
        → (u' : Sums) → u' ≡ with_frame u d → (st' : ℕ) → st' ≡ next_state st
        → Sounding bytes answer filled from f s (record { bits = w / 65536; count = p.count }) st' (1 - r.clock) u' (n + 1) (set t (from.slots + n) x)
    sounding_again w we r re rc x xe d de u' ue st' se =
        let x-is : x ≡ bit_xor (scrambled_of (w % 65536)) (word_of st) = xe ∙ ap (λ (z : Reading). scrambled_data z.scrambled st) re in
        let e : clock_of (whole % 65536) ≡ c =
        ap (λ (z : ℕ). clock_of (z % 65536)) (sym we) ∙ sym (ap (λ (z : Reading). z.clock) re) ∙ rc in
        rw (se, ue, de, x-is, rc, we)
        (record {
          along = sound_along bytes answer filled from p f st c n u t i.along i.few h l bx by e;
          few = i.few;
          small = sounding_small run (balance_of (whole % 65536)) (balance_within (whole % 65536));
          long = length-set t (from.slots + n) _ ∙ i.long;
        })
