-- Building a frame and reading it. Assumes nothing.
use mathlib.Core.Path.{◌≡◌, refl, sym, ap, ap₂, ◌∙◌, subst}
use mathlib.Core.Bool.{Bool, true, false, cond, ◌&&◌}
use mathlib.Core.Logic.{⊎_elim}
use Prim.Native.Nat.{ℕ, suc, ◌-◌, ◌/◌, ◌%◌, ◌^◌, ◌≤◌, ◌<◌}
use native.Mathlib.Omega.{arith}
use lib.Bits.{bit_xor, xor_lt}
use lib.IntN.{ℤ, pos, negsuc, ◌+ℤ◌}
use lib.Signed.{◌≤ℤ◌, ◌<ℤ◌}
use borrow.Author.Tests.{leb-true, eq-eqb, ne_eqb}
use Rattle.frame.specs.Bits.{bit}
use Rattle.frame.specs.Scrambler.{is_state, word_of}
use Rattle.frame.specs.Frame.{is_sample, is_clock, scrambled_data, plain_frame, disparity_in, disparity_of, within, plain_limit}
use Rattle.frame.specs.Frame.{disparity_bit, new_r, inverted, sent_frame, built, build_answer, uninverted, content_of, reading_of, content_in}
use Rattle.frame.specs.Frame.{sample_answer}
use Rattle.frame.specs.Answers.{built_values, sampled_values}
use Rattle.frame.specs.Promise.{BuiltByXor, ReadByXor}
use Rattle.std.specs.Prelude.{Result, Ok, Err}
use Rattle.refusal.specs.Refusal.{number_of}
use Rattle.refusal.specs.declared.Refusal.{Refusal}
use Rattle.refusal.proofs.Laws.{numbers_above_zero}
use Rattle.frame.specs.declared.frame.Built.{Built}
use Rattle.std.specs.Cmp.{first_so, second_so}
use Rattle.std.proofs.lemmas.Bool.{cases_lt}
use Rattle.frame.proofs.Xor.{xor_undone}
use Rattle.frame.proofs.RunningDisparity.{disparity_within, kept_inside, turned_below, turned_above, new_r_within, sent_kept}
use Rattle.frame.proofs.RunningDisparity.{sent_turned, sent_either, new_r_sum, part_within}
use Rattle.frame.proofs.Inversion.{sent_xor, sent_bit, uninverted_xor, new_r_signed}

-- ---- the ranges

pub sample_max : (x : ℕ) → is_sample x ≡ true → x ≤ 16383
unfolding is_sample
sample_max x e = leb-true x 16383 e

pub clock_max : (c : ℕ) → is_clock c ≡ true → c ≤ 1
unfolding is_clock
clock_max c e = leb-true c 1 e

data_lt : (sample state : ℕ) → sample ≤ 16383 → scrambled_data sample state < 2 ^ 14
data_lt sample state h = xor_lt 14 sample (state % 2 ^ 14) (omega arith) (omega arith)

pub plain_lt : (sample state clock : ℕ) → sample ≤ 16383 → clock ≤ 1 → plain_frame sample state clock < 2 ^ 15
unfolding plain_frame
plain_lt sample state clock h k = omega (arith, data_lt sample state h)

-- ---- undoing the inversion

uninverted_plain : (w : ℕ) → w < 2 ^ 15 → uninverted w ≡ w
unfolding uninverted
uninverted_plain w h = simp (ne_eqb (w / 2 ^ 15 % 2) 1 (λ e. omega arith))

uninverted_turned : (w : ℕ) → w < 2 ^ 15 → uninverted (inverted w) ≡ w
unfolding uninverted
uninverted_turned w h =
    let one : (65535 - w) / 2 ^ 15 % 2 ≡ 1 = omega arith in
    simp (eq-eqb ((65535 - w) / 2 ^ 15 % 2) 1 one) (omega arith)

-- what is sent for a frame with disparity bit 0 is read as that frame
uninverted_sent : (w : ℕ) (r : ℤ) → w < 2 ^ 15 → uninverted (sent_frame w r) ≡ w
uninverted_sent w r h = sent_either (λ v. uninverted v ≡ w) w r (uninverted_plain w h) (uninverted_turned w h)

uninverted_inverted : (w : ℕ) → w < 2 ^ 16 → uninverted (inverted w) ≡ uninverted w
uninverted_inverted w h =
    ⊎_elim (λ (low : w < 2 ^ 15). uninverted_turned w low ∙ sym (uninverted_plain w low))
    (λ (high : 2 ^ 15 ≤ w).
    let back : inverted (inverted w) ≡ w = omega arith in
    uninverted_plain (inverted w) (omega arith) ∙ sym (uninverted_turned (inverted w) (omega arith)) ∙ ap uninverted back)
    (cases_lt w (2 ^ 15))

-- ---- reading

content_plain : (sample state clock : ℕ) → sample ≤ 16383 → clock ≤ 1
    → content_of (plain_frame sample state clock) ≡ (clock, scrambled_data sample state)
unfolding plain_frame
content_plain sample state clock h k =
    let w = plain_frame sample state clock in
    let d = data_lt sample state h in
    let c : (content_of w).0 ≡ clock = omega arith in
    let x : (content_of w).1 ≡ scrambled_data sample state = omega arith in
    λ i. (c i, x i)

reading_sent : (sample state clock : ℕ) (r : ℤ) → sample ≤ 16383 → clock ≤ 1
    → content_in (reading_of (sent_frame (plain_frame sample state clock) r)) ≡ (clock, scrambled_data sample state)
unfolding reading_of
reading_sent sample state clock r h k =
    ap content_of (uninverted_sent (plain_frame sample state clock) r (plain_lt sample state clock h k))
    ∙ content_plain sample state clock h k

pub reading_inverted : (w : ℕ) → w < 2 ^ 16 → content_in (reading_of (inverted w)) ≡ content_in (reading_of w)
unfolding reading_of
reading_inverted w h = ap content_of (uninverted_inverted w h)

pub read_by_xor : ReadByXor
unfolding reading_of
read_by_xor v h = ap content_of (sym (uninverted_xor v _ h refl))

pub reading_ranges : (w : ℕ) → ((reading_of w).clock ≤ 1) × ((reading_of w).scrambled ≤ 16383)
unfolding reading_of
reading_ranges w = (omega arith, omega arith)

sample_sent : (sample state clock : ℕ) (r : ℤ) → is_state state ≡ true → sample ≤ 16383 → clock ≤ 1
    → sample_answer (sent_frame (plain_frame sample state clock) r) state ≡ Ok sample
unfolding sample_answer
sample_sent sample state clock r s h k =
    simp s
    (ap (λ (x : ℕ × ℕ). Ok (bit_xor x.1 (word_of state))) (reading_sent sample state clock r h k)
    ∙ ap Ok (xor_undone sample (word_of state)))

-- ---- what `build` answers

-- the ranges that `build` asks
pub record Buildable (sample state clock : ℕ) (r : ℤ) : Type 0 where
  pub state_good : is_state state ≡ true
  pub clock_good : is_clock clock ≡ true
  pub r_good : within 16 r ≡ true
  pub sample_good : is_sample sample ≡ true

pub build_taken : (sample state clock : ℕ) (r : ℤ) → Buildable sample state clock r
    → build_answer sample state clock r ≡ Ok (built (plain_frame sample state clock) r)
unfolding build_answer
build_taken sample state clock r b = simp (b.state_good, b.clock_good, b.r_good, b.sample_good)

-- the same as an xor and a sign
pub built_by_xor : BuiltByXor
built_by_xor sample state clock r s c h x =
    let w = plain_frame sample state clock in
    let l = plain_lt sample state clock (sample_max sample x) (clock_max clock c) in
    ap built_values (build_taken sample state clock r (record { state_good = s; clock_good = c; r_good = h; sample_good = x }))
    ∙ ap₂ (λ (f : ℕ) (q : ℤ). (0, f, q)) (sym (sent_xor w _ r (omega arith) refl)) (sym (new_r_signed r (disparity_of w)))

-- refusal 5 comes before 4
pub build_refused_5 : (sample state clock : ℕ) (r : ℤ) → is_state state ≡ true → is_clock clock ≡ true → within 16 r ≡ false
    → build_answer sample state clock r ≡ Err Refusal.Disparity
unfolding build_answer
build_refused_5 sample state clock r s c h = simp (s, c, h)

pub build_refused_4 : (sample state clock : ℕ) (r : ℤ) → is_state state ≡ true → is_clock clock ≡ true → within 16 r ≡ true
    → is_sample sample ≡ false → build_answer sample state clock r ≡ Err Refusal.Sample
unfolding build_answer
build_refused_4 sample state clock r s c h x = simp (s, c, h, x)

taken_by : (b : Bool) (x : Result Built Refusal) (n : Refusal) (f : ℕ) (q : ℤ) → built_values (cond b x (Err n)) ≡ (0, f, q)
    → (b ≡ true) × (built_values x ≡ (0, f, q))
taken_by true x n f q e = (refl, e)
taken_by false x n f q e =
    let z : number_of n ≡ 0 = ap (λ (v : ℕ × ℕ × ℤ). v.0) e in absurd (omega (arith, numbers_above_zero n))

-- a frame is answered only where all is in its range
built_buildable : (sample state clock : ℕ) (r : ℤ) (f : ℕ) (q : ℤ)
    → built_values (build_answer sample state clock r) ≡ (0, f, q) → Buildable sample state clock r
unfolding build_answer
built_buildable sample state clock r f q e =
    let a = taken_by (is_state state && is_clock clock) _ Refusal.Record f q e in
    let b = taken_by (within 16 r) _ Refusal.Disparity f q a.1 in
    let c = taken_by (is_sample sample) _ Refusal.Sample f q b.1 in
    record {
      state_good = first_so (is_state state) (is_clock clock) a.0;
      clock_good = second_so (is_state state) (is_clock clock) a.0;
      r_good = b.0;
      sample_good = c.0;
    }

-- what a frame that was built is
module _ (sample state clock : ℕ) (r : ℤ) (f : ℕ) (q : ℤ) (built : built_values (build_answer sample state clock r) ≡ (0, f, q)) where
  abbrev plain : ℕ
  plain = plain_frame sample state clock

  ranges : Buildable sample state clock r
  ranges = built_buildable sample state clock r f q built

  values : ◌≡◌ {A = ℕ × ℕ × ℤ} (0, sent_frame plain r, new_r r (disparity_of plain)) (0, f, q)
  values = sym (ap built_values (build_taken sample state clock r ranges)) ∙ built

  frame_is : sent_frame plain r ≡ f
  frame_is = ap (λ (v : ℕ × ℕ × ℤ). v.1) values

  r_is : new_r r (disparity_of plain) ≡ q
  r_is = ap (λ (v : ℕ × ℕ × ℤ). v.2) values

  sample_in : sample ≤ 16383
  sample_in = sample_max sample ranges.sample_good

  clock_in : clock ≤ 1
  clock_in = clock_max clock ranges.clock_good

  plain_in : plain < 2 ^ 15
  plain_in = plain_lt sample state clock sample_in clock_in

  pub read_back_sample : sampled_values (sample_answer f state) ≡ (0, sample)
  read_back_sample =
      ap (λ (w : ℕ). sampled_values (sample_answer w state)) (sym frame_is)
      ∙ ap sampled_values (sample_sent sample state clock r ranges.state_good sample_in clock_in)

  pub read_back_content : content_in (reading_of f) ≡ (clock, scrambled_data sample state)
  read_back_content = ap (λ (w : ℕ). content_in (reading_of w)) (sym frame_is) ∙ reading_sent sample state clock r sample_in clock_in

  pub built_either : (P : ℕ → Type 0) → P plain → P (inverted plain) → P f
  built_either P p n = subst P frame_is (sent_either P plain r p n)

  -- the frame sent, by a bound n + 1 of the sum
  pub kept_is : (n : ℕ) → suc n ≤ plain_limit → negsuc n ≤ℤ (r +ℤ disparity_of plain) → (r +ℤ disparity_of plain) ≤ℤ pos (suc n) → f ≡ plain
  kept_is n limit low high = sym frame_is ∙ sent_kept plain r (kept_inside n r (disparity_of plain) limit low high)

  pub lower_is : (n : ℕ) → plain_limit ≤ suc n → (r +ℤ disparity_of plain) <ℤ negsuc n → f ≡ inverted plain
  lower_is n limit low = sym frame_is ∙ sent_turned plain r (turned_below n r (disparity_of plain) limit low)

  pub higher_is : (n : ℕ) → plain_limit ≤ suc n → pos (suc n) <ℤ (r +ℤ disparity_of plain) → f ≡ inverted plain
  higher_is n limit high = sym frame_is ∙ sent_turned plain r (turned_above n r (disparity_of plain) limit high)

  pub chosen_bit_sent : bit 15 f ≡ disparity_bit r (disparity_of plain)
  chosen_bit_sent = ap (bit 15) (sym frame_is) ∙ sent_bit plain r plain_in

  pub built_lt : f < 2 ^ 16
  built_lt = built_either (λ w. w < 2 ^ 16) (omega (arith, plain_in)) (omega arith)

  pub built_r_within : within 16 q ≡ true
  built_r_within = ap (within 16) (sym r_is) ∙ new_r_within r (disparity_of plain) ranges.r_good (disparity_within 16 plain)

  pub built_r_sum : q ≡ r +ℤ disparity_of f
  built_r_sum = sym r_is ∙ new_r_sum plain r (omega (arith, plain_in)) ∙ ap (λ (w : ℕ). r +ℤ disparity_of w) frame_is

  pub built_part_within : (k : ℕ) → k ≤ 16 → within 24 (r +ℤ disparity_in k f) ≡ true
  built_part_within k h = part_within 16 16 k f r h ranges.r_good (ap (within 16) (sym built_r_sum) ∙ built_r_within)
