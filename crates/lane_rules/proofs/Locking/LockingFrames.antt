-- The frames since an alignment pair, by the mode that they lead to, and one frame more. Assumes nothing.
use Prim.Native.Nat.{ℕ, zero, suc, ◌+◌, ◌-◌, ◌*◌, ◌%◌, ◌≤◌, ◌<◌}
use mathlib.Core.Path.{◌≡◌, refl, ap, sym, subst, ◌∙◌}
use mathlib.Core.Logic.{◌⊎◌, ◌≢◌}
use mathlib.Core.Bool.{true, not}
use mathlib.Core.List.{List, [], ◌∷◌, ◌++◌, append_assoc}
use native.Mathlib.Omega.{arith}
use native.Mathlib.Numerals.{add-one}
use lib.Dec.{eqb}
use lib.ListN.{length, take, length-append}
use borrow.Author.Tests.{eqb-true, not-true}
use Rattle.frame.specs.Scrambler.{is_state, word_of, next_state, state_after}
use Rattle.frame.specs.Frame.{inverted}
use Rattle.std.specs.Cmp.{first_so, second_so}
use Rattle.frame.proofs.Laws.{reading_ranges}
use Rattle.lane_rules.specs.Judging.{clock_of, scrambled_of, recovered, proves}
use Rattle.lane_rules.specs.Locking.{alternating, alternate_after, FollowScrambler}
use Rattle.lane_rules.proofs.Sending.Encoding.{state_after_next}
use Rattle.lane_rules.proofs.Modes.AdmittedKept.{recovered_state, clock_range}

-- ---- alternating alignment frames

-- one turn more, at the end
pub turns_more : (f n : ℕ) → alternating f n ++ (alternate_after f n ∷ []) ≡ alternating f (suc n)
unfolding alternating alternate_after
turns_more f zero = refl
turns_more f (suc n) = ap (λ (l : List ℕ). f ∷ l) (turns_more (inverted f) n)

pub turn_inverted : (f n : ℕ) → alternate_after f (suc n) ≡ inverted (alternate_after f n)
unfolding alternate_after
turn_inverted f zero = refl
turn_inverted f (suc n) = turn_inverted (inverted f) n

-- ---- frames that follow the scrambler

-- one more, at the end
pub follow_more : (s c : ℕ) (ws : List ℕ) (w : ℕ) → c ≤ 1 → FollowScrambler s c ws → w < 65536 → scrambled_of w ≡ word_of (state_after (length ws) s)
    → clock_of w ≡ (c + length ws) % 2 → FollowScrambler s c (ws ++ (w ∷ []))
unfolding FollowScrambler state_after
follow_more s c [] w l f a d e = (a, d, (let k : clock_of w ≡ c = omega (arith, e) in k), tt)
follow_more s c (v ∷ ws) w l f a d e = (
  f.0,
  f.1,
  f.2,
  follow_more (next_state s) (1 - c) ws w (omega arith) f.3 a (d ∙ ap (λ (x : ℕ). word_of x) (sym (state_after_next (length ws) s)))
      (let k : clock_of w ≡ (1 - c + length ws) % 2 = omega (arith, e) in k),
)

-- ---- what the frames are

-- alternating alignment frames, then the frames ws, of which the first is not the alignment frame whose turn it is
pub record Begun (ws frames : List ℕ) : Type 0 where
  pub first : ℕ
  pub alignment : (first ≡ 0xFF00) ⊎ (first ≡ 0x00FF)
  pub more : ℕ
  pub frames_are : frames ≡ alternating first (suc (suc more)) ++ ws
  pub not_alternate : take 1 ws ≢ alternate_after first (suc (suc more)) ∷ []

-- in Flash
pub record Aligned (held : ℕ) (frames : List ℕ) : Type 0 where
  pub first : ℕ
  pub alignment : (first ≡ 0xFF00) ⊎ (first ≡ 0x00FF)
  pub more : ℕ
  pub frames_are : frames ≡ alternating first (suc (suc more))
  pub held_is : held ≡ alternate_after first (suc more)

-- in First
pub record OneRead (word clock : ℕ) (frames : List ℕ) : Type 0 where
  pub w : ℕ
  pub begun : Begun (w ∷ []) frames
  pub small : w < 65536
  pub word_is : scrambled_of w ≡ word
  pub clock_is : clock_of w ≡ clock

-- in Prove
pub record Following (read state clock : ℕ) (frames : List ℕ) : Type 0 where
  pub ws : List ℕ
  pub begun : Begun ws frames
  pub start : ℕ
  pub first_clock : ℕ
  pub clock_max : first_clock ≤ 1
  pub count : length ws ≡ read
  pub at_least_2 : 2 ≤ read
  pub start_good : is_state start ≡ true
  pub follow : FollowScrambler start first_clock ws
  pub state_is : state ≡ state_after read start
  pub clock_is : clock ≡ (first_clock + (read + 1)) % 2

-- ---- one frame more

module _ (held w : ℕ) (frames : List ℕ) (a : Aligned held frames) where
  next_turn : alternate_after a.first (suc (suc a.more)) ≡ inverted held
  next_turn = turn_inverted a.first (suc a.more) ∙ ap inverted (sym a.held_is)

  pub flash_more : w ≡ inverted held → Aligned w (frames ++ (w ∷ []))
  flash_more e = record {
    first = a.first;
    alignment = a.alignment;
    more = suc a.more;
    frames_are =
        (λ i. a.frames_are i ++ ((e ∙ sym next_turn) i ∷ [])) ∙ turns_more a.first (suc (suc a.more));
    held_is = e ∙ sym next_turn;
  }

  pub flash_first : w < 65536 → w ≢ inverted held → OneRead (scrambled_of w) (clock_of w) (frames ++ (w ∷ []))
  flash_first small d = record {
    w = w;
    begun = record {
      first = a.first;
      alignment = a.alignment;
      more = a.more;
      frames_are = ap (λ (l : List ℕ). l ++ (w ∷ [])) a.frames_are;
      not_alternate = λ e. d (ap head e ∙ next_turn);
    };
    small = small;
    word_is = refl;
    clock_is = refl;
  }
    where
      head : List ℕ → ℕ
      head [] = 0
      head (x ∷ xs) = x

-- the state recovered from the data of two frames
recovered_word : (p q : ℕ) → p ≤ 16383 → word_of (p + 16384 * (q % 8)) ≡ p
recovered_word p q h = omega arith

begun_more : (ws frames : List ℕ) (w : ℕ) → 1 ≤ length ws → Begun ws frames → Begun (ws ++ (w ∷ [])) (frames ++ (w ∷ []))
begun_more [] frames w l b = absurd (omega arith)
begun_more (v ∷ ws) frames w l b = record {
  first = b.first;
  alignment = b.alignment;
  more = b.more;
  frames_are =
      ap (λ (l : List ℕ). l ++ (w ∷ [])) b.frames_are ∙ append_assoc (alternating b.first (suc (suc b.more))) (v ∷ ws) (w ∷ []);
  not_alternate = b.not_alternate;
}

pub first_more : (p c w : ℕ) (frames : List ℕ) → OneRead p c frames → w < 65536 → clock_of w ≢ c
    → proves (recovered p (scrambled_of w)) (scrambled_of w) ≡ true
    → Following 2 (next_state (next_state (recovered p (scrambled_of w)))) (clock_of w) (frames ++ (w ∷ []))
unfolding recovered proves FollowScrambler state_after
first_more p c w frames o small d h =
    let s = p + 16384 * (scrambled_of w % 8) in
    let v = o.w in
    let range : p ≤ 16383 = subst (λ (x : ℕ). x ≤ 16383) o.word_is (reading_ranges v).1 in
    let low : c ≤ 1 = subst (λ (x : ℕ). x ≤ 1) o.clock_is (clock_range v) in
    let other : clock_of w ≡ 1 - c = omega (arith, clock_range w) in
    record {
      ws = v ∷ (w ∷ []);
      begun = begun_more (v ∷ []) frames w (omega arith) o.begun;
      start = s;
      first_clock = c;
      clock_max = low;
      count = refl;
      at_least_2 = omega arith;
      start_good = recovered_state p (scrambled_of w) range (not-true _ (first_so (not (eqb s 0)) _ h));
      follow = (
        o.small,
        o.word_is ∙ sym (recovered_word p (scrambled_of w) range),
        o.clock_is,
        (small, eqb-true (scrambled_of w) (word_of (next_state s)) (second_so (not (eqb s 0)) _ h), other, tt),
      );
      state_is = refl;
      clock_is = omega (arith, other);
    }

module _ (n s c w : ℕ) (frames : List ℕ) (f : Following n s c frames) (small : w < 65536) (d : scrambled_of w ≡ word_of s) (e : clock_of w ≢ c) where
  pub prove_more : Following (n + 1) (next_state s) (clock_of w) (frames ++ (w ∷ []))
  unfolding state_after
  prove_more =
      let low = f.clock_max in
      let count = f.count in
      let two = f.at_least_2 in
      let clock = f.clock_is in
      let now : clock_of w ≡ (f.first_clock + n) % 2 = omega (arith, clock_range w) in
      record {
        ws = f.ws ++ (w ∷ []);
        begun = begun_more f.ws frames w (omega arith) f.begun;
        start = f.start;
        first_clock = f.first_clock;
        clock_max = f.clock_max;
        count = length-append f.ws (w ∷ []) ∙ ap (λ (k : ℕ). k + 1) f.count;
        at_least_2 = omega arith;
        start_good = f.start_good;
        follow =
            follow_more f.start f.first_clock f.ws w f.clock_max f.follow small
            (d ∙ ap (λ (x : ℕ). word_of x) (f.state_is ∙ ap (λ (k : ℕ). state_after k f.start) (sym count)))
            (now ∙ ap (λ (k : ℕ). (f.first_clock + k) % 2) (sym count));
        state_is = ap next_state f.state_is ∙ ap (λ (k : ℕ). state_after k f.start) (sym (add-one n));
        clock_is = omega arith;
      }
