-- What the bits of a run from Hunt with no bits held are, by its mode. Assumes nothing.
use Prim.Native.Nat.{ℕ, ◌+◌, ◌-◌, ◌*◌, ◌/◌, ◌^◌, ◌≤◌, ◌<◌}
use mathlib.Core.Path.{◌≡◌, refl, ap, sym, subst, ◌∙◌}
use mathlib.Core.Logic.{◌⊎◌, inl, inr}
use mathlib.Core.Bool.{Bool, true, false, not, ◌&&◌}
use mathlib.Core.List.{List, [], ◌∷◌, ◌++◌, append-nil}
use native.Mathlib.Omega.{arith}
use lib.Dec.{ltb, eqb}
use borrow.Author.Tests.{ltb-true, ltb-false, eqb-true, eqb-false, not-true}
use Rattle.frame.specs.Scrambler.{word_of, next_state, state_after}
use Rattle.frame.specs.Frame.{inverted}
use Rattle.std.specs.Cmp.{first_so, second_so}
use Rattle.std.proofs.lemmas.List.{nil_from_length}
use Rattle.lane_rules.specs.Line.{bits_lsb_first, frame_bits, AreBits}
use Rattle.lane_rules.specs.Sender.{proving_frames}
use Rattle.lane_rules.specs.Receiver.{no_bits, hunting, most_read}
use Rattle.lane_rules.specs.Judging.{clock_of, scrambled_of, judge_flash, recovered, proves, first_by, judge_first, prove_by, judge_prove}
use Rattle.lane_rules.specs.Collecting.{alignment_pair, is_alignment, hunt_with, hunt_of}
use Rattle.lane_rules.specs.Locking.{alternating, alternate_after, Locking, JustLocked, LockedSince}
use Rattle.lane_rules.specs.declared.Partial.{Partial}
use Rattle.lane_rules.specs.declared.Mode.{Mode}
use Rattle.lane_rules.specs.declared.Mode.TheVariants.{Hunt, Flash, First, Prove, Locked}
use Rattle.lane_rules.proofs.Basics.Bits.{value, bits_value}
use Rattle.std.proofs.lemmas.Bool.{cond_both}
use Rattle.lane_rules.proofs.Locking.LockingFrames.{Aligned, OneRead, Following, flash_more, flash_first, first_more, prove_more}
use Rattle.lane_rules.proofs.Locking.SeenBits.{Latest, none_latest, latest_more, latest_full, InFrames, frame_more}

-- what the bits of a run are, by its mode
abbrev pub Seen : Mode → List ℕ → Type 0
Seen (Hunt bits count) done = (count ≤ 32) × Latest bits count done
Seen (Flash part held) done = InFrames part (Aligned held) done
Seen (First part word clock) done = InFrames part (OneRead word clock) done
Seen (Prove part read state clock) done = (read ≤ most_read) × InFrames part (Following read state clock) done
Seen (Locked part results state clock) done = (part.count ≤ 15) × LockedSince part state clock done

-- what they are where a bit brings it there from another mode: of Locked more is known
abbrev pub Enters : Mode → List ℕ → Type 0
Enters (Hunt bits count) done = Unit {0}
Enters (Flash part held) done = Unit {0}
Enters (First part word clock) done = Unit {0}
Enters (Prove part read state clock) done = Unit {0}
Enters (Locked part results state clock) done = (part ≡ no_bits) × (results ≡ 0) × JustLocked state clock done

pub at_lock : (state clock : ℕ) (done : List ℕ) → clock ≤ 1 → JustLocked state clock done → LockedSince no_bits state clock done
unfolding state_after
at_lock state clock done h j = record {
  until = done;
  since = [];
  parts = sym (append-nil done);
  first_state = state;
  first_clock = clock;
  locked = j;
  judged = 0;
  since_is = refl;
  state_is = refl;
  clock_is = omega arith;
}

pub hunting_seen : (done : List ℕ) → Seen hunting done
hunting_seen done = (omega arith, none_latest done)

-- ---- Hunt

-- the 32 bits are the frame f and the other one
pair_seen : (f v : ℕ) (done : List ℕ) → (f ≡ 0xFF00) ⊎ (f ≡ 0x00FF) → bits_lsb_first 32 v ≡ frame_bits (alternating f 2) → v / 2 ^ 16 ≡ inverted f
    → Latest v 32 done → Seen (Flash no_bits (v / 2 ^ 16)) done
unfolding AreBits alternate_after value
pair_seen f v done a e h l =
    let is : bits_lsb_first 32 v ≡ l.held = (λ i. bits_lsb_first (sym l.count i) (sym l.number i)) ∙ (bits_value l.held l.are).0 in
    record {
      before = l.before;
      frames = alternating f 2;
      held = [];
      parts = l.parts ∙ ap (λ (x : List ℕ). l.before ++ x) (sym is ∙ e ∙ sym (append-nil (frame_bits (alternating f 2))));
      are = tt;
      count = refl;
      number = refl;
      most = omega arith;
      known = record { first = f; alignment = a; more = 0; frames_are = refl; held_is = h };
    }

pair_found : (v : ℕ) (done : List ℕ) → alignment_pair v ≡ true → Latest v 32 done → Seen (Flash no_bits (v / 2 ^ 16)) done
unfolding alignment_pair bits_lsb_first frame_bits alternating
pair_found v done e l = go (eqb v 0x00FFFF00) refl
  where
    go : (t : Bool) → eqb v 0x00FFFF00 ≡ t → Seen (Flash no_bits (v / 2 ^ 16)) done
    go true d =
        let h : v ≡ 0x00FFFF00 = eqb-true _ _ d in
        pair_seen 0xFF00 v done (inl refl) (ap (bits_lsb_first 32) h) (omega arith) l
    go false d =
        let h : v ≡ 0xFF0000FF = eqb-true _ _ (rw d at e) in
        pair_seen 0x00FF v done (inr refl) (ap (bits_lsb_first 32) h) (omega arith) l

hunt_with_seen : (v n : ℕ) (done : List ℕ) → n ≤ 32 → Latest v n done → Seen (hunt_with v n) done
unfolding hunt_with
hunt_with_seen v n done h l =
    cond_both (is_alignment v n) (Flash no_bits (v / 2 ^ 16)) (Hunt v n) (λ (m : Mode). Seen m done)
    (λ e. pair_found v done (second_so (eqb n 32) (alignment_pair v) e)
    (subst (λ (k : ℕ). Latest v k done) (eqb-true n 32 (first_so (eqb n 32) (alignment_pair v) e)) l))
    (λ e. (h, l))

pub hunt_seen : (v n b : ℕ) (done : List ℕ) → b < 2 → n ≤ 32 → Latest v n done → Seen (hunt_of v n b) (done ++ (b ∷ []))
unfolding hunt_of
hunt_seen v n b done small h l =
    cond_both (ltb n 32) (hunt_with (v + b * 2 ^ n) (n + 1)) (hunt_with (v / 2 + b * 2 ^ 31) 32) (λ (m : Mode). Seen m (done ++ (b ∷ [])))
    (λ e. hunt_with_seen (v + b * 2 ^ n) (n + 1) _ (omega (arith, ltb-true n 32 e)) (latest_more v n b done small l))
    (λ e. let full : n ≡ 32 = omega (arith, ltb-false n 32 e) in
    hunt_with_seen (v / 2 + b * 2 ^ 31) 32 _ (omega arith)
    (latest_full v b done small (subst (λ (k : ℕ). Latest v k done) full l)))

-- ---- a frame made whole by the bit b

module _ (p : Partial) (b : ℕ) (done : List ℕ) (small : b < 2) (full : 15 ≤ p.count) where
  abbrev w : ℕ
  w = p.bits + b * 2 ^ p.count

  abbrev now : List ℕ
  now = done ++ (b ∷ [])

  pub flash_seen : (held : ℕ) → InFrames p (Aligned held) done → Seen (judge_flash held w) now
  unfolding judge_flash
  flash_seen held f =
      cond_both (eqb w (inverted held)) (Flash no_bits w) (First no_bits (scrambled_of w) (clock_of w)) (λ (m : Mode). Seen m now)
      (λ e. frame_more p b done small (Aligned held) f (Aligned w) full (λ s k. flash_more held w f.frames k (eqb-true _ _ e)))
      (λ e. frame_more p b done small (Aligned held) f (OneRead (scrambled_of w) (clock_of w)) full
      (λ s k. flash_first held w f.frames k s (eqb-false _ _ e)))

  -- the clock bit that this frame's must differ from stands in an equation, so that any other is refused as such
  pub first_seen : (word clock : ℕ) → InFrames p (OneRead word clock) done → Seen (judge_first word clock w) now
  unfolding judge_first first_by
  first_seen word clock f = go _ (omega arith) _ refl
    where
      go : (c : ℕ) → c ≡ clock → (t : Bool) → (not (eqb (clock_of w) c) && proves (recovered word (scrambled_of w)) (scrambled_of w)) ≡ t
          → Seen (first_by t (recovered word (scrambled_of w)) (clock_of w)) now
      go c is true e = (
        omega arith,
        frame_more p b done small (OneRead word clock) f
            (Following 2 (next_state (next_state (recovered word (scrambled_of w)))) (clock_of w)) full
            (λ s k. first_more word clock w f.frames k s
            (λ same. eqb-false _ _ (not-true _ (first_so (not (eqb (clock_of w) c)) _ e)) (same ∙ sym is))
            (second_so (not (eqb (clock_of w) c)) _ e)),
      )
      go c is false e = hunting_seen now

  -- the 32nd frame
  pub just_locked : (state clock : ℕ) → InFrames no_bits (Following 32 state clock) now → JustLocked state (1 - clock) now
  just_locked state clock f =
      let k = f.known in
      let none : f.held ≡ [] = nil_from_length f.held f.count in
      let toggled : k.first_clock ≡ 1 - clock = omega (arith, k.clock_is, k.clock_max) in
      record {
        before = f.before;
        locking = frame_bits f.frames;
        parts = f.parts ∙ ap (λ (x : List ℕ). f.before ++ (frame_bits f.frames ++ x)) none ∙ ap (λ (x : List ℕ). f.before ++ x)
            (append-nil (frame_bits f.frames));
        start = k.start;
        locks = subst (λ (c : ℕ). Locking k.start c (frame_bits f.frames)) toggled (record {
          first = k.begun.first;
          alignment = k.begun.alignment;
          more = k.begun.more;
          frames = k.ws;
          bits_are = ap frame_bits k.begun.frames_are;
          count = k.count;
          not_alternate = k.begun.not_alternate;
          state = k.start_good;
          follow = k.follow;
        });
        state_is = k.state_is;
      }

  -- where a frame takes Prove: on, into Locked, or to Hunt
  prove_goes : (P : Mode → Type 0) (read state clock : ℕ) → InFrames p (Following read state clock) done → P hunting
      → (read < most_read → InFrames no_bits (Following (read + 1) (next_state state) (clock_of w)) now
      → P (Prove no_bits (read + 1) (next_state state) (clock_of w)))
      → (JustLocked (next_state state) (1 - clock_of w) now → P (Locked no_bits 0 (next_state state) (1 - clock_of w)))
      → read ≤ most_read → P (judge_prove read state clock w)
  unfolding judge_prove prove_by proving_frames
  prove_goes P read state clock f hunts goes_on locks most = go (eqb (scrambled_of w) (word_of state) && not (eqb (clock_of w) clock)) refl
    where
      more : (eqb (scrambled_of w) (word_of state) && not (eqb (clock_of w) clock)) ≡ true
          → InFrames no_bits (Following (read + 1) (next_state state) (clock_of w)) now
      more e =
          frame_more p b done small (Following read state clock) f (Following (read + 1) (next_state state) (clock_of w)) full
          (λ s k. prove_more read state clock w f.frames k s (eqb-true _ _ (first_so (eqb (scrambled_of w) (word_of state)) _ e))
          (eqb-false _ _ (not-true _ (second_so (eqb (scrambled_of w) (word_of state)) _ e))))

      go : (t : Bool) → (eqb (scrambled_of w) (word_of state) && not (eqb (clock_of w) clock)) ≡ t → P (prove_by t read state (clock_of w))
      go true e =
          cond_both (ltb read most_read) (Prove no_bits (read + 1) (next_state state) (clock_of w)) (Locked no_bits 0 (next_state state) (1 - clock_of w)) P
          (λ t. goes_on (ltb-true read most_read t) (more e))
          (λ t. let last : read + 1 ≡ 32 = omega (arith, ltb-false read most_read t) in
          locks (just_locked (next_state state) (clock_of w)
          (subst (λ (n : ℕ). InFrames no_bits (Following n (next_state state) (clock_of w)) now) last (more e))))
      go false e = hunts

  pub prove_seen : (read state clock : ℕ) → read ≤ most_read → InFrames p (Following read state clock) done
      → Seen (judge_prove read state clock w) now
  prove_seen read state clock most f =
      prove_goes (λ (m : Mode). Seen m now) read state clock f (hunting_seen now) (λ h s. (omega arith, s))
      (λ j. (omega arith, at_lock _ _ now (omega arith) j)) most

  pub prove_enters : (read state clock : ℕ) → read ≤ most_read → InFrames p (Following read state clock) done
      → Enters (judge_prove read state clock w) now
  prove_enters read state clock most f =
      prove_goes (λ (m : Mode). Enters m now) read state clock f tt (λ h s. tt) (λ j. (refl, refl, j)) most
