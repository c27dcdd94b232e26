-- The frames that follow a record just synced: alignment frames, frames of sample 0, and a frame for each sample taken.
-- Assumes nothing.
use Prim.Native.Nat.{ℕ, zero, suc, ◌+◌, ◌-◌, ◌*◌, ◌/◌, ◌%◌, ◌≤◌, ◌<◌}
use mathlib.Core.Path.{◌≡◌, refl, sym, ap, ◌∙◌, subst, subst₂}
use mathlib.Core.Bool.{true}
use mathlib.Core.List.{List, [], ◌∷◌, ◌++◌, append_assoc}
use native.Mathlib.Omega.{arith}
use lib.ListN.{length, replicate, length-append}
use borrow.Author.Tests.{eq-eqb, ne_eqb}
use Rattle.frame.specs.Scrambler.{next_state, state_after}
use Rattle.frame.specs.Frame.{is_sample}
use Rattle.frame.proofs.Laws.{read_back_content, built_lt}
use Rattle.lane_rules.specs.Sender.{alignment_frame, alignment_pairs, next_position, alignment_next, scrambled_next}
use Rattle.lane_rules.specs.declared.Sender.{Sender}
use Rattle.lane_rules.proofs.Sending.Encoding.{state_after_next, Encodes, none, more}
use Rattle.lane_rules.proofs.Sending.SenderRecord.{Admitted, position_rises, position_stays}
use Rattle.lane_rules.proofs.Sending.SenderRecord.{alignment_admitted, scrambled_admitted, built_values_lem}

-- frames ws that follow a record, and the samples taken for them
pub data Follow : Sender → List ℕ → List ℕ → Type 0 where
  end : {t : Sender} → Follow t [] []
  alignment : {t : Sender} {ws xs : List ℕ} → t.position < t.alignment
      → Follow (alignment_next t).sender ws xs → Follow t ((alignment_next t).frame ∷ ws) xs
  proving : {t : Sender} {ws xs : List ℕ} → t.alignment ≤ t.position → t.position < t.alignment + 32
      → Follow (scrambled_next t 0).sender ws xs → Follow t ((scrambled_next t 0).frame ∷ ws) xs
  sample : {t : Sender} {x : ℕ} {ws xs : List ℕ} → t.alignment + 32 ≤ t.position → is_sample x ≡ true
      → Follow (scrambled_next t x).sender ws xs → Follow t ((scrambled_next t x).frame ∷ ws) (x ∷ xs)

-- ---- the frame of a sample encodes it

encodes_one : (t : Sender) (x : ℕ) (ws xs : List ℕ) → Admitted t → is_sample x ≡ true
    → Encodes (next_state t.state) (1 - t.clock) xs ws
    → Encodes t.state t.clock (x ∷ xs) ((scrambled_next t x).frame ∷ ws)
encodes_one t x ws xs a h e =
    let built = built_values_lem t x a h in
    let content = read_back_content x t.state t.clock t.r _ _ built in
    more (built_lt x t.state t.clock t.r _ _ built) (ap (λ (r : ℕ × ℕ). r.1) content)
    (ap (λ (r : ℕ × ℕ). r.0) content) e

-- ---- after the sequence

samples_encode : (t : Sender) (ws xs : List ℕ) → Admitted t → t.alignment + 32 ≤ t.position → Follow t ws xs
    → Encodes t.state t.clock xs ws
unfolding scrambled_next
samples_encode t ws xs a h end = none
samples_encode t ws xs a h (alignment k r) = absurd (omega arith)
samples_encode t ws xs a h (proving k l r) = absurd (omega arith)
samples_encode t ws xs a h (sample {x = x} {ws = vs} {xs = ys} k g r) =
    encodes_one t x vs ys a g
    (samples_encode (scrambled_next t x).sender vs ys (scrambled_admitted t x a g) (omega (arith, position_stays t h)) r)

-- ---- the frames of sample 0

-- of the frames ws that follow t the first n encode sample 0, and the others encode the samples xs
record Proving (n : ℕ) (t : Sender) (ws xs : List ℕ) : Type 0 where
  first : List ℕ
  later : List ℕ
  parts : ws ≡ first ++ later
  count : length first ≡ n
  first_encode : Encodes t.state t.clock (replicate n 0) first
  later_encode : Encodes (state_after n t.state) ((t.clock + n) % 2) xs later

proving_more : (n : ℕ) (t : Sender) (ws xs : List ℕ) → Admitted t → Proving n (scrambled_next t 0).sender ws xs
    → Proving (suc n) t ((scrambled_next t 0).frame ∷ ws) xs
unfolding scrambled_next is_sample
proving_more n t ws xs a p =
    let w = (scrambled_next t 0).frame in
    let c : (1 - t.clock + n) % 2 ≡ (t.clock + suc n) % 2 = omega (arith, a.clock_max) in
    record {
      first = w ∷ p.first;
      later = p.later;
      parts = ap (λ (l : List ℕ). w ∷ l) p.parts;
      count = ap suc p.count;
      first_encode = encodes_one t 0 p.first (replicate n 0) a refl p.first_encode;
      later_encode =
          subst₂ (λ (s c : ℕ). Encodes s c xs p.later) (state_after_next n t.state) c p.later_encode;
    }

proving_encode : (n : ℕ) (t : Sender) (ws xs : List ℕ) → t.position + n ≡ t.alignment + 32 → t.alignment ≤ t.position
    → Admitted t → n ≤ length ws
    → Follow t ws xs → Proving n t ws xs
unfolding state_after scrambled_next is_sample
proving_encode zero t ws xs e h a l r =
    let c : t.clock ≡ (t.clock + 0) % 2 = omega (arith, a.clock_max) in
    record {
      first = [];
      later = ws;
      parts = refl;
      count = refl;
      first_encode = none;
      later_encode = subst (λ (c : ℕ). Encodes t.state c xs ws) c (samples_encode t ws xs a (omega arith) r);
    }
proving_encode (suc n) t ws xs e h a l end = absurd (omega arith)
proving_encode (suc n) t ws xs e h a l (alignment k r) = absurd (omega arith)
proving_encode (suc n) t ws xs e h a l (sample k g r) = absurd (omega arith)
proving_encode (suc n) t ws xs e h a l (proving {ws = vs} k m r) =
    let u = (scrambled_next t 0).sender in
    let p = position_rises t m in
    proving_more n t vs xs a
    (proving_encode n u vs xs (omega arith) (omega arith) (scrambled_admitted t 0 a refl) (omega arith) r)

-- ---- the alignment frames, two by two

-- of the frames ws that follow t the first 2 n are alignment frames; the others follow a record at the alignment's end
record Aligning (n : ℕ) (t : Sender) (ws xs : List ℕ) : Type 0 where
  later : List ℕ
  parts : ws ≡ alignment_pairs n ++ later
  then : Sender
  same_state : then.state ≡ t.state
  same_clock : then.clock ≡ t.clock
  same_alignment : then.alignment ≡ t.alignment
  position_is : then.position ≡ t.alignment
  admitted : Admitted then
  follow : Follow then later xs

one_alignment : (t : Sender) (ws xs : List ℕ) → t.position < t.alignment → 1 ≤ length ws → Follow t ws xs
    → (vs : List ℕ) × (ws ≡ alignment_frame t.position ∷ vs) × Follow (alignment_next t).sender vs xs
unfolding alignment_next
one_alignment t ws xs h l end = absurd (omega arith)
one_alignment t ws xs h l (alignment {ws = vs} k r) = (vs, refl, r)
one_alignment t ws xs h l (proving k m r) = absurd (omega arith)
one_alignment t ws xs h l (sample k g r) = absurd (omega arith)

even_frame : (p : ℕ) → p % 2 ≡ 0 → alignment_frame p ≡ 0xFF00
unfolding alignment_frame
even_frame p h = rw (eq-eqb (p % 2) 0 h)

odd_frame : (p : ℕ) → p % 2 ≡ 1 → alignment_frame p ≡ 0x00FF
unfolding alignment_frame
odd_frame p h = rw (ne_eqb (p % 2) 0 (λ e. omega arith))

-- the frames of an even position and the next
record AlignmentPair (t : Sender) (ws xs : List ℕ) : Type 0 where
  rest : List ℕ
  parts : ws ≡ 0xFF00 ∷ (0x00FF ∷ rest)
  follow : Follow (alignment_next (alignment_next t).sender).sender rest xs

alignment_pair_lem : (t : Sender) (ws xs : List ℕ) → t.position + 1 < t.alignment → t.position % 2 ≡ 0 → 2 ≤ length ws → Follow t ws xs
    → AlignmentPair t ws xs
unfolding alignment_next
alignment_pair_lem t ws xs h even l r = second (one_alignment t ws xs (omega arith) (omega arith) r)
  where
    rises : next_position t ≡ t.position + 1
    rises = position_rises t (omega arith)

    both : (vs us : List ℕ) → ws ≡ alignment_frame t.position ∷ vs → vs ≡ alignment_frame (next_position t) ∷ us
        → ws ≡ 0xFF00 ∷ (0x00FF ∷ us)
    both vs us e f =
        e ∙ (λ i. even_frame t.position even i ∷ f i)
        ∙ ap (λ (w : ℕ). 0xFF00 ∷ (w ∷ us)) (odd_frame (next_position t) (omega (arith, rises)))

    second : (vs : List ℕ) × (ws ≡ alignment_frame t.position ∷ vs) × Follow (alignment_next t).sender vs xs
        → AlignmentPair t ws xs
    second f =
        let n : length ws ≡ suc (length f.0) = ap length f.1 in
        let g = one_alignment (alignment_next t).sender f.0 xs (omega (arith, rises)) (omega arith) f.2 in
        record { rest = g.0; parts = both f.0 g.0 f.1 g.1; follow = g.2 }

aligning_more : (n : ℕ) (t : Sender) (ws us xs : List ℕ) → ws ≡ 0xFF00 ∷ (0x00FF ∷ us)
    → Aligning n (alignment_next (alignment_next t).sender).sender us xs → Aligning (suc n) t ws xs
unfolding alignment_pairs alignment_next
aligning_more n t ws us xs e r = record {
  later = r.later;
  parts = e ∙ ap (λ (l : List ℕ). 0xFF00 ∷ (0x00FF ∷ l)) r.parts;
  then = r.then;
  same_state = r.same_state;
  same_clock = r.same_clock;
  same_alignment = r.same_alignment;
  position_is = r.position_is;
  admitted = r.admitted;
  follow = r.follow;
}

alignment_pairs_lem : (n : ℕ) (t : Sender) (ws xs : List ℕ) → t.position + 2 * n ≡ t.alignment → Admitted t → 2 * n ≤ length ws
    → Follow t ws xs → Aligning n t ws xs
unfolding alignment_pairs alignment_next
alignment_pairs_lem zero t ws xs e a l r = record {
  later = ws;
  parts = refl;
  then = t;
  same_state = refl;
  same_clock = refl;
  same_alignment = refl;
  position_is = omega arith;
  admitted = a;
  follow = r;
}
alignment_pairs_lem (suc n) t ws xs e a l r =
    let u = (alignment_next t).sender in
    let v = (alignment_next u).sender in
    let p : u.position ≡ t.position + 1 = position_rises t (omega arith) in
    let q : v.position ≡ u.position + 1 = position_rises u (omega arith) in
    let pair = alignment_pair_lem t ws xs (omega arith) (omega arith) (omega arith) r in
    let k : length ws ≡ suc (suc (length pair.rest)) = ap length pair.parts in
    aligning_more n t ws pair.rest xs pair.parts
    (alignment_pairs_lem n v pair.rest xs (omega arith) (alignment_admitted u (alignment_admitted t a)) (omega arith)
    pair.follow)

length_pairs : (n : ℕ) → length (alignment_pairs n) ≡ 2 * n
unfolding alignment_pairs
length_pairs zero = refl
length_pairs (suc n) = omega (arith, length_pairs n)

-- ---- from position 0 on

-- the frames ws are those of the sequence, and later ones that encode the samples xs
pub record FromPosition0 (t : Sender) (ws xs : List ℕ) : Type 0 where
  pub first : List ℕ
  pub later : List ℕ
  pub parts : ws ≡ (alignment_pairs (t.alignment / 2) ++ first) ++ later
  pub count : length (alignment_pairs (t.alignment / 2) ++ first) ≡ t.alignment + 32
  pub first_encode : Encodes t.state 0 (replicate 32 0) first
  pub later_encode : Encodes (state_after 32 t.state) 0 xs later

parts_from_0 : (t : Sender) (ws xs : List ℕ) → t.alignment % 2 ≡ 0 → t.clock ≡ 0 → (p : Aligning (t.alignment / 2) t ws xs)
    → Proving 32 p.then p.later xs → FromPosition0 t ws xs
parts_from_0 t ws xs even-number c p q =
    let even : (p.then.clock + 32) % 2 ≡ 0 = omega (arith, p.same_clock) in
    record {
      first = q.first;
      later = q.later;
      parts =
          p.parts ∙ ap (λ (l : List ℕ). alignment_pairs (t.alignment / 2) ++ l) q.parts
          ∙ sym (append_assoc (alignment_pairs (t.alignment / 2)) q.first q.later);
      count =
          length-append (alignment_pairs (t.alignment / 2)) q.first
          ∙ omega (arith, length_pairs (t.alignment / 2), q.count, even-number);
      first_encode =
          subst₂ (λ (s d : ℕ). Encodes s d (replicate 32 0) q.first) p.same_state (p.same_clock ∙ c) q.first_encode;
      later_encode = subst₂ (λ (s d : ℕ). Encodes (state_after 32 s) d xs q.later) p.same_state even q.later_encode;
    }

pub from_position_0 : (t : Sender) (ws xs : List ℕ) → t.position ≡ 0 → t.clock ≡ 0 → Admitted t → t.alignment + 32 ≤ length ws
    → Follow t ws xs
    → FromPosition0 t ws xs
from_position_0 t ws xs e c a l r = go (alignment_pairs_lem (t.alignment / 2) t ws xs (omega arith) a (omega arith) r)
  where
    go : Aligning (t.alignment / 2) t ws xs → FromPosition0 t ws xs
    go p =
        let n : length ws ≡ length (alignment_pairs (t.alignment / 2)) + length p.later =
        ap length p.parts ∙ length-append (alignment_pairs (t.alignment / 2)) p.later in
        parts_from_0 t ws xs a.alignment_even c p
        (proving_encode 32 p.then p.later xs (omega (arith, p.position_is, p.same_alignment))
        (omega (arith, p.position_is, p.same_alignment)) p.admitted
        (omega (arith, length_pairs (t.alignment / 2))) p.follow)
