-- The alignment pattern as bits, counted by the bits that are left of it. Assumes nothing.
use Prim.Native.Nat.{ℕ, zero, suc, ◌+◌, ◌*◌, ◌%◌, ◌<◌}
use mathlib.Core.Path.{◌≡◌, refl, ap, sym, ◌∙◌}
use mathlib.Core.Bool.{cond, ◌&&◌}
use mathlib.Core.List.{List, [], ◌∷◌, ◌++◌, append_assoc}
use native.Mathlib.Omega.{arith}
use native.Mathlib.Nat.{zero-add, suc-add, add_assoc, mod-mod, add-mod-mod}
use lib.Dec.{T, eqb, ltb, eqb→eq, ltb→lt}
use lib.ListN.{length, take, drop, length-append}
use lib.Seq.{take_at, drop_at}
use Rattle.frame.specs.Frame.{inverted, reading_of, content_in}
use Rattle.frame.proofs.Laws.{inverted_reads_same}
use Rattle.lane_rules.specs.Line.{bits_lsb_first, frame_bits}
use Rattle.lane_rules.specs.Sender.{alignment_pairs}
use Rattle.std.proofs.Math.Facts.{and_yes}
use Rattle.lane_rules.proofs.Basics.Tables.{below}
use Rattle.lane_rules.proofs.Basics.Bits.{value}

-- the bit after which n bits are left: of 32 bits eight zeros, sixteen ones and eight zeros
unfoldable pub pattern_bit : ℕ → ℕ
pattern_bit n = cond (ltb 7 (n % 32) && ltb (n % 32) 24) 1 0

-- the last n bits
unfoldable pub pattern : ℕ → List ℕ
pattern zero = []
pattern (suc n) = pattern_bit n ∷ pattern n

-- the k bits before the last m
unfoldable pub stretch : ℕ → ℕ → List ℕ
stretch zero m = []
stretch (suc k) m = pattern_bit (k + m) ∷ stretch k m

pub pattern_stretch : (k m : ℕ) → pattern (k + m) ≡ stretch k m ++ pattern m
unfolding pattern stretch
pattern_stretch zero m = rw zero-add
pattern_stretch (suc k) m = rw suc-add (ap (λ (l : List ℕ). pattern_bit (k + m) ∷ l) (pattern_stretch k m))

pub stretch_append : (j k m : ℕ) → stretch (j + k) m ≡ stretch j (k + m) ++ stretch k m
unfolding stretch
stretch_append zero k m = rw zero-add
stretch_append (suc j) k m =
    rw suc-add (λ i. pattern_bit (add_assoc j k m i) ∷ stretch_append j k m i)

pub length_stretch : (k m : ℕ) → length (stretch k m) ≡ k
unfolding stretch
length_stretch zero m = refl
length_stretch (suc k) m = ap suc (length_stretch k m)

length_pattern : (n : ℕ) → length (pattern n) ≡ n
unfolding pattern
length_pattern zero = refl
length_pattern (suc n) = ap suc (length_pattern n)

-- any bits of the pattern
module _ (n : ℕ) (before bits after : List ℕ) (is : pattern n ≡ before ++ (bits ++ after)) where
  abbrev a : ℕ
  a = length before

  abbrev b : ℕ
  b = length bits

  abbrev c : ℕ
  c = length after

  parts : stretch a (b + c) ++ (stretch b c ++ pattern c) ≡ before ++ (bits ++ after)
  parts =
      let count : n ≡ a + (b + c) =
      omega (arith, length_pattern n, ap length is, length-append before (bits ++ after), length-append bits after) in
      sym (pattern_stretch a (b + c) ∙ ap (λ (l : List ℕ). stretch a (b + c) ++ l) (pattern_stretch b c))
      ∙ ap pattern (sym count) ∙ is

  pub bits_of_pattern : bits ≡ stretch b c
  bits_of_pattern =
      sym (take_at bits after b refl) ∙ ap (take b) (sym (drop_at before (bits ++ after) a refl))
      ∙ ap (λ (l : List ℕ). take b (drop a l)) (sym parts)
      ∙ ap (take b) (drop_at (stretch a (b + c)) _ a (length_stretch a (b + c)))
      ∙ take_at (stretch b c) (pattern c) b (length_stretch b c)

-- the first of them
pub first_of_stretch : (k j m : ℕ) → take k (stretch (k + j) m) ≡ stretch k (j + m)
first_of_stretch k j m =
    ap (take k) (stretch_append k j m) ∙ take_at (stretch k (j + m)) (stretch j m) k (length_stretch k (j + m))

-- the pattern comes again after 32 bits
bit_mod : (n : ℕ) → pattern_bit (n % 32) ≡ pattern_bit n
unfolding pattern_bit
bit_mod n = rw mod-mod

stretch_mod : (k m : ℕ) → stretch k (m % 32) ≡ stretch k m
unfolding stretch
stretch_mod zero m = refl
stretch_mod (suc k) m =
    let e : pattern_bit (k + m % 32) ≡ pattern_bit (k + m) =
    sym (bit_mod (k + m % 32)) ∙ ap pattern_bit (add-mod-mod k m 32) ∙ bit_mod (k + m) in
    rw (e, stretch_mod k m)

pub stretch_32 : (k i : ℕ) → stretch k (32 * i) ≡ stretch k 0
stretch_32 k i = sym (stretch_mod k (32 * i)) ∙ ap (stretch k) (omega arith)

-- 32 bits of it are the two alignment frames
one_pair : stretch 32 0 ≡ bits_lsb_first 16 0xFF00 ++ bits_lsb_first 16 0x00FF
unfolding stretch pattern_bit bits_lsb_first
one_pair = refl

no_pair : [] ≡ pattern 0
unfolding pattern
no_pair = refl

pub pairs_pattern : (n : ℕ) → frame_bits (alignment_pairs n) ≡ pattern (32 * n)
unfolding frame_bits alignment_pairs
pairs_pattern zero = no_pair
pairs_pattern (suc n) =
    let d : 32 + 32 * n ≡ 32 * suc n = omega arith in
    sym (append_assoc (bits_lsb_first 16 0xFF00) (bits_lsb_first 16 0x00FF) (frame_bits (alignment_pairs n)))
    ∙ (λ i. (sym one_pair ∙ sym (stretch_32 32 n)) i ++ pairs_pattern n i)
    ∙ sym (pattern_stretch 32 (32 * n))
    ∙ ap pattern d

-- ---- whole frames of the pattern, at any offset

-- the frame after which m bits are left
unfoldable pub frame_at : ℕ → ℕ
frame_at m = value (stretch 16 m)

pub frame_mod : (m : ℕ) → frame_at (m % 32) ≡ frame_at m
unfolding frame_at
frame_mod m = ap value (stretch_mod 16 m)

-- sixteen bits earlier it is inverted, ..
inverted_table : (k : ℕ) → k < 32 → T (ltb (frame_at k) 65536 && eqb (frame_at ((16 + k) % 32)) (inverted (frame_at k)))
unfolding frame_at stretch pattern_bit value
inverted_table k h = below (λ j. ltb (frame_at j) 65536 && eqb (frame_at ((16 + j) % 32)) (inverted (frame_at j))) 32 tt k h

-- .. so that both read the same
pub reads_same : (m : ℕ) → content_in (reading_of (frame_at (16 + m))) ≡ content_in (reading_of (frame_at m))
reads_same m =
    let k : ℕ = m % 32 in
    let t : T (ltb (frame_at k) 65536 && eqb (frame_at ((16 + k) % 32)) (inverted (frame_at k))) = inverted_table k (omega arith) in
    let e : frame_at ((16 + k) % 32) ≡ inverted (frame_at k) = eqb→eq _ _ ((and_yes (ltb (frame_at k) 65536) _ t).1) in
    ap (λ (w : ℕ). content_in (reading_of w)) (sym (frame_mod (16 + m)) ∙ ap frame_at (sym (add-mod-mod 16 m 32)) ∙ e)
    ∙ inverted_reads_same (frame_at k) (ltb→lt _ _ ((and_yes (ltb (frame_at k) 65536) _ t).0))
    ∙ ap (λ (w : ℕ). content_in (reading_of w)) (frame_mod m)
