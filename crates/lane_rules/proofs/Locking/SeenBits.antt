-- The bits of a run as the latest bits that Hunt holds, or as frames and the bits held of the next, and one bit more. Assumes nothing.
use Prim.Native.Nat.{ℕ, suc, ◌+◌, ◌*◌, ◌/◌, ◌^◌, ◌≤◌, ◌<◌}
use mathlib.Core.Path.{◌≡◌, refl, ap, sym, subst, ◌∙◌}
use mathlib.Core.List.{List, [], ◌∷◌, ◌++◌, append_assoc, append-nil}
use native.Mathlib.Omega.{arith}
use native.Mathlib.Nat.{pow-suc, mul_assoc}
use lib.ListN.{length}
use Rattle.std.proofs.lemmas.List.{length_push}
use Rattle.lane_rules.specs.Line.{bits_lsb_first, frame_bits, AreBits}
use Rattle.lane_rules.specs.Receiver.{no_bits}
use Rattle.lane_rules.specs.declared.Partial.{Partial}
use Rattle.lane_rules.proofs.Basics.Bits.{value, bits_value, are_bits_append, frame_bits_append}

-- the number of bits with one more at the end
value_more : (bs : List ℕ) (b : ℕ) → value (bs ++ (b ∷ [])) ≡ value bs + b * 2 ^ length bs
unfolding value
value_more [] b = omega arith
value_more (x ∷ xs) b =
    let e : b * 2 ^ suc (length xs) ≡ b * 2 ^ length xs * 2 =
    ap (λ (k : ℕ). b * k) (pow-suc 2 (length xs)) ∙ sym (mul_assoc b (2 ^ length xs) 2) in
    omega (arith, value_more xs b, e)

pub one_bit : (b : ℕ) → b < 2 → AreBits (b ∷ [])
unfolding AreBits
one_bit b h = (h, tt)

-- ---- Hunt

-- the latest n of the bits come to v
pub record Latest (v n : ℕ) (bits : List ℕ) : Type 0 where
  pub before : List ℕ
  pub held : List ℕ
  pub parts : bits ≡ before ++ held
  pub are : AreBits held
  pub count : length held ≡ n
  pub number : value held ≡ v

pub none_latest : (bits : List ℕ) → Latest 0 0 bits
unfolding AreBits value
none_latest bits = record { before = bits; held = []; parts = sym (append-nil bits); are = tt; count = refl; number = refl }

module _ (v n b : ℕ) (bits : List ℕ) (small : b < 2) (l : Latest v n bits) where
  pub latest_more : Latest (v + b * 2 ^ n) (n + 1) (bits ++ (b ∷ []))
  latest_more = record {
    before = l.before;
    held = l.held ++ (b ∷ []);
    parts = ap (λ (x : List ℕ). x ++ (b ∷ [])) l.parts ∙ append_assoc l.before l.held (b ∷ []);
    are = are_bits_append l.held (b ∷ []) l.are (one_bit b small);
    count = length_push l.held b ∙ ap (λ (k : ℕ). k + 1) l.count;
    number = value_more l.held b ∙ (λ i. l.number i + b * 2 ^ (l.count i));
  }

-- without the earliest
latest_fewer : (v n : ℕ) (bits : List ℕ) → Latest v (suc n) bits → Latest (v / 2) n bits
unfolding AreBits value
latest_fewer v n bits l = go l.held l.parts l.are l.count l.number
  where
    go : (held : List ℕ) → bits ≡ l.before ++ held → AreBits held → length held ≡ suc n → value held ≡ v → Latest (v / 2) n bits
    go [] p a k e = absurd (omega arith)
    go (x ∷ xs) p a k e = record {
      before = l.before ++ (x ∷ []);
      held = xs;
      parts = p ∙ sym (append_assoc l.before (x ∷ []) xs);
      are = a.1;
      count = omega arith;
      number = omega (arith, a.0);
    }

pub latest_full : (v b : ℕ) (bits : List ℕ) → b < 2 → Latest v 32 bits → Latest (v / 2 + b * 2 ^ 31) 32 (bits ++ (b ∷ []))
latest_full v b bits small l = latest_more (v / 2) 31 b bits small (latest_fewer v 31 bits l)

-- ---- the other modes

-- frames of which something is known, and the bits held of the next
pub record InFrames (part : Partial) (Known : List ℕ → Type 0) (bits : List ℕ) : Type 0 where
  pub before : List ℕ
  pub frames : List ℕ
  pub held : List ℕ
  pub parts : bits ≡ before ++ (frame_bits frames ++ held)
  pub are : AreBits held
  pub count : length held ≡ part.count
  pub number : value held ≡ part.bits
  pub most : part.count ≤ 15
  pub known : Known frames

-- the bits held with one more
abbrev pub with_bit : Partial → ℕ → Partial
with_bit p b = record { bits = p.bits + b * 2 ^ p.count; count = p.count + 1 }

module _ (p : Partial) (b : ℕ) (bits : List ℕ) (small : b < 2) (Known : List ℕ → Type 0) (f : InFrames p Known bits) where
  more_parts : bits ++ (b ∷ []) ≡ f.before ++ (frame_bits f.frames ++ (f.held ++ (b ∷ [])))
  more_parts =
      ap (λ (x : List ℕ). x ++ (b ∷ [])) f.parts ∙ append_assoc f.before (frame_bits f.frames ++ f.held) (b ∷ [])
      ∙ ap (λ (x : List ℕ). f.before ++ x) (append_assoc (frame_bits f.frames) f.held (b ∷ []))

  more_are : AreBits (f.held ++ (b ∷ []))
  more_are = are_bits_append f.held (b ∷ []) f.are (one_bit b small)

  more_number : value (f.held ++ (b ∷ [])) ≡ p.bits + b * 2 ^ p.count
  more_number = value_more f.held b ∙ (λ i. f.number i + b * 2 ^ (f.count i))

  pub held_more : p.count < 15 → InFrames (with_bit p b) Known (bits ++ (b ∷ []))
  held_more h = record {
    before = f.before;
    frames = f.frames;
    held = f.held ++ (b ∷ []);
    parts = more_parts;
    are = more_are;
    count = length_push f.held b ∙ ap (λ (k : ℕ). k + 1) f.count;
    number = more_number;
    most = omega arith;
    known = f.known;
  }

  abbrev frame : ℕ
  frame = p.bits + b * 2 ^ p.count

  -- the frame made whole
  whole : 15 ≤ p.count → (bits_lsb_first 16 frame ≡ f.held ++ (b ∷ [])) × (frame < 65536)
  whole h =
      let n : length (f.held ++ (b ∷ [])) ≡ 16 = length_push f.held b ∙ omega (arith, f.count, f.most) in
      let v = bits_value (f.held ++ (b ∷ [])) more_are in
      let e = more_number in (
        (λ i. bits_lsb_first (sym n i) (sym e i)) ∙ v.0,
        subst (λ (x : ℕ). x < 65536) e (subst (λ (k : ℕ). value (f.held ++ (b ∷ [])) < 2 ^ k) n v.1),
      )

  -- it comes after the frames, and no bits are held
  pub frame_more : (Then : List ℕ → Type 0) → 15 ≤ p.count → (frame < 65536 → Known f.frames → Then (f.frames ++ (frame ∷ [])))
      → InFrames no_bits Then (bits ++ (b ∷ []))
  unfolding AreBits value frame_bits
  frame_more Then h k =
      let w = whole h in
      record {
        before = f.before;
        frames = f.frames ++ (frame ∷ []);
        held = [];
        parts =
            more_parts ∙ ap (λ (x : List ℕ). f.before ++ (frame_bits f.frames ++ x)) (sym w.0 ∙ sym (append-nil (bits_lsb_first 16 frame)))
            ∙ ap (λ (x : List ℕ). f.before ++ x)
            (sym (append-nil (frame_bits f.frames ++ (bits_lsb_first 16 frame ++ [])) ∙ refl)
            ∙ ap (λ (x : List ℕ). x ++ []) (sym (frame_bits_append f.frames (frame ∷ []))));
        are = tt;
        count = refl;
        number = refl;
        most = omega arith;
        known = k w.1 f.known;
      }
