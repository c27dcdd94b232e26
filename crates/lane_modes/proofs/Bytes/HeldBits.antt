-- Bits that make no frame, where frames are collected: they are held. Assumes nothing.
use Prim.Native.Nat.{ℕ, suc, ◌+◌, ◌*◌, ◌^◌, ◌<◌}
use mathlib.Core.Path.{◌≡◌, refl, ap, sym, ◌∙◌}
use mathlib.Core.List.{List, [], ◌∷◌}
use native.Mathlib.Omega.{arith}
use native.Mathlib.Nat.{add-zero}
use lib.ListN.{length}
use Rattle.lane_rules.specs.Line.{bits_lsb_first}
use Rattle.lane_rules.specs.Receiver.{no_bits}
use Rattle.lane_rules.specs.Collecting.{held_part, holding, hunt_of, step_of}
use Rattle.lane_rules.specs.Feeding.{run_of}
use Rattle.lane_rules.specs.Outcomes.{told}
use Rattle.lane_rules.specs.declared.Partial.{Partial}
use Rattle.lane_rules.specs.declared.Mode.{Mode}
use Rattle.lane_rules.specs.declared.Mode.TheVariants.{Hunt, Flash, First, Prove, Locked}
use Rattle.lane_rules.specs.declared.Judged.{Judged}
use Rattle.lane_rules.proofs.Basics.Bits.{value, value_bits, length_bits}
use Rattle.lane_rules.proofs.Feeding.ItemSpacing.{Bare, hunt_bare}
use Rattle.lane_rules.proofs.Feeding.WholeFrames.{Collects, part_of, holding_collects, part_holding, with_bit, step_part, whole_of, whole_more}

-- ---- the bits held

pub part_is : (m : Mode) → part_of m ≡ held_part m
unfolding held_part
part_is (Hunt bits count) = refl
part_is (Flash part frame) = refl
part_is (First part word clock) = refl
part_is (Prove part read state clock) = refl
part_is (Locked part results state clock) = refl

-- a mode holds the bits that it holds
pub holding_held : (m : Mode) → holding m (held_part m) ≡ m
unfolding holding held_part
holding_held (Hunt bits count) = refl
holding_held (Flash part frame) = refl
holding_held (First part word clock) = refl
holding_held (Prove part read state clock) = refl
holding_held (Locked part results state clock) = refl

holding_twice : (m : Mode) (p q : Partial) → holding (holding m p) q ≡ holding m q
unfolding holding
holding_twice (Hunt bits count) p q = refl
holding_twice (Flash part frame) p q = refl
holding_twice (First part word clock) p q = refl
holding_twice (Prove part read state clock) p q = refl
holding_twice (Locked part results state clock) p q = refl

-- ---- bits that make no frame, where frames are collected

abbrev pub with_bits : Partial → List ℕ → Partial
with_bits p bs = record { bits = whole_of p bs; count = p.count + length bs }

pub part_mode : (m : Mode) → Collects m → (bs : List ℕ) → (part_of m).count + length bs < 16
    → (run_of m bs).mode ≡ holding m (with_bits (part_of m) bs)
unfolding run_of value
part_mode m c [] h =
    let e : with_bits (part_of m) [] ≡ part_of m =
    λ i. record {
      bits = (let f : (part_of m).bits + 0 * 2 ^ (part_of m).count ≡ (part_of m).bits = omega arith in f) i;
      count = add-zero (part_of m).count i;
    } in
    sym (ap (holding m) (e ∙ part_is m) ∙ holding_held m)
part_mode m c (b ∷ bs) h =
    let p : Partial = with_bit (part_of m) b in
    let k : part_of (holding m p) ≡ p = part_holding p m c in
    let n : (part_of (holding m p)).count + length bs < 16 = rw k (omega arith) in
    let e : with_bits p bs ≡ with_bits (part_of m) (b ∷ bs) =
    λ i. record {
      bits = whole_more (part_of m).bits (part_of m).count b (value bs) i;
      count = (let f : (part_of m).count + 1 + length bs ≡ (part_of m).count + suc (length bs) = omega arith in f) i;
    } in
    ap (λ (j : Judged). (run_of j.mode bs).mode) (step_part m c b (omega arith))
    ∙ (part_mode (holding m p) (holding_collects p m c) bs n ∙ ap (λ (q : Partial). holding (holding m p) (with_bits q bs)) k
    ∙ holding_twice m p (with_bits p bs) ∙ ap (holding m) e)

pub part_outcomes : (m : Mode) → Collects m → (bs : List ℕ) → (part_of m).count + length bs < 16 → told (run_of m bs).outcomes ≡ []
unfolding run_of told
part_outcomes m c [] h = refl
part_outcomes m c (b ∷ bs) h =
    let p : Partial = with_bit (part_of m) b in
    rw (step_part m c b (omega arith))
    (part_outcomes (holding m p) (holding_collects p m c) bs (rw (part_holding p m c) (omega arith)))

-- the same where no bits are held yet; such bits hand out nothing, in Hunt too

pub rest_mode : (m : Mode) → Collects m → Bare m → (n y : ℕ) → n < 16 → y < 2 ^ n
    → (run_of m (bits_lsb_first n y)).mode ≡ holding m (record { bits = y; count = n })
rest_mode m c e n y h l =
    let none : part_of m ≡ no_bits = part_is m ∙ e in
    let bs : List ℕ = bits_lsb_first n y in
    let long : length bs ≡ n = length_bits n y in
    let few : (part_of m).count + length bs < 16 = rw none (omega arith) in
    let all : with_bits no_bits bs ≡ record { bits = y; count = n } =
    λ i. record {
      bits = (let f : 0 + value bs * 2 ^ 0 ≡ y = omega (arith, value_bits n y l) in f) i;
      count = (let f : 0 + length bs ≡ n = omega arith in f) i;
    } in
    part_mode m c bs few ∙ ap (λ (p : Partial). holding m (with_bits p bs)) none ∙ ap (holding m) all

bare_few : (m : Mode) → Bare m → (bs : List ℕ) → length bs < 16 → (part_of m).count + length bs < 16
bare_few m e bs h = rw (part_is m ∙ e) (omega arith)

pub bare_outcomes : (bs : List ℕ) (m : Mode) → Bare m → length bs < 16 → told (run_of m bs).outcomes ≡ []
unfolding run_of step_of told
bare_outcomes [] m e h = refl
bare_outcomes (b ∷ bs) (Hunt bits count) e h = bare_outcomes bs (hunt_of bits count b) (hunt_bare bits count b) (omega arith)
bare_outcomes (b ∷ bs) (Flash part frame) e h = part_outcomes (Flash part frame) tt (b ∷ bs) (bare_few _ e (b ∷ bs) h)
bare_outcomes (b ∷ bs) (First part word clock) e h =
    part_outcomes (First part word clock) tt (b ∷ bs) (bare_few _ e (b ∷ bs) h)
bare_outcomes (b ∷ bs) (Prove part read state clock) e h =
    part_outcomes (Prove part read state clock) tt (b ∷ bs) (bare_few _ e (b ∷ bs) h)
bare_outcomes (b ∷ bs) (Locked part results state clock) e h =
    part_outcomes (Locked part results state clock) tt (b ∷ bs) (bare_few _ e (b ∷ bs) h)
