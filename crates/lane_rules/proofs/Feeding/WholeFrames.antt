-- Sixteen bits are one frame judged, in every mode that collects frames; fewer hand out nothing. Assumes nothing.
use Prim.Native.Nat.{ℕ, suc, ◌+◌, ◌*◌, ◌/◌, ◌%◌, ◌^◌, ◌<◌}
use mathlib.Core.Path.{◌≡◌, refl, ap, sym, subst, ◌∙◌}
use mathlib.Core.List.{List, [], ◌∷◌, ◌++◌, append-nil}
use native.Mathlib.Omega.{arith}
use native.Mathlib.Nat.{pow-suc, add-zero, add-mul, mul_assoc}
use native.Mathlib.Numerals.{add-one}
use lib.ListN.{length}
use borrow.Author.Tests.{lt-ltb, le-ltb}
use Rattle.lane_rules.specs.Line.{bits_lsb_first}
use Rattle.lane_rules.specs.Receiver.{no_bits}
use Rattle.lane_rules.specs.Sums.{sums_by, sums_after}
use Rattle.lane_rules.specs.Judging.{quiet, judge_of}
use Rattle.lane_rules.specs.Collecting.{collect_of, holding, collected, step_of}
use Rattle.lane_rules.specs.Feeding.{item_of, items_in, Run, run_of}
use Rattle.lane_rules.specs.Outcomes.{told}
use Rattle.lane_rules.specs.declared.Partial.{Partial}
use Rattle.lane_rules.specs.declared.Sums.{Sums}
use Rattle.lane_rules.specs.declared.Mode.{Mode}
use Rattle.lane_rules.specs.declared.Mode.TheVariants.{Hunt, Flash, First, Prove, Locked}
use Rattle.lane_rules.specs.declared.Judged.{Judged}
use Rattle.lane_rules.proofs.Basics.Bits.{value, value_bits, length_bits}
use Rattle.lane_rules.proofs.Feeding.RunningTotals.{sums_append}
use Rattle.lane_rules.proofs.Feeding.Runs.{items_of, run_append_mode, run_append_outcomes, run_append_items}

-- every mode but Hunt collects frames
abbrev pub Collects : Mode → Type 0
Collects (Hunt bits count) = ⊥
Collects (Flash part frame) = Unit {0}
Collects (First part word clock) = Unit {0}
Collects (Prove part read state clock) = Unit {0}
Collects (Locked part results state clock) = Unit {0}

-- the bits held of a frame
abbrev pub part_of : Mode → Partial
part_of (Hunt bits count) = no_bits
part_of (Flash part frame) = part
part_of (First part word clock) = part
part_of (Prove part read state clock) = part
part_of (Locked part results state clock) = part

-- one bit, in every mode that collects
step_collects : (m : Mode) → Collects m → (b : ℕ) → step_of m b ≡ collected m (collect_of (part_of m) b)
unfolding step_of
step_collects (Hunt bits count) c b = absurd c
step_collects (Flash part frame) c b = refl
step_collects (First part word clock) c b = refl
step_collects (Prove part read state clock) c b = refl
step_collects (Locked part results state clock) c b = refl

-- a mode with other bits of a frame held
module _ (p : Partial) where
  pub holding_collects : (m : Mode) → Collects m → Collects (holding m p)
  unfolding holding
  holding_collects (Hunt bits count) c = c
  holding_collects (Flash part frame) c = c
  holding_collects (First part word clock) c = c
  holding_collects (Prove part read state clock) c = c
  holding_collects (Locked part results state clock) c = c

  pub part_holding : (m : Mode) → Collects m → part_of (holding m p) ≡ p
  unfolding holding
  part_holding (Hunt bits count) c = absurd c
  part_holding (Flash part frame) c = refl
  part_holding (First part word clock) c = refl
  part_holding (Prove part read state clock) c = refl
  part_holding (Locked part results state clock) c = refl

  judge_holding : (m : Mode) (w : ℕ) → judge_of (holding m p) w ≡ judge_of m w
  unfolding holding judge_of
  judge_holding (Hunt bits count) w = refl
  judge_holding (Flash part frame) w = refl
  judge_holding (First part word clock) w = refl
  judge_holding (Prove part read state clock) w = refl
  judge_holding (Locked part results state clock) w = refl

-- the bits held with one more
abbrev pub with_bit : Partial → ℕ → Partial
with_bit p b = record { bits = p.bits + b * 2 ^ p.count; count = p.count + 1 }

-- a bit that leaves the frame unfinished, and the bit that finishes it
module _ (m : Mode) (c : Collects m) (b : ℕ) where
  pub step_part : (part_of m).count < 15 → step_of m b ≡ quiet (holding m (with_bit (part_of m) b))
  unfolding collect_of collected
  step_part h = step_collects m c b ∙ rw (lt-ltb (part_of m).count 15 h)

  step_frame : (part_of m).count ≡ 15 → step_of m b ≡ judge_of m ((part_of m).bits + b * 2 ^ (part_of m).count)
  unfolding collect_of collected
  step_frame h = step_collects m c b ∙ rw (le-ltb (part_of m).count 15 (omega arith))

-- a run ends as a judged frame does, hands out just what the frame gives, and adds to the sums what the frame adds
pub record Judges (r : Run) (j : Judged) : Type 0 where
  pub mode : r.mode ≡ j.mode
  pub items : items_in r.outcomes ≡ item_of j.outcome
  pub sums : (s : Sums) → sums_after s r.outcomes ≡ sums_by s j.outcome
  pub outcomes : told r.outcomes ≡ told (j.outcome ∷ [])

-- the number that bits come to, after the bits held
abbrev pub whole_of : Partial → List ℕ → ℕ
whole_of p bs = p.bits + value bs * 2 ^ p.count

-- the same with the first of the bits held too
pub whole_more : (v n b x : ℕ) → (v + b * 2 ^ n) + x * 2 ^ (n + 1) ≡ v + (b + 2 * x) * 2 ^ n
whole_more v n b x =
    let e : x * 2 ^ (n + 1) ≡ x * 2 ^ n * 2 = rw (add-one n, pow-suc 2 n) (sym (mul_assoc x (2 ^ n) 2)) in
    omega (arith, e, add-mul b (2 * x) (2 ^ n), mul_assoc 2 x (2 ^ n))

-- bits that fill a frame
pub bits_judge : (m : Mode) → Collects m → (b : ℕ) (bs : List ℕ) → (part_of m).count + suc (length bs) ≡ 16
    → Judges (run_of m (b ∷ bs)) (judge_of m (whole_of (part_of m) (b ∷ bs)))
unfolding run_of items_in sums_after sums_by value told
bits_judge m c b [] h =
    let e : step_of m b ≡ judge_of m (whole_of (part_of m) (b ∷ [])) =
    step_frame m c b (omega arith) ∙ ap (λ (x : ℕ). judge_of m ((part_of m).bits + x * 2 ^ (part_of m).count)) (sym (add-zero b)) in
    record {
      mode = ap (λ (j : Judged). j.mode) e;
      items = append-nil _ ∙ ap (λ (j : Judged). item_of j.outcome) e;
      sums = λ s. ap (λ (j : Judged). sums_by s j.outcome) e;
      outcomes = ap (λ (j : Judged). told (j.outcome ∷ [])) e;
    }
bits_judge m c b (a ∷ bs) h =
    let p : Partial = with_bit (part_of m) b in
    let k : part_of (holding m p) ≡ p = part_holding p m c in
    let e : step_of m b ≡ quiet (holding m p) = step_part m c b (omega arith) in
    let j : Judges (run_of (holding m p) (a ∷ bs)) (judge_of (holding m p) (whole_of (part_of (holding m p)) (a ∷ bs))) =
    bits_judge (holding m p) (holding_collects p m c) a bs (ap (λ (q : Partial). q.count + suc (length bs)) k ∙ omega arith) in
    let w : judge_of (holding m p) (whole_of (part_of (holding m p)) (a ∷ bs)) ≡ judge_of m (whole_of (part_of m) (b ∷ (a ∷ bs))) =
    judge_holding p m _ ∙ ap (λ (q : Partial). judge_of m (whole_of q (a ∷ bs))) k
    ∙ ap (judge_of m) (whole_more (part_of m).bits (part_of m).count b (value (a ∷ bs))) in
    subst (λ (j : Judged). Judges (run_of m (b ∷ (a ∷ bs))) j) w (rw e (record { mode = j.mode; items = j.items; sums = j.sums; outcomes = j.outcomes }))

-- a whole frame, where no bits are held
frame_judges : (m : Mode) → Collects m → part_of m ≡ no_bits → (w : ℕ) → w < 65536 → Judges (run_of m (bits_lsb_first 16 w)) (judge_of m w)
unfolding bits_lsb_first
frame_judges m c e w h =
    let bs : List ℕ = bits_lsb_first 15 (w / 2) in
    let v : whole_of (part_of m) (bits_lsb_first 16 w) ≡ w =
    ap (λ (p : Partial). whole_of p (bits_lsb_first 16 w)) e ∙ omega (arith, value_bits 16 w h) in
    subst (λ (x : ℕ). Judges (run_of m (bits_lsb_first 16 w)) (judge_of m x)) v
    (bits_judge m c (w % 2) bs (ap (λ (p : Partial). p.count + suc (length bs)) e ∙ omega (arith, length_bits 15 (w / 2))))

-- the mode after it, and the items, with any bits after it
pub frame_mode : (m : Mode) → Collects m → part_of m ≡ no_bits → (w : ℕ) (rest : List ℕ) → w < 65536
    → (run_of m (bits_lsb_first 16 w ++ rest)).mode ≡ (run_of (judge_of m w).mode rest).mode
frame_mode m c e w rest h =
    run_append_mode m (bits_lsb_first 16 w) rest ∙ ap (λ (k : Mode). (run_of k rest).mode) (frame_judges m c e w h).mode

pub frame_items : (m : Mode) → Collects m → part_of m ≡ no_bits → (w : ℕ) (rest : List ℕ) → w < 65536
    → items_of m (bits_lsb_first 16 w ++ rest) ≡ item_of (judge_of m w).outcome ++ items_of (judge_of m w).mode rest
frame_items m c e w rest h =
    run_append_items m (bits_lsb_first 16 w) rest
    ∙ (λ i. (frame_judges m c e w h).items i ++ items_of ((frame_judges m c e w h).mode i) rest)

pub frame_sums : (m : Mode) → Collects m → part_of m ≡ no_bits → (w : ℕ) (rest : List ℕ) → w < 65536 → (s : Sums)
    → sums_after s (run_of m (bits_lsb_first 16 w ++ rest)).outcomes
    ≡ sums_after (sums_by s (judge_of m w).outcome) (run_of (judge_of m w).mode rest).outcomes
frame_sums m c e w rest h s =
    let j = frame_judges m c e w h in
    ap (sums_after s) (run_append_outcomes m (bits_lsb_first 16 w) rest) ∙ sums_append s (run_of m (bits_lsb_first 16 w)).outcomes _
    ∙ (λ i. sums_after (j.sums s i) (run_of (j.mode i) rest).outcomes)

-- fewer bits than a frame hand out nothing, ..
pub part_items : (m : Mode) → Collects m → (bs : List ℕ) → (part_of m).count + length bs < 16 → items_of m bs ≡ []
unfolding run_of items_in
part_items m c [] h = refl
part_items m c (b ∷ bs) h =
    let p : Partial = with_bit (part_of m) b in
    rw (step_part m c b (omega arith))
    (part_items (holding m p) (holding_collects p m c) bs
    (rw (part_holding p m c) (omega arith)))

-- .. and the sums rest
pub part_sums : (m : Mode) → Collects m → (bs : List ℕ) → (part_of m).count + length bs < 16 → (s : Sums)
    → sums_after s (run_of m bs).outcomes ≡ s
unfolding run_of sums_after sums_by
part_sums m c [] h s = refl
part_sums m c (b ∷ bs) h s =
    let p : Partial = with_bit (part_of m) b in
    rw (step_part m c b (omega arith))
    (part_sums (holding m p) (holding_collects p m c) bs
    (rw (part_holding p m c) (omega arith)) s)
