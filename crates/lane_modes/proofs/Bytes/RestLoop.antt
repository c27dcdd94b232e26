-- The loop over bits that make no frame: what holds at its head, at the start and after a turn, and what it says at the end. Assumes
-- nothing.
use Prim.Native.Nat.{ℕ, zero, suc, ◌+◌, ◌-◌, ◌/◌, ◌%◌, ◌^◌, ◌≤◌, ◌<◌}
use mathlib.Core.Path.{◌≡◌, refl, ap, sym, subst, ◌∙◌}
use mathlib.Core.Bool.{true}
use native.Mathlib.Omega.{arith}
use native.Mathlib.Nat.{pow-suc}
use lib.Pow.{shr-shr}
use Rattle.lane_rules.specs.Line.{bits_lsb_first}
use Rattle.lane_rules.specs.Receiver.{part_admitted, mode_admitted}
use Rattle.lane_rules.specs.Collecting.{holding, hunt_of, step_of}
use Rattle.lane_rules.specs.Feeding.{Run, run_of}
use Rattle.lane_rules.specs.declared.Partial.{Partial}
use Rattle.lane_rules.specs.declared.Mode.{Mode}
use Rattle.lane_rules.specs.declared.Mode.TheVariants.{Hunt}
use Rattle.lane_rules.proofs.Modes.ModeRecord.{part_in}
use Rattle.lane_rules.proofs.Modes.AdmittedKept.{step_kept}
use Rattle.lane_rules.proofs.Feeding.ItemSpacing.{Bare, hunt_bare}
use Rattle.lane_rules.proofs.Feeding.WholeFrames.{Collects}
use Rattle.lane_modes.proofs.Bytes.HeldBits.{rest_mode}
use Rattle.lane_modes.proofs.Bytes.LeftBits.{left_next, left_none}

-- ---- bits that make no frame: in mode m the n bits of y; now in mode d the k bits of z

pub record Rest (m : Mode) (y n : ℕ) (d : Mode) (z k : ℕ) : Type 0 where
  pub good : mode_admitted d ≡ true
  pub bare : Bare d
  pub few : k < 16
  pub fits : z < 2 ^ k
  pub ends : (run_of d (bits_lsb_first k z)).mode ≡ (run_of m (bits_lsb_first n y)).mode

pub rest_holds : (m : Mode) (p : Partial) → mode_admitted m ≡ true → Bare m → part_admitted p ≡ true
    → Rest m p.bits p.count m (p.bits / 2 ^ 0) (p.count - 0)
rest_holds m p g e a =
    let q = part_in p a in
    let all : p.bits ≡ p.bits / 2 ^ 0 = omega arith in
    let none : p.count ≡ p.count - 0 = omega arith in
    subst (λ (k : ℕ). Rest m p.bits p.count m (p.bits / 2 ^ 0) k) none
    (subst (λ (z : ℕ). Rest m p.bits p.count m z p.count) all
    (record { good = g; bare = e; few = omega (arith, q.0); fits = q.1; ends = refl }))

module _ {m : Mode} {y n : ℕ} {d : Mode} {z k : ℕ} (r : Rest m y n d z k) where
  pub rest_kept : Collects d → holding d (record { bits = z; count = k }) ≡ (run_of m (bits_lsb_first n y)).mode
  rest_kept c = sym (rest_mode d c r.bare k z r.few r.fits) ∙ r.ends

  pub rest_ends : k ≤ 0 → d ≡ (run_of m (bits_lsb_first n y)).mode
  rest_ends h = ap (λ (q : Run). q.mode) (sym (left_none d k z h)) ∙ r.ends

half_fits : (k z : ℕ) → 0 < k → z < 2 ^ k → z / 2 < 2 ^ (k - 1)
half_fits zero z h l = absurd (omega arith)
half_fits (suc n) z h l = let e : suc n - 1 ≡ n = omega arith in rw e (omega (arith, pow-suc 2 n))

-- one bit in Hunt
module _ (m : Mode) (y n t c : ℕ) where
  abbrev z : ℕ
  z = y / 2 ^ t

  abbrev k : ℕ
  k = c - t

  hunt_again : (bits count : ℕ) → Rest m y n (Hunt bits count) z k → 0 < k
      → Rest m y n (hunt_of bits count (z % 2)) (z / 2) (k - 1)
  unfolding step_of
  hunt_again bits count r h =
      record {
        good = step_kept (Hunt bits count) (z % 2) r.good (omega arith);
        bare = hunt_bare bits count (z % 2);
        few = omega (arith, r.few);
        fits = half_fits k z h r.fits;
        ends = sym (ap (λ (q : Run). q.mode) (left_next (Hunt bits count) k z h)) ∙ r.ends;
      }

  pub rest_again : (d : Mode) → Rest m y n d z k → t < c → (bits count : ℕ) → d ≡ Hunt bits count → (d' : Mode)
      → d' ≡ hunt_of bits count (z % 2) → Rest m y n d' (y / 2 ^ (t + 1)) (c - (t + 1))
  rest_again d r h bits count e d' f =
      let less : k - 1 ≡ c - (t + 1) = omega arith in
      let next = hunt_again bits count (subst (λ (q : Mode). Rest m y n q z k) e r) (omega arith) in
      subst (λ (q : Mode). Rest m y n q (y / 2 ^ (t + 1)) (c - (t + 1))) (sym f)
      (subst (λ (w : ℕ). Rest m y n (hunt_of bits count (z % 2)) w (c - (t + 1))) (shr-shr y t 1)
      (subst (λ (j : ℕ). Rest m y n (hunt_of bits count (z % 2)) (z / 2) j) less next))
