-- The rule on faults, as the code counts them. Assumes nothing.
use Prim.Native.Nat.{ℕ, ◌+◌, ◌*◌, ◌%◌, ◌^◌, ◌≤◌, ◌<◌}
use mathlib.Core.Path.{◌≡◌, refl}
use mathlib.Core.Bool.{Bool, true, false, cond}
use native.Mathlib.Omega.{arith}
use mir.Val.{bool_byte}
use Rattle.std.specs.Bool.{then_some}
use lib.Count.{ones_in, ones}
use lib.Dec.{T, leb, leb→le}
use borrow.Author.Tests.{leb-true, le-leb}
use Rattle.frame.proofs.Ones.{ones_in_lem}
use Rattle.std.specs.Cmp.{second_so}
use Rattle.lane_rules.specs.Receiver.{faults_in, most_faults, results_admitted}
use Rattle.lane_rules.specs.Judging.{with_result, fault_rule}
use Rattle.std.specs.Prelude.{Some, None}
use Rattle.lane_rules.proofs.Basics.Tables.{below}
use Rattle.lane_rules.proofs.Modes.FaultRule.{results_range}

-- the faulty ones, as the code counts them
pub count_faults : (r : ℕ) → r < 256 → ones r ≡ faults_in r
unfolding faults_in
count_faults r h = ones_in_lem 8 r h

pub bit_of_fault : (t : Bool) → bool_byte t ≤ 1
bit_of_fault true = omega arith
bit_of_fault false = omega arith

some_told : (t : Bool) (x : ℕ) → then_some t x ≡ cond t (Some x) None
some_told true x = refl
some_told false x = refl

-- the rule, from the results with a bit that tells whether the frame is faulty; the code's numbers m and k come by equations, so that a
-- wrong one is refused by its value
pub rule_told : (r : ℕ) (t : Bool) (b m k : ℕ) → b ≡ bool_byte t → m ≡ 256 → k ≡ most_faults
    → then_some (leb (ones ((2 * r + b) % m)) k) ((2 * r + b) % m) ≡ fault_rule r t
unfolding fault_rule with_result
rule_told r true b m k e f g = rw (f, g, e, count_faults ((2 * r + 1) % 256) (omega arith)) (some_told _ _)
rule_told r false b m k e f g = rw (f, g, e, count_faults ((2 * r + 0) % 256) (omega arith)) (some_told _ _)

-- a sound frame adds no fault, so it keeps lock
sound_table : (r : ℕ) → r < 256 → T (leb (faults_in (2 * r % 256)) (faults_in r))
unfolding faults_in ones_in
sound_table r h = below (λ q. leb (faults_in (2 * q % 256)) (faults_in q)) 256 tt r h

pub sound_keeps : (r : ℕ) → results_admitted r ≡ true → fault_rule r false ≡ Some (2 * r % 256)
unfolding fault_rule with_result results_admitted
sound_keeps r a =
    let same : (2 * r + 0) % 2 ^ 8 ≡ 2 * r % 256 = omega arith in
    let none : faults_in (2 * r % 256) ≤ faults_in r = leb→le _ _ (sound_table r (results_range r a)) in
    let few : faults_in r ≤ most_faults = leb-true _ _ (second_so (leb r 255) _ a) in
    rw (same, le-leb (faults_in (2 * r % 256)) most_faults (omega arith))
