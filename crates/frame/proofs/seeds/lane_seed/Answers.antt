-- The table's rule is one test over the code's own table, which the checker computes.
use mathlib.Core.Path.{refl}
use Rattle.frame.specs.declared.seeds.TheConstants.{SEEDS}
use Prim.Native.Nat.{ℕ, ◌<◌}
use borrow.Author.Rules.{rules}
use Rattle.frame.specs.Scrambler.{upper_bits, next_state}
use Rattle.frame.proofs.Linear.{squared}
use Rattle.frame.proofs.Step.{step_columns}
use Rattle.frame.proofs.SeedTable.{entry_seed, entry_first}
use Rattle.frame.proofs.seeds.lane_seed.Goals as goal

pub returns : goal.returns
unfolding upper_bits next_state squared step_columns
returns c =
    let k : ℕ = c.args.lane in
    let below : k < 256 = search rules in
    (entry_seed k below SEEDS refl tt, entry_first k below SEEDS refl tt)
