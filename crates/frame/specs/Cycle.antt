-- Document 02, Q-14, "How long the scrambler lasts": the cycle that the step runs through.
use Rattle.std.specs.Prelude.{◌≡◌, ◌≢◌, ℕ, ◌+◌, ◌-◌, ◌<◌}
use Rattle.frame.specs.Scrambler.{state_after}

-- the period, in steps: "exactly 131,071 steps"
abbrev pub period_steps : ℕ
period_steps = 131071

-- From s, "the state returns for the first time after exactly" n steps.
pub record FirstReturn (n s : ℕ) : Type 0 where
  pub returns : state_after n s ≡ s
  pub not_before : (m : ℕ) → 0 < m → m < n → state_after m s ≢ s

-- In a period from s on, t comes up exactly once.
pub record ComesOnce (s t : ℕ) : Type 0 where
  pub steps : ℕ
  pub in_period : steps < period_steps
  pub comes : state_after steps s ≡ t
  pub only_then : (m : ℕ) → m < period_steps → state_after m s ≡ t → m ≡ steps

-- t is n steps after s one way round the cycle, and s is the rest of a period after t the other way round: from there on one runs
-- through the other's states, and neither comes to the other sooner.
pub record StepsApart (n s t : ℕ) : Type 0 where
  pub there : (m : ℕ) → state_after (m + n) s ≡ state_after m t
  pub back : (m : ℕ) → state_after (m + (period_steps - n)) t ≡ state_after m s
  pub not_sooner_there : (m : ℕ) → m < n → state_after m s ≢ t
  pub not_sooner_back : (m : ℕ) → m < period_steps - n → state_after m t ≢ s

-- Different states s and t are on the same cycle.
pub record SameCycle (s t : ℕ) : Type 0 where
  pub steps : ℕ
  pub some : 0 < steps
  pub in_period : steps < period_steps
  pub apart : StepsApart steps s t
