use mathlib.Core.Path.{◌≡◌, sym, ap, ◌∙◌}
use mathlib.Core.Bool.{true}
use mathlib.Core.Logic.{inl, inr}
use mir.Facts.{to_z-of_z}
use borrow.Author.Tests.{le-leb, lt-leb}
use Rattle.frame.specs.Scrambler.{is_state}
use Rattle.frame.specs.Frame.{is_sample, is_clock, within, plain_frame, build_answer}
use Rattle.frame.proofs.Building.{build_taken, build_refused_5, build_refused_4}
use Rattle.frame.proofs.frame.build.Goals as goal
use Rattle.frame.proofs.frame.build.Goals.{After-is_running_disparity}

-- the state and the clock bit are in their ranges
module _ (c : After-is_running_disparity) where
  good_state : is_state c.args.state ≡ true
  good_state = sym c.is_state.ensures ∙ c.if-not-is_state.false

  good_clock : is_clock c.args.clock ≡ true
  unfolding is_clock
  good_clock = le-leb _ _ c.if-clock-gt1.false

  -- the test of R, which is read as it is
  r_tested : c.is_running_disparity.result ≡ within 16 c.args.r
  r_tested = c.is_running_disparity.ensures ∙ ap (within 16) (to_z-of_z c.ranges.r)

pub returns-then-not-is_state : goal.returns-then-not-is_state
unfolding build_answer is_clock
returns-then-not-is_state c =
    let tested = c.is_state.ensures in
    elim c.then-not-is_state.either [
      | inl none ↦ simp (sym tested ∙ none)
      | inr above ↦ simp (sym tested ∙ above.0, lt-leb _ _ above.1)
    ]

pub returns-then-not-is_running_disparity : goal.returns-then-not-is_running_disparity
returns-then-not-is_running_disparity c =
    let a = c.args in
    let b = c.before in
    sym (build_refused_5 a.sample a.state a.clock a.r (good_state b) (good_clock b) (sym (r_tested b) ∙ c.if-not-is_running_disparity.true))

pub returns-then-sample-gt16383 : goal.returns-then-sample-gt16383
unfolding is_sample
returns-then-sample-gt16383 c =
    let a = c.args in
    let b = c.before.before in
    sym (build_refused_4 a.sample a.state a.clock a.r (good_state b) (good_clock b) (sym (r_tested b) ∙ c.if-not-is_running_disparity.false)
    (lt-leb _ _ c.if-sample-gt16383.true))

pub returns : goal.returns
unfolding is_sample plain_frame
returns c =
    let a = c.args in
    let b = c.before.before.before.before in
    rw (c.sent_frame.ensures, c.scramble.ensures, to_z-of_z c.ranges.r)
    (sym (build_taken a.sample a.state a.clock a.r (record {
      state_good = good_state b;
      clock_good = good_clock b;
      r_good = sym (r_tested b) ∙ c.if-not-is_running_disparity.false;
      sample_good = le-leb _ _ c.if-sample-gt16383.false;
    })))
