use mathlib.Core.Logic.{⊎_elim}
use borrow.Author.Tests.{eq-eqb}
use Rattle.lane_modes.proofs.Steps.JudgedFrames.{prove_other_word, prove_same_clock, prove_goes_on, prove_locks, read_clock_range}
use Rattle.lane_modes.proofs.Steps.FrameCalls.{next_is, next_not_refused}
use Rattle.lane_modes.proofs.judging.judge_prove.Goals as goal

pub returns-then-q-state : goal.returns-then-q-state
returns-then-q-state c =
    ⊎_elim (λ w. prove_other_word _ _ _ _ _ c.read-content.ensures w)
    (λ w. prove_same_clock _ _ _ _ _ c.read-content.ensures w.0 (eq-eqb _ _ w.1)) c.then-q-state.either

pub returns-in_default : goal.returns-in_default
returns-in_default c =
    absurd (next_not_refused _ _ _ c.requires.state_value c.next.ensures c.in_default.is)

pub returns-then-read-lt31 : goal.returns-then-read-lt31
returns-then-read-lt31 c =
    prove_goes_on _ _ _ _ _ c.read-content.ensures c.if-q-state.false c.if-seen-clock.false-raw _ (next_is _ _ _ c.requires.state_value c.next.ensures c.in-Ok.is) c.if-read-lt31.true

pub overflow_sub-result : goal.overflow_sub-result
overflow_sub-result c = read_clock_range _ c.read-content.ensures

pub returns : goal.returns
returns c =
    prove_locks _ _ _ _ _ c.read-content.ensures c.if-q-state.false c.if-seen-clock.false-raw _ (next_is _ _ _ c.requires.state_value c.next.ensures c.in-Ok.is) c.if-read-lt31.false
