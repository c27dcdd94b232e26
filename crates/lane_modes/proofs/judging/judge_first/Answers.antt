use Rattle.lane_modes.proofs.Steps.JudgedFrames.{first_same_clock, first_state_0, first_other_word, first_proves}
use Rattle.lane_modes.proofs.Steps.FrameCalls.{next_is, taken_is_state, refused_is_none, recovered_none, state_not_0}
use Rattle.lane_modes.proofs.judging.judge_first.Goals as goal

pub returns-then-seen-clock : goal.returns-then-seen-clock
returns-then-seen-clock c =
    first_same_clock _ _ _ _ c.read-content.ensures c.if-seen-clock.true

pub returns-in_default : goal.returns-in_default
returns-in_default c =
    first_state_0 _ _ _ _ c.read-content.ensures c.if-seen-clock.false
    (recovered_none _ c.read-content.result.scrambled c.requires (refused_is_none _ _ _ c.next.ensures c.in_default.is))

pub returns-then-q-second : goal.returns-then-q-second
returns-then-q-second c =
    let h = taken_is_state _ _ _ c.next.ensures c.in-Ok.is in
    first_other_word _ _ _ _ c.read-content.ensures c.if-seen-clock.false (state_not_0 _ h) _ (next_is _ _ _ h c.next.ensures c.in-Ok.is) c.if-q-second.true

pub returns : goal.returns
returns c =
    let h = taken_is_state _ _ _ c.next.ensures c.in-Ok.is in
    first_proves _ _ _ _ c.read-content.ensures c.if-seen-clock.false (state_not_0 _ h) _ (next_is _ _ _ h c.next.ensures c.in-Ok.is) c.if-q-second.false _ c.advance.ensures
