use Rattle.std.specs.Prelude.{is_ok}
use mathlib.Core.Bool.{Bool}
use lib.IntN.{ℤ}
use mathlib.Core.Path.{◌≡◌, sym, ap, ◌∙◌}
use borrow.Author.Rules.{rules}
use mir.Syntax.{w32}
use mir.Val.{SFits}
use mir.Facts.{to_z-of_z}
use borrow.Author.Tests.{le-leb, lt-leb}
use Rattle.frame.specs.Scrambler.{is_state}
use Rattle.frame.specs.Seeds.{permitted}
use Rattle.frame.specs.Frame.{is_clock, within}
use Rattle.frame.proofs.Machine.{read_back}
use Rattle.lane_rules.specs.Sender.{sender_admitted}
use Rattle.lane_rules.proofs.Sending.SenderRecord.{seed_tested}
use Rattle.lane_sender.proofs.sender.sender_admitted.Goals as goal
use Rattle.lane_sender.proofs.sender.sender_admitted.Goals.{After-is_ok, After-is_state}

-- what each test says
seed : (c : After-is_ok) → permitted c.args.tx.seed ≡ c.is_ok.result
seed c = sym (c.is_ok.ensures.value ∙ ap is_ok c.check_seed.ensures ∙ seed_tested c.args.tx.seed)

state : (c : After-is_state) → is_state c.args.tx.state ≡ c.is_state.result
state c = sym c.is_state.ensures

disparity : (r : ℤ) (b : Bool) → SFits w32 r → b ≡ within 16 (read_back r) → within 16 r ≡ b
disparity r b fits e = sym (e ∙ ap (within 16) (to_z-of_z fits))

pub returns-else-is_ok : goal.returns-else-is_ok
unfolding sender_admitted
returns-else-is_ok c = c.if-is_ok.false ∙ simp (seed c.before ∙ c.if-is_ok.false)

pub returns-else-is_state : goal.returns-else-is_state
unfolding sender_admitted
returns-else-is_state c =
    let b = c.before in
    c.if-is_state.false ∙ simp (seed b.before.before ∙ c.if-is_ok.true, state b ∙ c.if-is_state.false)

pub returns-else-tx-le1 : goal.returns-else-tx-le1
unfolding is_clock sender_admitted
returns-else-tx-le1 c =
    let b = c.before.before.before in
    simp (seed b.before.before ∙ c.if-is_ok.true, state b ∙ c.if-is_state.true, lt-leb c.args.tx.clock 1 c.if-tx-le1.false)

pub returns-else-is_running_disparity : goal.returns-else-is_running_disparity
unfolding is_clock sender_admitted
returns-else-is_running_disparity c =
    let b = c.before.before.before.before.before.before in
    let fits : SFits w32 c.args.tx.r = search rules in
    c.if-is_running_disparity.false
    ∙ simp (
      seed b.before.before ∙ c.if-is_ok.true,
      state b ∙ c.if-is_state.true,
      le-leb c.args.tx.clock 1 c.if-tx-le1.true,
      disparity _ _ fits c.is_running_disparity.ensures ∙ c.if-is_running_disparity.false,
    )

pub returns-then-is_running_disparity : goal.returns-then-is_running_disparity
unfolding is_clock sender_admitted
returns-then-is_running_disparity c =
    let b = c.before.before.before.before.before.before.before in
    let fits : SFits w32 c.args.tx.r = search rules in
    simp (
      seed b.before.before ∙ c.if-is_ok.true,
      state b ∙ c.if-is_state.true,
      le-leb c.args.tx.clock 1 c.if-tx-le1.true,
      disparity _ _ fits c.is_running_disparity.ensures ∙ c.if-is_running_disparity.true,
    ) c.position_admitted.ensures
