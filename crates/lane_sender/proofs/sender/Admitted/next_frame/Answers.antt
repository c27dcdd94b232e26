use Prim.Native.Nat.{ℕ, ◌-◌, ◌≤◌, ◌<◌}
use mathlib.Core.Path.{◌≡◌, sym, ap, ◌∙◌}
use mathlib.Core.Bool.{true}
use native.Mathlib.Omega.{arith}
use mir.Facts.{to_z-of_z}
use lib.IntN.{ℤ}
use Rattle.std.specs.Prelude.{Ok}
use Rattle.frame.specs.Scrambler.{next_state}
use Rattle.frame.specs.Frame.{is_sample, build_answer}
use Rattle.frame.specs.Answers.{built_values}
use Rattle.frame.proofs.Machine.{read_back, within_fits}
use Rattle.lane_rules.specs.Sender.{sender_admitted, next_position, alignment_next, scrambled_next, next_frame}
use Rattle.lane_rules.specs.declared.Sender.{Sender}
use Rattle.lane_rules.proofs.Sending.SenderRecord.{admitted_facts, facts_admitted, frame_of_alignment, frame_of_sample, frame_built}
use Rattle.lane_rules.proofs.Sending.SenderRecord.{frame_admitted, new_r_admitted}
use Rattle.lane_sender.proofs.Steps.SenderAnswers.{r_read_back}
use Rattle.lane_sender.proofs.sender.Admitted.next_frame.Goals as goal

-- the record after a frame is admitted
kept : (t : Sender) (x : ℕ) (u : Sender) → sender_admitted t ≡ true → is_sample x ≡ true → u ≡ (next_frame t x).sender
    → sender_admitted u ≡ true
kept t x u h k e = ap sender_admitted e ∙ facts_admitted _ (frame_admitted t x (admitted_facts t h) k)

-- the record after an alignment frame, as the code makes it
aligned : (t : Sender) (x p : ℕ) → sender_admitted t ≡ true → t.position < t.alignment → p ≡ next_position t
    → record { seed = t.seed; state = t.state; clock = t.clock; r = read_back t.r; position = p; alignment = t.alignment }
    ≡ (next_frame t x).sender
unfolding alignment_next
aligned t x p h k e =
    rw (frame_of_alignment t x k)
    (λ i. record {
      seed = t.seed;
      state = t.state;
      clock = t.clock;
      r = r_read_back t h i;
      position = e i;
      alignment = t.alignment;
    })

pub invariant_of-result : goal.invariant_of-result
invariant_of-result c =
    let t = c.args.self.tx in
    let h = c.args.self.admitted in
    record { admitted = kept t c.args.sample _ h c.requires (aligned t c.args.sample _ h c.if-tx.true c.next_position-position.ensures) }

pub returns-then-tx-clause-frame : goal.returns-then-tx-clause-frame
unfolding alignment_next
returns-then-tx-clause-frame c = rw (frame_of_alignment c.args.self.tx c.args.sample c.if-tx.true) c.alignment_frame.ensures

pub returns-then-tx-clause-sender : goal.returns-then-tx-clause-sender
returns-then-tx-clause-sender c =
    aligned c.args.self.tx c.args.sample _ c.args.self.admitted c.if-tx.true c.next_position-position.ensures

-- what `build` answers is no refusal, ..
module _ (t : Sender) (x : ℕ) (h : sender_admitted t ≡ true) (good : is_sample x ≡ true) where
  built_of : build_answer x t.state t.clock (read_back t.r)
      ≡ Ok (record { frame = (scrambled_next t x).frame; r = (scrambled_next t x).sender.r })
  built_of = ap (build_answer x t.state t.clock) (r_read_back t h) ∙ frame_built t x (admitted_facts t h) good

  -- .. and the record after it is as the code makes it, of the values answered
  scrambled : (s p f : ℕ) (r : ℤ) → t.alignment ≤ t.position → s ≡ next_state t.state → p ≡ next_position t
      → ◌≡◌ {A = ℕ × ℕ × ℤ} (0, f, r) (0, (scrambled_next t x).frame, (scrambled_next t x).sender.r)
      → record { seed = t.seed; state = s; clock = 1 - t.clock; r = read_back r; position = p; alignment = t.alignment }
      ≡ (next_frame t x).sender
  unfolding scrambled_next
  scrambled s p f r k e g v =
      let fits = within_fits 16 _ (omega arith) (new_r_admitted t x (admitted_facts t h) good) in
      let new_r = ap (λ (v : ℕ × ℕ × ℤ). read_back v.2) v ∙ to_z-of_z fits in
      rw (frame_of_sample t x k)
      (λ i. record {
        seed = t.seed;
        state = e i;
        clock = 1 - t.clock;
        r = new_r i;
        position = g i;
        alignment = t.alignment;
      })

pub unwrap-built-requires : goal.unwrap-built-requires
unwrap-built-requires c = rw (c.build.ensures, built_of c.args.self.tx c.args.sample c.args.self.admitted c.requires)

pub overflow_sub-later : goal.overflow_sub-later
overflow_sub-later c = (admitted_facts c.args.self.tx c.args.self.admitted).clock_max

pub invariant_of-result-2 : goal.invariant_of-result-2
invariant_of-result-2 c =
    let t = c.args.self.tx in
    let h = c.args.self.admitted in
    let values = ap built_values (sym c.unwrap-built.ensures ∙ c.build.ensures ∙ built_of t c.args.sample h c.requires) in
    record {
      admitted = kept t c.args.sample _ h c.requires
          (scrambled t c.args.sample h c.requires _ _ _ _ c.if-tx.false c.advance.ensures c.next_position-position.ensures values);
    }

pub returns-clause-frame : goal.returns-clause-frame
unfolding scrambled_next
returns-clause-frame c =
    let t = c.args.self.tx in
    let x = c.args.sample in
    let values = ap built_values (sym c.unwrap-built.ensures ∙ c.build.ensures ∙ built_of t x c.args.self.admitted c.requires) in
    rw (frame_of_sample t x c.if-tx.false) (ap (λ (v : ℕ × ℕ × ℤ). v.1) values)

pub returns-clause-sender : goal.returns-clause-sender
returns-clause-sender c =
    let t = c.args.self.tx in
    let x = c.args.sample in
    let h = c.args.self.admitted in
    let values = ap built_values (sym c.unwrap-built.ensures ∙ c.build.ensures ∙ built_of t x h c.requires) in
    scrambled t x h c.requires _ _ _ _ c.if-tx.false c.advance.ensures c.next_position-position.ensures values
