use Prim.Native.Nat.{ℕ, ◌-◌, ◌/◌, ◌%◌, ◌<◌, ◌^◌}
use mathlib.Core.Path.{◌≡◌, sym, ap, ◌∙◌}
use mathlib.Core.List.{List}
use native.Mathlib.Omega.{arith}
use mir.Syntax.{w16}
use lib.ListN.{length}
use Rattle.std.specs.Prelude.{slice_index_or}
use Rattle.std.specs.Int.{to_le_bytes}
use Rattle.lane_rules.proofs.Sending.SendingLaws.{sample_due_good}
use Rattle.lane_sender.proofs.Steps.SenderAnswers.{samples_due_left}
use Rattle.lane_sender.proofs.Loops.SendingLoop.{none_sent, one_more_sent, answered_all_sent, answered_out_of_space}
use Rattle.lane_sender.proofs.sender.Admitted.send_frames.Goals as goal
use Rattle.lane_sender.proofs.sender.Admitted.send_frames.Goals.{then-all_sent, else-all_sent+then-buf-written-lt2}

pub loop-sample-init : goal.loop-sample-init
loop-sample-init c = none_sent _ _ _

pub sample_due-sample-requires : goal.sample_due-sample-requires
sample_due-sample-requires c =
    let a = c.args in
    let l = c.loop-sample in
    let more = sym c.all_sent.ensures ∙ c.if-all_sent.false in
    omega (arith, l.invariant.taken_max, samples_due_left l.sender.tx (length a.samples.now - l.taken) more)

pub next_frame-frame-requires : goal.next_frame-frame-requires
next_frame-frame-requires c =
    let l = c.loop-sample in
    rw c.sample_due-sample.ensures (sample_due_good l.sender.tx c.args.samples.now l.taken c.requires)

pub overflow_add-taken : goal.overflow_add-taken
overflow_add-taken c =
    let l = c.loop-sample in
    let more = sym c.all_sent.ensures ∙ c.if-all_sent.false in
    omega (
      arith,
      c.well_formed,
      c.samples_due-taken.ensures,
      l.invariant.taken_max,
      samples_due_left l.sender.tx (length c.args.samples.now - l.taken) more,
    )

-- the bytes of a frame, the low one first
low_byte : (f w : ℕ) (bytes : List ℕ) → bytes ≡ to_le_bytes w16 f → f ≡ w → slice_index_or bytes 0 0 ≡ w % 256
low_byte f w bytes e g = ap (λ (l : List ℕ). slice_index_or l 0 0) e ∙ ap (λ (n : ℕ). n % 256) g

high_byte : (f w : ℕ) (bytes : List ℕ) → f < 2 ^ 16 → bytes ≡ to_le_bytes w16 f → f ≡ w → slice_index_or bytes 1 0 ≡ w / 256
high_byte f w bytes h e g =
    let whole : f / 256 % 256 ≡ f / 256 = omega arith in
    ap (λ (l : List ℕ). slice_index_or l 1 0) e ∙ whole ∙ ap (λ (n : ℕ). n / 256) g

pub loop-sample-preserved : goal.loop-sample-preserved
loop-sample-preserved c =
    let a = c.args in
    let l = c.loop-sample in
    let x = c.sample_due-sample.result in
    let sent = c.next_frame-frame in
    rw (
      low_byte _ _ _ c.to_le_bytes.ensures sent.ensures.frame,
      high_byte _ _ _ (omega arith) c.to_le_bytes.ensures sent.ensures.frame,
      sent.ensures.sender,
      c.samples_due-taken.ensures,
    )
    (one_more_sent a.samples.now a.buf.now a.self.tx l.buf l.sender.tx l.taken l.written l.invariant
    (sym c.all_sent.ensures ∙ c.if-all_sent.false) (omega (arith, l.invariant.same_length)) x c.sample_due-sample.ensures)

pub returns : goal.returns
returns c =
    let a = c.args in
    let l = c.loop-sample in
    let so_far = l.invariant in
    elim c.if-all_sent.branch [
      | then-all_sent w ↦
          let ends =
          answered_all_sent a.samples.now a.buf.now a.self.tx l.buf l.sender.tx l.taken l.written so_far
          (sym c.all_sent.ensures ∙ w.if-all_sent.true) in
          record { answer = rw w.stop-is ends.0; buffer = ends.1 }
      | else-all_sent+then-buf-written-lt2 w ↦
          let ends =
          answered_out_of_space a.samples.now a.buf.now a.self.tx l.buf l.sender.tx l.taken l.written so_far
          (sym c.all_sent.ensures ∙ w.if-all_sent.false) (omega (arith, so_far.same_length)) in
          record { answer = rw w.stop-is ends.0; buffer = ends.1 }
    ]
