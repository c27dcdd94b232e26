-- What the sender's calls answer, as the code holds it. Assumes nothing.
use Prim.Native.Nat.{ℕ, ◌+◌, ◌≤◌, ◌<◌, zero, suc}
use mathlib.Core.Path.{◌≡◌, refl}
use mathlib.Core.Bool.{Bool, true, false, cond, ◌&&◌}
use mathlib.Core.List.{List}
use native.Mathlib.Numerals.{add-one}
use native.Mathlib.Omega.{arith}
use lib.Dec.{eqb}
use lib.ListN.{length, get_or, drop}
use lib.Seq.{drop-cons}
use mir.Facts.{to_z-of_z}
use borrow.Author.Tests.{eqb-false}
use Rattle.frame.specs.Frame.{is_sample}
use Rattle.frame.proofs.Machine.{read_back, within_fits}
use Rattle.lane_rules.specs.Sender.{sender_admitted}
use Rattle.lane_rules.specs.Sending.{are_samples, in_sequence, samples_due, all_sent, buffer_after}
use Rattle.lane_rules.specs.declared.Sender.{Sender}
use Rattle.lane_rules.proofs.Sending.SenderRecord.{admitted_facts}

-- ---- the record

pub r_read_back : (t : Sender) → sender_admitted t ≡ true → read_back t.r ≡ t.r
r_read_back t h = to_z-of_z (within_fits 16 t.r (omega arith) (admitted_facts t h).r_within)

-- ---- lists of samples

pub samples_step : (xs : List ℕ) (i : ℕ) → i < length xs
    → are_samples (drop i xs) ≡ (is_sample (get_or xs i 0) && are_samples (drop (i + 1) xs))
unfolding are_samples
samples_step xs i h = rw (add-one, drop-cons xs i 0 h)

-- unless all is sent, the samples due are left
pub samples_due_left : (t : Sender) (left : ℕ) → all_sent t left ≡ false → samples_due t ≤ left
unfolding samples_due all_sent
samples_due_left t left h = go (in_sequence t) refl
  where
    some : (m : ℕ) → eqb m 0 ≡ false → 1 ≤ m
    some zero e = absurd (eqb-false 0 0 e refl)
    some (suc m) e = omega arith

    go : (b : Bool) → in_sequence t ≡ b → cond b 0 1 ≤ left
    go true e = omega arith
    go false e = some left (rw e at h)

-- ---- the buffer of a refused call

module _ (t : Sender) (xs buf : List ℕ) where
  pub buffer_refused_4 : sender_admitted t ≡ true → are_samples xs ≡ false → buffer_after t xs buf ≡ buf
  unfolding buffer_after
  buffer_refused_4 h k = rw (h, k)

  pub buffer_refused_3 : sender_admitted t ≡ false → buffer_after t xs buf ≡ buf
  unfolding buffer_after
  buffer_refused_3 h = rw h
