-- The items of frames once locked: a sound frame, a faulty one, and frames as sent. Assumes nothing.
use Prim.Native.Nat.{ℕ, ◌-◌, ◌<◌}
use mathlib.Core.Path.{◌≡◌, refl, ap, ◌∙◌}
use mathlib.Core.Logic.{◌≢◌}
use mathlib.Core.Bool.{true, false}
use mathlib.Core.List.{List, [], ◌∷◌, ◌++◌, append_assoc}
use native.Mathlib.Omega.{arith}
use lib.Bits.{bit_xor}
use lib.ListN.{length}
use Rattle.frame.specs.Scrambler.{word_of, next_state}
use Rattle.frame.proofs.Laws.{xor_undone}
use Rattle.lane_rules.specs.Line.{bits_lsb_first, frame_bits}
use Rattle.lane_rules.specs.Receiver.{no_bits}
use Rattle.lane_rules.specs.Judging.{clock_of, scrambled_of, fault_rule, locked_by, judge_locked, judge_of}
use Rattle.lane_rules.specs.declared.Judged.{Judged}
use Rattle.std.specs.Prelude.{Some}
use Rattle.lane_rules.specs.Feeding.{gap_item, item_of}
use Rattle.lane_rules.specs.declared.Mode.TheVariants.{Locked}
use Rattle.lane_rules.proofs.Feeding.Runs.{items_of}
use Rattle.lane_rules.proofs.Sending.Encoding.{Encodes, none, more}
use Rattle.lane_rules.proofs.Modes.FaultRule.{sound_judged, faulty_judged, none_faulty}
use Rattle.lane_rules.proofs.Feeding.WholeFrames.{frame_items, part_items}

-- the items of frames and of bits after them, from the results r, the state s and the expected clock bit c
abbrev pub locked_items : ℕ → ℕ → ℕ → List ℕ → List ℕ → List ℕ
locked_items r s c ws tail = items_of (Locked no_bits r s c) (frame_bits ws ++ tail)

module _ (r s c v : ℕ) (vs tail : List ℕ) (h : v < 65536) where
  one_frame : locked_items r s c (v ∷ vs) tail
      ≡ item_of (judge_locked r s c v).outcome ++ items_of (judge_locked r s c v).mode (frame_bits vs ++ tail)
  unfolding frame_bits judge_of
  one_frame =
      ap (items_of (Locked no_bits r s c)) (append_assoc (bits_lsb_first 16 v) (frame_bits vs) tail)
      ∙ frame_items (Locked no_bits r s c) tt refl v (frame_bits vs ++ tail) h

  -- the items from a judged frame on
  abbrev after : Judged → List ℕ
  after j = item_of j.outcome ++ items_of j.mode (frame_bits vs ++ tail)

  -- a sound frame gives its data xor the word
  pub sound_frame : clock_of v ≡ c → (q : ℕ) → fault_rule r false ≡ Some q
      → locked_items r s c (v ∷ vs) tail ≡ bit_xor (scrambled_of v) (word_of s) ∷ locked_items q (next_state s) (1 - c) vs tail
  unfolding locked_by
  sound_frame e q k = one_frame ∙ ap after (sound_judged r s c v q e k)

  -- a faulty frame that keeps lock gives a gap
  pub faulty_frame : clock_of v ≢ c → (q : ℕ) → fault_rule r true ≡ Some q
      → locked_items r s c (v ∷ vs) tail ≡ gap_item ∷ locked_items q (next_state s) (1 - c) vs tail
  unfolding locked_by
  faulty_frame n q k = one_frame ∙ ap after (faulty_judged r s c v q n k)

-- fewer than 16 bits give nothing
pub no_frames_left : (r s c : ℕ) (tail : List ℕ) → length tail < 16 → locked_items r s c [] tail ≡ []
unfolding frame_bits
no_frames_left r s c tail h = part_items (Locked no_bits r s c) tt tail (omega arith)

-- a frame that encodes x, read with the sender's state
pub item_is_sample : (s x w : ℕ) → scrambled_of w ≡ bit_xor x (word_of s) → bit_xor (scrambled_of w) (word_of s) ≡ x
item_is_sample s x w d = ap (λ (y : ℕ). bit_xor y (word_of s)) d ∙ xor_undone x (word_of s)

frames_items : (s c : ℕ) (xs ws tail : List ℕ) → length tail < 16 → Encodes s c xs ws → locked_items 0 s c ws tail ≡ xs
frames_items s c xs ws tail t none = no_frames_left 0 s c tail t
frames_items s c xs ws tail t (more {x = x} {w = w} {xs = xs'} {ws = ws'} b d e r) =
    sound_frame 0 s c w ws' tail b e 0 none_faulty
    ∙ (λ i. item_is_sample s x w d i ∷ frames_items (next_state s) (1 - c) xs' ws' tail t r i)

-- with no frame touched the items are the samples
pub none_wrong_once_locked : (s : ℕ) (xs ws tail : List ℕ) → length tail < 16 → Encodes s 0 xs ws
    → items_of (Locked no_bits 0 s 0) (frame_bits ws ++ tail) ≡ xs
none_wrong_once_locked s xs ws tail t r = frames_items s 0 xs ws tail t r
