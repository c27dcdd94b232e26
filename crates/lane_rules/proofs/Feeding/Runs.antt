-- Runs of lists of bits: a run of two lists is a run of one and then of the other. Assumes nothing.
use Prim.Native.Nat.{ℕ}
use mathlib.Core.Path.{◌≡◌, refl, ap, sym, ◌∙◌}
use mathlib.Core.List.{List, [], ◌∷◌, ◌++◌, append_assoc}
use Rattle.lane_rules.specs.Line.{frame_bits}
use Rattle.lane_rules.specs.Collecting.{step_of}
use Rattle.lane_rules.specs.Feeding.{item_of, items_in, run_of}
use Rattle.lane_rules.specs.declared.Mode.{Mode}
use Rattle.lane_rules.specs.declared.Outcome.{Outcome}

-- no frames change nothing
pub no_frames : (m : Mode) → (run_of m (frame_bits [])).mode ≡ m
unfolding run_of frame_bits
no_frames m = refl

pub run_append_mode : (m : Mode) (xs ys : List ℕ) → (run_of m (xs ++ ys)).mode ≡ (run_of (run_of m xs).mode ys).mode
unfolding run_of
run_append_mode m [] ys = refl
run_append_mode m (x ∷ xs) ys = run_append_mode (step_of m x).mode xs ys

pub run_append_outcomes : (m : Mode) (xs ys : List ℕ)
    → (run_of m (xs ++ ys)).outcomes ≡ (run_of m xs).outcomes ++ (run_of (run_of m xs).mode ys).outcomes
unfolding run_of
run_append_outcomes m [] ys = refl
run_append_outcomes m (x ∷ xs) ys =
    ap (λ (os : List Outcome). (step_of m x).outcome ∷ os) (run_append_outcomes (step_of m x).mode xs ys)

pub items_append : (os ps : List Outcome) → items_in (os ++ ps) ≡ items_in os ++ items_in ps
unfolding items_in
items_append [] ps = refl
items_append (o ∷ os) ps =
    ap (λ (l : List ℕ). item_of o ++ l) (items_append os ps) ∙ sym (append_assoc (item_of o) (items_in os) (items_in ps))

-- the items of bits
abbrev pub items_of : Mode → List ℕ → List ℕ
items_of m bits = items_in (run_of m bits).outcomes

pub run_append_items : (m : Mode) (xs ys : List ℕ) → items_of m (xs ++ ys) ≡ items_of m xs ++ items_of (run_of m xs).mode ys
run_append_items m xs ys = ap items_in (run_append_outcomes m xs ys) ∙ items_append (run_of m xs).outcomes _
