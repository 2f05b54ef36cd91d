-- Windows that are equal up to a shift: their parameters stand side by side, and both have an item or test, or neither.
use Rattle.std.proofs.Common.{◌≡◌, ℕ, List, [], ◌∷◌, length, map, refl, sym, ◌∙◌, ap, arith}
use Rattle.std.specs.Prelude.{None}
use Rattle.std.proofs.lemmas.List.{length-map}
use Rattle.pc_linear.specs.Form.{Form}
use Rattle.pc_window.specs.Tree.{Tree, whole}
use Rattle.pc_window.specs.Names.{parameters_of}
use Rattle.pc_window.specs.WindowRun.{Window}
use Rattle.pc_window.specs.Kept.{IsBare}
use Rattle.pc_canon.specs.Pairs.{Pair, ones, others}
use Rattle.pc_canon.specs.Shift.{Maps, TreesAlike, both_then, both_either, both_exit, both_stop, both_trap, ShiftedBy, Shifted}
use Rattle.pc_canon.specs.Canonical.{Canonical, constant_in, forms_of_parameters, side_by_side, parameter_pairs}
use Rattle.pc_canon.proofs.FormsKept.{forms_kept}
use Rattle.pc_pattern.specs.Searches.{bare_leaf}

-- ---- trees

alike_bare : {maps : Maps} {forms forms' : ℕ → Form} {names : List Pair} {one other : Tree} → TreesAlike maps forms forms' names one other → IsBare other → IsBare one
alike_bare (both_then tags items dests below) bare = bare
alike_bare (both_either tags on on_yes on_no) bare = bare
alike_bare (both_exit tags homes) bare = tt
alike_bare both_stop bare = tt
alike_bare both_trap bare = tt

alike_goes_on : {maps : Maps} {forms forms' : ℕ → Form} {names : List Pair} {one other : Tree} → TreesAlike maps forms forms' names one other
    → bare_leaf one ≡ None → bare_leaf other ≡ None
alike_goes_on (both_then tags items dests below) none = refl
alike_goes_on (both_either tags on on_yes on_no) none = refl
alike_goes_on (both_exit tags homes) none = absurd (cc)
alike_goes_on both_stop none = absurd (cc)
alike_goes_on both_trap none = absurd (cc)

module _ (pairs : List Pair) (w v : Window) (shifted : ShiftedBy pairs w v) where
  -- the other has an item or test where the one has
  pub shifted_items : (IsBare (whole w.front) → ⊥) → IsBare (whole v.front) → ⊥
  shifted_items items bare = items (alike_bare shifted.1.trees bare)

  -- something is left to do in the other where it is in the one
  pub shifted_goes_on : bare_leaf (whole w.front) ≡ None → bare_leaf (whole v.front) ≡ None
  shifted_goes_on none = alike_goes_on shifted.1.trees none

-- ---- parameters

sides : (xs ys : List ℕ) → length xs ≡ length ys → (ones (side_by_side xs ys) ≡ xs) × (others (side_by_side xs ys) ≡ ys)
sides [] [] e = (refl, refl)
sides (x ∷ xs) (y ∷ ys) e =
    let next = sides xs ys (omega (arith, e)) in
    (ap (λ (l : List ℕ). x ∷ l) next.0, ap (λ (l : List ℕ). y ∷ l) next.1)
sides [] (y ∷ ys) e = absurd (omega (arith, e))
sides (x ∷ xs) [] e = absurd (omega (arith, e))

constants_many : (w : Window) → length (map constant_in (forms_of_parameters w)) ≡ length (parameters_of (whole w.front))
constants_many w = length-map (forms_of_parameters w) constant_in ∙ length-map (parameters_of (whole w.front)) w.forms

-- there are as many of both
pub shifted_many : (w v : Window) → Shifted w v → length (parameters_of (whole w.front)) ≡ length (parameters_of (whole v.front))
shifted_many w v shifted =
    sym (constants_many w) ∙ ap (λ (c : Canonical). length c.parameters) (forms_kept w v shifted) ∙ constants_many v

-- so the pairs of parameters have all of both
pub parameter_sides : (w v : Window) → Shifted w v
    → (ones (parameter_pairs w v) ≡ parameters_of (whole w.front)) × (others (parameter_pairs w v) ≡ parameters_of (whole v.front))
parameter_sides w v shifted = sides (parameters_of (whole w.front)) (parameters_of (whole v.front)) (shifted_many w v shifted)
