-- What steps of a search keep, of two windows that are equal up to a shift.
use Rattle.std.specs.Prelude.{◌≡◌, ℕ, true, List, length, map, Option, Some, None, slice_get}
use Rattle.std.specs.List.{AllByRecursion}
use Rattle.pc_linear.specs.Form.{Form, Rising, HasFactor}
use Rattle.pc_table.specs.Table.{Table}
use Rattle.pc_window.specs.Names.{parameters_of}
use Rattle.pc_window.specs.Tree.{whole, tree_size}
use Rattle.pc_window.specs.WindowRun.{Window}
use Rattle.pc_window.specs.Steps.{UnwindsTo, Tidies}
use Rattle.pc_canon.specs.Pairs.{Pair, corresponds}
use Rattle.pc_canon.specs.Shift.{EachPair, FormsAlike, Maps, ShiftedBy}
use Rattle.pc_canon.specs.Canonical.{place_of, parameter_pairs}

-- the terms of a form are in normal form: their variables rise, and their factors are words other than 0
pub record HasNormalTerms (f : Form) : Type 0 where
  pub rising : Rising 0 f.terms
  pub factors : AllByRecursion HasFactor f.terms

-- two forms that are alike, or none in both
abbrev pub ResultsAlike : List Pair → Option Form → Option Form → Type 0
ResultsAlike variables (Some f) (Some g) = FormsAlike variables f g
ResultsAlike variables None None = Unit {0}
ResultsAlike variables _ _ = ⊥

-- the same shifts with other variables that correspond
abbrev pub with_variables : Maps → List Pair → Maps
with_variables maps variables = record { variables = variables; shift = maps.shift; other_shift = maps.other_shift }

-- the terms of every form of a window are in normal form
pub record HasNormalForms (w : Window) : Type 0 where
  pub form : (x : ℕ) → HasNormalTerms (w.forms x)

-- of two windows w and v, where the one becomes w' the other becomes v': they are equal up to a shift; parameters that correspond
-- corresponded before, and each of v' stands among those of v at the place that the one of w' has among those of w
pub record StillShifted (w v w' v' : Window) : Type 0 where
  pub shifted : ShiftedBy (parameter_pairs w' v') w' v'
  pub as_large : tree_size (whole w'.front) ≡ tree_size (whole v'.front)
  pub as_many : length (parameters_of (whole w'.front)) ≡ length (parameters_of (whole v'.front))
  pub parameters : EachPair (parameter_pairs w' v') (λ x y. corresponds (parameter_pairs w v) x y ≡ true)
  pub places : map (λ (x : ℕ). slice_get (parameters_of (whole v.front)) (place_of (parameters_of (whole w.front)) x)) (parameters_of (whole w'.front))
      ≡ map (λ (y : ℕ). Some y) (parameters_of (whole v'.front))
  pub normal : HasNormalForms w'
  pub others_normal : HasNormalForms v'

-- the other window is unwound too
pub record UnwindsToo (table : Table) (number : ℕ) (w v w' : Window) : Type 0 where
  pub unwound : Window
  pub unwinds : UnwindsTo table number v unwound
  pub still : StillShifted w v w' unwound

-- the other window is unwound and tidied too
pub record SettlesToo (table : Table) (number : ℕ) (w v w' : Window) : Type 0 where
  pub unwound : Window
  pub unwinds : UnwindsTo table number v unwound
  pub settled : Window
  pub tidies : Tidies unwound settled
  pub still : StillShifted w v w' settled
