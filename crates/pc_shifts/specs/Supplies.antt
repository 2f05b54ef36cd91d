-- Supplies of names and homes of variables that are alike, and trees that are grafted from them.
use Rattle.std.specs.Prelude.{ℕ, ◌<◌, List}
use Rattle.pc_word.specs.declared.item.Operand.{Operand}
use Rattle.pc_linear.specs.Form.{Form}
use Rattle.pc_window.specs.Hold.{operand_form}
use Rattle.pc_window.specs.Opening.{Supply, Grafted, OperandBelow, FormBelow, FormsBelow}
use Rattle.pc_canon.specs.Pairs.{Pair, OperandsAlike}
use Rattle.pc_canon.specs.Shift.{OneToOne, EachPair, FormsAlike, Maps, TreesAlike}
use Rattle.pc_shifts.specs.Alike.{HasNormalTerms, with_variables}

-- two supplies go by these variables: each is in use on its side, and forms have no others than those that are in use
pub record SuppliesAlike (variables : List Pair) (names names' : Supply) : Type 0 where
  pub once : OneToOne variables
  pub known : EachPair variables (λ x y. (x < names.next_variable) × (y < names'.next_variable))
  pub below : FormsBelow names
  pub others_below : FormsBelow names'
  pub normal : (x : ℕ) → HasNormalTerms (names.forms x)
  pub others_normal : (x : ℕ) → HasNormalTerms (names'.forms x)

-- homes of variables that are alike: literals, or names that are there and correspond, with forms that are alike
pub record HomesOf (variables pairs : List Pair) (names names' : Supply) (homes homes' : ℕ → Operand) : Type 0 where
  pub home : (v : ℕ) → OperandsAlike pairs (homes v) (homes' v)
  pub form : (v : ℕ) → FormsAlike variables (operand_form names.forms (homes v)) (operand_form names'.forms (homes' v))
  pub below : (v : ℕ) → OperandBelow names.next (homes v)
  pub others_below : (v : ℕ) → OperandBelow names'.next (homes' v)

-- two trees that were made from supplies are alike, by variables with which forms that were alike still are
pub record GraftedAlike (maps : Maps) (pairs : List Pair) (names names' : Supply) (g g' : Grafted) : Type 0 where
  pub more : List Pair
  pub supplies : SuppliesAlike more g.names g'.names
  pub still : (f f' : Form) → FormBelow names.next_variable f → FormBelow names'.next_variable f' → FormsAlike maps.variables f f' → FormsAlike more f f'
  pub trees : TreesAlike (with_variables maps more) g.names.forms g'.names.forms pairs g.tree g'.tree
