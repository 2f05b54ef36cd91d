-- How much so many rows have room for.
use Rattle.std.specs.Prelude.{◌≡◌, ℕ, suc, ◌≤◌, ◌*◌, List, [], ◌∷◌, ◌++◌, Some, slice_get}
use Rattle.pc_word.specs.declared.item.Item.{Item}
use Rattle.pc_word.specs.declared.item.Limits.{Limits}
use Rattle.pc_word.specs.declared.item.Operand.{Operand}
use Rattle.pc_word.specs.Row.{Row, Then, Either, At_leaf}
use Rattle.pc_automaton.specs.declared.automaton.AutomatonLeaf.{AutomatonLeaf}
use Rattle.pc_automaton.specs.declared.automaton.AutomatonLeaf.TheVariants.{To}
use Rattle.pc_automaton.specs.Automaton.{AutomatonState}

-- ---- room

-- so many rows within limits have room for so many items, tests, and loads and stores
pub record HasRoom (limits : Limits) (items tests memory rows : ℕ) : Type 0 where
  pub items_fit : items ≤ rows * limits.ops
  pub tests_fit : tests ≤ rows * limits.tests
  pub memory_fits : memory ≤ rows * limits.mem

-- it is the least number of rows that has room for so many
pub record IsLeastRoom (limits : Limits) (items tests memory rows : ℕ) : Type 0 where
  pub room : HasRoom limits items tests memory rows
  pub least : (others : ℕ) → HasRoom limits items tests memory others → rows ≤ others

-- ---- paths

-- a path through a row, from the root to this leaf, meets these items and these tests
pub data PathIn {L : Type 0} : Row L → List Item → List Operand → L → Type 0 where
  to_leaf : {leaf : L} → PathIn (At_leaf leaf) [] [] leaf
  past_item : {item : Item} {rest : Row L} {items : List Item} {tests : List Operand} {leaf : L}
      → PathIn rest items tests leaf → PathIn (Then item rest) (item ∷ items) tests leaf
  to_yes : {on : Operand} {on_yes on_no : Row L} {items : List Item} {tests : List Operand} {leaf : L}
      → PathIn on_yes items tests leaf → PathIn (Either on on_yes on_no) items (on ∷ tests) leaf
  to_no : {on : Operand} {on_yes on_no : Row L} {items : List Item} {tests : List Operand} {leaf : L}
      → PathIn on_no items tests leaf → PathIn (Either on on_yes on_no) items (on ∷ tests) leaf

-- a path from a state on through so many rows, each a state's, meets these items and these tests: each row but the last leads to the
-- state whose row is next
pub data PathThrough (states : List AutomatonState) : (from rows : ℕ) → List Item → List Operand → Type 0 where
  through_none : {from : ℕ} → PathThrough states from 0 [] []
  through_last : {from : ℕ} {state : AutomatonState} {items : List Item} {tests : List Operand} {leaf : AutomatonLeaf}
      → slice_get states from ≡ Some state → PathIn state.row items tests leaf → PathThrough states from 1 items tests
  through_next : {from next rows : ℕ} {state : AutomatonState} {arguments : List Operand} {items later : List Item} {tests later_tests : List Operand}
      → slice_get states from ≡ Some state → PathIn state.row items tests (To next arguments) → PathThrough states next rows later later_tests
      → PathThrough states from (suc rows) (items ++ later) (tests ++ later_tests)
