-- Why a name of a state holds a scalar of the source.
use Rattle.std.specs.Prelude.{◌≡◌, ℕ, ◌<◌, List, Some, None, slice_get}
use Rattle.pc_word.specs.SourceLimits.{most_scalars}
use Rattle.pc_word.specs.Items.{dest_of}
use Rattle.pc_word.specs.Row.{Row, Then, Either}
use Rattle.pc_word.specs.declared.item.Item.{Item}
use Rattle.pc_word.specs.declared.item.Item.TheVariants.{Copy}
use Rattle.pc_word.specs.declared.item.Operand.{Operand}
use Rattle.pc_word.specs.declared.item.Operand.TheVariants.{Name}
use Rattle.pc_flow.specs.FlowGraph.{FlowGraph}
use Rattle.pc_flow.specs.declared.node.FlowNode.TheVariants.{Op}
use Rattle.pc_automaton.specs.declared.automaton.AutomatonLeaf.{AutomatonLeaf}
use Rattle.pc_automaton.specs.Automaton.{AutomatonState}
use Rattle.pc_told.specs.Tellings.{Telling, Tells_item, Tells_test}
use Rattle.pc_variables.specs.Holdings.{arguments_to}

-- an item of a row writes this name, and it is told of the item that it comes from this node
pub data WritesFrom : Row AutomatonLeaf → Telling → (name origin : ℕ) → Type 0 where
  here : {item told : Item} {rest : Row AutomatonLeaf} {next : Telling} {iteration name origin : ℕ} → dest_of item ≡ Some name
      → WritesFrom (Then item rest) (Tells_item iteration origin told next) name origin
  below : {item told : Item} {rest : Row AutomatonLeaf} {next : Telling} {iteration other name origin : ℕ} → WritesFrom rest next name origin
      → WritesFrom (Then item rest) (Tells_item iteration other told next) name origin
  on_yes : {on told : Operand} {yes_row no_row : Row AutomatonLeaf} {one other : Telling} {iteration at name origin : ℕ} → WritesFrom yes_row one name origin
      → WritesFrom (Either on yes_row no_row) (Tells_test iteration at told one other) name origin
  on_no : {on told : Operand} {yes_row no_row : Row AutomatonLeaf} {one other : Telling} {iteration at name origin : ℕ} → WritesFrom no_row other name origin
      → WritesFrom (Either on yes_row no_row) (Tells_test iteration at told one other) name origin

-- what is written to a variable becomes the value of a scalar: the variable is the scalar, or the next node copies it to the scalar
pub data Becomes (flow : FlowGraph) (next : ℕ) : (variable scalar : ℕ) → Type 0 where
  itself : {scalar : ℕ} → Becomes flow next scalar scalar
  copied : {variable scalar after : ℕ} → slice_get flow.nodes next ≡ Some (Op (Copy scalar (Name variable)) after) → Becomes flow next variable scalar

-- a node of a flow graph assigns a scalar of the source
pub record Assigns (flow : FlowGraph) (origin scalar : ℕ) : Type 0 where
  pub item : Item
  pub next : ℕ
  pub variable : ℕ
  pub node : slice_get flow.nodes origin ≡ Some (Op item next)
  pub dest : dest_of item ≡ Some variable
  pub becomes : Becomes flow next variable scalar
  pub is_scalar : scalar < most_scalars

-- of all states the one with this number is the first with a leaf that leads to another, and its first such leaf passes a parameter of
-- that one this name
pub record PassesFirst (states : List AutomatonState) (from to parameter name : ℕ) : Type 0 where
  pub passing : AutomatonState
  pub entered : AutomatonState
  pub arguments : List Operand
  pub place : ℕ
  pub there : slice_get states from ≡ Some passing
  pub leads : slice_get states to ≡ Some entered
  pub leaf : arguments_to to passing.row ≡ Some arguments
  pub first : (before : ℕ) (state : AutomatonState) → before < from → slice_get states before ≡ Some state → arguments_to to state.row ≡ None
  pub takes : slice_get entered.parameters place ≡ Some parameter
  pub given : slice_get arguments place ≡ Some (Name name)

-- Why a name of the state with this number holds a scalar: an item writes it that comes from a node which assigns the scalar; or it is
-- the scalar itself, a parameter of the first state; or it is a parameter that a state before passes a name which holds the scalar.
pub data Holds (flow : FlowGraph) (states : List AutomatonState) (tellings : List Telling) : (number name scalar : ℕ) → Type 0 where
  assigned : {number name origin scalar : ℕ} {state : AutomatonState} {telling : Telling} → slice_get states number ≡ Some state
      → slice_get tellings number ≡ Some telling → WritesFrom state.row telling name origin → Assigns flow origin scalar
      → Holds flow states tellings number name scalar
  begun : (place : ℕ) {scalar : ℕ} {state : AutomatonState} → slice_get states 0 ≡ Some state → slice_get state.parameters place ≡ Some scalar
      → scalar < most_scalars → Holds flow states tellings 0 scalar scalar
  passed : {from number name other scalar : ℕ} → from < number → PassesFirst states from number name other → Holds flow states tellings from other scalar
      → Holds flow states tellings number name scalar
