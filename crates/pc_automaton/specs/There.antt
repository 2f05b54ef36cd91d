-- What the states of an automaton name is there in its table.
use Rattle.std.specs.List.{AllByRecursion}
use Rattle.pc_word.specs.Row.{items_of, leaves_of}
use Rattle.pc_table.specs.Table.{Table}
use Rattle.pc_window.specs.There.{ArrayIsThere, StubIsThere}
use Rattle.pc_automaton.specs.declared.automaton.AutomatonLeaf.{AutomatonLeaf}
use Rattle.pc_automaton.specs.declared.automaton.AutomatonLeaf.TheVariants.{To, Out, Stop, Trap}
use Rattle.pc_automaton.specs.Automaton.{AutomatonState}

-- a leaf that leads out leads to a region of the table, with a home for each variable that is live there
abbrev pub LeafIsThere : Table → AutomatonLeaf → Type 0
LeafIsThere table (To state arguments) = Unit {0}
LeafIsThere table (Out region homes) = StubIsThere table region homes
LeafIsThere table Stop = Unit {0}
LeafIsThere table (Trap kind line) = Unit {0}

-- so does each leaf of a state, and the array of each of its items is one of the table's
pub record StateIsThere (table : Table) (state : AutomatonState) : Type 0 where
  pub items : AllByRecursion (ArrayIsThere table) (items_of state.row)
  pub leaves : AllByRecursion (LeafIsThere table) (leaves_of state.row)
