-- That leaves lead to each state of an automaton, from the first on.
use Rattle.std.specs.Prelude.{◌≡◌, ℕ, suc, ◌<◌, List, length, Contains, Some, slice_get}
use Rattle.pc_word.specs.declared.item.Operand.{Operand}
use Rattle.pc_word.specs.Row.{leaves_of}
use Rattle.pc_automaton.specs.declared.automaton.AutomatonLeaf.TheVariants.{To}
use Rattle.pc_automaton.specs.Automaton.{AutomatonState}

-- a leaf of a state with a smaller number leads to the state with this one
pub record IsLedTo (states : List AutomatonState) (to : ℕ) : Type 0 where
  pub from : ℕ
  pub state : AutomatonState
  pub arguments : List Operand
  pub earlier : from < to
  pub there : slice_get states from ≡ Some state
  pub leaf : Contains (leaves_of state.row) (To to arguments)

-- so it is of each state but the first
abbrev pub EachIsReachable : List AutomatonState → Type 0
EachIsReachable states = (at : ℕ) → suc at < length states → IsLedTo states (suc at)
