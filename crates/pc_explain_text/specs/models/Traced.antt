-- That the items of a schedule can be traced to the nodes of the flow graph that they come from.
use Rattle.std.specs.Prelude.{◌≡◌, ◌<◌, ◌^◌, length}
use Rattle.std.specs.List.{AllByRecursion}
use Rattle.pc_word.specs.Row.{leaves_of}
use Rattle.pc_automaton.specs.Automaton.{states_in}
use Rattle.pc_told.specs.declared.telling.Told.{Told}

-- of each state a row is told, and both states and the leaves of each row are few
pub record CanBeTraced (told : Told) : Type 0 where
  pub as_many : length told.rows ≡ length told.automaton
  pub few : length told.automaton < 2 ^ 32
  pub few_leaves : AllByRecursion (λ state. length (leaves_of state.row) < 2 ^ 32) (states_in told.automaton)
