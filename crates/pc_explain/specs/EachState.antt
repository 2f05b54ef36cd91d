-- The states of a schedule, one after the other.
use Rattle.std.specs.Prelude.{ℕ, suc, List, [], ◌∷◌, ◌++◌}
use Rattle.pc_automaton.specs.Automaton.{AutomatonState, state_in}
use Rattle.pc_told.specs.Tellings.{Telling, telling_in}
use Rattle.pc_variables.specs.declared.holding.Holding.{Holding}
use Rattle.pc_waiting.specs.declared.obstacle.Waiting.{Waiting}
use Rattle.pc_explain.specs.declared.explanation.StateView.{StateView}
use Rattle.pc_explain.specs.Explained.{LoopSchedule}
use Rattle.pc_explain.specs.Legends.{SourceLegend}
use Rattle.pc_explain.specs.Naming.{Naming}

-- what is explained of a state: its row, where the items and tests of this come from, what waits there, and which names hold which scalars
pub record StateExplanation : Type 0 where
  pub state : AutomatonState
  pub telling : Telling
  pub waits : List Waiting
  pub holdings : List Holding

-- that of a state in memory
abbrev pub explained_in : StateView → StateExplanation
explained_in it = record { state = state_in it.state.now; telling = telling_in it.told.now; waits = it.waiting.now; holdings = it.holdings.now }

-- how its names are written
abbrev pub naming_of : SourceLegend → StateExplanation → Naming
naming_of legend it = record { legend = legend; holdings = it.holdings }

-- states with what is explained of each
abbrev pub beside : List AutomatonState → List Telling → List (List Waiting) → List (List Holding) → List StateExplanation
beside (state ∷ states) (telling ∷ tellings) (waits ∷ others) (holdings ∷ held) =
    record { state = state; telling = telling; waits = waits; holdings = holdings } ∷ beside states tellings others held
beside _ _ _ _ = []

-- those of a schedule
abbrev pub explained_states : LoopSchedule → List StateExplanation
explained_states schedule = beside schedule.states schedule.tellings schedule.waits schedule.holdings

-- what is shown of each state by its number, which is `number` for the first
abbrev pub each_state : {A : Type 0} → (shown : ℕ → StateExplanation → List A) → (number : ℕ) → List StateExplanation → List A
each_state shown number [] = []
each_state shown number (it ∷ rest) = shown number it ++ each_state shown (suc number) rest
