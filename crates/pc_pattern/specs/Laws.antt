-- The laws of searches. Each is the contract of a function of laws.rt, which does nothing.
use Rattle.std.specs.Prelude.{◌≡◌, ℕ, ◌≤◌, List, [], ◌∷◌}
use Rattle.std.specs.List.{AllByRecursion}
use Rattle.pc_word.specs.declared.item.TrapKind.{TrapKind}
use Rattle.pc_word.specs.Row.{At_leaf}
use Rattle.pc_table.specs.Table.{Traps_here, region_tree}
use Rattle.pc_table.specs.TableKeeps.{TableKeeps}
use Rattle.pc_window.specs.WindowRun.{Window}
use Rattle.pc_window.specs.Kept.{Left}
use Rattle.pc_window.specs.Steps.{Positive}
use Rattle.pc_automaton.specs.declared.automaton.AutomatonLeaf.TheVariants.{Trap}
use Rattle.pc_automaton.specs.Automaton.{AutomatonState, IsAutomaton}
use Rattle.pc_automaton.specs.There.{StateIsThere}
use Rattle.pc_automaton.specs.RowFits.{RowFits}
use Rattle.pc_pattern.specs.Searches.{Rules, Search, IsPattern, HasNoPattern}
use Rattle.pc_pattern.specs.Pattern.{NoneIsEmpty, RunsAsTheRegion, BeginsLive}

-- the states of a closed search do what the region does
abbrev pub PatternsRunAsTheRegion : Type 0
PatternsRunAsTheRegion = (rules : Rules) → TableKeeps rules.table → Positive rules.limits → (region rows : ℕ) (states : List AutomatonState)
    → IsPattern rules region rows states → RunsAsTheRegion rules.table region states

-- and each but the first has an item or a test
abbrev pub PatternsHaveNoEmptyStates : Type 0
PatternsHaveNoEmptyStates = (rules : Rules) → TableKeeps rules.table → Positive rules.limits → (region rows : ℕ) (states : List AutomatonState)
    → IsPattern rules region rows states → NoneIsEmpty states

-- and the row of each keeps the limits and the machine's rule for prints and reads
abbrev pub PatternsFit : Type 0
PatternsFit = (rules : Rules) → TableKeeps rules.table → Positive rules.limits → (region rows : ℕ) (states : List AutomatonState)
    → IsPattern rules region rows states → AllByRecursion (λ state. RowFits rules.limits state.row) states

-- and they are those of an automaton
abbrev pub PatternsAreAutomata : Type 0
PatternsAreAutomata = (rules : Rules) → TableKeeps rules.table → Positive rules.limits → (region rows : ℕ) (states : List AutomatonState)
    → IsPattern rules region rows states → IsAutomaton states

-- and what they name is there in the table
abbrev pub PatternsNameWhatIsThere : Type 0
PatternsNameWhatIsThere = (rules : Rules) → TableKeeps rules.table → Positive rules.limits → (region rows : ℕ) (states : List AutomatonState)
    → IsPattern rules region rows states → AllByRecursion (StateIsThere rules.table) states

-- the first is passed variables that are live at the region's head
abbrev pub PatternsBeginWithLiveVariables : Type 0
PatternsBeginWithLiveVariables = (rules : Rules) → TableKeeps rules.table → Positive rules.limits → (region rows : ℕ) (states : List AutomatonState)
    → IsPattern rules region rows states → BeginsLive rules.table region states

-- a search has one answer: where it is closed within so many members, it comes to have no more
abbrev pub SearchesHaveOneAnswer : Type 0
SearchesHaveOneAnswer = (rules : Rules) (region rows : ℕ) (states : List AutomatonState)
    → IsPattern rules region rows states → HasNoPattern rules region rows → ⊥

-- after as many steps, two searches have come to the same
abbrev pub SearchesAreOne : Type 0
SearchesAreOne = (rules : Rules) (region steps : ℕ) (members others : List Window) (taken taken' : ℕ) (lefts lefts' : List Left)
    → Search rules region steps members taken lefts → Search rules region steps others taken' lefts'
    → (members ≡ others) × (taken ≡ taken') × (lefts ≡ lefts')

-- a search has one pattern: its members close in one way, and each has one state, whatever number of rows is allowed
abbrev pub PatternsAreOne : Type 0
PatternsAreOne = (rules : Rules) → TableKeeps rules.table → Positive rules.limits → (region rows most : ℕ) (states others : List AutomatonState)
    → IsPattern rules region rows states → IsPattern rules region most others → states ≡ others

-- the state that is a trap alone
abbrev pub trap_state : TrapKind → ℕ → AutomatonState
trap_state kind line = record { parameters = []; row = At_leaf (Trap kind line) }

-- from a region that is a trap alone a search comes to one state, which is that trap
abbrev pub TrapsHaveOneState : Type 0
TrapsHaveOneState = (rules : Rules) (region line : ℕ) (kind : TrapKind) → region_tree rules.table region ≡ Traps_here kind line
    → (rows : ℕ) → 1 ≤ rows
    → (HasNoPattern rules region rows → ⊥)
    × ((states : List AutomatonState) → IsPattern rules region rows states → states ≡ trap_state kind line ∷ [])
