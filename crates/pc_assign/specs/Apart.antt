-- What registers by the rule are good for: names that are live together have different ones.
use Rattle.std.specs.Prelude.{◌≡◌, ℕ, ◌<◌, true, List, [], ◌∷◌, Option, Some, None, slice_get}
use Rattle.std.specs.List.{AllByRecursion}
use Rattle.pc_word.specs.Row.{Row, Then, Either, At_leaf}
use Rattle.pc_word.specs.Items.{dest_of}
use Rattle.pc_window.specs.Names.{named}
use Rattle.pc_automaton.specs.declared.automaton.AutomatonLeaf.{AutomatonLeaf}
use Rattle.pc_automaton.specs.Automaton.{AutomatonState, IsAutomaton}
use Rattle.pc_assign.specs.Uses.{row_uses}
use Rattle.pc_assign.specs.Assigned.{Registers, state_names, IsAssigned, BeginsWithVariables}

-- two names share no register
abbrev pub Differ : (ℕ → Option ℕ) → ℕ → ℕ → Type 0
Differ of name other = (register : ℕ) → of name ≡ Some register → of other ≡ Some register → ⊥

-- no two of some names share one
abbrev pub AllDiffer : (ℕ → Option ℕ) → List ℕ → Type 0
AllDiffer of [] = Unit {0}
AllDiffer of (name ∷ names) = AllByRecursion (Differ of name) names × AllDiffer of names

-- where an item defines a name, it shares no register with a parameter that is used below it or with a name defined above it
abbrev pub DestApart : (ℕ → Option ℕ) → List ℕ → List ℕ → Row AutomatonLeaf → Option ℕ → Type 0
DestApart of parameters above rest (Some dest) =
    AllByRecursion (λ parameter. row_uses rest parameter ≡ true → Differ of dest parameter) parameters × AllByRecursion (Differ of dest) above
DestApart of parameters above rest None = Unit {0}

-- so does each name that a row defines, below definitions of these names
abbrev pub KeepsApart : (ℕ → Option ℕ) → List ℕ → List ℕ → Row AutomatonLeaf → Type 0
KeepsApart of parameters above (Then item rest) =
    DestApart of parameters above rest (dest_of item) × KeepsApart of parameters (named (dest_of item) above) rest
KeepsApart of parameters above (Either on on_yes on_no) = KeepsApart of parameters above on_yes × KeepsApart of parameters above on_no
KeepsApart of parameters above (At_leaf leaf) = Unit {0}

-- a name has a register below scratch
pub record HasAllowed (scratch : ℕ) (of : ℕ → Option ℕ) (name : ℕ) : Type 0 where
  pub register : ℕ
  pub has : of name ≡ Some register
  pub below : register < scratch

-- in a state names that are live together have different registers, and each name has one below scratch
pub record IsApart (scratch : ℕ) (of : ℕ → Option ℕ) (state : AutomatonState) : Type 0 where
  pub parameters : AllDiffer of state.parameters
  pub row : KeepsApart of state.parameters [] state.row
  pub allowed : AllByRecursion (HasAllowed scratch of) (state_names state)

-- so it is in each state
abbrev pub LiveApart : Type 0
LiveApart =
    (states : List AutomatonState) (registers : Registers) → IsAutomaton states → BeginsWithVariables states → IsAssigned states registers
    → (number : ℕ) (state : AutomatonState) → slice_get states number ≡ Some state → IsApart registers.scratch (registers.of number) state

-- and parameter v of the first state is in register v
abbrev pub VariablesStay : Type 0
VariablesStay =
    (states : List AutomatonState) (registers : Registers) → IsAssigned states registers
    → (state : AutomatonState) → slice_get states 0 ≡ Some state → AllByRecursion (λ variable. registers.of 0 variable ≡ Some variable) state.parameters

-- the rule leaves nothing open: registers by the rule are the only ones
abbrev pub OnlyOne : Type 0
OnlyOne = (states : List AutomatonState) (registers others : Registers) → IsAssigned states registers → IsAssigned states others → registers ≡ others
