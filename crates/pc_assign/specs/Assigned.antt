-- Registers for the names of an automaton, as one rule gives them.
use Rattle.std.specs.Prelude.{◌≡◌, ℕ, zero, suc, ◌<◌, ◌≤◌, Bool, true, false, ◌&&◌, ◌||◌, if◌then◌else◌, nat_eq, MatchBool, List, [], ◌∷◌, ◌++◌}
use Rattle.std.specs.Prelude.{length, map, take, Option, Some, None, IsSomeAnd, slice_get, unwrap_or}
use Rattle.std.specs.Option.{option_or}
use Rattle.std.specs.List.{AllByRecursion, list_any}
use Rattle.pc_word.specs.declared.item.Operand.{Operand}
use Rattle.pc_word.specs.declared.item.Operand.TheVariants.{Name, Lit}
use Rattle.pc_word.specs.Row.{Row, Then, Either, At_leaf}
use Rattle.pc_word.specs.Items.{dest_of}
use Rattle.pc_window.specs.Names.{named}
use Rattle.pc_window.specs.Rebasing.{is_in}
use Rattle.pc_automaton.specs.declared.automaton.AutomatonLeaf.{AutomatonLeaf}
use Rattle.pc_automaton.specs.declared.automaton.AutomatonLeaf.TheVariants.{To, Out, Stop, Trap}
use Rattle.pc_automaton.specs.Automaton.{AutomatonState, names_written}
use Rattle.pc_assign.specs.Uses.{row_uses}
use Rattle.pc_assign.specs.Pressure.{IsScratch}

-- ---- taken registers, where names have those below scratch

-- whether this is a name's register
abbrev pub is_register : ℕ → Option ℕ → Bool
is_register register (Some is) = nat_eq register is
is_register register None = false

-- whether one of some names has this register
abbrev pub one_has : (ℕ → Option ℕ) → List ℕ → ℕ → Bool
one_has of names register = list_any (λ name. is_register register (of name)) names

-- whether one of some names that are used has it
abbrev pub used_has : (ℕ → Bool) → (ℕ → Option ℕ) → List ℕ → ℕ → Bool
used_has used of names register = list_any (λ name. used name && is_register register (of name)) names

-- the least register that is not taken, and it stands below scratch
pub record IsLeast (scratch : ℕ) (taken : ℕ → Bool) (register : ℕ) : Type 0 where
  pub below : register < scratch
  pub free : taken register ≡ false
  pub least : (other : ℕ) → other < register → taken other ≡ true

-- all registers below scratch are taken
abbrev pub AllTaken : ℕ → (ℕ → Bool) → Type 0
AllTaken scratch taken = (register : ℕ) → register < scratch → taken register ≡ true

-- ---- parameters

-- a parameter's register: what it is passed, if no parameter before it has that, and else the least that none of these has
abbrev pub IsParameterChoice : ℕ → (ℕ → Bool) → Option ℕ → ℕ → Type 0
IsParameterChoice scratch taken (Some passed) register = MatchBool (taken passed) (IsLeast scratch taken register) (register ≡ passed)
IsParameterChoice scratch taken None register = IsLeast scratch taken register

-- the register that is passed at a place, if one is
abbrev pub passed_at : Option (Option ℕ) → Option ℕ
passed_at (Some passed) = passed
passed_at None = None

-- each parameter has the register that the rule gives it, where these are passed
abbrev pub ParametersByRule : ℕ → (ℕ → Option ℕ) → List (Option ℕ) → List ℕ → Type 0
ParametersByRule scratch of passed parameters =
    (at name : ℕ) → slice_get parameters at ≡ Some name
    → IsSomeAnd (of name) (IsParameterChoice scratch (one_has of (take at parameters)) (passed_at (slice_get passed at)))

-- the register of what is passed, if it is a name
abbrev pub operand_register : (ℕ → Option ℕ) → Operand → Option ℕ
operand_register of (Name name) = of name
operand_register of (Lit value) = None

-- what a leaf passes to a state, if it leads there
abbrev pub leaf_passes : (ℕ → Option ℕ) → ℕ → AutomatonLeaf → Option (List (Option ℕ))
leaf_passes of to (To state arguments) = if nat_eq state to then Some (map (operand_register of) arguments) else None
leaf_passes of to (Out region homes) = None
leaf_passes of to Stop = None
leaf_passes of to (Trap kind line) = None

-- what the first leaf of a row that leads there does
abbrev pub row_passes : (ℕ → Option ℕ) → ℕ → Row AutomatonLeaf → Option (List (Option ℕ))
row_passes of to (Then item rest) = row_passes of to rest
row_passes of to (Either on on_yes on_no) = option_or (row_passes of to on_yes) (row_passes of to on_no)
row_passes of to (At_leaf leaf) = leaf_passes of to leaf

-- what the first leaf of some states, numbered from `from` on, that leads there does
abbrev pub states_pass : (ℕ → ℕ → Option ℕ) → ℕ → ℕ → List AutomatonState → Option (List (Option ℕ))
states_pass registers to from [] = None
states_pass registers to from (state ∷ states) = option_or (row_passes (registers from) to state.row) (states_pass registers to (suc from) states)

-- what a state's parameters are passed by the first leaf of an earlier state that leads there; nothing if there is none
abbrev pub passed_to : List AutomatonState → (ℕ → ℕ → Option ℕ) → ℕ → List (Option ℕ)
passed_to states registers to = unwrap_or (states_pass registers to 0 (take to states)) []

-- the parameters of the first state are the variables, each in the register of its number; those of others are by the rule
abbrev pub Parameters : ℕ → ℕ → (ℕ → Option ℕ) → List (Option ℕ) → List ℕ → Type 0
Parameters scratch zero of passed parameters = AllByRecursion (λ variable. of variable ≡ Some variable) parameters
Parameters scratch (suc before) of passed parameters = ParametersByRule scratch of passed parameters

-- ---- defined names

-- a defined name's register: the least that is not taken, and if all are, the least that is not needed
pub data IsDefinitionChoice (scratch : ℕ) (taken needed : ℕ → Bool) (register : ℕ) : Type 0 where
  First_choice : IsLeast scratch taken register → IsDefinitionChoice scratch taken needed register
  Second_choice : AllTaken scratch taken → IsLeast scratch needed register → IsDefinitionChoice scratch taken needed register

-- Where an item defines a name, it has the register that the rule gives it. Taken are those of the parameters and of the
-- names that are defined above it, and needed those of the parameters that are used below it and of the same names.
abbrev pub DestByRule : ℕ → (ℕ → Option ℕ) → List ℕ → List ℕ → Row AutomatonLeaf → Option ℕ → Type 0
DestByRule scratch of parameters above rest (Some dest) =
    IsSomeAnd (of dest) (IsDefinitionChoice scratch (λ register. one_has of parameters register || one_has of above register)
    (λ register. used_has (row_uses rest) of parameters register || one_has of above register))
DestByRule scratch of parameters above rest None = Unit {0}

-- so have all names that a row defines, below definitions of these names
abbrev pub RowByRule : ℕ → (ℕ → Option ℕ) → List ℕ → List ℕ → Row AutomatonLeaf → Type 0
RowByRule scratch of parameters above (Then item rest) =
    DestByRule scratch of parameters above rest (dest_of item) × RowByRule scratch of parameters (named (dest_of item) above) rest
RowByRule scratch of parameters above (Either on on_yes on_no) = RowByRule scratch of parameters above on_yes × RowByRule scratch of parameters above on_no
RowByRule scratch of parameters above (At_leaf leaf) = Unit {0}

-- ---- the whole

-- the names of a state: its parameters, and what its row defines, in preorder
abbrev pub state_names : AutomatonState → List ℕ
state_names state = state.parameters ++ names_written state.row

-- the names of a state have registers by the rule, and no other name has one
pub record StateByRule (scratch number : ℕ) (passed : List (Option ℕ)) (of : ℕ → Option ℕ) (state : AutomatonState) : Type 0 where
  pub parameters : Parameters scratch number of passed state.parameters
  pub row : RowByRule scratch of state.parameters [] state.row
  pub others : (name : ℕ) → is_in name (state_names state) ≡ false → of name ≡ None

-- registers for an automaton: `of number name` is that of a name of a state, and scratch is the one that is left for moves
pub record Registers : Type 0 where
  pub of : ℕ → ℕ → Option ℕ
  pub scratch : ℕ

-- the names of each state have registers by the rule, below scratch
pub record AreByRule (scratch : ℕ) (states : List AutomatonState) (registers : ℕ → ℕ → Option ℕ) : Type 0 where
  pub each : (number : ℕ) (state : AutomatonState) → slice_get states number ≡ Some state
      → StateByRule scratch number (passed_to states registers number) (registers number) state
  pub none : (number name : ℕ) → length states ≤ number → registers number name ≡ None

-- all names have, and scratch is as small as the states' pressures let it be
pub record IsAssigned (states : List AutomatonState) (registers : Registers) : Type 0 where
  pub left : IsScratch states registers.scratch
  pub rule : AreByRule registers.scratch states registers.of

-- the parameters of the first state are variables, which are below 96; as each name stands once in a state, they are different
pub record BeginsWithVariables (states : List AutomatonState) : Type 0 where
  pub below : (state : AutomatonState) → slice_get states 0 ≡ Some state → AllByRecursion (λ variable. variable < 96) state.parameters
