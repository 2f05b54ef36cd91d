-- Which names of a search's states hold which scalars of the source, as they are found.
use Rattle.std.specs.Prelude.{ℕ, zero, suc, Bool, List, [], ◌∷◌, ◌++◌, length, nat_eq, nat_lt, Option, Some, None, slice_get, if◌then◌else◌}
use Rattle.std.specs.List.{list_any}
use Rattle.std.specs.Option.{option_or, option_and_then}
use Rattle.pc_word.specs.SourceLimits.{most_scalars}
use Rattle.pc_word.specs.Items.{dest_of}
use Rattle.pc_word.specs.Row.{Row, Then, Either, At_leaf}
use Rattle.pc_word.specs.declared.item.Item.{Item}
use Rattle.pc_word.specs.declared.item.Item.TheVariants.{Copy}
use Rattle.pc_word.specs.declared.item.Operand.{Operand}
use Rattle.pc_word.specs.declared.item.Operand.TheVariants.{Name, Lit}
use Rattle.pc_flow.specs.FlowGraph.{FlowGraph}
use Rattle.pc_flow.specs.declared.node.FlowNode.{FlowNode}
use Rattle.pc_flow.specs.declared.node.FlowNode.TheVariants.{Op, Test, Stop, Trap}
use Rattle.pc_automaton.specs.declared.automaton.AutomatonLeaf.{AutomatonLeaf}
use Rattle.pc_automaton.specs.declared.automaton.AutomatonLeaf.TheVariants.{To}
use Rattle.pc_automaton.specs.Automaton.{AutomatonState}
use Rattle.pc_told.specs.Tellings.{Telling, Tells_item, Tells_test, Tells_leaf}
use Rattle.pc_variables.specs.declared.holding.Holding.{Holding}

-- ---- one name

-- whether a name is among those that hold a scalar
abbrev pub is_held : List Holding → ℕ → Bool
is_held holdings name = list_any (λ holding. nat_eq holding.name name) holdings

-- the scalar that a name holds, if it holds one
abbrev pub scalar_of : List Holding → ℕ → Option ℕ
scalar_of [] name = None
scalar_of (first ∷ others) name = if nat_eq first.name name then Some first.scalar else scalar_of others name

-- a name that holds a scalar, where there are both, behind the others, unless it is among them
abbrev pub with_name : List Holding → (name scalar : Option ℕ) → List Holding
with_name holdings (Some name) (Some scalar) = if is_held holdings name then holdings else holdings ++ record { name = name; scalar = scalar } ∷ []
with_name holdings name scalar = holdings

-- a variable of the flow graph, if it is a scalar of the source and no temporary
abbrev pub if_scalar : ℕ → Option ℕ
if_scalar variable = if nat_lt variable most_scalars then Some variable else None

-- ---- items

-- the scalar to which an item copies a variable, if it does so
abbrev pub copied_by : (variable : ℕ) → Item → Option ℕ
copied_by variable (Copy dest (Name from)) = if nat_eq from variable then if_scalar dest else None
copied_by variable (Copy dest (Lit value)) = None
copied_by variable item = None

-- so a node
abbrev pub copied_at : (variable : ℕ) → Option FlowNode → Option ℕ
copied_at variable (Some (Op item next)) = copied_by variable item
copied_at variable (Some (Test on on_yes on_no turn)) = None
copied_at variable (Some Stop) = None
copied_at variable (Some (Trap kind line)) = None
copied_at variable None = None

-- the scalar that gets what is written to a variable: the variable itself, if it is one, or that to which the next node copies it
abbrev pub given_to : FlowGraph → (next variable : ℕ) → Option ℕ
given_to flow next variable = option_or (if_scalar variable) (copied_at variable (slice_get flow.nodes next))

-- the scalar that a node assigns, if it assigns one
abbrev pub assigned_at : FlowGraph → Option FlowNode → Option ℕ
assigned_at flow (Some (Op item next)) = option_and_then (given_to flow next) (dest_of item)
assigned_at flow (Some (Test on on_yes on_no turn)) = None
assigned_at flow (Some Stop) = None
assigned_at flow (Some (Trap kind line)) = None
assigned_at flow None = None

-- the scalar that the node with this number assigns
abbrev pub assigned_by : FlowGraph → (origin : ℕ) → Option ℕ
assigned_by flow origin = assigned_at flow (slice_get flow.nodes origin)

-- the names that a row writes, beside what is told of it, whose items come from nodes that assign scalars
abbrev pub with_assigned : FlowGraph → Row AutomatonLeaf → Telling → List Holding → List Holding
with_assigned flow (Then item rest) (Tells_item iteration origin told next) holdings =
    with_assigned flow rest next (with_name holdings (dest_of item) (assigned_by flow origin))
with_assigned flow (Either on on_yes on_no) (Tells_test iteration origin told one other) holdings =
    with_assigned flow on_no other (with_assigned flow on_yes one holdings)
with_assigned flow row telling holdings = holdings

-- ---- parameters

-- the parameters of the first state that are scalars; they are the variables themselves
abbrev pub with_own : (parameters : List ℕ) → List Holding → List Holding
with_own [] holdings = holdings
with_own (parameter ∷ parameters) holdings = with_own parameters (with_name holdings (Some parameter) (if_scalar parameter))

-- what a leaf passes to a state, if it leads there
abbrev pub arguments_of : (number : ℕ) → AutomatonLeaf → Option (List Operand)
arguments_of number (To state arguments) = if nat_eq state number then Some arguments else None
arguments_of number _ = None

-- what the first leaf of a row that leads to a state passes to it
abbrev pub arguments_to : (number : ℕ) → Row AutomatonLeaf → Option (List Operand)
arguments_to number (Then item rest) = arguments_to number rest
arguments_to number (Either on on_yes on_no) = option_or (arguments_to number on_yes) (arguments_to number on_no)
arguments_to number (At_leaf leaf) = arguments_of number leaf

-- the scalar that an argument holds, by the names of the state that passes it; where there is none it holds none
abbrev pub scalar_behind : (passing : List Holding) → Option Operand → Option ℕ
scalar_behind passing (Some (Name name)) = scalar_of passing name
scalar_behind passing (Some (Lit value)) = None
scalar_behind passing None = None

-- the parameters whose arguments hold scalars
abbrev pub with_passed : (passing : List Holding) → (parameters : List ℕ) → (arguments : List Operand) → List Holding → List Holding
with_passed passing (parameter ∷ parameters) (argument ∷ arguments) holdings =
    with_passed passing parameters arguments (with_name holdings (Some parameter) (scalar_behind passing (Some argument)))
with_passed passing _ _ holdings = holdings

-- the parameters of a state which some state passes names that hold scalars, where it leads there, and else as others do
abbrev pub entered_by : (passing : List Holding) → Option (List Operand) → (parameters : List ℕ) → (holdings others : List Holding) → List Holding
entered_by passing (Some arguments) parameters holdings others = with_passed passing parameters arguments holdings
entered_by passing None parameters holdings others = others

-- so of the first of some states that leads there; beside each of them stands what its names hold
abbrev pub entered : (earlier : List (List Holding)) → List AutomatonState → (number : ℕ) → (parameters : List ℕ) → List Holding → List Holding
entered (passing ∷ earlier) (state ∷ states) number parameters holdings =
    entered_by passing (arguments_to number state.row) parameters holdings (entered earlier states number parameters holdings)
entered _ _ number parameters holdings = holdings

-- ---- states

-- the parameters of the state behind these that hold scalars
abbrev pub parameters_held : List AutomatonState → (earlier : List (List Holding)) → (parameters : List ℕ) → List Holding
parameters_held states [] parameters = with_own parameters []
parameters_held states (first ∷ earlier) parameters = entered (first ∷ earlier) states (length (first ∷ earlier)) parameters []

-- the names of a state that hold scalars, by what those of the states before it hold
abbrev pub holdings_of : FlowGraph → List AutomatonState → (earlier : List (List Holding)) → AutomatonState → Telling → List Holding
holdings_of flow states earlier state telling = with_assigned flow state.row telling (parameters_held states earlier state.parameters)

-- those of one state more, if it is there
abbrev pub and_state : FlowGraph → List AutomatonState → (earlier : List (List Holding)) → Option AutomatonState → Telling → List (List Holding)
and_state flow states earlier (Some state) telling = earlier ++ holdings_of flow states earlier state telling ∷ []
and_state flow states earlier None telling = earlier

-- and of as many more as are told of
abbrev pub and_states : FlowGraph → List AutomatonState → List Telling → (earlier : List (List Holding)) → List (List Holding)
and_states flow states [] earlier = earlier
and_states flow states (telling ∷ tellings) earlier =
    and_states flow states tellings (and_state flow states earlier (slice_get states (length earlier)) telling)

-- the names of all states that hold scalars, in the order of the states
abbrev pub variables_of : FlowGraph → List AutomatonState → List Telling → List (List Holding)
variables_of flow states tellings = and_states flow states tellings []
