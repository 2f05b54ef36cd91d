-- Whether states are those of an automaton, as the code finds out.
use Rattle.std.specs.Prelude.{ℕ, Bool, true, false, not, ◌||◌, ◌&&◌, nat_eq, nat_lt, List, [], ◌∷◌, length, Option, Some, None, slice_get}
use Rattle.std.specs.List.{list_all}
use Rattle.pc_word.specs.declared.item.Operand.{Operand}
use Rattle.pc_word.specs.declared.item.Operand.TheVariants.{Name, Lit}
use Rattle.pc_word.specs.Items.{operands_of, dest_of}
use Rattle.pc_word.specs.Commit.{writes}
use Rattle.pc_word.specs.Row.{Row, Then, Either, At_leaf}
use Rattle.pc_window.specs.Names.{and_dest}
use Rattle.pc_window.specs.Rebasing.{is_in}
use Rattle.pc_automaton.specs.declared.automaton.AutomatonLeaf.{AutomatonLeaf}
use Rattle.pc_automaton.specs.declared.automaton.AutomatonLeaf.TheVariants.{To, Out, Stop, Trap}
use Rattle.pc_automaton.specs.declared.checking.Known.{Known}
use Rattle.pc_automaton.specs.declared.checking.Known.TheVariants.{Parameters, Written'}
use Rattle.pc_automaton.specs.Automaton.{AutomatonState, is_parameter}

-- ---- what is known

-- the names that are known at a place
abbrev pub known_at : Known → ℕ → Bool
known_at (Parameters names) x = is_in x names.now
known_at (Written' name p above) x = nat_eq name x || known_at above x

-- whether an operand is a literal or a known name
abbrev pub knows : (ℕ → Bool) → Operand → Bool
knows known (Name x) = known x
knows known (Lit value) = true

-- whether each operand of an item is
abbrev pub knows_item : (ℕ → Bool) → List Operand → Bool
knows_item known operands = list_all (knows known) operands

-- whether each operand of each item and each test is
abbrev pub knows_row : (ℕ → Bool) → Row AutomatonLeaf → Bool
knows_row known (Then item rest) = knows_item known (operands_of item) && knows_row known rest
knows_row known (Either on on_yes on_no) = knows known on && (knows_row known on_yes && knows_row known on_no)
knows_row known (At_leaf leaf) = true

-- whether a leaf uses what is known
abbrev pub knows_leaf : (ℕ → Bool) → AutomatonLeaf → Bool
knows_leaf known (To state arguments) = list_all (knows known) arguments
knows_leaf known (Out region homes) = list_all (λ home. knows known home.value) homes
knows_leaf known Stop = true
knows_leaf known (Trap kind line) = true

-- whether each leaf does, with what is written on the path to it
abbrev pub knows_leaves : (ℕ → Bool) → Row AutomatonLeaf → Bool
knows_leaves known (Then item rest) = knows_leaves (and_dest known item) rest
knows_leaves known (Either on on_yes on_no) = knows_leaves known on_yes && knows_leaves known on_no
knows_leaves known (At_leaf leaf) = knows_leaf known leaf

-- ---- each name once

-- whether a row writes a name
abbrev pub writes_in : Row AutomatonLeaf → ℕ → Bool
writes_in (Then item rest) x = writes (dest_of item) x || writes_in rest x
writes_in (Either on on_yes on_no) x = writes_in on_yes x || writes_in on_no x
writes_in (At_leaf leaf) x = false

-- whether a row does not write what is written, if anything is
abbrev pub spares : Row AutomatonLeaf → Option ℕ → Bool
spares row (Some dest) = not (writes_in row dest)
spares row None = true

-- whether two rows write no name both
abbrev pub are_apart : Row AutomatonLeaf → Row AutomatonLeaf → Bool
are_apart (Then item rest) other = spares other (dest_of item) && are_apart rest other
are_apart (Either on on_yes on_no) other = are_apart on_yes other && are_apart on_no other
are_apart (At_leaf leaf) other = true

-- whether a row writes no name twice
abbrev pub writes_once : Row AutomatonLeaf → Bool
writes_once (Then item rest) = spares rest (dest_of item) && writes_once rest
writes_once (Either on on_yes on_no) = are_apart on_yes on_no && (writes_once on_yes && writes_once on_no)
writes_once (At_leaf leaf) = true

-- whether each parameter is listed once and is not written
abbrev pub stand_once : List ℕ → Row AutomatonLeaf → Bool
stand_once [] row = true
stand_once (x ∷ xs) row = not (is_in x xs) && (not (writes_in row x) && stand_once xs row)

-- ---- where leaves lead

-- whether so many arguments may be passed to a state that is there
abbrev pub takes : Option AutomatonState → ℕ → Bool
takes (Some state) count = nat_eq count (length state.parameters)
takes None count = false

-- whether a leaf leads to a state that is there and takes its arguments
abbrev pub leads : List AutomatonState → AutomatonLeaf → Bool
leads states (To state arguments) = takes (slice_get states state) (length arguments)
leads states (Out region homes) = true
leads states Stop = true
leads states (Trap kind line) = true

-- whether each leaf does
abbrev pub all_lead : List AutomatonState → Row AutomatonLeaf → Bool
all_lead states (Then item rest) = all_lead states rest
all_lead states (Either on on_yes on_no) = all_lead states on_yes && all_lead states on_no
all_lead states (At_leaf leaf) = leads states leaf

-- ---- the whole

abbrev pub is_state : List AutomatonState → AutomatonState → Bool
is_state states state =
    knows_row (is_parameter state) state.row && (knows_leaves (is_parameter state) state.row
    && (stand_once state.parameters state.row && (writes_once state.row && all_lead states state.row)))

abbrev pub is_automaton : List AutomatonState → Bool
is_automaton states = nat_lt 0 (length states) && list_all (is_state states) states
