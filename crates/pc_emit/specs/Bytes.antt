-- The bytes that are counted for a table's regions in their forms, before any row is made. The rows that are emitted are
-- never longer.
use Rattle.std.specs.Prelude.{ℕ, ℤ, zero, ◌+◌, ◌*◌, List, [], ◌∷◌, length, Option, Some, None}
use Rattle.pc_word.specs.Row.{Row, Then, Either, At_leaf}
use Rattle.pc_table.specs.Table.{TableTree, Does, Asks, Next, Stops_here, Traps_here, TableRegion, Table}
use Rattle.pc_automaton.specs.declared.automaton.AutomatonLeaf.{AutomatonLeaf}
use Rattle.pc_automaton.specs.declared.automaton.AutomatonLeaf.TheVariants.{To, Out, Stop, Trap}
use Rattle.pc_automaton.specs.Automaton.{AutomatonState}
use Rattle.pc_emit.specs.Emitted.{RegionForm, Plain, ByAutomaton}
use Rattle.pc_object.specs.declared.version.Version.TheVariants.{Ptv2}
use Rattle.pc_object.specs.Sizes.{item_bytes, test_bytes, goto_bytes, end_bytes, trap_bytes, header_bytes, length_bytes, initial_bytes, count_bytes, note_bytes}

-- for each argument or home that is passed, two rows of one copy
abbrev pub passed_bytes : ℕ
passed_bytes = 24

-- ---- automata

-- a leaf of a state, with the copies that pass its arguments or homes
abbrev pub leaf_bytes : AutomatonLeaf → ℕ
leaf_bytes (To state arguments) = goto_bytes + passed_bytes * length arguments
leaf_bytes (Out region homes) = goto_bytes + passed_bytes * length homes
leaf_bytes Stop = end_bytes
leaf_bytes (Trap kind line) = trap_bytes

-- the row of a state
abbrev pub row_bytes : Row AutomatonLeaf → ℕ
row_bytes (Then item rest) = item_bytes item + row_bytes rest
row_bytes (Either on on_yes on_no) = test_bytes on + (row_bytes on_yes + row_bytes on_no)
row_bytes (At_leaf leaf) = leaf_bytes leaf

-- the rows of states
abbrev pub states_bytes : List AutomatonState → ℕ
states_bytes [] = zero
states_bytes (state ∷ states) = row_bytes state.row + states_bytes states

-- ---- plain regions

-- a row for each item and test of a tree, each of its leaves no longer than a trap
abbrev pub tree_bytes : TableTree → ℕ
tree_bytes (Does origin item rest) = item_bytes item + trap_bytes + tree_bytes rest
tree_bytes (Asks origin on on_yes on_no) = test_bytes on + 2 * trap_bytes + (tree_bytes on_yes + tree_bytes on_no)
tree_bytes (Next region) = zero
tree_bytes Stops_here = zero
tree_bytes (Traps_here kind line) = zero

-- a region whose code is plain: its rows, and a leaf alone
abbrev pub plain_bytes : TableTree → ℕ
plain_bytes tree = trap_bytes + tree_bytes tree

-- ---- the whole

-- a region with this tree in a form; a region that has none is counted as plain
abbrev pub form_bytes : TableTree → Option RegionForm → ℕ
form_bytes tree None = plain_bytes tree
form_bytes tree (Some Plain) = plain_bytes tree
form_bytes tree (Some (ByAutomaton states registers)) = states_bytes states

-- regions, the first of which has this number
abbrev pub regions_bytes : (ℕ → Option RegionForm) → (number : ℕ) → List TableRegion → ℕ
regions_bytes forms number [] = zero
regions_bytes forms number (region ∷ regions) = form_bytes region.tree (forms number) + regions_bytes forms (1 + number) regions

-- an object of a table whose arrays begin with these data in these forms, as PTV2, which is the longer one: its header, its
-- arrays and their data, its regions, and a note for each loop
abbrev pub object_bytes : Table → (initial : List (List ℤ)) → (ℕ → Option RegionForm) → ℕ
object_bytes table initial forms =
    header_bytes Ptv2 + (length_bytes * length table.arrays + initial_bytes Ptv2 initial)
    + (regions_bytes forms 0 table.regions + (count_bytes + note_bytes * length table.loops))
