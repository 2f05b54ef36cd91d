-- A row, whatever its leaves are: a tree of items and tests. In one step all reads precede all writes, and only the path
-- that is taken commits.
use Rattle.std.specs.Prelude.{ℕ, ℤ, if◌then◌else◌, List, [], ◌∷◌, ◌++◌, map, Option, Some, None}
use Rattle.pc_word.specs.declared.item.Item.{Item}
use Rattle.pc_word.specs.declared.item.Operand.{Operand}
use Rattle.pc_word.specs.declared.item.MachineFault.{MachineFault}
use Rattle.pc_word.specs.Word.{holds}
use Rattle.pc_word.specs.State.{State}
use Rattle.pc_word.specs.Items.{operand_value}
use Rattle.pc_word.specs.Commit.{prints_of, fault_of, state_after}

-- an item before the rest, a test between two sides, or a leaf
pub data Row (L : Type 0) : Type 0 where
  Then : (item : Item) → (rest : Row L) → Row L
  Either : (on : Operand) → (on_yes : Row L) → (on_no : Row L) → Row L
  At_leaf : (leaf : L) → Row L

-- ---- what a row has

-- its items, on whatever path, in preorder
abbrev pub items_of : {L : Type 0} → Row L → List Item
items_of (Then item rest) = item ∷ items_of rest
items_of (Either on on_yes on_no) = items_of on_yes ++ items_of on_no
items_of (At_leaf leaf) = []

-- the operands of its tests, in preorder
abbrev pub tests_of : {L : Type 0} → Row L → List Operand
tests_of (Then item rest) = tests_of rest
tests_of (Either on on_yes on_no) = on ∷ (tests_of on_yes ++ tests_of on_no)
tests_of (At_leaf leaf) = []

-- its leaves, in preorder
abbrev pub leaves_of : {L : Type 0} → Row L → List L
leaves_of (Then item rest) = leaves_of rest
leaves_of (Either on on_yes on_no) = leaves_of on_yes ++ leaves_of on_no
leaves_of (At_leaf leaf) = leaf ∷ []

-- the items of each path from the root to a leaf
abbrev pub paths_of : {L : Type 0} → Row L → List (List Item)
paths_of (Then item rest) = map (λ path. item ∷ path) (paths_of rest)
paths_of (Either on on_yes on_no) = paths_of on_yes ++ paths_of on_no
paths_of (At_leaf leaf) = [] ∷ []

-- ---- the path that is taken

-- its items, from the root to the leaf, where each test goes to yes if its operand is not 0
abbrev pub path_of : {L : Type 0} → (ℕ → ℤ) → Row L → List Item
path_of names (Then item rest) = item ∷ path_of names rest
path_of names (Either on on_yes on_no) = if holds (operand_value names on) then path_of names on_yes else path_of names on_no
path_of names (At_leaf leaf) = []

-- its leaf
abbrev pub leaf_of : {L : Type 0} → (ℕ → ℤ) → Row L → L
leaf_of names (Then item rest) = leaf_of names rest
leaf_of names (Either on on_yes on_no) = if holds (operand_value names on) then leaf_of names on_yes else leaf_of names on_no
leaf_of names (At_leaf leaf) = leaf

-- ---- the step

-- a row faults, and then changes and prints nothing; or it prints, changes the state and answers its leaf
pub data RowOutcome (L : Type 0) : Type 0 where
  Faults : (fault : MachineFault) → RowOutcome L
  Commits : (printed : List ℤ) → (new : State) → (leaf : L) → RowOutcome L

-- what a path does, with the fault that it has, if any
abbrev pub commit_of : {L : Type 0} → List ℕ → State → List Item → L → Option MachineFault → RowOutcome L
commit_of lengths old items leaf (Some fault) = Faults fault
commit_of lengths old items leaf None = Commits (prints_of old items) (state_after lengths old items) leaf

-- what a row does to a state with arrays of these lengths
abbrev pub row_step : {L : Type 0} → List ℕ → Row L → State → RowOutcome L
row_step lengths row old =
    let items = path_of old.names row in
    commit_of lengths old items (leaf_of old.names row) (fault_of lengths old items)

-- ---- one item by itself

-- the row of one item alone
abbrev pub alone : {L : Type 0} → Item → L → Row L
alone item leaf = Then item (At_leaf leaf)

-- what an item does by itself, with this leaf after it: a node of a graph, a step of a region or a walk
abbrev pub item_step : {L : Type 0} → List ℕ → Item → L → State → RowOutcome L
item_step lengths item leaf s = row_step lengths (alone item leaf) s
