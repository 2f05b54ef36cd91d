-- Moves between registers that are done at once, and rows of copies that do them.
use Rattle.std.specs.Prelude.{◌≡◌, ◌≢◌, ◌⊎◌, ◌<◌, ◌≤◌, ◌+◌, ◌++◌, ℕ, Bool, true, false, ◌||◌}
use Rattle.std.specs.Prelude.{if◌then◌else◌, nat_eq, List, [], ◌∷◌, length, map, drop, Some, slice_get}
use Rattle.std.specs.List.{AllByRecursion, filter_map, IsDistinct, list_any}
use Rattle.pc_word.specs.declared.item.Item.{Item}
use Rattle.pc_word.specs.declared.item.Item.TheVariants.{Copy}
use Rattle.pc_word.specs.declared.item.Operand.{Operand}
use Rattle.pc_word.specs.declared.item.Operand.TheVariants.{Name, Lit}
use Rattle.pc_machine.specs.Registers.{most_registers}
use Rattle.pc_word.specs.State.{State}
use Rattle.pc_word.specs.Items.{operand_value, dest_of}
use Rattle.pc_word.specs.Commit.{state_after}
use Rattle.pc_copies.specs.declared.moves.Move.{Move}

-- ---- moves that are given

-- a register that moves may name: one of the machine, but not scratch
pub record IsNamed (scratch register : ℕ) : Type 0 where
  pub below : register < most_registers
  pub other : register ≢ scratch

-- an operand that a move may read
abbrev pub IsMoveSource : ℕ → Operand → Type 0
IsMoveSource scratch (Name register) = IsNamed scratch register
IsMoveSource scratch (Lit value) = Unit {0}

-- moves that may be done at once: no two have the same destination, and none names scratch
pub record AreMoves (scratch : ℕ) (moves : List Move) : Type 0 where
  pub dests : (at : ℕ) (move : Move) → slice_get moves at ≡ Some move → IsNamed scratch move.dest
  pub sources : (at : ℕ) (move : Move) → slice_get moves at ≡ Some move → IsMoveSource scratch move.from
  pub apart : (at also : ℕ) (move other : Move) → slice_get moves at ≡ Some move → slice_get moves also ≡ Some other → move.dest ≡ other.dest → at ≡ also

-- whether an operand is this register
abbrev pub is_name : Operand → ℕ → Bool
is_name (Name register) x = nat_eq register x
is_name (Lit value) x = false

-- the moves that are not to themselves
abbrev pub nontrivial_moves : List Move → List Move
nontrivial_moves [] = []
nontrivial_moves (move ∷ moves) = if is_name move.from move.dest then nontrivial_moves moves else move ∷ nontrivial_moves moves

-- ---- what they do at once

-- each destination has the value that its source had, and each other register but scratch the one that it had
pub record AreDone (moves : List Move) (scratch : ℕ) (old new : State) : Type 0 where
  pub moved : (at : ℕ) (move : Move) → slice_get moves at ≡ Some move → new.names move.dest ≡ operand_value old.names move.from
  pub others : (x : ℕ) → x ≢ scratch → ((at : ℕ) (move : Move) → slice_get moves at ≡ Some move → move.dest ≢ x) → new.names x ≡ old.names x
  pub same_cells : new.cells ≡ old.cells
  pub same_input : new.input ≡ old.input

-- ---- what rows of copies do

-- the item that does a move
abbrev pub copy_of : Move → Item
copy_of move = Copy move.dest move.from

-- the state after a row, which reads before it writes
abbrev pub after_copies : List ℕ → List Move → State → State
after_copies lengths row old = state_after lengths old (map copy_of row)

-- the state after rows that run one after the other
abbrev pub after_rows : List ℕ → List (List Move) → State → State
after_rows lengths [] old = old
after_rows lengths (row ∷ rows) old = after_rows lengths rows (after_copies lengths row old)

-- ---- the whole

-- whether one of some moves names a register
abbrev pub one_names : List Move → ℕ → Bool
one_names moves register = list_any (λ move. nat_eq move.dest register || is_name move.from register) moves

-- a register that copies may name: one that is named by what they do, or scratch
abbrev pub IsRegister : (ℕ → Bool) → ℕ → ℕ → Type 0
IsRegister named scratch register = (named register ≡ true) ⊎ (register ≡ scratch)

-- an operand that a copy may read
abbrev pub IsReadable : (ℕ → Bool) → ℕ → Operand → Type 0
IsReadable named scratch (Name register) = IsRegister named scratch register
IsReadable named scratch (Lit value) = Unit {0}

-- a copy that names such registers alone
pub record IsCopy (named : ℕ → Bool) (scratch : ℕ) (copy : Move) : Type 0 where
  pub dest : IsRegister named scratch copy.dest
  pub from : IsReadable named scratch copy.from

-- a row of at least one and at most so many copies, no two to one register
pub record IsCopyRow (named : ℕ → Bool) (ops scratch : ℕ) (row : List Move) : Type 0 where
  pub copies : AllByRecursion (IsCopy named scratch) row
  pub some : 1 ≤ length row
  pub few : length row ≤ ops
  pub once : IsDistinct nat_eq (filter_map dest_of (map copy_of row))

-- a row with room for no more
pub record IsFullRow (ops : ℕ) (row : List Move) : Type 0 where
  pub full : length row ≡ ops

-- each move reads what the next one writes, and the last reads this
abbrev pub Leads_to : List Move → Operand → Type 0
Leads_to [] end = Unit {0}
Leads_to (move ∷ []) end = move.from ≡ end
Leads_to (move ∷ next ∷ moves) end = (move.from ≡ Name next.dest) × Leads_to (next ∷ moves) end

-- a cycle of moves: each reads what the next one writes, and the last what the first one writes
abbrev pub IsCycle : List Move → Type 0
IsCycle [] = ⊥
IsCycle (move ∷ moves) = Leads_to (move ∷ moves) (Name move.dest)

-- a move among others
pub record IsAmong (moves : List Move) (move : Move) : Type 0 where
  pub at : ℕ
  pub there : slice_get moves at ≡ Some move

-- the moves of several lists
abbrev pub moves_of : List (List Move) → List Move
moves_of [] = []
moves_of (moves ∷ lists) = moves ++ moves_of lists

-- how many copies rows have
abbrev pub copies_in : List (List Move) → ℕ
copies_in [] = 0
copies_in (row ∷ rows) = length row + copies_in rows

-- as many copies as moves, and one more for each of some cycles of them, no two of which share a register
pub record AreCopies (moves : List Move) (copies : ℕ) : Type 0 where
  pub cycles : List (List Move)
  pub are : AllByRecursion IsCycle cycles
  pub among : AllByRecursion (IsAmong moves) (moves_of cycles)
  pub apart : IsDistinct nat_eq (filter_map dest_of (map copy_of (moves_of cycles)))
  pub number : copies ≡ length moves + length cycles

-- Rows of copies that do moves at once: each but the first is full, one row is enough where it has room for all moves, and
-- no register is named but scratch and those that the moves name.
pub record IsArranged (moves : List Move) (ops scratch : ℕ) (rows : List (List Move)) : Type 0 where
  pub done : (lengths : List ℕ) (old : State) → AreDone moves scratch old (after_rows lengths rows old)
  pub rows_fit : AllByRecursion (IsCopyRow (one_names (nontrivial_moves moves)) ops scratch) rows
  pub full : AllByRecursion (IsFullRow ops) (drop 1 rows)
  pub copies : AreCopies (nontrivial_moves moves) (copies_in rows)
  pub one : length (nontrivial_moves moves) ≤ ops → length rows ≤ 1
