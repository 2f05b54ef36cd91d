-- Moves that are taken out of a table and put into rows.
use Rattle.std.specs.Prelude.{◌≡◌, ◌⊎◌, ◌<◌, ℕ, List, [], ◌∷◌, length, Option, Some, None, slice_get}
use Rattle.std.specs.List.{AllByRecursion}
use Rattle.pc_word.specs.declared.item.Operand.{Operand}
use Rattle.pc_word.specs.declared.item.Operand.TheVariants.{Name, Lit}
use Rattle.pc_machine.specs.Registers.{most_registers}
use Rattle.pc_copies.specs.declared.moves.Move.{Move}
use Rattle.pc_copies.specs.Moves.{IsNamed, IsMoveSource, one_names, AreCopies}
use Rattle.pc_copies.specs.models.Sources.{source_in, IsRead, IsWritten, Do}
use Rattle.pc_copies.specs.models.Packing.{WritesOnce, RowsFit}
use Rattle.pc_copies.specs.models.Following.{source_at, sources_left, AreSources}
use Rattle.pc_copies.specs.models.Counting.{copies_with}

-- a move that names registers of the machine, but not scratch
pub record IsMove (scratch : ℕ) (move : Move) : Type 0 where
  pub dest : IsNamed scratch move.dest
  pub from : IsMoveSource scratch move.from

-- one that names registers of the machine
abbrev pub IsBelow : Operand → Type 0
IsBelow (Name register) = register < most_registers
IsBelow (Lit value) = Unit {0}

pub record IsInside (move : Move) : Type 0 where
  pub dest : move.dest < most_registers
  pub from : IsBelow move.from

-- such moves, to different registers
pub record AreApart (scratch : ℕ) (moves : List Move) : Type 0 where
  pub all : AllByRecursion (IsMove scratch) moves
  pub once : WritesOnce moves

-- the table of the sources of moves
pub record IsTable (moves : List Move) (table : List (Option Operand)) : Type 0 where
  pub are : AreSources table
  pub each : (x : ℕ) → source_at table x ≡ source_in moves x
  pub left : sources_left table ≡ length moves

-- rows do what was taken out of the table, from the moves before this place at least
pub record Arranging (ops scratch : ℕ) (moves : List Move) (at : ℕ) (table : List (Option Operand)) (rows : List (List Move)) (first : List Move) : Type 0 where
  pub are : AreSources table
  pub placed : ℕ → Option Operand
  pub does : Do scratch rows first placed
  pub stage : (x : ℕ) → ((source_at table x ≡ source_in moves x) × (placed x ≡ None)) ⊎ ((source_at table x ≡ None) × (placed x ≡ source_in moves x))
  pub reads : (register : ℕ) → IsRead placed register → source_at table register ≡ None
  pub row_reads : (register : ℕ) → IsRead (source_in first) register → (register ≡ scratch) ⊎ (source_at table register ≡ None)
  pub fit : RowsFit (one_names moves) ops scratch rows first
  pub row_writes : (register : ℕ) → IsWritten (source_in first) register → (register ≡ scratch) ⊎ (source_at table register ≡ None)
  pub through : (i : ℕ) (move : Move) → i < at → slice_get moves i ≡ Some move → source_at table move.dest ≡ None

-- rows that do moves at once
pub record IsPacked (ops scratch : ℕ) (moves : List Move) (rows : List (List Move)) (first : List Move) : Type 0 where
  pub does : Do scratch rows first (source_in moves)
  pub fit : RowsFit (one_names moves) ops scratch rows first
  pub room : length first < ops
  pub copies : AreCopies moves (copies_with rows first)

-- the first row, if it has copies
abbrev pub if_any : List Move → List (List Move)
if_any [] = []
if_any (move ∷ moves) = (move ∷ moves) ∷ []
