-- Copies that are packed into rows, those that run last first.
use Rattle.std.specs.Prelude.{◌≡◌, ◌≢◌, ◌⊎◌, ◌+◌, ◌<◌, ℕ, Bool, true, List, [], ◌∷◌, ◌++◌, length, Option, Some, None}
use Rattle.std.specs.List.{AllByRecursion}
use Rattle.pc_word.specs.declared.item.Operand.{Operand}
use Rattle.pc_word.specs.declared.item.Operand.TheVariants.{Name}
use Rattle.pc_copies.specs.declared.moves.Move.{Move}
use Rattle.pc_copies.specs.Moves.{IsCopy, Leads_to, copies_in}
use Rattle.pc_copies.specs.models.Sources.{source_in, over, IsRead, Unread, IsWritten, Apart, Do}

-- ---- what is put into rows

-- copies are appended to those of the first row; where it is full then, it stands after the other rows
pub data Puts (ops : ℕ) (group : List Move) (rows : List (List Move)) (first : List Move) (later : List (List Move)) (now : List Move) : Type 0 where
  Fills : length first + length group ≡ ops → later ≡ rows ++ (first ++ group) ∷ [] → now ≡ [] → Puts ops group rows first later now
  Fits : length first + length group < ops → later ≡ rows → now ≡ first ++ group → Puts ops group rows first later now

-- no register is written twice
abbrev pub WritesOnce : List Move → Type 0
WritesOnce [] = Unit {0}
WritesOnce (move ∷ moves) = (source_in moves move.dest ≡ None) × WritesOnce moves

-- rows of so many copies each, and a first row with fewer: none writes a register twice
pub record IsFull (named : ℕ → Bool) (ops scratch : ℕ) (row : List Move) : Type 0 where
  pub many : length row ≡ ops
  pub copies : AllByRecursion (IsCopy named scratch) row
  pub once : WritesOnce row

pub record RowsFit (named : ℕ → Bool) (ops scratch : ℕ) (rows : List (List Move)) (first : List Move) : Type 0 where
  pub full : AllByRecursion (IsFull named ops scratch) rows
  pub copies : AllByRecursion (IsCopy named scratch) first
  pub once : WritesOnce first

-- registers that take their values from these sources are named, and so are those that they take them from
pub record AreNamed (named : ℕ → Bool) (sources : ℕ → Option Operand) : Type 0 where
  pub dests : (register : ℕ) (from : Operand) → sources register ≡ Some from → named register ≡ true
  pub reads : (register read : ℕ) → sources register ≡ Some (Name read) → named read ≡ true

-- what rows do with these sources more
pub record Adds (ops scratch : ℕ) (sources : ℕ → Option Operand) (rows : List (List Move)) (first : List Move) (later : List (List Move)) (now : List Move) : Type 0 where
  pub does : (placed : ℕ → Option Operand) → Do scratch rows first placed → Unread placed sources → Unread (source_in first) sources
      → Do scratch later now (over placed sources)
  pub reads : (register : ℕ) → IsRead (source_in now) register → IsRead (source_in first) register ⊎ IsRead sources register
  pub fits : (named : ℕ → Bool) → AreNamed named sources → Apart (source_in first) sources → RowsFit named ops scratch rows first
      → RowsFit named ops scratch later now
  pub writes : (register : ℕ) → IsWritten (source_in now) register → IsWritten (source_in first) register ⊎ IsWritten sources register

-- the same where scratch may be needed for it
pub record AddsRing (ops scratch : ℕ) (sources : ℕ → Option Operand) (rows : List (List Move)) (first : List Move) (later : List (List Move)) (now : List Move) : Type 0 where
  pub does : (placed : ℕ → Option Operand) → (IsRead placed scratch → ⊥) → Do scratch rows first placed → Unread placed sources → Unread (source_in first) sources
      → Do scratch later now (over placed sources)
  pub reads : (register : ℕ) → IsRead (source_in now) register → (register ≡ scratch) ⊎ IsRead (source_in first) register ⊎ IsRead sources register
  pub fits : (named : ℕ → Bool) → AreNamed named sources → Apart (source_in first) sources → RowsFit named ops scratch rows first
      → RowsFit named ops scratch later now
  pub writes : (register : ℕ) → IsWritten (source_in now) register → (register ≡ scratch) ⊎ IsWritten (source_in first) register ⊎ IsWritten sources register

-- ---- moves that follow one another

-- a copy leaves a register, as scratch, alone
pub record Avoids (register : ℕ) (move : Move) : Type 0 where
  pub writes : move.dest ≢ register
  pub reads : move.from ≢ Name register

-- moves that may be done one after the other, the last first: none reads what one before it writes
abbrev pub Unwinds : List Move → Type 0
Unwinds [] = Unit {0}
Unwinds (move ∷ moves) = (source_in moves move.dest ≡ None) × (IsRead (source_in moves) move.dest → ⊥) × Unwinds moves

-- a cycle of moves: each reads what the next one writes, and the last what the first one writes
pub record IsRing (moves : List Move) : Type 0 where
  pub head : Move
  pub tail : List Move
  pub is : moves ≡ head ∷ tail
  pub leads : Leads_to moves (Name head.dest)
  pub once : WritesOnce moves

-- ---- how the first row grows

-- no copy of a row names this register
pub record IsClean (register : ℕ) (row : List Move) : Type 0 where
  pub unread : IsRead (source_in row) register → ⊥
  pub unwritten : source_in row register ≡ None

-- moves were put one after the other, the last first: the first row grew by them, or has begun anew since
pub record Unwound (ops scratch : ℕ) (moves : List Move) (rows : List (List Move)) (first : List Move) (later : List (List Move)) (now : List Move) : Type 0 where
  pub adds : Adds ops scratch (source_in moves) rows first later now
  pub grows : (length now ≡ length first + length moves) ⊎ IsClean scratch now
  pub clean : IsClean scratch first → IsClean scratch now
  pub counted : copies_in later + length now ≡ copies_in rows + length first + length moves
