-- What moves read, as functions: the source that each register takes its value from, if any.
use Rattle.std.specs.Prelude.{◌≡◌, ◌≢◌, ℕ, ℤ, if◌then◌else◌, nat_eq, List, [], ◌∷◌, Option, Some, None}
use Rattle.pc_word.specs.declared.item.Operand.{Operand}
use Rattle.pc_word.specs.declared.item.Operand.TheVariants.{Name}
use Rattle.pc_word.specs.Items.{operand_value}
use Rattle.pc_copies.specs.declared.moves.Move.{Move}

-- the value of a register that takes it from this source, or keeps it
abbrev pub taken : Option Operand → (ℕ → ℤ) → ℕ → ℤ
taken None names x = names x
taken (Some from) names x = operand_value names from

-- the registers once all have taken their values at once
abbrev pub moved : (ℕ → Option Operand) → (ℕ → ℤ) → ℕ → ℤ
moved sources names x = taken (sources x) names x

-- the source of a register among moves, the first if it has several
abbrev pub source_in : List Move → ℕ → Option Operand
source_in [] x = None
source_in (move ∷ moves) x = if nat_eq move.dest x then Some move.from else source_in moves x

-- one source, and else another
abbrev pub first_of : Option Operand → Option Operand → Option Operand
first_of (Some from) other = Some from
first_of None other = other

abbrev pub over : (ℕ → Option Operand) → (ℕ → Option Operand) → ℕ → Option Operand
over first second x = first_of (first x) (second x)

-- some register takes its value from this one
pub record IsRead (sources : ℕ → Option Operand) (register : ℕ) : Type 0 where
  pub by : ℕ
  pub reads : sources by ≡ Some (Name register)

-- no register takes its value from one that others write
pub record Unread (sources others : ℕ → Option Operand) : Type 0 where
  pub unread : (register : ℕ) → IsRead sources register → others register ≡ None

-- a register takes its value from a source
pub record IsWritten (sources : ℕ → Option Operand) (register : ℕ) : Type 0 where
  pub from : Operand
  pub writes : sources register ≡ Some from

-- no register has a source in both
pub record Apart (sources others : ℕ → Option Operand) : Type 0 where
  pub apart : (register : ℕ) → IsWritten sources register → others register ≡ None

-- the registers after rows of which the last runs first
abbrev pub back : List (List Move) → (ℕ → ℤ) → ℕ → ℤ
back [] names = names
back (row ∷ rows) names = moved (source_in row) (back rows names)

-- rows, and before them a first one, do this at once, but for scratch
pub record Do (scratch : ℕ) (rows : List (List Move)) (first : List Move) (sources : ℕ → Option Operand) : Type 0 where
  pub same : (names : ℕ → ℤ) (x : ℕ) → x ≢ scratch → back rows (moved (source_in first) names) x ≡ moved sources names x
