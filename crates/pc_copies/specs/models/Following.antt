-- Moves that were followed from one register to the next.
use Rattle.std.specs.Prelude.{◌≡◌, ◌⊎◌, ◌<◌, ℕ, Bool, true, false, List, [], length, Option, Some, None, slice_index_or}
use Rattle.std.specs.List.{count_by}
use Rattle.pc_word.specs.declared.item.Operand.{Operand}
use Rattle.pc_word.specs.declared.item.Operand.TheVariants.{Name}
use Rattle.pc_machine.specs.Registers.{most_registers}
use Rattle.pc_copies.specs.declared.moves.Move.{Move}
use Rattle.pc_copies.specs.Moves.{Leads_to}
use Rattle.pc_copies.specs.models.Sources.{source_in}
use Rattle.pc_copies.specs.models.Packing.{WritesOnce}

-- the source that a table has for a register
abbrev pub source_at : List (Option Operand) → ℕ → Option Operand
source_at table register = slice_index_or table register None

-- a table of the sources of all registers
pub record AreSources (table : List (Option Operand)) : Type 0 where
  pub as_many : length table ≡ most_registers
  pub named : (at register : ℕ) → source_at table at ≡ Some (Name register) → register < most_registers

-- whether there is a source
abbrev pub is_there : Option Operand → Bool
is_there (Some from) = true
is_there None = false

-- how many sources a table has
abbrev pub sources_left : List (Option Operand) → ℕ
sources_left table = count_by is_there table

-- a source was left in a table, or taken out
abbrev pub IsTaken : Option Operand → Option Operand → Option Operand → Type 0
IsTaken taken before now = ((taken ≡ None) × (now ≡ before)) ⊎ ((taken ≡ before) × (now ≡ None))

-- the sources of moves were taken out of a table
abbrev pub AreTaken : List Move → List (Option Operand) → List (Option Operand) → Type 0
AreTaken path before now = (x : ℕ) → IsTaken (source_in path x) (source_at before x) (source_at now x)

-- moves from a register on, up to one that reads what has no move any more
pub record Followed (before now : List (Option Operand)) (begin : ℕ) (path : List Move) : Type 0 where
  pub taken : AreTaken path before now
  pub once : WritesOnce path
  pub end : Operand
  pub leads : Leads_to path end
  pub ends : (register : ℕ) → end ≡ Name register → source_at now register ≡ None
  pub begun : source_at now begin ≡ None

-- so far, up to a register
pub record Following (before now : List (Option Operand)) (begin : ℕ) (path : List Move) (at : ℕ) : Type 0 where
  pub table : AreSources now
  pub below : at < most_registers
  pub taken : AreTaken path before now
  pub once : WritesOnce path
  pub leads : Leads_to path (Name at)
  pub begun : ((path ≡ []) × (at ≡ begin)) ⊎ (source_at now begin ≡ None)
