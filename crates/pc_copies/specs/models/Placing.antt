-- Moves that follow one another, and the cycle that they may end in.
use Rattle.std.specs.Prelude.{◌≡◌, ℕ, List, Some, None, slice_get}
use Rattle.pc_word.specs.declared.item.Operand.{Operand}
use Rattle.pc_word.specs.declared.item.Operand.TheVariants.{Name}
use Rattle.pc_copies.specs.declared.moves.Move.{Move}
use Rattle.pc_copies.specs.Moves.{Leads_to}
use Rattle.pc_copies.specs.models.Sources.{source_in}
use Rattle.pc_copies.specs.models.Packing.{WritesOnce}

-- moves that follow one another, to different registers
pub record IsWay (path : List Move) : Type 0 where
  pub once : WritesOnce path
  pub end : Operand
  pub leads : Leads_to path end

-- the move to a register stands at this place
pub record IsAt (path : List Move) (register at : ℕ) : Type 0 where
  pub move : Move
  pub there : slice_get path at ≡ Some move
  pub writes : move.dest ≡ register

-- the last move reads a register that none of them writes, or a literal
pub record EndsElsewhere (path : List Move) : Type 0 where
  pub elsewhere : (end : Operand) (register : ℕ) → Leads_to path end → end ≡ Name register → source_in path register ≡ None

-- the last move reads the register that the move at this place writes
pub record EndsAt (path : List Move) (at : ℕ) : Type 0 where
  pub move : Move
  pub there : slice_get path at ≡ Some move
  pub reads : (end : Operand) → Leads_to path end → end ≡ Name move.dest
