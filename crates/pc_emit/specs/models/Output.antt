-- Rows in the making: those of regions, and those of copies, which will stand after them all.
use Rattle.std.specs.Prelude.{◌≡◌, ℕ, ◌+◌, ◌<◌, ◌≤◌, List, length, Some, slice_get}
use Rattle.std.specs.List.{flat_map}
use Rattle.pc_machine.specs.declared.tree.Leaf.{Leaf}
use Rattle.pc_machine.specs.MachineCode.{CodeRow, rows_of}
use Rattle.pc_object.specs.ObjectText.{row_text}
use Rattle.pc_assign.specs.Stored.{registers_in}
use Rattle.pc_copies.specs.declared.moves.Move.{Move}
use Rattle.pc_emit.specs.Registers.{register_of}
use Rattle.pc_emit.specs.Emitted.{Passes}
use Rattle.pc_emit.specs.declared.names.StateNames.{StateNames}
use Rattle.pc_emit.specs.declared.output.Output.{Output}

-- the registers of a state's names
abbrev pub of_state : StateNames → ℕ → ℕ
of_state names = register_of ((registers_in names.registers.now).of names.state)

-- how many bytes rows have
abbrev pub bytes_of : List CodeRow → ℕ
bytes_of rows = length (flat_map row_text rows)

-- the rows that were made have their places in these rows
pub record Stays (output : Output) (final : List CodeRow) : Type 0 where
  pub rows_stay : (at : ℕ) (row : CodeRow) → slice_get (rows_of output.rows) at ≡ Some row → slice_get final at ≡ Some row
  pub copies_stay : (at : ℕ) (row : CodeRow) → slice_get (rows_of output.copies.items) at ≡ Some row → slice_get final (output.base + at) ≡ Some row

-- more was made, and all that there was has its place still
pub record OutputGrows (old new : Output) : Type 0 where
  pub base : new.base ≡ old.base
  pub more : length old.copies.items ≤ length new.copies.items
  pub stays : (final : List CodeRow) → Stays new final → Stays old final

-- a row stands at a place, whatever will be made
pub record StandsAt (output : Output) (at : ℕ) (row : CodeRow) : Type 0 where
  pub stands : (final : List CodeRow) → Stays output final → slice_get final at ≡ Some row

-- from one leaf to another through copies, whatever will be made
pub record PassesAlong (output : Output) (from : Leaf) (copies : List (List Move)) (to : Leaf) : Type 0 where
  pub passes : (final : List CodeRow) → Stays output final → Passes final from copies to

-- this is so of the number of each row of copies that was made since, whatever will be made
pub record EachCopy (P : List CodeRow → ℕ → Type 0) (old new : Output) : Type 0 where
  pub each : (final : List CodeRow) → Stays new final
      → (at : ℕ) → length old.copies.items ≤ at → at < length new.copies.items → P final (new.base + at)
