-- Which registers rows write.
use Rattle.std.specs.Prelude.{ℕ, ◌≡◌, ◌<◌, Some}
use Rattle.pc_word.specs.declared.item.Item.{Item}
use Rattle.pc_word.specs.Items.{dest_of}
use Rattle.pc_word.specs.Row.{Then, Either, At_leaf}
use Rattle.pc_machine.specs.MachineCode.{CodeRow}

-- an item writes no register but those below a number
abbrev pub ItemWritesBelow : ℕ → Item → Type 0
ItemWritesBelow registers item = (dest : ℕ) → dest_of item ≡ Some dest → dest < registers

-- and so does each item of a row
abbrev pub RowWritesBelow : ℕ → CodeRow → Type 0
RowWritesBelow registers (Then item row) = ItemWritesBelow registers item × RowWritesBelow registers row
RowWritesBelow registers (Either on row other) = RowWritesBelow registers row × RowWritesBelow registers other
RowWritesBelow registers (At_leaf leaf) = Unit {0}
