-- What the items of a row do.
use Rattle.std.specs.Prelude.{ℕ, List}
use Rattle.pc_word.specs.declared.item.Item.{Item}
use Rattle.pc_word.specs.declared.item.Item.TheVariants.{Bin, Copy, Load, Store, Print, Read, More}
use Rattle.pc_word.specs.Items.{operand_value, value_of}
use Rattle.pc_word.specs.State.{State}
use Rattle.pc_trace.specs.declared.deed.Deed.{Deed}
use Rattle.pc_trace.specs.declared.deed.Deed.TheVariants.{Wrote, Took, Stored, Printed}

-- what an item does by the state before its row, with arrays of these lengths: it gives a register a word, takes one of the input for a
-- register, gives an element a word, or prints one
abbrev pub deed_of : List ℕ → State → Item → Deed
deed_of lengths old (Bin op dest left right) = Wrote dest (value_of lengths old (Bin op dest left right))
deed_of lengths old (Copy dest from) = Wrote dest (value_of lengths old (Copy dest from))
deed_of lengths old (Load dest array index) = Wrote dest (value_of lengths old (Load dest array index))
deed_of lengths old (Store array index value) = Stored array (operand_value old.names index) (value_of lengths old (Store array index value))
deed_of lengths old (Print value) = Printed (value_of lengths old (Print value))
deed_of lengths old (Read dest) = Took dest (value_of lengths old (Read dest))
deed_of lengths old (More dest) = Wrote dest (value_of lengths old (More dest))
