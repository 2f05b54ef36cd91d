-- Registers that are bytes, as those that are read are.
use Rattle.pc_machine.specs.Registers.{most_registers}
use Rattle.pc_machine.specs.WellFormed.{IsOperand}
use Rattle.pc_object.specs.Numbers.{HasByteRegisters}
use Rattle.pc_assembly.specs.declared.part.Part.{Part}
use Rattle.pc_assembly.specs.declared.part.Part.TheVariants as part
use Rattle.pc_assembly.specs.declared.line.Content.{Content}
use Rattle.pc_assembly.specs.declared.line.Content.TheVariants as content

-- each register of a part of a row is a byte
abbrev pub IsBytePart : Part → Type 0
IsBytePart (part.Item item) = HasByteRegisters item
IsBytePart (part.Test on) = IsOperand most_registers on
IsBytePart (part.Leaf leaf) = Unit {0}

-- each register of a line is a byte
abbrev pub IsByteContent : Content → Type 0
IsByteContent (content.Part part) = IsBytePart part
IsByteContent (content.Word array value) = Unit {0}
IsByteContent content.Row = Unit {0}
IsByteContent (content.Note note) = Unit {0}
