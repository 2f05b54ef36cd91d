-- Where a machine goes at a leaf.
use Rattle.std.specs.Prelude.{ℤ, true, Option, Some, None}
use Rattle.pc_word.specs.declared.item.End.TheVariants as end
use Rattle.pc_vm.specs.declared.event.Event.{Event}
use Rattle.pc_machine.specs.declared.tree.Leaf.{Leaf}
use Rattle.pc_machine.specs.declared.tree.Leaf.TheVariants.{Goto, Stop, Trap}
use Rattle.pc_vm.specs.Standing.{Standing}

-- the event of a row that printed this and came to this leaf
abbrev pub event_of : Option ℤ → Leaf → Event
event_of printed (Goto row) = record { printed = printed; end = None }
event_of printed Stop = record { printed = printed; end = Some end.Ended }
event_of printed (Trap kind line) = record { printed = printed; end = Some (end.Trapped kind line) }

-- the machine goes to the row that a leaf leads to, or is over
abbrev pub moved : Leaf → Standing → Standing
moved (Goto row) standing = record standing { row = row }
moved _ standing = record standing { over = true }
