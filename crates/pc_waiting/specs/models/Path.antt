-- Paths as they lie on the stack, and room, step by step.
use Rattle.std.specs.Prelude.{◌-◌, if◌then◌else◌, List, [], ◌∷◌}
use Rattle.pc_word.specs.declared.item.Item.{Item}
use Rattle.pc_word.specs.Items.{is_memory}
use Rattle.pc_waiting.specs.declared.path.Above.{Above}
use Rattle.pc_waiting.specs.declared.path.Path.{Path}
use Rattle.pc_waiting.specs.declared.path.Path.TheVariants.{Root, Below'}
use Rattle.pc_waiting.specs.declared.room.Room.{Room}

-- what stands on a path, from its lower end up
abbrev pub path_in : Path → List Above
path_in Root = []
path_in (Below' last p path) = last ∷ path_in path

-- what is left of some room beside an item
abbrev pub beside_item : Room → Item → Room
beside_item room item = record { items = room.items - 1; tests = room.tests; memory = room.memory - (if is_memory item then 1 else 0) }

-- and beside a test
abbrev pub beside_test : Room → Room
beside_test room = record { items = room.items; tests = room.tests - 1; memory = room.memory }
