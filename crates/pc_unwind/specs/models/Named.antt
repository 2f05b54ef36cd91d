-- What a tree names, taken apart: tags, arrays, stubs.
use Rattle.std.specs.Prelude.{ℕ, ◌≤◌}
use Rattle.pc_table.specs.Table.{Table}
use Rattle.pc_window.specs.Tree.{Tree, Pending, Undecided, Exit, Stop_exit, Trap_exit}
use Rattle.pc_window.specs.There.{ArrayIsThere, StubIsThere}

-- every tag of a tree is at most a number
abbrev pub TagsAtMost : ℕ → Tree → Type 0
TagsAtMost most (Pending tag origin item rest) = (tag ≤ most) × TagsAtMost most rest
TagsAtMost most (Undecided tag origin on on_yes on_no) = (tag ≤ most) × TagsAtMost most on_yes × TagsAtMost most on_no
TagsAtMost most (Exit region tag homes) = tag ≤ most
TagsAtMost most Stop_exit = Unit {0}
TagsAtMost most (Trap_exit kind line) = Unit {0}

-- the array of each item is there
abbrev pub ArraysAreThere : Table → Tree → Type 0
ArraysAreThere table (Pending tag origin item rest) = ArrayIsThere table item × ArraysAreThere table rest
ArraysAreThere table (Undecided tag origin on on_yes on_no) = ArraysAreThere table on_yes × ArraysAreThere table on_no
ArraysAreThere table (Exit region tag homes) = Unit {0}
ArraysAreThere table Stop_exit = Unit {0}
ArraysAreThere table (Trap_exit kind line) = Unit {0}

-- each stub is there
abbrev pub StubsAreThere : Table → Tree → Type 0
StubsAreThere table (Pending tag origin item rest) = StubsAreThere table rest
StubsAreThere table (Undecided tag origin on on_yes on_no) = StubsAreThere table on_yes × StubsAreThere table on_no
StubsAreThere table (Exit region tag homes) = StubIsThere table region homes
StubsAreThere table Stop_exit = Unit {0}
StubsAreThere table (Trap_exit kind line) = Unit {0}
