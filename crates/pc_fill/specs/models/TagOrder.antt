-- Trees whose tags never fall on the way down: what stands below an item or test has no lesser tag than it.
use Rattle.std.specs.Prelude.{ℕ, ◌≤◌, Bool, false, ◌&&◌, nat_lt, Option, Some, None}
use Rattle.pc_window.specs.Tree.{Tree, Pending, Undecided, Exit, Stop_exit, Trap_exit, Front, Issued, Split, Unfinished}
use Rattle.pc_fill.specs.declared.walk.Found.{Found}

-- no tag is less than the one above it, nor than this
abbrev pub TagsInOrder : ℕ → Tree → Type 0
TagsInOrder least (Pending tag origin item rest) = (least ≤ tag) × TagsInOrder tag rest
TagsInOrder least (Undecided tag origin on p q) = (least ≤ tag) × TagsInOrder tag p × TagsInOrder tag q
TagsInOrder least (Exit region tag homes) = Unit {0}
TagsInOrder least Stop_exit = Unit {0}
TagsInOrder least (Trap_exit kind line) = Unit {0}

-- the same behind each leaf of a front
abbrev pub TagsInOrderBehind : Front → Type 0
TagsInOrderBehind (Issued tag origin item rest) = TagsInOrderBehind rest
TagsInOrderBehind (Split tag origin on p q) = TagsInOrderBehind p × TagsInOrderBehind q
TagsInOrderBehind (Unfinished rest) = TagsInOrder 0 rest

-- whether an item or test of this tag, and all that stands below it, is known to come later than what was found
abbrev pub comes_later : Bool → Option Found → ℕ → Bool
comes_later in_order (Some it) tag = in_order && nat_lt it.tag tag
comes_later in_order None tag = false
