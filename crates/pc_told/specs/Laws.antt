-- The laws of what is told, and of resources. Each is the contract of a function of laws.rt, which does nothing.
use Rattle.std.specs.Prelude.{◌≡◌, ℕ, ◌+◌, ◌≤◌, List, length, IfSome}
use Rattle.std.specs.List.{AllByRecursion, count_by}
use Rattle.pc_word.specs.declared.item.Item.{Item}
use Rattle.pc_word.specs.declared.item.Limits.{Limits}
use Rattle.pc_word.specs.declared.item.Operand.{Operand}
use Rattle.pc_word.specs.Items.{is_memory}
use Rattle.pc_table.specs.Table.{Table}
use Rattle.pc_window.specs.Tree.{Front, Issued, Split, Unfinished}
use Rattle.pc_window.specs.Unwinding.{front_tag}
use Rattle.pc_window.specs.WindowRun.{Window}
use Rattle.pc_automaton.specs.Automaton.{AutomatonState}
use Rattle.pc_automaton.specs.RowFits.{RowFits}
use Rattle.pc_told.specs.Tellings.{Telling, Tells_item, Tells_test, Tells_leaf, first_iteration, telling_of}
use Rattle.pc_told.specs.Resources.{HasRoom, IsLeastRoom, PathThrough}

-- ---- what is told

-- each tag of a front is so many iterations after the first as are told of it, and so is the least tag behind each leaf that goes on
abbrev pub CountsFrom : (first : ℕ) → Front → Telling → Type 0
CountsFrom first (Issued tag origin item rest) (Tells_item iteration from what next) = (tag ≡ first + iteration) × CountsFrom first rest next
CountsFrom first (Split tag origin on on_yes on_no) (Tells_test iteration from what one other) =
    (tag ≡ first + iteration) × CountsFrom first on_yes one × CountsFrom first on_no other
CountsFrom first (Unfinished rest) (Tells_leaf advance) = IfSome advance (λ more. front_tag rest ≡ first + more)
CountsFrom first _ _ = ⊥

-- what a window tells are its tags, counted from its first iteration
abbrev pub IterationsCount : Type 0
IterationsCount = (table : Table) (w : Window) → CountsFrom (first_iteration w) w.front (telling_of table w)

-- ---- resources

-- a path through so many rows within limits meets no more than these rows have room for
abbrev pub PathsHaveRoom : Type 0
PathsHaveRoom = (limits : Limits) (states : List AutomatonState) → AllByRecursion (λ state. RowFits limits state.row) states
    → (from rows : ℕ) (items : List Item) (tests : List Operand) → PathThrough states from rows items tests
    → HasRoom limits (length items) (length tests) (count_by is_memory items) rows

-- so it takes at least as many rows as have room for what it meets
abbrev pub PathsTakeRows : Type 0
PathsTakeRows = (limits : Limits) (states : List AutomatonState) → AllByRecursion (λ state. RowFits limits state.row) states
    → (from rows : ℕ) (items : List Item) (tests : List Operand) → PathThrough states from rows items tests
    → (least : ℕ) → IsLeastRoom limits (length items) (length tests) (count_by is_memory items) least → least ≤ rows
