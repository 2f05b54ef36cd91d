-- Why a test may not move, and the window once it has.
use Rattle.std.specs.Prelude.{ℕ, ◌≡◌, not, if◌then◌else◌, nat_lt, List, [], ◌∷◌, Option, Some, None}
use Rattle.pc_word.specs.declared.item.Limits.{Limits}
use Rattle.pc_window.specs.Tree.{Front}
use Rattle.pc_window.specs.Filled.{test_count}
use Rattle.pc_window.specs.declared.window.Window.{Window as StoredWindow}
use Rattle.pc_moveop.specs.declared.error.RoomKind.TheVariants.{Tests}
use Rattle.pc_moveop.specs.declared.error.MoveError.{MoveError}
use Rattle.pc_moveop.specs.declared.error.MoveError.TheVariants.{NotThere, Full}
use Rattle.pc_moveop.specs.NodeTree.{NodeTree, nodes_in, node_at, node_front}
use Rattle.pc_moveop.specs.Climbing.{first_defined}
use Rattle.pc_moveop.specs.Refusing.{refused_first, depends_on}
use Rattle.pc_moveop.specs.Moving.{NodeChanges, SameBounds}
use Rattle.pc_movecj.specs.Dividing.{MovingTest, moving_test_at, divided}

-- a front that has no room for a test; a node behind the front has room for all
abbrev pub no_room_for_test : List ℕ → Limits → Front → Option MoveError
no_room_for_test [] limits front = if not (nat_lt (test_count front) limits.tests) then Some (Full Tests) else None
no_room_for_test (leaf ∷ path) limits front = None

-- the first test of the node behind a leaf of a node, if there is that node
abbrev pub test_behind : ℕ → Option NodeTree → Option MovingTest
test_behind leaf (Some node) = moving_test_at leaf node
test_behind leaf None = None

-- the test that a move names
abbrev pub test_of : StoredWindow → List ℕ → ℕ → Option MovingTest
test_of w parent leaf = test_behind leaf (node_at parent (nodes_in w.tree))

-- why a test may not move: its operand is defined on the way, or there is no room
abbrev pub refusal_of_test : StoredWindow → List ℕ → Option MovingTest → Option MoveError
refusal_of_test w parent None = Some NotThere
refusal_of_test w parent (Some m) =
    refused_first (depends_on (first_defined (m.on ∷ []) m.way)) (no_room_for_test parent w.limits (node_front (nodes_in w.tree)))

-- the first refusal of a move of a test, if there is one
abbrev pub IsWhyNotTest : StoredWindow → List ℕ → ℕ → Option MoveError → Type 0
IsWhyNotTest w parent leaf why = why ≡ refusal_of_test w parent (test_of w parent leaf)

-- the first test of the node behind a leaf has moved into the node above; names stay
pub record TestHasMoved (w v : StoredWindow) (parent : List ℕ) (leaf : ℕ) : Type 0 where
  pub test : MovingTest
  pub is_test : test_of w parent leaf ≡ Some test
  pub changes : NodeChanges (nodes_in w.tree) (nodes_in v.tree) parent (divided test.tag test.origin test.on leaf)
  pub names : v.names ≡ w.names
  pub bounds : SameBounds w v
