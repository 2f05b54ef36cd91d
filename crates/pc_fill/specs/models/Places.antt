-- What stands at a preorder place of a tree, and whether it is ready there, place by place on the way down.
use Rattle.std.specs.Prelude.{◌≡◌, ℕ, ◌-◌, Bool, true, false, not, ◌&&◌, if◌then◌else◌, nat_eq, nat_lt, List, [], ◌∷◌, ◌++◌, Option, Some, None, slice_index_or}
use Rattle.std.specs.List.{AllByRecursion}
use Rattle.pc_word.specs.declared.item.Item.{Item}
use Rattle.pc_word.specs.declared.item.Operand.{Operand}
use Rattle.pc_word.specs.Items.{dest_of, operands_of, operand_list, only_computes}
use Rattle.pc_word.specs.Commit.{writes}
use Rattle.pc_linear.specs.Form.{Form}
use Rattle.pc_window.specs.Hold.{Side}
use Rattle.pc_window.specs.Tree.{Tree, Pending, Undecided, Exit, Stop_exit, Trap_exit, Front, Issued, Split, Unfinished, whole, tree_size}
use Rattle.pc_window.specs.Names.{IsKnown}
use Rattle.pc_window.specs.Conflict.{NoConflict}
use Rattle.pc_window.specs.Ready.{MayStandBehind}
use Rattle.pc_window.specs.WindowRun.{Window}
use Rattle.pc_window.specs.Filled.{HasSpace}
use Rattle.pc_fill.specs.declared.first.Candidate.{Candidate}

-- an item or test of a tree: `what` is the item, or nothing where it is a test
pub record Node : Type 0 where
  pub tag : ℕ
  pub origin : ℕ
  pub what : Option Item
  pub operands : List Operand

-- the items and tests of a tree, in preorder
abbrev pub nodes_of : Tree → List Node
nodes_of (Pending tag origin item rest) = record { tag = tag; origin = origin; what = Some item; operands = operands_of item } ∷ nodes_of rest
nodes_of (Undecided tag origin on on_yes on_no) = record { tag = tag; origin = origin; what = None; operands = on ∷ [] } ∷ (nodes_of on_yes ++ nodes_of on_no)
nodes_of (Exit region tag homes) = []
nodes_of Stop_exit = []
nodes_of (Trap_exit kind line) = []

-- what code found at a place
abbrev pub node_of : Candidate → Node
node_of it = record { tag = it.tag; origin = it.origin; what = it.item; operands = operand_list it.operands }

abbrev pub node_in : Option Candidate → Option Node
node_in (Some it) = Some (node_of it)
node_in None = None

-- ---- on the way down to a place

-- an item, or a test, may rise past an item
abbrev pub MayPass : (ℕ → Form) → Item → Option Item → Type 0
MayPass forms y (Some x) = NoConflict forms y x
MayPass forms y None = Unit {0}

-- a quiet item may rise past a test
abbrev pub MayCross : Option Item → Type 0
MayCross (Some x) = only_computes x ≡ true
MayCross None = ⊥

-- from a place of a tree it may rise to the root
abbrev pub MayRise : (ℕ → Form) → Option Item → Tree → ℕ → Type 0
MayRise forms what (Pending tag origin item rest) place = Side (nat_eq place 0) (Unit {0}) (MayPass forms item what × MayRise forms what rest (place - 1))
MayRise forms what (Undecided tag origin on on_yes on_no) place =
    Side (nat_eq place 0) (Unit {0}) (MayCross what
    × Side (nat_lt (place - 1) (tree_size on_yes)) (MayRise forms what on_yes (place - 1)) (MayRise forms what on_no (place - 1 - tree_size on_yes)))
MayRise forms what (Exit region tag homes) place = Unit {0}
MayRise forms what Stop_exit place = Unit {0}
MayRise forms what (Trap_exit kind line) place = Unit {0}

-- and from behind the front it may come into the front
abbrev pub MayComeFrom : (ℕ → Form) → Option Item → Front → ℕ → Type 0
MayComeFrom forms what (Issued tag origin item rest) place = Side (nat_eq place 0) ⊥ (MayStandBehind forms item what × MayComeFrom forms what rest (place - 1))
MayComeFrom forms what (Split tag origin on on_yes on_no) place =
    Side (nat_eq place 0) ⊥
    (Side (nat_lt (place - 1) (tree_size (whole on_yes))) (MayComeFrom forms what on_yes (place - 1)) (MayComeFrom forms what on_no (place - 1 - tree_size (whole on_yes))))
MayComeFrom forms what (Unfinished rest) place = MayRise forms what rest place

-- whether no item above a place of a tree writes a name
abbrev pub unwritten_above : Tree → ℕ → ℕ → Bool
unwritten_above (Pending tag origin item rest) place x = if nat_eq place 0 then true else (not (writes (dest_of item) x) && unwritten_above rest (place - 1) x)
unwritten_above (Undecided tag origin on on_yes on_no) place x =
    if nat_eq place 0 then true
    else if nat_lt (place - 1) (tree_size on_yes) then unwritten_above on_yes (place - 1) x else unwritten_above on_no (place - 1 - tree_size on_yes) x
unwritten_above (Exit region tag homes) place x = true
unwritten_above Stop_exit place x = true
unwritten_above (Trap_exit kind line) place x = true

-- ---- known names in a table

-- the names that are known, in a table by name
abbrev pub known_in : List Bool → ℕ → Bool
known_in table name = slice_index_or table name false

-- what reads these operands, at a place of a window, is ready and has room
pub record IsReadyHere (known : ℕ → Bool) (w : Window) (place : ℕ) (what : Option Item) (operands : List Operand) : Type 0 where
  pub reads : AllByRecursion (IsKnown known) operands
  pub room : HasSpace w.limits what w.front
  pub way : MayComeFrom w.forms what w.front place
