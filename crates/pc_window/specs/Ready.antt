-- When an item or test that stands behind the front is ready.
use Rattle.std.specs.Prelude.{ℕ, suc, ◌+◌, ◌<◌, ◌≤◌, ◌⊎◌, ◌≡◌, Bool, true, false, Option, Some, None}
use Rattle.pc_word.specs.declared.item.Item.{Item}
use Rattle.pc_word.specs.declared.item.Operand.{Operand}
use Rattle.pc_window.specs.Tree.{Tree, Pending, Undecided, Front, Issued, Split, Unfinished, whole, tree_size}
use Rattle.pc_linear.specs.Form.{Form}
use Rattle.pc_window.specs.Names.{IsKnown, ReadsKnown, Unwritten}
use Rattle.pc_window.specs.Conflict.{NoConflict, MayFollow}
use Rattle.pc_window.specs.Jump.{Without}
use Rattle.pc_window.specs.WindowRun.{Window}
use Rattle.pc_window.specs.Filled.{HasSpace, Jump, priority_of}
use Rattle.pc_word.specs.Items.{only_computes}

-- an item of this tag and origin stands at a preorder place of a tree; no item before it conflicts with it; and a test stands
-- before it (the Bool) only where it is quiet
pub data CanRise (forms : ℕ → Form) (x : Item) (tag origin : ℕ) : (place : ℕ) → Bool → Tree → Type 0 where
  Stands_here : (rest : Tree) → CanRise forms x tag origin 0 false (Pending tag origin x rest)
  Stands_below : (t o : ℕ) (y : Item) (place : ℕ) (crosses : Bool) (rest : Tree) → NoConflict forms y x
      → CanRise forms x tag origin place crosses rest → CanRise forms x tag origin (suc place) crosses (Pending t o y rest)
  Stands_on_yes : (t o : ℕ) (on : Operand) (place : ℕ) (crosses : Bool) (on_yes on_no : Tree) → only_computes x ≡ true
      → CanRise forms x tag origin place crosses on_yes → CanRise forms x tag origin (suc place) true (Undecided t o on on_yes on_no)
  Stands_on_no : (t o : ℕ) (on : Operand) (place : ℕ) (crosses : Bool) (on_yes on_no : Tree) → only_computes x ≡ true
      → CanRise forms x tag origin place crosses on_no → CanRise forms x tag origin (suc (tree_size on_yes + place)) true (Undecided t o on on_yes on_no)

-- a test stands at a place of a tree, and no test before it
pub data CanDivide (on : Operand) (tag origin : ℕ) : (place : ℕ) → Tree → Type 0 where
  Divides_here : (on_yes on_no : Tree) → CanDivide on tag origin 0 (Undecided tag origin on on_yes on_no)
  Divides_below : (t o : ℕ) (y : Item) (place : ℕ) (rest : Tree) → CanDivide on tag origin place rest → CanDivide on tag origin (suc place) (Pending t o y rest)

-- an item may follow another in its row; a test always may
abbrev pub MayStandBehind : (ℕ → Form) → Item → Option Item → Type 0
MayStandBehind forms y (Some x) = MayFollow forms y x
MayStandBehind forms y None = Unit {0}

-- an item, or a test, that stands behind the front is ready: of this tag and origin, at this place of the window
pub data IsReadyAt (known : ℕ → Bool) (forms : ℕ → Form) (tag origin : ℕ) : (place : ℕ) → Option Item → Front → Type 0 where
  Item_ready : (x : Item) (place : ℕ) (crosses : Bool) (from : Tree) → ReadsKnown known x → CanRise forms x tag origin place crosses from
      → IsReadyAt known forms tag origin place (Some x) (Unfinished from)
  Test_ready : (on : Operand) (place : ℕ) (from : Tree) → IsKnown known on → CanDivide on tag origin place from → IsReadyAt known forms tag origin place None (Unfinished from)
  Ready_below : (t o : ℕ) (y : Item) (place : ℕ) (what : Option Item) (rest : Front) → MayStandBehind forms y what
      → IsReadyAt known forms tag origin place what rest → IsReadyAt known forms tag origin (suc place) what (Issued t o y rest)
  Ready_on_yes : (t o : ℕ) (on : Operand) (place : ℕ) (what : Option Item) (on_yes on_no : Front)
      → IsReadyAt known forms tag origin place what on_yes → IsReadyAt known forms tag origin (suc place) what (Split t o on on_yes on_no)
  Ready_on_no : (t o : ℕ) (on : Operand) (place : ℕ) (what : Option Item) (on_yes on_no : Front)
      → IsReadyAt known forms tag origin place what on_no → IsReadyAt known forms tag origin (suc (tree_size (whole on_yes) + place)) what (Split t o on on_yes on_no)

-- the next name is neither known nor written, and no form has the next form variable
pub record HasFresh (known : ℕ → Bool) (w : Window) : Type 0 where
  pub unknown : known w.next ≡ false
  pub unwritten : Unwritten w.next (whole w.front)
  pub without : (x : ℕ) → Without w.next_variable (w.forms x)

-- what is ready and has room
pub record ReadyPlace (known : ℕ → Bool) (w : Window) : Type 0 where
  pub tag : ℕ
  pub origin : ℕ
  pub place : ℕ
  pub what : Option Item
  pub ready : IsReadyAt known w.forms tag origin place what w.front
  pub room : HasSpace w.limits what w.front

-- a jump brings what was ready there
abbrev pub BringsFrom : {known : ℕ → Bool} {w v : Window} → Jump known w v → ReadyPlace known w → Type 0
BringsFrom jump r = (r.tag ≡ (priority_of jump.enters).0) × (r.origin ≡ (priority_of jump.enters).1) × (r.place ≡ (priority_of jump.enters).2)

-- one place is not behind another, in the order of tag, origin, preorder place
abbrev pub NotBehind : (tag origin place : ℕ) → (tag' origin' place' : ℕ) → Type 0
NotBehind tag origin place tag' origin' place' =
    (tag < tag') ⊎ ((tag ≡ tag') × ((origin < origin') ⊎ ((origin ≡ origin') × (place ≤ place'))))
