-- Windows, and filling: again and again the first item or test that is ready and has room comes into the front.
use Rattle.std.specs.Prelude.{ℕ, suc, ◌+◌, ◌<◌, ◌≤◌, ◌≡◌, ◌⊎◌, Bool, true, if◌then◌else◌, Option, Some, None}
use Rattle.pc_word.specs.declared.item.Item.{Item}
use Rattle.pc_word.specs.declared.item.Operand.{Operand}
use Rattle.pc_word.specs.declared.item.Limits.{Limits}
use Rattle.pc_word.specs.Items.{is_memory, reads}
use Rattle.pc_window.specs.Tree.{Tree, Front, Issued, Split, Unfinished, whole, tree_size}
use Rattle.pc_linear.specs.Form.{Form}
use Rattle.pc_window.specs.Names.{Scoped, IsKnown, ReadsKnown}
use Rattle.pc_window.specs.Jump.{Rises, Root, Past_item, Past_yes, Past_no, DividesTree, Root_test, Past, EntersFront, Lands, Lands_renamed, Lands_test, Lands_once, Behind_item}
use Rattle.pc_window.specs.Jump.{On_yes, On_no, combined}
use Rattle.pc_window.specs.WindowRun.{Window, supply_of}
use Rattle.pc_window.specs.Opening.{Supply, with_name}
use Rattle.pc_window.specs.Conflict.{MayFollow}

-- ---- a front that does not hang on itself

-- what holds of each item of a front
abbrev pub AllItems : (Item → Type 0) → Front → Type 0
AllItems P (Issued tag origin item rest) = P item × AllItems P rest
AllItems P (Split tag origin on on_yes on_no) = AllItems P on_yes × AllItems P on_no
AllItems P (Unfinished rest) = Unit {0}

-- each item and test reads only what is known before the row, and each item may follow those above it
abbrev pub Independent : (ℕ → Form) → (ℕ → Bool) → Front → Type 0
Independent forms known (Issued tag origin item rest) = ReadsKnown known item × AllItems (MayFollow forms item) rest × Independent forms known rest
Independent forms known (Split tag origin on on_yes on_no) = IsKnown known on × Independent forms known on_yes × Independent forms known on_no
Independent forms known (Unfinished rest) = Unit {0}

-- ---- room

-- over the whole tree of the front: its items, its loads and stores, its tests
abbrev pub item_count : Front → ℕ
item_count (Issued tag origin item rest) = suc (item_count rest)
item_count (Split tag origin on on_yes on_no) = item_count on_yes + item_count on_no
item_count (Unfinished rest) = 0

-- its loads and stores
abbrev pub memory_count : Front → ℕ
memory_count (Issued tag origin item rest) = (if is_memory item then 1 else 0) + memory_count rest
memory_count (Split tag origin on on_yes on_no) = memory_count on_yes + memory_count on_no
memory_count (Unfinished rest) = 0

-- its tests
abbrev pub test_count : Front → ℕ
test_count (Issued tag origin item rest) = test_count rest
test_count (Split tag origin on on_yes on_no) = suc (test_count on_yes + test_count on_no)
test_count (Unfinished rest) = 0

-- an item, or a test, has room
abbrev pub HasSpace : Limits → Option Item → Front → Type 0
HasSpace limits (Some item) front = (item_count front < limits.ops) × (is_memory item ≡ true → memory_count front < limits.mem)
HasSpace limits None front = test_count front < limits.tests

-- a front keeps these limits, over its whole tree
pub record WithinLimits (limits : Limits) (front : Front) : Type 0 where
  pub items : item_count front ≤ limits.ops
  pub memory : memory_count front ≤ limits.mem
  pub tests : test_count front ≤ limits.tests

-- ---- windows

-- what every window keeps, where these names are known before it: names, a front that does not hang on itself, and its limits
pub record IsWindow (known : ℕ → Bool) (w : Window) : Type 0 where
  pub scoped : Scoped known (whole w.front)
  pub independent : Independent w.forms known w.front
  pub within : WithinLimits w.limits w.front

-- ---- the order

-- where an item or test stood: its tag, its origin, its preorder place; then 0 and the place of the equal item on the other
-- side with which it became one, or 1
abbrev pub Priority : Type 0
Priority = ℕ × ℕ × ℕ × ℕ × ℕ

-- the preorder place at which an item stood that rises
abbrev pub risen_place : {forms : ℕ → Form} {tag origin : ℕ} {stood x : Item} {crosses : Bool} {from left : Tree} → Rises forms tag origin stood x crosses from left → ℕ
risen_place (Root rest unwritten) = 0
risen_place (Past_item t o y crosses rest left clear apart rises) = suc (risen_place rises)
risen_place (Past_yes t o on crosses on_yes on_no left is unwritten rises) = suc (risen_place rises)
risen_place (Past_no t o on crosses on_yes on_no left is unwritten rises) = suc (tree_size on_yes + risen_place rises)

-- the preorder place at which a test stood that divides a tree
abbrev pub divided_place : {tag origin : ℕ} {on : Operand} {from on_yes on_no : Tree} → DividesTree tag origin on from on_yes on_no → ℕ
divided_place (Root_test on_yes on_no) = 0
divided_place (Past t o y rest on_yes on_no divides) = suc (divided_place divides)

-- the same behind n items and tests more
abbrev pub deeper : ℕ → Priority → Priority
deeper n priority = (priority.0, priority.1, n + priority.2, priority.3, priority.4)

-- where the item or test stood that comes into the front
abbrev pub priority_of : {known : ℕ → Bool} {forms forms' : ℕ → Form} {new : Option ℕ} {comes : Option Item} {from to : Front}
    → EntersFront known forms forms' new comes from to → Priority
priority_of (Lands tag origin x from left reads isnew none same rises) = (tag, origin, risen_place rises, 1, 0)
priority_of (Lands_renamed tag origin name stood from left reads isnew is gives rises) = (tag, origin, risen_place rises, 1, 0)
priority_of (Lands_test tag origin on from on_yes on_no reads none same divides) = (tag, origin, divided_place divides, 1, 0)
priority_of (Lands_once t o on tag origin tag' origin' name stood other crosses crosses' on_yes on_no yes_left no_left equal reads isnew is gives rises rises') =
    (tag, origin, suc (risen_place rises), 0, risen_place rises')
priority_of (Behind_item t o y comes rest rest' may apart enters) = deeper 1 (priority_of enters)
priority_of (On_yes t o on comes on_yes on_no on_yes' apart enters) = deeper 1 (priority_of enters)
priority_of (On_no t o on comes on_yes on_no on_no' apart enters) = deeper (suc (tree_size (whole on_yes))) (priority_of enters)

-- two items become one only where they have the same tag and origin
abbrev pub TwinsAlike : {known : ℕ → Bool} {forms forms' : ℕ → Form} {new : Option ℕ} {comes : Option Item} {from to : Front}
    → EntersFront known forms forms' new comes from to → Type 0
TwinsAlike (Lands tag origin x from left reads isnew none same rises) = Unit {0}
TwinsAlike (Lands_renamed tag origin name stood from left reads isnew is gives rises) = Unit {0}
TwinsAlike (Lands_test tag origin on from on_yes on_no reads none same divides) = Unit {0}
TwinsAlike (Lands_once t o on tag origin tag' origin' name stood other crosses crosses' on_yes on_no yes_left no_left equal reads isnew is gives rises rises') =
    (tag' ≡ tag) × (origin' ≡ origin)
TwinsAlike (Behind_item t o y comes rest rest' may apart enters) = TwinsAlike enters
TwinsAlike (On_yes t o on comes on_yes on_no on_yes' apart enters) = TwinsAlike enters
TwinsAlike (On_no t o on comes on_yes on_no on_no' apart enters) = TwinsAlike enters

-- one priority is not behind another
abbrev pub InOrder : Priority → Priority → Type 0
InOrder a b =
    (a.0 < b.0) ⊎ ((a.0 ≡ b.0) × ((a.1 < b.1) ⊎ ((a.1 ≡ b.1) × ((a.2 < b.2) ⊎ ((a.2 ≡ b.2) × ((a.3 < b.3) ⊎ ((a.3 ≡ b.3) × (a.4 ≤ b.4))))))))

-- ---- filling

-- the names once what comes has a new name, if it gets one
abbrev pub given_supply : Supply → Option ℕ → Option Item → Supply
given_supply names (Some name) (Some x) = with_name names (combined names.forms x)
given_supply names (Some name) None = names
given_supply names None comes = names

-- a new name, if there is one, is the next
abbrev pub IsNext : ℕ → Option ℕ → Type 0
IsNext next (Some name) = name ≡ next
IsNext next None = Unit {0}

-- an item or test that is ready and has room comes into the front, where these names are known before the window
pub record Jump (known : ℕ → Bool) (w v : Window) : Type 0 where
  pub new : Option ℕ
  pub comes : Option Item
  pub enters : EntersFront known w.forms v.forms new comes w.front v.front
  pub next : IsNext w.next new
  pub names : supply_of v ≡ given_supply (supply_of w) new comes
  pub twins : TwinsAlike enters
  pub room : HasSpace w.limits comes w.front
  pub limits : v.limits ≡ w.limits
  pub inside : v.inside ≡ w.inside

-- it is the first of all
abbrev pub IsFirstJump : (known : ℕ → Bool) (w v : Window) → Jump known w v → Type 0
IsFirstJump known w v jump = (u : Window) (other : Jump known w u) → InOrder (priority_of jump.enters) (priority_of other.enters)

-- filling leads from one window to another: the first jump again and again, until there is none
pub data Filled (known : ℕ → Bool) : Window → Window → Type 0 where
  Full : (w : Window) → ((v : Window) → Jump known w v → ⊥) → Filled known w w
  Goes_on : (w v u : Window) → (jump : Jump known w v) → IsFirstJump known w v jump → Filled known v u → Filled known w u

-- ---- sizes

-- below each leaf stand at most so many items and tests
abbrev pub MostBehind : ℕ → Front → Type 0
MostBehind n (Issued tag origin item rest) = MostBehind n rest
MostBehind n (Split tag origin on on_yes on_no) = MostBehind n on_yes × MostBehind n on_no
MostBehind n (Unfinished rest) = tree_size rest ≤ n

-- the items and tests of the front together
abbrev pub front_size : Front → ℕ
front_size front = item_count front + test_count front
