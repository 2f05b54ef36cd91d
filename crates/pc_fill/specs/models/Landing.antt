-- What comes into the front, and the front with it.
use Rattle.std.specs.Prelude.{◌≡◌, ℕ, ◌-◌, ◌<◌, ◌≤◌, Bool, true, false, ◌||◌, if◌then◌else◌, nat_eq, nat_lt, Option, Some, None, is_some, slice_get}
use Rattle.pc_word.specs.declared.item.Item.{Item}
use Rattle.pc_word.specs.declared.item.Operand.{Operand}
use Rattle.pc_word.specs.Items.{dest_of, operands_of}
use Rattle.pc_linear.specs.Form.{Form}
use Rattle.pc_window.specs.Hold.{Side}
use Rattle.pc_window.specs.Tree.{Tree, Pending, Undecided, Exit, Stop_exit, Trap_exit, Front, Issued, Split, Unfinished, whole, tree_size}
use Rattle.pc_window.specs.Opening.{Supply}
use Rattle.pc_window.specs.WindowRun.{Window, supply_of}
use Rattle.pc_window.specs.Filled.{given_supply}
use Rattle.pc_fill.specs.declared.landing.Coming.{Coming}
use Rattle.pc_fill.specs.declared.first.ReadyNode.{ReadyNode}
use Rattle.pc_fill.specs.models.Places.{nodes_of, MayRise}
use Rattle.pc_fill.specs.models.Taking.{taken_out, divided_on, divided_yes, divided_no}
use Rattle.pc_word.specs.Naming.{with_dest}

-- ---- where it lands

-- whether nothing of either side is finished
abbrev pub both_unfinished : Front → Front → Bool
both_unfinished (Issued tag origin item rest) q = false
both_unfinished (Split tag origin on on_yes on_no) q = false
both_unfinished (Unfinished p) (Issued tag origin item rest) = false
both_unfinished (Unfinished p) (Split tag origin on on_yes on_no) = false
both_unfinished (Unfinished p) (Unfinished q) = true

-- an item goes to the end of the path above the leaf; a test replaces the leaf
abbrev pub behind_leaf : Coming → Option Item → Tree → ℕ → Front
behind_leaf c (Some item) from place = Issued c.tag c.origin item (Unfinished (taken_out (dest_of item) from place))
behind_leaf c None from place = Split c.tag c.origin (divided_on from) (Unfinished (divided_yes from)) (Unfinished (divided_no from))

-- an item and its twin become one above the test
abbrev pub above_test : Coming → Option Item → (tag origin : ℕ) → Operand → (on_yes on_no : Tree) → (place twin : ℕ) → Front
above_test c (Some item) tag origin on on_yes on_no place twin =
    Issued c.tag c.origin item (Split tag origin on (Unfinished (taken_out (dest_of item) on_yes place)) (Unfinished (taken_out (dest_of item) on_no twin)))
above_test c None tag origin on on_yes on_no place twin = Split tag origin on (Unfinished on_yes) (Unfinished on_no)

-- an item with a twin is one with it where both stand right behind a test of the front
abbrev pub joins : Option ℕ → Front → Front → Bool
joins (Some twin) on_yes on_no = both_unfinished on_yes on_no
joins None on_yes on_no = false

-- a place, 0 where there is none
abbrev pub place_or_root : Option ℕ → ℕ
place_or_root (Some place) = place
place_or_root None = 0

-- the front once what stood at a place has come
abbrev pub landed : Coming → Front → ℕ → Front
landed c (Issued tag origin item rest) place = if nat_eq place 0 then Issued tag origin item rest else Issued tag origin item (landed c rest (place - 1))
landed c (Split tag origin on on_yes on_no) place =
    if nat_eq place 0 then Split tag origin on on_yes on_no
    else if nat_lt (place - 1) (tree_size (whole on_yes)) then
    (if joins c.twin on_yes on_no then above_test c c.item tag origin on (whole on_yes) (whole on_no) (place - 1) (place_or_root c.twin)
    else Split tag origin on (landed c on_yes (place - 1)) on_no)
    else Split tag origin on on_yes (landed c on_no (place - 1 - tree_size (whole on_yes)))
landed c (Unfinished from) place = behind_leaf c c.item from place

-- ---- how it comes

-- whether an unfinished test stands above a place
abbrev pub crossed : Tree → ℕ → Bool
crossed (Pending tag origin item rest) place = if nat_eq place 0 then false else crossed rest (place - 1)
crossed (Undecided tag origin on on_yes on_no) place = if nat_eq place 0 then false else true
crossed (Exit region tag homes) place = false
crossed Stop_exit place = false
crossed (Trap_exit kind line) place = false

-- the same of a place behind the front
abbrev pub crosses : Front → ℕ → Bool
crosses (Issued tag origin item rest) place = if nat_eq place 0 then false else crosses rest (place - 1)
crosses (Split tag origin on on_yes on_no) place =
    if nat_eq place 0 then false
    else if nat_lt (place - 1) (tree_size (whole on_yes)) then crosses on_yes (place - 1)
    else crosses on_no (place - 1 - tree_size (whole on_yes))
crosses (Unfinished rest) place = crossed rest place

-- what comes: the item, with the next name where it gets one
abbrev pub came : ℕ → Bool → Option Item → Option Item
came next renames (Some item) = Some (if renames then with_dest next item else item)
came next renames None = None

-- the name that it gets, if any
abbrev pub new_name : ℕ → Bool → Option Item → Option ℕ
new_name next true (Some item) = dest_of (with_dest next item)
new_name next true None = None
new_name next false what = None

-- ---- twins

-- an item with its tag and origin, at a place of a tree, is a twin of an item with this tag and origin
pub record TwinsAt (forms : ℕ → Form) (next tag origin : ℕ) (item : Item) (tag' origin' : ℕ) (other : Item) (tree : Tree) (place : ℕ) : Type 0 where
  pub tags : tag' ≡ tag
  pub origins : origin' ≡ origin
  pub alike : with_dest next other ≡ with_dest next item
  pub way : MayRise forms (Some other) tree place

-- an item of this tag and origin, equal but for its name, stands at a place of a tree and may rise from it
pub record TwinHere (forms : ℕ → Form) (next tag origin : ℕ) (item : Item) (tree : Tree) (place : ℕ) : Type 0 where
  pub other : Item
  pub at : slice_get (nodes_of tree) place ≡ Some (record { tag = tag; origin = origin; what = Some other; operands = operands_of other })
  pub alike : with_dest next other ≡ with_dest next item
  pub way : MayRise forms (Some other) tree place

-- the same on the other side of the front's test right above a place
abbrev pub TwinIn : (ℕ → Form) → (next tag origin : ℕ) → Item → Front → ℕ → ℕ → Type 0
TwinIn forms next tag origin item (Issued t o above rest) place twin = Side (nat_eq place 0) ⊥ (TwinIn forms next tag origin item rest (place - 1) twin)
TwinIn forms next tag origin item (Split t o on on_yes on_no) place twin =
    Side (nat_eq place 0) ⊥ (Side (nat_lt (place - 1) (tree_size (whole on_yes)))
    (Side (both_unfinished on_yes on_no) (TwinHere forms next tag origin item (whole on_no) twin) (TwinIn forms next tag origin item on_yes (place - 1) twin))
    (TwinIn forms next tag origin item on_no (place - 1 - tree_size (whole on_yes)) twin))
TwinIn forms next tag origin item (Unfinished rest) place twin = ⊥

-- the same of an item or test; a test has none
abbrev pub TwinFor : (ℕ → Form) → (next tag origin : ℕ) → Option Item → Front → ℕ → ℕ → Type 0
TwinFor forms next tag origin (Some item) from place k = TwinIn forms next tag origin item from place k
TwinFor forms next tag origin None from place k = ⊥

-- what comes alone, or with a twin that it has at this place
abbrev pub ComesWith : (ℕ → Form) → (next tag origin : ℕ) → Option Item → Front → ℕ → Option ℕ → Type 0
ComesWith forms next tag origin what from place None = Unit {0}
ComesWith forms next tag origin what from place (Some k) = TwinFor forms next tag origin what from place k

-- from a place of a tree to another this is the first twin, or there is none
abbrev pub IsFirstFrom : (ℕ → Form) → (next tag origin : ℕ) → Item → Tree → (from to : ℕ) → Option ℕ → Type 0
IsFirstFrom forms next tag origin item all from to None = (k : ℕ) → from ≤ k → k < to → TwinHere forms next tag origin item all k → ⊥
IsFirstFrom forms next tag origin item all from to (Some twin) =
    TwinHere forms next tag origin item all twin × (twin < to) × ((k : ℕ) → from ≤ k → k < to → TwinHere forms next tag origin item all k → twin ≤ k)

pub record FirstFrom (forms : ℕ → Form) (next tag origin : ℕ) (item : Item) (all : Tree) (from to : ℕ) (found : Option ℕ) : Type 0 where
  pub is : IsFirstFrom forms next tag origin item all from to found

-- this is the first twin of an item at a place of a front, or there is none
abbrev pub IsFirstIn : (ℕ → Form) → (next tag origin : ℕ) → Item → Front → ℕ → Option ℕ → Type 0
IsFirstIn forms next tag origin item front place None = (k : ℕ) → TwinIn forms next tag origin item front place k → ⊥
IsFirstIn forms next tag origin item front place (Some twin) = TwinIn forms next tag origin item front place twin × ((k : ℕ) → TwinIn forms next tag origin item front place k → twin ≤ k)

pub record FirstIn (forms : ℕ → Form) (next tag origin : ℕ) (item : Item) (front : Front) (place : ℕ) (found : Option ℕ) : Type 0 where
  pub is : IsFirstIn forms next tag origin item front place found

-- the first twin of an item or test; a test has none
abbrev pub FirstTwinOf : (ℕ → Form) → (next tag origin : ℕ) → Option Item → Front → ℕ → Option ℕ → Type 0
FirstTwinOf forms next tag origin (Some item) front place found = FirstIn forms next tag origin item front place found
FirstTwinOf forms next tag origin None front place found = found ≡ None

-- ---- the window once it has come

-- whether what comes gets a new name
abbrev pub renames : Window → ReadyNode → Option ℕ → Bool
renames w r twin = is_some twin || crosses w.front r.place

-- what comes
abbrev pub coming_of : Window → ReadyNode → Option ℕ → Coming
coming_of w r twin = record { tag = r.tag; origin = r.origin; item = came w.next (renames w r twin) r.item; twin = twin }

-- the names
abbrev pub supply_after : Window → ReadyNode → Option ℕ → Supply
supply_after w r twin = given_supply (supply_of w) (new_name w.next (renames w r twin) r.item) (came w.next (renames w r twin) r.item)

-- the window
abbrev pub landed_window : Window → ReadyNode → Option ℕ → Window
landed_window w r twin = record {
  front = landed (coming_of w r twin) w.front r.place;
  forms = (supply_after w r twin).forms;
  next = (supply_after w r twin).next;
  next_variable = (supply_after w r twin).next_variable;
  limits = w.limits;
  inside = w.inside;
}

-- what is ready has come, with its first twin where it has one
pub record HasCome (w : Window) (r : ReadyNode) (v : Window) : Type 0 where
  pub twin : Option ℕ
  pub first : FirstTwinOf w.forms w.next r.tag r.origin r.item w.front r.place twin
  pub is : v ≡ landed_window w r twin
