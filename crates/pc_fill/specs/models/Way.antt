-- Ways: what leads to an item or test of a tree, without its place. At each test above it a side is taken, yes where it is true;
-- its depth is how many items stand above it behind the front.
use Rattle.std.specs.Prelude.{ℕ, suc, ◌+◌, ◌-◌, Bool, true, false, List, [], ◌∷◌, Option, Some, None, if◌then◌else◌, nat_eq, nat_lt}
use Rattle.pc_word.specs.declared.item.Item.{Item}
use Rattle.pc_word.specs.declared.item.Operand.{Operand}
use Rattle.pc_word.specs.Items.{dest_of}
use Rattle.pc_window.specs.Rename.{mapped}
use Rattle.pc_window.specs.Tree.{Tree, Pending, Undecided, Exit, Stop_exit, Trap_exit, Front, Issued, Split, Unfinished, whole, tree_size}
use Rattle.pc_fill.specs.declared.landing.Coming.{Coming}
use Rattle.pc_fill.specs.models.Taking.{taken_out, divided_on, divided_yes, divided_no}
use Rattle.pc_fill.specs.models.Landing.{joins, place_or_root}
use Rattle.pc_word.specs.Naming.{renamed}

-- ---- where ways lead

-- from the root of a tree, these sides and this depth lead to the item or test at this place
pub data Leads : Tree → List Bool → ℕ → ℕ → Type 0 where
  To_item : (tag origin : ℕ) (item : Item) (rest : Tree) → Leads (Pending tag origin item rest) [] 0 0
  To_test : (tag origin : ℕ) (on : Operand) (p q : Tree) → Leads (Undecided tag origin on p q) [] 0 0
  Below_item : (tag origin : ℕ) (item : Item) (rest : Tree) (sides : List Bool) (depth place : ℕ) → Leads rest sides depth place
      → Leads (Pending tag origin item rest) sides (suc depth) (suc place)
  On_yes_side : (tag origin : ℕ) (on : Operand) (p q : Tree) (sides : List Bool) (depth place : ℕ) → Leads p sides depth place
      → Leads (Undecided tag origin on p q) (true ∷ sides) depth (suc place)
  On_no_side : (tag origin : ℕ) (on : Operand) (p q : Tree) (sides : List Bool) (depth place : ℕ) → Leads q sides depth place
      → Leads (Undecided tag origin on p q) (false ∷ sides) depth (suc (tree_size p + place))

-- the same from the root of a front to what stands behind it
pub data Reaches : Front → List Bool → ℕ → ℕ → Type 0 where
  Behind_leaf : (rest : Tree) (sides : List Bool) (depth place : ℕ) → Leads rest sides depth place → Reaches (Unfinished rest) sides depth place
  Behind_item : (tag origin : ℕ) (item : Item) (rest : Front) (sides : List Bool) (depth place : ℕ) → Reaches rest sides depth place
      → Reaches (Issued tag origin item rest) sides depth (suc place)
  Behind_yes : (tag origin : ℕ) (on : Operand) (p q : Front) (sides : List Bool) (depth place : ℕ) → Reaches p sides depth place
      → Reaches (Split tag origin on p q) (true ∷ sides) depth (suc place)
  Behind_no : (tag origin : ℕ) (on : Operand) (p q : Front) (sides : List Bool) (depth place : ℕ) → Reaches q sides depth place
      → Reaches (Split tag origin on p q) (false ∷ sides) depth (suc (tree_size (whole p) + place))

-- ---- what comes along a way

-- the item where a way leads is gone; below it, its name is this one
abbrev pub taken_along : Option ℕ → Tree → List Bool → ℕ → Tree
taken_along name (Pending tag origin item rest) sides depth =
    if nat_eq depth 0 then mapped (renamed (dest_of item) name) rest else Pending tag origin item (taken_along name rest sides (depth - 1))
taken_along name (Undecided tag origin on p q) [] depth = Undecided tag origin on p q
taken_along name (Undecided tag origin on p q) (side ∷ sides) depth =
    if side then Undecided tag origin on (taken_along name p sides depth) q else Undecided tag origin on p (taken_along name q sides depth)
taken_along name (Exit region tag homes) sides depth = Exit region tag homes
taken_along name Stop_exit sides depth = Stop_exit
taken_along name (Trap_exit kind line) sides depth = Trap_exit kind line

-- whether sides are taken behind the front
abbrev pub some_sides : List Bool → Bool
some_sides [] = false
some_sides (side ∷ sides) = true

-- whether an unfinished test stands above where a way leads
abbrev pub crosses_along : Front → List Bool → Bool
crosses_along (Issued tag origin item rest) sides = crosses_along rest sides
crosses_along (Split tag origin on p q) [] = false
crosses_along (Split tag origin on p q) (side ∷ sides) = if side then crosses_along p sides else crosses_along q sides
crosses_along (Unfinished rest) sides = some_sides sides

-- whether what comes along a way is one with its twin right at this test
abbrev pub joins_along : Option ℕ → Front → List Bool → Bool
joins_along twin (Issued tag origin item rest) sides = false
joins_along twin (Split tag origin on p q) [] = false
joins_along twin (Split tag origin on p q) (side ∷ sides) = if side then joins twin p q else false
joins_along twin (Unfinished rest) sides = false

-- an item goes to the end of the path above the leaf; a test replaces the leaf
abbrev pub leaf_along : Coming → Option Item → Tree → List Bool → ℕ → Front
leaf_along c (Some item) from sides depth = Issued c.tag c.origin item (Unfinished (taken_along (dest_of item) from sides depth))
leaf_along c None from sides depth = Split c.tag c.origin (divided_on from) (Unfinished (divided_yes from)) (Unfinished (divided_no from))

-- an item and its twin become one above the test
abbrev pub above_along : Coming → Option Item → (tag origin : ℕ) → Operand → (p q : Tree) → List Bool → (depth twin : ℕ) → Front
above_along c (Some item) tag origin on p q sides depth twin =
    Issued c.tag c.origin item (Split tag origin on (Unfinished (taken_along (dest_of item) p sides depth)) (Unfinished (taken_out (dest_of item) q twin)))
above_along c None tag origin on p q sides depth twin = Split tag origin on (Unfinished p) (Unfinished q)

-- the front once what stood where a way leads has come
abbrev pub landed_along : Coming → Front → List Bool → ℕ → Front
landed_along c (Issued tag origin item rest) sides depth = Issued tag origin item (landed_along c rest sides depth)
landed_along c (Split tag origin on p q) [] depth = Split tag origin on p q
landed_along c (Split tag origin on p q) (side ∷ sides) depth =
    if side then
    (if joins c.twin p q then above_along c c.item tag origin on (whole p) (whole q) sides depth (place_or_root c.twin)
    else Split tag origin on (landed_along c p sides depth) q)
    else Split tag origin on p (landed_along c q sides depth)
landed_along c (Unfinished from) sides depth = leaf_along c c.item from sides depth

-- ---- the way to a place

-- the sides that lead to a place of a tree
abbrev pub sides_to : Tree → ℕ → List Bool
sides_to (Pending tag origin item rest) place = if nat_eq place 0 then [] else sides_to rest (place - 1)
sides_to (Undecided tag origin on p q) place =
    if nat_eq place 0 then []
    else if nat_lt (place - 1) (tree_size p) then true ∷ sides_to p (place - 1)
    else false ∷ sides_to q (place - 1 - tree_size p)
sides_to (Exit region tag homes) place = []
sides_to Stop_exit place = []
sides_to (Trap_exit kind line) place = []

-- how many items stand above it
abbrev pub depth_in : Tree → ℕ → ℕ
depth_in (Pending tag origin item rest) place = if nat_eq place 0 then 0 else suc (depth_in rest (place - 1))
depth_in (Undecided tag origin on p q) place =
    if nat_eq place 0 then 0
    else if nat_lt (place - 1) (tree_size p) then depth_in p (place - 1)
    else depth_in q (place - 1 - tree_size p)
depth_in (Exit region tag homes) place = 0
depth_in Stop_exit place = 0
depth_in (Trap_exit kind line) place = 0

-- how many of these stand behind the front
abbrev pub depth_behind : Front → ℕ → ℕ
depth_behind (Issued tag origin item rest) place = if nat_eq place 0 then 0 else depth_behind rest (place - 1)
depth_behind (Split tag origin on p q) place =
    if nat_eq place 0 then 0
    else if nat_lt (place - 1) (tree_size (whole p)) then depth_behind p (place - 1)
    else depth_behind q (place - 1 - tree_size (whole p))
depth_behind (Unfinished rest) place = depth_in rest place
