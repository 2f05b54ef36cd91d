-- Where a stub is entered, each of its homes gets a name of its own before, by a Copy that is put as far up as the home's operand is known.
use Rattle.std.specs.Prelude.{ℕ, zero, suc, ◌-◌, Bool, false, if◌then◌else◌, nat_eq, nat_lt, nat_le, true, List, [], ◌∷◌, Option, Some, None, length, slice_get}
use Rattle.pc_word.specs.declared.item.Item.{Item}
use Rattle.pc_word.specs.declared.item.Item.TheVariants.{Copy}
use Rattle.pc_word.specs.declared.item.Operand.{Operand}
use Rattle.pc_word.specs.declared.item.Operand.TheVariants.{Name, Lit}
use Rattle.pc_word.specs.Items.{dest_of}
use Rattle.pc_word.specs.Commit.{writes}
use Rattle.pc_table.specs.Table.{Table}
use Rattle.pc_window.specs.declared.home.Home.{Home}
use Rattle.pc_window.specs.Tree.{Tree, Pending, Undecided, Exit, Stop_exit, Trap_exit}
use Rattle.pc_window.specs.Opening.{Grafted, first_new, with_name}
use Rattle.pc_arranging.specs.declared.naming.FoundHome.{FoundHome}
use Rattle.pc_arranging.specs.Numbering.{leaf_count}
use Rattle.pc_arranging.specs.Stubs.{opened_at}
use Rattle.pc_arranging.specs.Exchanging.{below_item, on_yes_side, on_no_side}

-- ---- homes by number

-- the tag of a stub, and the operand of one of its homes: a home of a stub with this tag, where it is there
abbrev pub found_home : ℕ → Option Home → Option FoundHome
found_home tag None = None
found_home tag (Some home) = Some (record { tag = tag; operand = home.value })

-- of the stub with this number among the leaves, the home with this number
abbrev pub home_at : Tree → (leaf home : ℕ) → Option FoundHome
home_at (Pending tag origin item rest) leaf home = home_at rest leaf home
home_at (Undecided tag origin on p q) leaf home = if nat_lt leaf (leaf_count p) then home_at p leaf home else home_at q (leaf - leaf_count p) home
home_at (Exit region tag homes) leaf home = if nat_eq leaf 0 then found_home tag (slice_get homes home) else None
home_at Stop_exit leaf home = None
home_at (Trap_exit kind line) leaf home = None

-- homes, of which the one with a number has this value
abbrev pub with_value : Operand → List Home → (home : ℕ) → List Home
with_value value [] home = []
with_value value (h ∷ homes) home = if nat_eq home 0 then record { variable = h.variable; value = value } ∷ homes else h ∷ with_value value homes (home - 1)

-- the tree where that home has this value
abbrev pub with_home : Operand → Tree → (leaf home : ℕ) → Tree
with_home value (Pending tag origin item rest) leaf home = Pending tag origin item (with_home value rest leaf home)
with_home value (Undecided tag origin on p q) leaf home =
    if nat_lt leaf (leaf_count p) then Undecided tag origin on (with_home value p leaf home) q else Undecided tag origin on p (with_home value q (leaf - leaf_count p) home)
with_home value (Exit region tag homes) leaf home = Exit region tag (with_value value homes home)
with_home value Stop_exit leaf home = Stop_exit
with_home value (Trap_exit kind line) leaf home = Trap_exit kind line

-- ---- Copies

-- whether this name, if any, is the operand
abbrev pub writes_operand : Option ℕ → Operand → Bool
writes_operand dest (Name x) = writes dest x
writes_operand dest (Lit value) = false

-- a Copy below an item: further down, where it has a place there, or right below it, if the item writes what is copied
abbrev pub copied_at_item : ℕ → ℕ → Item → Tree → (copy_tag name : ℕ) → Operand → Option Tree → Option Tree
copied_at_item tag origin item rest copy_tag name from (Some below) = Some (Pending tag origin item below)
copied_at_item tag origin item rest copy_tag name from None =
    if writes_operand (dest_of item) from then Some (Pending tag origin item (Pending copy_tag 0 (Copy name from) rest)) else None

-- a Copy with this tag is put right below the last item above a leaf that writes its operand; nothing, where there is none
abbrev pub copied_below : (copy_tag name : ℕ) → Operand → Tree → (leaf : ℕ) → Option Tree
copied_below copy_tag name from (Pending tag origin item rest) leaf = copied_at_item tag origin item rest copy_tag name from (copied_below copy_tag name from rest leaf)
copied_below copy_tag name from (Undecided tag origin on p q) leaf =
    if nat_lt leaf (leaf_count p) then on_yes_side tag origin on (copied_below copy_tag name from p leaf) q
    else on_no_side tag origin on p (copied_below copy_tag name from q (leaf - leaf_count p))
copied_below copy_tag name from (Exit region tag homes) leaf = None
copied_below copy_tag name from Stop_exit leaf = None
copied_below copy_tag name from (Trap_exit kind line) leaf = None

-- there, or else at the root
abbrev pub or_at_root : (copy_tag name : ℕ) → Operand → Tree → Option Tree → Tree
or_at_root copy_tag name from tree (Some made) = made
or_at_root copy_tag name from tree None = Pending copy_tag 0 (Copy name from) tree

-- ---- one home, and all

-- a home that was found gets the next name: by a Copy with the stub's tag, and the name has a new form variable as its form
abbrev pub named_home : Grafted → (leaf home : ℕ) → Option FoundHome → Option Grafted
named_home g leaf home None = None
named_home g leaf home (Some found) = Some (record {
  tree = with_home (Name g.names.next) (or_at_root found.tag g.names.next found.operand g.tree (copied_below found.tag g.names.next found.operand g.tree leaf)) leaf home;
  names = with_name g.names None;
})

-- the next, where there is one
abbrev pub then_next : Option Grafted → (Grafted → Option Grafted) → Option Grafted
then_next None more = None
then_next (Some g) more = more g

-- so many homes of a stub, one after the other
abbrev pub named_homes : (count : ℕ) → Grafted → (leaf home : ℕ) → Option Grafted
named_homes zero g leaf home = Some g
named_homes (suc n) g leaf home = then_next (named_home g leaf home (home_at g.tree leaf home)) (λ h. named_homes n h leaf (suc home))

-- how many homes the stub with a number has
abbrev pub home_count : Tree → (leaf : ℕ) → ℕ
home_count (Pending tag origin item rest) leaf = home_count rest leaf
home_count (Undecided tag origin on p q) leaf = if nat_lt leaf (leaf_count p) then home_count p leaf else home_count q (leaf - leaf_count p)
home_count (Exit region tag homes) leaf = length homes
home_count Stop_exit leaf = 0
home_count (Trap_exit kind line) leaf = 0

-- a stub is entered: all its homes are named, of which there are no more than variables, and then it becomes its region's tree, with tags
-- as for the innermost loop whose header the region is, if any
abbrev pub entered_at : Table → Option ℕ → Grafted → (leaf : ℕ) → Option Grafted
entered_at table inside g leaf =
    if nat_le (home_count g.tree leaf) first_new
    then then_next (named_homes (home_count g.tree leaf) g leaf 0) (λ h. opened_at table true inside h.names h.tree leaf)
    else None
