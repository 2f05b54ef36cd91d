-- Names for homes: a Copy to a new name is put into a window, and below a Copy its name and its operand are exchanged.
use Rattle.std.specs.Prelude.{◌≡◌, ℕ, ◌≤◌, true, Some, None, List, [], ◌∷◌}
use Rattle.pc_word.specs.declared.item.Item.{Item}
use Rattle.pc_word.specs.declared.item.Item.TheVariants.{Bin, Copy, Load, Store, Print, Read, More}
use Rattle.pc_word.specs.declared.item.OpCode.{OpCode}
use Rattle.pc_word.specs.declared.item.Operand.{Operand}
use Rattle.pc_word.specs.declared.item.Operand.TheVariants.{Name, Lit}
use Rattle.pc_word.specs.declared.item.TrapKind.{TrapKind}
use Rattle.pc_window.specs.declared.home.Home.{Home}
use Rattle.pc_window.specs.Tree.{Tree, Pending, Undecided, Exit, Stop_exit, Trap_exit, whole}
use Rattle.pc_window.specs.Names.{uses}
use Rattle.pc_window.specs.Opening.{with_name}
use Rattle.pc_window.specs.Unwinding.{least_tag}
use Rattle.pc_window.specs.WindowRun.{Window, supply_of}
use Rattle.pc_window.specs.Steps.{window_of}
use Rattle.pc_certified.specs.Somewhere.{Somewhere}

-- ---- a Copy is added

-- a literal, or a name that a tree uses
abbrev pub IsUsedIn : Operand → Tree → Type 0
IsUsedIn (Name x) tree = uses tree x ≡ true
IsUsedIn (Lit value) tree = Unit {0}

-- a tree has a least tag, and it is at most this
abbrev pub HasTagUpTo : ℕ → Tree → Type 0
HasTagUpTo tag tree = (least : ℕ) × (least_tag tree ≡ Some least) × (least ≤ tag)

-- a Copy of an operand to this name is put above a tree, which uses the operand; the Copy's tag is not below the tree's least tag
pub data CopyAddedHere (name : ℕ) : Tree → Tree → Type 0 where
  added : (tag origin : ℕ) (from : Operand) (rest : Tree) → IsUsedIn from rest → HasTagUpTo tag rest → CopyAddedHere name rest (Pending tag origin (Copy name from) rest)

-- a Copy to a new name, which has a new form variable as its form
pub record AddsCopy (w v : Window) : Type 0 where
  pub tree : Tree
  pub adds : Somewhere (CopyAddedHere w.next) (whole w.front) tree
  pub is : v ≡ window_of tree (with_name (supply_of w) None) w.limits w.inside

-- ---- a Copy is used

-- the same operand, or what a Copy copies and the name that it copies it to, in either order
pub data SameOrCopied (name : ℕ) (from : Operand) : Operand → Operand → Type 0 where
  same : (operand : Operand) → SameOrCopied name from operand operand
  to_name : SameOrCopied name from from (Name name)
  from_name : SameOrCopied name from (Name name) from

-- items that differ in such operands
pub data ItemsExchanged (name : ℕ) (from : Operand) : Item → Item → Type 0 where
  in_bin : (op : OpCode) (dest : ℕ) {left left' right right' : Operand} → SameOrCopied name from left left' → SameOrCopied name from right right'
      → ItemsExchanged name from (Bin op dest left right) (Bin op dest left' right')
  in_copy : (dest : ℕ) {of of' : Operand} → SameOrCopied name from of of' → ItemsExchanged name from (Copy dest of) (Copy dest of')
  in_load : (dest array : ℕ) {index index' : Operand} → SameOrCopied name from index index' → ItemsExchanged name from (Load dest array index) (Load dest array index')
  in_store : (array : ℕ) {index index' value value' : Operand} → SameOrCopied name from index index' → SameOrCopied name from value value'
      → ItemsExchanged name from (Store array index value) (Store array index' value')
  in_print : {value value' : Operand} → SameOrCopied name from value value' → ItemsExchanged name from (Print value) (Print value')
  in_read : (dest : ℕ) → ItemsExchanged name from (Read dest) (Read dest)
  in_more : (dest : ℕ) → ItemsExchanged name from (More dest) (More dest)

-- homes that do
pub data HomesExchanged (name : ℕ) (from : Operand) : List Home → List Home → Type 0 where
  no_home : HomesExchanged name from [] []
  one_home : (variable : ℕ) {value value' : Operand} {homes homes' : List Home} → SameOrCopied name from value value' → HomesExchanged name from homes homes'
      → HomesExchanged name from (record { variable = variable; value = value } ∷ homes) (record { variable = variable; value = value' } ∷ homes')

-- trees that do
pub data TreesExchanged (name : ℕ) (from : Operand) : Tree → Tree → Type 0 where
  in_item : (tag origin : ℕ) {item item' : Item} {rest rest' : Tree} → ItemsExchanged name from item item' → TreesExchanged name from rest rest'
      → TreesExchanged name from (Pending tag origin item rest) (Pending tag origin item' rest')
  in_test : (tag origin : ℕ) {on on' : Operand} {on_yes on_yes' on_no on_no' : Tree} → SameOrCopied name from on on'
      → TreesExchanged name from on_yes on_yes' → TreesExchanged name from on_no on_no'
      → TreesExchanged name from (Undecided tag origin on on_yes on_no) (Undecided tag origin on' on_yes' on_no')
  in_stub : (region tag : ℕ) {homes homes' : List Home} → HomesExchanged name from homes homes' → TreesExchanged name from (Exit region tag homes) (Exit region tag homes')
  in_stop : TreesExchanged name from Stop_exit Stop_exit
  in_trap : (kind : TrapKind) (line : ℕ) → TreesExchanged name from (Trap_exit kind line) (Trap_exit kind line)

-- below a Copy
pub data ExchangedHere : Tree → Tree → Type 0 where
  below_copy : (tag origin name : ℕ) (from : Operand) {rest rest' : Tree} → TreesExchanged name from rest rest'
      → ExchangedHere (Pending tag origin (Copy name from) rest) (Pending tag origin (Copy name from) rest')

-- below a Copy somewhere in a window its operand and its name take each other's place
pub record UsesCopy (w v : Window) : Type 0 where
  pub tree : Tree
  pub changes : Somewhere ExchangedHere (whole w.front) tree
  pub is : v ≡ window_of tree (supply_of w) w.limits w.inside
