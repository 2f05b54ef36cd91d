-- The names that are used below a place, as marks by name.
use Rattle.std.specs.Prelude.{◌≡◌, ◌||◌, ◌&&◌, not, ◌+◌, ℕ, suc, Bool, true, false, List, slice_index_or, length}
use Rattle.pc_word.specs.declared.item.Item.{Item}
use Rattle.pc_word.specs.declared.item.Item.TheVariants.{Bin, Copy, Load, Store, Print, Read, More}
use Rattle.pc_word.specs.Items.{dest_of, reads}
use Rattle.pc_word.specs.Commit.{writes}
use Rattle.pc_window.specs.declared.tree.WindowTree.{WindowTree}
use Rattle.pc_window.specs.declared.tree.WindowTree.TheVariants as stored
use Rattle.pc_window.specs.Tree.{Tree, Pending, Undecided, Exit, Stop_exit, Trap_exit}
use Rattle.pc_window.specs.Names.{uses, IsNew}

-- whether a name is marked
abbrev pub is_marked : List Bool → ℕ → Bool
is_marked marks name = slice_index_or marks name false

-- these names are marked beside those that were
pub record Marks (old new : List Bool) (more : ℕ → Bool) : Type 0 where
  pub as_many : length new ≡ length old
  pub marked : (name : ℕ) → is_marked new name ≡ (is_marked old name || more name)

-- the marks above an item, from those below it
pub record PassesItem (old new : List Bool) (item : Item) : Type 0 where
  pub as_many : length new ≡ length old
  pub marked : (name : ℕ) → is_marked new name ≡ (reads item name || (not (writes (dest_of item) name) && is_marked old name))

-- whether an item may not go where these names are used below it
abbrev pub is_needed : (ℕ → Bool) → Item → Bool
is_needed used (Bin op dest left right) = used dest
is_needed used (Copy dest from) = true
is_needed used (Load dest array index) = used dest
is_needed used (Store array index value) = true
is_needed used (Print value) = true
is_needed used (Read dest) = true
is_needed used (More dest) = used dest

-- no name that a tree writes is among these
abbrev pub WritesNone : (ℕ → Bool) → Tree → Type 0
WritesNone these (Pending tag origin item rest) = IsNew these (dest_of item) × WritesNone these rest
WritesNone these (Undecided tag origin on on_yes on_no) = WritesNone these on_yes × WritesNone these on_no
WritesNone these (Exit region tag homes) = Unit {0}
WritesNone these Stop_exit = Unit {0}
WritesNone these (Trap_exit kind line) = Unit {0}

-- what is used on the yes side of a test is not written on its no side
abbrev pub SidesApart : Tree → Type 0
SidesApart (Pending tag origin item rest) = SidesApart rest
SidesApart (Undecided tag origin on on_yes on_no) = WritesNone (uses on_yes) on_no × SidesApart on_yes × SidesApart on_no
SidesApart (Exit region tag homes) = Unit {0}
SidesApart Stop_exit = Unit {0}
SidesApart (Trap_exit kind line) = Unit {0}

-- the items, tests and nodes of a tree in memory
abbrev pub stored_size : WindowTree → ℕ
stored_size (stored.Step' tag origin item p rest) = suc (stored_size rest)
stored_size (stored.Test' tag origin on p on_yes q on_no) = suc (stored_size on_yes + stored_size on_no)
stored_size (stored.Node' p below) = suc (stored_size below)
stored_size (stored.Exit region tag homes) = 0
stored_size stored.Stop = 0
stored_size (stored.Trap kind line) = 0
