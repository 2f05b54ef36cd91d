-- Tidying: items whose names are used nowhere below are deleted.
use Rattle.std.specs.Prelude.{◌≡◌, ℕ, true, if◌then◌else◌}
use Rattle.pc_word.specs.declared.item.Item.{Item}
use Rattle.pc_word.specs.declared.item.Item.TheVariants.{Bin, Copy, Load, Store, Print, Read, More}
use Rattle.pc_window.specs.Tree.{Tree, Pending, Undecided, Exit, Stop_exit, Trap_exit}
use Rattle.pc_window.specs.Names.{uses}

-- an item above a tree, or the tree alone where the item may go and its name is not used there
abbrev pub kept_if_used : ℕ → ℕ → ℕ → Item → Tree → Tree
kept_if_used dest tag origin item rest = if uses rest dest then Pending tag origin item rest else rest

-- the same for an item of any kind
abbrev pub above : ℕ → ℕ → Item → Tree → Tree
above tag origin (Bin op dest left right) rest = kept_if_used dest tag origin (Bin op dest left right) rest
above tag origin (Copy dest from) rest = Pending tag origin (Copy dest from) rest
above tag origin (Load dest array index) rest = kept_if_used dest tag origin (Load dest array index) rest
above tag origin (Store array index value) rest = Pending tag origin (Store array index value) rest
above tag origin (Print value) rest = Pending tag origin (Print value) rest
above tag origin (Read dest) rest = Pending tag origin (Read dest) rest
above tag origin (More dest) rest = kept_if_used dest tag origin (More dest) rest

-- a tree without the Bins, Loads and Mores whose names are used nowhere below
abbrev pub tidied : Tree → Tree
tidied (Pending tag origin item rest) = above tag origin item (tidied rest)
tidied (Undecided tag origin on on_yes on_no) = Undecided tag origin on (tidied on_yes) (tidied on_no)
tidied (Exit region tag homes) = Exit region tag homes
tidied Stop_exit = Stop_exit
tidied (Trap_exit kind line) = Trap_exit kind line

-- whether the name is used that an item writes which may go
abbrev pub IsNeeded : Item → Tree → Type 0
IsNeeded (Bin op dest left right) rest = uses rest dest ≡ true
IsNeeded (Load dest array index) rest = uses rest dest ≡ true
IsNeeded (More dest) rest = uses rest dest ≡ true
IsNeeded _ rest = Unit

-- nothing may go
abbrev pub IsTidy : Tree → Type 0
IsTidy (Pending tag origin item rest) = IsNeeded item rest × IsTidy rest
IsTidy (Undecided tag origin on on_yes on_no) = IsTidy on_yes × IsTidy on_no
IsTidy (Exit region tag homes) = Unit
IsTidy Stop_exit = Unit
IsTidy (Trap_exit kind line) = Unit
