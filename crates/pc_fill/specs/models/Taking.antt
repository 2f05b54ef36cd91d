-- What is left of a tree when an item is taken out of it, or a test divides it.
use Rattle.std.specs.Prelude.{ℕ, ◌-◌, Bool, true, false, pos, if◌then◌else◌, nat_eq, nat_lt, Option}
use Rattle.pc_word.specs.declared.item.Operand.{Operand}
use Rattle.pc_word.specs.declared.item.Operand.TheVariants.{Lit}
use Rattle.pc_word.specs.Items.{dest_of}
use Rattle.pc_window.specs.Tree.{Tree, Pending, Undecided, Exit, Stop_exit, Trap_exit, tree_size}
use Rattle.pc_window.specs.Rename.{mapped}
use Rattle.pc_word.specs.Naming.{renamed}

-- the item at a place of a tree is gone; below it, its name is this one
abbrev pub taken_out : Option ℕ → Tree → ℕ → Tree
taken_out name (Pending tag origin item rest) place =
    if nat_eq place 0 then mapped (renamed (dest_of item) name) rest else Pending tag origin item (taken_out name rest (place - 1))
taken_out name (Undecided tag origin on on_yes on_no) place =
    if nat_eq place 0 then Undecided tag origin on on_yes on_no
    else if nat_lt (place - 1) (tree_size on_yes) then Undecided tag origin on (taken_out name on_yes (place - 1)) on_no
    else Undecided tag origin on on_yes (taken_out name on_no (place - 1 - tree_size on_yes))
taken_out name (Exit region tag homes) place = Exit region tag homes
taken_out name Stop_exit place = Stop_exit
taken_out name (Trap_exit kind line) place = Trap_exit kind line

-- whether an item stands at the root of a tree
abbrev pub starts_with_item : Tree → Bool
starts_with_item (Pending tag origin item rest) = true
starts_with_item (Undecided tag origin on on_yes on_no) = false
starts_with_item (Exit region tag homes) = false
starts_with_item Stop_exit = false
starts_with_item (Trap_exit kind line) = false

-- what the first test below items reads
abbrev pub divided_on : Tree → Operand
divided_on (Pending tag origin item rest) = divided_on rest
divided_on (Undecided tag origin on on_yes on_no) = on
divided_on (Exit region tag homes) = Lit (pos 0)
divided_on Stop_exit = Lit (pos 0)
divided_on (Trap_exit kind line) = Lit (pos 0)

-- its yes side, behind the items above it
abbrev pub divided_yes : Tree → Tree
divided_yes (Pending tag origin item rest) = Pending tag origin item (divided_yes rest)
divided_yes (Undecided tag origin on on_yes on_no) = on_yes
divided_yes (Exit region tag homes) = Exit region tag homes
divided_yes Stop_exit = Stop_exit
divided_yes (Trap_exit kind line) = Trap_exit kind line

-- its no side, behind the items above it
abbrev pub divided_no : Tree → Tree
divided_no (Pending tag origin item rest) = Pending tag origin item (divided_no rest)
divided_no (Undecided tag origin on on_yes on_no) = on_no
divided_no (Exit region tag homes) = Stop_exit
divided_no Stop_exit = Stop_exit
divided_no (Trap_exit kind line) = Stop_exit
