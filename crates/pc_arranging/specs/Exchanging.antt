-- Below a Copy, in one item, test or stub, the Copy's name and its operand take each other's place.
use Rattle.std.specs.Prelude.{ℕ, ◌-◌, Bool, true, false, if◌then◌else◌, nat_eq, nat_lt, List, Option, Some, None}
use Rattle.std.specs.Ordering.{int_eq}
use Rattle.pc_word.specs.declared.item.Item.{Item}
use Rattle.pc_word.specs.declared.item.Item.TheVariants.{Bin, Copy, Load, Store, Print, Read, More}
use Rattle.pc_word.specs.declared.item.Operand.{Operand}
use Rattle.pc_word.specs.declared.item.Operand.TheVariants.{Name, Lit}
use Rattle.pc_word.specs.Items.{reads, reads_name}
use Rattle.pc_word.specs.Naming.{map_operands}
use Rattle.pc_window.specs.declared.home.Home.{Home}
use Rattle.pc_window.specs.Tree.{Tree, Pending, Undecided, Exit, Stop_exit, Trap_exit}
use Rattle.pc_window.specs.Names.{homes_use}
use Rattle.pc_window.specs.Rename.{map_homes}
use Rattle.pc_arranging.specs.Numbering.{part_count}

-- ---- operands

-- whether two operands are the same
abbrev pub same_operand : Operand → Operand → Bool
same_operand (Name x) (Name y) = nat_eq x y
same_operand (Lit v) (Lit w) = int_eq v w
same_operand (Name x) (Lit w) = false
same_operand (Lit v) (Name y) = false

-- an operand with another in the place of one
abbrev pub in_place_of : (one other : Operand) → Operand → Operand
in_place_of one other operand = if same_operand operand one then other else operand

-- where the name is read it becomes the operand, else the operand becomes the name
abbrev pub exchange : (name : ℕ) (from : Operand) (reads_it : Bool) → Operand → Operand
exchange name from true = in_place_of (Name name) from
exchange name from false = in_place_of from (Name name)

-- ---- trees

-- the same with an item above
abbrev pub below_item : ℕ → ℕ → Item → Option Tree → Option Tree
below_item tag origin item None = None
below_item tag origin item (Some rest) = Some (Pending tag origin item rest)

-- the same with a test above, on its yes or on its no side
abbrev pub on_yes_side : ℕ → ℕ → Operand → Option Tree → Tree → Option Tree
on_yes_side tag origin on None q = None
on_yes_side tag origin on (Some p) q = Some (Undecided tag origin on p q)

abbrev pub on_no_side : ℕ → ℕ → Operand → Tree → Option Tree → Option Tree
on_no_side tag origin on p None = None
on_no_side tag origin on p (Some q) = Some (Undecided tag origin on p q)

-- a tree where the two were exchanged in the item, test or stub with this number; items, tests and leaves are counted together
abbrev pub exchanged_at : (name : ℕ) (from : Operand) → Tree → (part : ℕ) → Option Tree
exchanged_at name from (Pending tag origin item rest) part =
    if nat_eq part 0 then Some (Pending tag origin (map_operands (exchange name from (reads item name)) item) rest)
    else below_item tag origin item (exchanged_at name from rest (part - 1))
exchanged_at name from (Undecided tag origin on p q) part =
    if nat_eq part 0 then Some (Undecided tag origin (exchange name from (reads_name on name) on) p q)
    else if nat_lt (part - 1) (part_count p) then on_yes_side tag origin on (exchanged_at name from p (part - 1)) q
    else on_no_side tag origin on p (exchanged_at name from q (part - 1 - part_count p))
exchanged_at name from (Exit region tag homes) part =
    if nat_eq part 0 then Some (Exit region tag (map_homes (exchange name from (homes_use homes name)) homes)) else None
exchanged_at name from Stop_exit part = None
exchanged_at name from (Trap_exit kind line) part = None

-- the same below an item, which is a Copy
abbrev pub exchanged_below : Item → Tree → (part : ℕ) → Option Tree
exchanged_below (Bin op dest left right) rest part = None
exchanged_below (Copy dest from) rest part = exchanged_at dest from rest part
exchanged_below (Load dest array index) rest part = None
exchanged_below (Store array index value) rest part = None
exchanged_below (Print value) rest part = None
exchanged_below (Read dest) rest part = None
exchanged_below (More dest) rest part = None

-- the same below the Copy with a number
abbrev pub used_at : Tree → (copy part : ℕ) → Option Tree
used_at (Pending tag origin item rest) copy part =
    if nat_eq copy 0 then (if nat_eq part 0 then None else below_item tag origin item (exchanged_below item rest (part - 1)))
    else below_item tag origin item (used_at rest (copy - 1) (part - 1))
used_at (Undecided tag origin on p q) copy part =
    if nat_eq copy 0 then None
    else if nat_lt (copy - 1) (part_count p) then on_yes_side tag origin on (used_at p (copy - 1) (part - 1)) q
    else on_no_side tag origin on p (used_at q (copy - 1 - part_count p) (part - 1 - part_count p))
used_at (Exit region tag homes) copy part = None
used_at Stop_exit copy part = None
used_at (Trap_exit kind line) copy part = None
