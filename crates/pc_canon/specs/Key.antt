-- The key of a window: its canonical form, written in numbers, and these in bytes. No two forms have the same bytes.
use Rattle.std.specs.Prelude.{ℕ, ℤ, pos, Bool, true, false, List, [], ◌∷◌, ◌++◌, Option, Some, None}
use Rattle.pc_word.specs.declared.item.Item.{Item}
use Rattle.pc_word.specs.declared.item.Item.TheVariants.{Bin, Copy, Load, Store, Print, Read, More}
use Rattle.pc_word.specs.declared.item.Limits.{Limits}
use Rattle.pc_word.specs.declared.item.Operand.{Operand}
use Rattle.pc_word.specs.declared.item.Operand.TheVariants.{Name, Lit}
use Rattle.pc_word.specs.declared.item.TrapKind.{TrapKind}
use Rattle.pc_word.specs.declared.item.TrapKind.TheVariants.{DivideByZero, OutOfBounds, EndOfInput}
use Rattle.pc_window.specs.declared.home.Home.{Home}
use Rattle.pc_window.specs.Tree.{Tree, Pending, Undecided, Exit, Stop_exit, Trap_exit, Front, Issued, Split, Unfinished, whole}
use Rattle.pc_window.specs.WindowRun.{Window}
use Rattle.pc_canon.specs.Bytes.{bytes_of}
use Rattle.pc_canon.specs.Canonical.{Constant, Canonical, canonical}
use Rattle.pc_word.specs.Items.{op_number}

-- the number of a kind of trap
abbrev pub trap_number : TrapKind → ℕ
trap_number DivideByZero = 0
trap_number OutOfBounds = 1
trap_number EndOfInput = 2

-- a list: 1 before each element, and 0 at the end
abbrev pub list_numbers : {A : Type 0} → (A → List ℤ) → List A → List ℤ
list_numbers numbers [] = pos 0 ∷ []
list_numbers numbers (x ∷ xs) = pos 1 ∷ (numbers x ++ list_numbers numbers xs)

-- an operand: its kind, and its name or value
abbrev pub operand_numbers : Operand → List ℤ
operand_numbers (Name x) = pos 0 ∷ pos x ∷ []
operand_numbers (Lit value) = pos 1 ∷ value ∷ []

-- an item but for the name that it writes: its kind, its operator or array, and its operands
abbrev pub item_numbers : Item → List ℤ
item_numbers (Bin op dest left right) = pos 0 ∷ pos (op_number op) ∷ (operand_numbers left ++ operand_numbers right)
item_numbers (Copy dest from) = pos 1 ∷ operand_numbers from
item_numbers (Load dest array index) = pos 2 ∷ pos array ∷ operand_numbers index
item_numbers (Store array index value) = pos 3 ∷ pos array ∷ (operand_numbers index ++ operand_numbers value)
item_numbers (Print value) = pos 4 ∷ operand_numbers value
item_numbers (Read dest) = pos 5 ∷ []
item_numbers (More dest) = pos 6 ∷ []

-- the home of a variable
abbrev pub home_numbers : Home → List ℤ
home_numbers home = pos home.variable ∷ operand_numbers home.value

-- a tree in preorder, the kind first
abbrev pub tree_numbers : Tree → List ℤ
tree_numbers (Pending tag origin item rest) = pos 0 ∷ pos tag ∷ pos origin ∷ (item_numbers item ++ tree_numbers rest)
tree_numbers (Undecided tag origin on on_yes on_no) =
    pos 1 ∷ pos tag ∷ pos origin ∷ (operand_numbers on ++ (tree_numbers on_yes ++ tree_numbers on_no))
tree_numbers (Exit region tag homes) = pos 2 ∷ pos region ∷ pos tag ∷ list_numbers home_numbers homes
tree_numbers Stop_exit = pos 3 ∷ []
tree_numbers (Trap_exit kind line) = pos 4 ∷ pos (trap_number kind) ∷ pos line ∷ []

-- how far a front goes: its items and tests in preorder, and the places where it ends
abbrev pub shape_numbers : Front → List ℤ
shape_numbers (Issued tag origin item rest) = pos 0 ∷ shape_numbers rest
shape_numbers (Split tag origin on on_yes on_no) = pos 1 ∷ (shape_numbers on_yes ++ shape_numbers on_no)
shape_numbers (Unfinished rest) = pos 2 ∷ []

-- the number of a truth value
abbrev pub truth_number : Bool → ℕ
truth_number false = 0
truth_number true = 1

-- what shows of a form by itself
abbrev pub constant_numbers : Constant → List ℤ
constant_numbers c = c.constant ∷ pos (truth_number c.terms) ∷ []

-- a column: its places and factors
abbrev pub column_numbers : List ℤ → List ℤ
column_numbers column = list_numbers (λ (z : ℤ). z ∷ []) column

-- limits
abbrev pub limit_numbers : Limits → List ℤ
limit_numbers limits = pos limits.ops ∷ pos limits.tests ∷ pos limits.mem ∷ []

-- the loop of a window
abbrev pub loop_numbers : Option ℕ → List ℤ
loop_numbers None = pos 0 ∷ []
loop_numbers (Some inside) = pos 1 ∷ pos inside ∷ []

-- a canonical form
abbrev pub canonical_numbers : Canonical → List ℤ
canonical_numbers c =
    tree_numbers (whole c.front)
    ++ (shape_numbers c.front
    ++ (list_numbers constant_numbers c.parameters
    ++ (list_numbers constant_numbers c.definitions
    ++ (list_numbers column_numbers c.columns ++ (limit_numbers c.limits ++ loop_numbers c.inside)))))

-- the key of a window, in bytes
abbrev pub key_of : Window → List ℕ
key_of w = bytes_of (canonical_numbers (canonical w))
