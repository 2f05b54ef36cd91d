-- Items: what each reads, writes and gives, and which kind it is of.
use Rattle.std.specs.Prelude.{ℕ, ℤ, pos, negsuc, Bool, true, false, if◌then◌else◌, ◌||◌, nat_eq, nat_lt, List, [], ◌∷◌, Option, Some, None, slice_index}
use Rattle.pc_word.specs.declared.item.Item.{Item}
use Rattle.pc_word.specs.declared.item.Item.TheVariants.{Bin, Copy, Load, Store, Print, Read, More}
use Rattle.pc_word.specs.declared.item.OpCode.{OpCode}
use Rattle.pc_word.specs.declared.item.OpCode.TheVariants.{Add, Sub, Mul, Div, Rem, Shl, Shr, And, Or, Xor, Less, LessEq, Equal, Unequal, Below}
use Rattle.pc_word.specs.declared.item.Operand.{Operand}
use Rattle.pc_word.specs.declared.item.Operand.TheVariants.{Name, Lit}
use Rattle.pc_word.specs.declared.item.Operands.{Operands}
use Rattle.pc_word.specs.declared.item.Operands.TheVariants as listed
use Rattle.pc_word.specs.Word.{word_of_test, word_apply}
use Rattle.pc_word.specs.State.{State}

-- ---- operators

-- the number of an operator
abbrev pub op_number : OpCode → ℕ
op_number Add = 0
op_number Sub = 1
op_number Mul = 2
op_number Div = 3
op_number Rem = 4
op_number Shl = 5
op_number Shr = 6
op_number And = 7
op_number Or = 8
op_number Xor = 9
op_number Less = 10
op_number LessEq = 11
op_number Equal = 12
op_number Unequal = 13
op_number Below = 14

-- ---- operands, elements, input

-- the value of an operand
abbrev pub operand_value : (ℕ → ℤ) → Operand → ℤ
operand_value names (Name x) = names x
operand_value names (Lit value) = value

-- the place that an index names in an array of this length, if it is inside
abbrev pub place_in : ℕ → ℤ → Option ℕ
place_in length (pos index) = if nat_lt index length then Some index else None
place_in length (negsuc index) = None

-- the element at a place, and 0 outside the array
abbrev pub element_at : (ℕ → ℤ) → Option ℕ → ℤ
element_at elements (Some place) = elements place
element_at elements None = pos 0

-- the next input number, and 0 where none is left
abbrev pub next_input : List ℤ → ℤ
next_input [] = pos 0
next_input (word ∷ words) = word

-- whether an input number is left
abbrev pub some_left : List ℤ → Bool
some_left [] = false
some_left (word ∷ words) = true

-- ---- items

-- the operands that an item reads, in the order in which it names them
abbrev pub operands_of : Item → List Operand
operands_of (Bin op dest left right) = left ∷ right ∷ []
operands_of (Copy dest from) = from ∷ []
operands_of (Load dest array index) = index ∷ []
operands_of (Store array index value) = index ∷ value ∷ []
operands_of (Print value) = value ∷ []
operands_of (Read dest) = []
operands_of (More dest) = []

-- the operands of a list of at most two
abbrev pub operand_list : Operands → List Operand
operand_list listed.None = []
operand_list (listed.One one) = one ∷ []
operand_list (listed.Two one other) = one ∷ other ∷ []

-- the name that it writes
abbrev pub dest_of : Item → Option ℕ
dest_of (Bin op dest left right) = Some dest
dest_of (Copy dest from) = Some dest
dest_of (Load dest array index) = Some dest
dest_of (Store array index value) = None
dest_of (Print value) = None
dest_of (Read dest) = Some dest
dest_of (More dest) = Some dest

-- the array that it loads from or stores into
abbrev pub array_of : Item → Option ℕ
array_of (Load dest array index) = Some array
array_of (Store array index value) = Some array
array_of _ = None

-- the word that it writes, stores or prints, in a state with arrays of these lengths
abbrev pub value_of : List ℕ → State → Item → ℤ
value_of lengths old (Bin op dest left right) = word_apply op (operand_value old.names left) (operand_value old.names right)
value_of lengths old (Copy dest from) = operand_value old.names from
value_of lengths old (Load dest array index) =
    element_at (old.cells array) (place_in (slice_index lengths array) (operand_value old.names index))
value_of lengths old (Store array index value) = operand_value old.names value
value_of lengths old (Print value) = operand_value old.names value
value_of lengths old (Read dest) = next_input old.input
value_of lengths old (More dest) = word_of_test (some_left old.input)

-- whether it is a load or store
abbrev pub is_memory : Item → Bool
is_memory (Load dest array index) = true
is_memory (Store array index value) = true
is_memory _ = false

-- whether it is a print, read or more
abbrev pub is_effect : Item → Bool
is_effect (Print value) = true
is_effect (Read dest) = true
is_effect (More dest) = true
is_effect _ = false

-- whether all that it does is to give its name a word
abbrev pub only_computes : Item → Bool
only_computes (Bin op dest left right) = true
only_computes (Copy dest from) = true
only_computes (Load dest array index) = true
only_computes (Store array index value) = false
only_computes (Print value) = false
only_computes (Read dest) = false
only_computes (More dest) = false

-- ---- the names that are read

-- whether an operand reads a name
abbrev pub reads_name : Operand → ℕ → Bool
reads_name (Name y) x = nat_eq y x
reads_name (Lit value) x = false

-- whether an item does
abbrev pub reads : Item → ℕ → Bool
reads (Bin op dest left right) x = reads_name left x || reads_name right x
reads (Copy dest from) x = reads_name from x
reads (Load dest array index) x = reads_name index x
reads (Store array index value) x = reads_name index x || reads_name value x
reads (Print value) x = reads_name value x
reads (Read dest) x = false
reads (More dest) x = false
