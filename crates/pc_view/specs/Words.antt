-- The parts of a row in words, in the notation of docs/MACHINE.md.
use Rattle.std.specs.Prelude.{ℕ, List, ◌++◌, codes}
use Rattle.std.specs.Fmt.{decimal, signed_decimal}
use Rattle.pc_word.specs.declared.item.OpCode.{OpCode}
use Rattle.pc_word.specs.declared.item.OpCode.TheVariants.{Add, Sub, Mul, Div, Rem, Shl, Shr, And, Or, Xor, Less, LessEq, Equal, Unequal, Below}
use Rattle.pc_word.specs.declared.item.Operand.{Operand}
use Rattle.pc_word.specs.declared.item.Operand.TheVariants.{Name, Lit}
use Rattle.pc_word.specs.declared.item.Item.{Item}
use Rattle.pc_word.specs.declared.item.Item.TheVariants.{Bin, Copy, Load, Store, Print, Read, More}
use Rattle.pc_machine.specs.declared.tree.Leaf.{Leaf}
use Rattle.pc_machine.specs.declared.tree.Leaf.TheVariants.{Goto, Stop, Trap}
use Rattle.pc_report.specs.FaultLine.{trap_text}

-- an operator as C writes it; `below` is C's `<` of unsigned numbers
abbrev pub operator_words : OpCode → List ℕ
operator_words Add = codes "+"
operator_words Sub = codes "-"
operator_words Mul = codes "*"
operator_words Div = codes "/"
operator_words Rem = codes "%"
operator_words Shl = codes "<<"
operator_words Shr = codes ">>"
operator_words And = codes "&"
operator_words Or = codes "|"
operator_words Xor = codes "^"
operator_words Less = codes "<"
operator_words LessEq = codes "<="
operator_words Equal = codes "=="
operator_words Unequal = codes "!="
operator_words Below = codes "below"

-- a register by its number, or a literal in decimal digits
abbrev pub operand_words : Operand → List ℕ
operand_words (Name register) = codes "r" ++ decimal register
operand_words (Lit value) = signed_decimal value

-- an item, with its operators written so: what it writes or does, and the operands that it reads
abbrev pub item_words : (OpCode → List ℕ) → Item → List ℕ
item_words written (Bin op dest left right) =
    codes "r" ++ (decimal dest ++ (codes " = " ++ (operand_words left ++ (codes " " ++ (written op ++ (codes " " ++ operand_words right))))))
item_words written (Copy dest from) = codes "r" ++ (decimal dest ++ (codes " = " ++ operand_words from))
item_words written (Load dest array index) =
    codes "r" ++ (decimal dest ++ (codes " = a" ++ (decimal array ++ (codes "[" ++ (operand_words index ++ codes "]")))))
item_words written (Store array index value) =
    codes "a" ++ (decimal array ++ (codes "[" ++ (operand_words index ++ (codes "] = " ++ operand_words value))))
item_words written (Print value) = codes "print(" ++ (operand_words value ++ codes ")")
item_words written (Read dest) = codes "r" ++ (decimal dest ++ codes " = read()")
item_words written (More dest) = codes "r" ++ (decimal dest ++ codes " = more()")

-- a test: whether its operand is not 0
abbrev pub test_words : Operand → List ℕ
test_words on = codes "if " ++ operand_words on

-- a leaf: the row that it leads to, the end, or the trap with its line
abbrev pub leaf_words : Leaf → List ℕ
leaf_words (Goto row) = codes "goto row " ++ decimal row
leaf_words Stop = codes "stop"
leaf_words (Trap kind line) = codes "trap: " ++ (trap_text kind ++ (codes " at line " ++ decimal line))
