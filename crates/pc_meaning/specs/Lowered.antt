-- The operators of the machine to which the language's operators are lowered.
use Rattle.std.specs.Prelude.{ℤ, pos, negsuc}
use Rattle.pc_word.specs.declared.item.OpCode.{OpCode}
use Rattle.pc_word.specs.declared.item.OpCode.TheVariants as codes
use Rattle.pc_word.specs.Word.{word_apply}
use Rattle.pc_syntax.specs.declared.operator.UnaryOp.{UnaryOp}
use Rattle.pc_syntax.specs.declared.operator.UnaryOp.TheVariants.{Minus, Flip, Not}
use Rattle.pc_syntax.specs.declared.operator.BinaryOp.{BinaryOp}
use Rattle.pc_syntax.specs.declared.operator.BinaryOp.TheVariants.{Add, Sub, Mul, Div, Rem, Shl, Shr, Less, LessEq, Greater, GreaterEq, Equal, Unequal, BitAnd, BitXor, BitOr}

-- the operator for a unary operator
abbrev pub prefix_code : UnaryOp → OpCode
prefix_code Minus = codes.Sub
prefix_code Flip = codes.Xor
prefix_code Not = codes.Equal

-- `-e` is 0 - e, `~e` is e ^ -1, and `!e` is e == 0
abbrev pub lowered_prefix : UnaryOp → ℤ → ℤ
lowered_prefix Minus a = word_apply (prefix_code Minus) (pos 0) a
lowered_prefix Flip a = word_apply (prefix_code Flip) a (negsuc 0)
lowered_prefix Not a = word_apply (prefix_code Not) a (pos 0)

-- the operator for a binary operator
abbrev pub binary_code : BinaryOp → OpCode
binary_code Add = codes.Add
binary_code Sub = codes.Sub
binary_code Mul = codes.Mul
binary_code Div = codes.Div
binary_code Rem = codes.Rem
binary_code Shl = codes.Shl
binary_code Shr = codes.Shr
binary_code Less = codes.Less
binary_code LessEq = codes.LessEq
binary_code Greater = codes.Less
binary_code GreaterEq = codes.LessEq
binary_code Equal = codes.Equal
binary_code Unequal = codes.Unequal
binary_code BitAnd = codes.And
binary_code BitXor = codes.Xor
binary_code BitOr = codes.Or

-- `>` and `>=` are `<` and `<=` with the operands exchanged, after both are evaluated
abbrev pub lowered_binary : BinaryOp → ℤ → ℤ → ℤ
lowered_binary Greater a b = word_apply (binary_code Greater) b a
lowered_binary GreaterEq a b = word_apply (binary_code GreaterEq) b a
lowered_binary op a b = word_apply (binary_code op) a b
