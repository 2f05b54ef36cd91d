-- The tables of the grammar's marks.
use Rattle.std.specs.Prelude.{ℕ, Option, Some, None}
use Rattle.pc_lexer.specs.declared.mark.Mark.{Mark}
use Rattle.pc_lexer.specs.declared.mark.Mark.TheVariants as marks
use Rattle.pc_syntax.specs.declared.operator.UnaryOp.{UnaryOp}
use Rattle.pc_syntax.specs.declared.operator.UnaryOp.TheVariants as unary
use Rattle.pc_syntax.specs.declared.operator.BinaryOp.{BinaryOp}
use Rattle.pc_syntax.specs.declared.operator.BinaryOp.TheVariants as ops
use Rattle.pc_syntax.specs.Source.{SourceExpression, Combined, Conjunction, Disjunction, Prefixed}
use Rattle.pc_parser.specs.declared.operator.Operator.{Operator}
use Rattle.pc_parser.specs.declared.operator.Operator.TheVariants as joins

-- the binary operator that a mark stands for, and its level, from 1, the loosest, to 10
unfoldable pub operator_of : Mark → Option (Operator × ℕ)
operator_of marks.OrOr = Some (joins.Either, 1)
operator_of marks.AndAnd = Some (joins.Both, 2)
operator_of marks.Or = Some (joins.Binary ops.BitOr, 3)
operator_of marks.Xor = Some (joins.Binary ops.BitXor, 4)
operator_of marks.And = Some (joins.Binary ops.BitAnd, 5)
operator_of marks.EqualEqual = Some (joins.Binary ops.Equal, 6)
operator_of marks.NotEqual = Some (joins.Binary ops.Unequal, 6)
operator_of marks.Less = Some (joins.Binary ops.Less, 7)
operator_of marks.LessEqual = Some (joins.Binary ops.LessEq, 7)
operator_of marks.Greater = Some (joins.Binary ops.Greater, 7)
operator_of marks.GreaterEqual = Some (joins.Binary ops.GreaterEq, 7)
operator_of marks.ShiftLeft = Some (joins.Binary ops.Shl, 8)
operator_of marks.ShiftRight = Some (joins.Binary ops.Shr, 8)
operator_of marks.Plus = Some (joins.Binary ops.Add, 9)
operator_of marks.Minus = Some (joins.Binary ops.Sub, 9)
operator_of marks.Star = Some (joins.Binary ops.Mul, 10)
operator_of marks.Slash = Some (joins.Binary ops.Div, 10)
operator_of marks.Percent = Some (joins.Binary ops.Rem, 10)
operator_of _ = None

-- what a mark assigns by: nothing for `=`, and the operator of a compound mark
unfoldable pub assignment_of : Mark → Option (Option BinaryOp)
assignment_of marks.Assign = Some None
assignment_of marks.AddAssign = Some (Some ops.Add)
assignment_of marks.SubAssign = Some (Some ops.Sub)
assignment_of marks.MulAssign = Some (Some ops.Mul)
assignment_of marks.DivAssign = Some (Some ops.Div)
assignment_of marks.RemAssign = Some (Some ops.Rem)
assignment_of marks.ShiftLeftAssign = Some (Some ops.Shl)
assignment_of marks.ShiftRightAssign = Some (Some ops.Shr)
assignment_of marks.AndAssign = Some (Some ops.BitAnd)
assignment_of marks.XorAssign = Some (Some ops.BitXor)
assignment_of marks.OrAssign = Some (Some ops.BitOr)
assignment_of _ = None

-- the unary operator that a mark stands for; `+` is one, and leaves no node
unfoldable pub prefix_of : Mark → Option (Option UnaryOp)
prefix_of marks.Plus = Some None
prefix_of marks.Minus = Some (Some unary.Minus)
prefix_of marks.Tilde = Some (Some unary.Flip)
prefix_of marks.Not = Some (Some unary.Not)
prefix_of _ = None

-- what `++` and `--` assign by
unfoldable pub step_of : Mark → Option BinaryOp
step_of marks.PlusPlus = Some ops.Add
step_of marks.MinusMinus = Some ops.Sub
step_of _ = None

-- two operands that an operator of a line joins
abbrev pub infixed : Operator → ℕ → SourceExpression → SourceExpression → SourceExpression
infixed (joins.Binary op) at left right = Combined op at left right
infixed joins.Both at left right = Conjunction left right
infixed joins.Either at left right = Disjunction left right

-- an operand under a unary operator, or under `+`
abbrev pub prefixed : Option UnaryOp → SourceExpression → SourceExpression
prefixed None operand = operand
prefixed (Some op) operand = Prefixed op operand
