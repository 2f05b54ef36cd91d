-- Which trees have two operands, and which hold statements.
use Rattle.std.specs.Prelude.{Bool, true, false}
use Rattle.pc_syntax.specs.Source.{SourceExpression, Combined, Conjunction, Disjunction}
use Rattle.pc_syntax.specs.Unit.{UnitStatement, Block, If, While, Do, For}

-- whether an expression is an operator with two operands
abbrev pub is_combined : SourceExpression → Bool
is_combined (Combined op at left right) = true
is_combined (Conjunction left right) = true
is_combined (Disjunction left right) = true
is_combined _ = false

-- whether a statement holds no others
abbrev pub is_simple : UnitStatement → Bool
is_simple (Block items) = false
is_simple (If line test body otherwise) = false
is_simple (While line test body) = false
is_simple (Do line body test) = false
is_simple (For line first test step body) = false
is_simple _ = true
