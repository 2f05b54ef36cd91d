-- Which statements declare names for those after them, and which hold no others.
use Rattle.std.specs.Prelude.{Bool, true, false}
use Rattle.pc_syntax.specs.Unit.{UnitStatement, Block, Scalar, If, While, Do, For, Call}

-- whether a statement may become two: the declaration of a scalar, or a call
abbrev pub is_declaring : UnitStatement → Bool
is_declaring (Scalar symbol line initial) = true
is_declaring (Call line target function at arguments) = true
is_declaring _ = false

-- whether it neither may nor holds other statements
abbrev pub is_simple : UnitStatement → Bool
is_simple (Block items) = false
is_simple (If line test body otherwise) = false
is_simple (While line test body) = false
is_simple (Do line body test) = false
is_simple (For line first test step body) = false
is_simple (Scalar symbol line initial) = false
is_simple (Call line target function at arguments) = false
is_simple _ = true
