-- How many temporaries the evaluation of an expression needs at once.
use Rattle.std.specs.Prelude.{ℕ, ◌+◌, max, Option, Some, None}
use Rattle.pc_syntax.specs.declared.operator.BinaryOp.{BinaryOp}
use Rattle.pc_syntax.specs.Source.{SourceExpression, Literal, Variable, Input, Indexed, Prefixed, Combined, Conjunction, Disjunction, Conditional}

-- the temporaries that hold a value while others are computed: a number and a scalar are read where they are used
abbrev pub hold : SourceExpression → ℕ
hold (Literal value) = 0
hold (Variable symbol line) = 0
hold _ = 1

-- the temporaries that an expression needs, its own value's included
unfoldable pub need : SourceExpression → ℕ
need (Literal value) = 0
need (Variable symbol line) = 0
need (Input line) = 1
need (Indexed symbol line at index) = max (need index) (hold index + 1)
need (Prefixed op operand) = max (need operand) 1
need (Combined op at left right) = max (max (need left) (hold left + need right)) 1
need (Conjunction left right) = max (max (need left) (need right)) 1
need (Disjunction left right) = max (max (need left) (need right)) 1
need (Conditional test one other) = max (max (max (need test) (need one)) (need other)) 1

-- the temporaries of an initialiser, where there is one
abbrev pub optional_need : Option SourceExpression → ℕ
optional_need None = 0
optional_need (Some initial) = need initial

-- The temporaries of an assignment, by its index, its operator and its value. The index is held while the
-- value is computed, and a compound one holds the index and the old element.
abbrev pub assignment_need : Option SourceExpression → Option BinaryOp → SourceExpression → ℕ
assignment_need None None value = need value
assignment_need None (Some op) value = max (need value) 1
assignment_need (Some index) None value =
    max (max (need index) (hold index + need value)) (hold index + hold value + 1)
assignment_need (Some index) (Some op) value = max (need index) (hold index + 1 + need value)
