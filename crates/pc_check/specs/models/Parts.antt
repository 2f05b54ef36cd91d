-- Which trees are of one of several kinds.
use Rattle.std.specs.Prelude.{Bool, true, false}
use Rattle.pc_syntax.specs.Source.{SourceExpression, Variable, Indexed, Combined}
use Rattle.pc_syntax.specs.Source.{SourceStatement, ScalarDeclaration, ArrayDeclaration, Assignment, ForLoop}
use Rattle.pc_syntax.specs.Source.{Printing, Evaluation, BreakOut, ContinueOn, ReturnFrom, Nothing}

-- whether an expression begins with a name
abbrev pub is_named : SourceExpression → Bool
is_named (Variable symbol line) = true
is_named (Indexed symbol line at index) = true
is_named _ = false

-- whether it is a binary operator
abbrev pub is_binary : SourceExpression → Bool
is_binary (Combined op at left right) = true
is_binary _ = false

-- whether a statement declares or assigns a name
abbrev pub is_written : SourceStatement → Bool
is_written (ScalarDeclaration symbol line initial) = true
is_written (ArrayDeclaration symbol line at length values) = true
is_written (Assignment symbol line index bracket op at value) = true
is_written _ = false

-- whether it neither does so nor holds other statements
abbrev pub is_plain : SourceStatement → Bool
is_plain (Printing line value) = true
is_plain (Evaluation line value) = true
is_plain (BreakOut line) = true
is_plain (ContinueOn line) = true
is_plain (ReturnFrom line value) = true
is_plain Nothing = true
is_plain _ = false

-- whether it is a `for`
abbrev pub is_for : SourceStatement → Bool
is_for (ForLoop line first test step body) = true
is_for _ = false
