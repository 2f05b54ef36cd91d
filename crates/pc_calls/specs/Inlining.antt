-- What inlining answers: the inlined program of a unit, or why there is none.
use Rattle.std.specs.Prelude.{ℕ, ◌+◌, ◌||◌, List, ◌++◌, nat_lt, Result}
use Rattle.pc_word.specs.SourceLimits.{most_height}
use Rattle.pc_word.specs.Exact.{checked}
use Rattle.pc_syntax.specs.Source.{SourceProgram}
use Rattle.pc_syntax.specs.Unit.{TranslationUnit}
use Rattle.pc_calls.specs.Inline.{inlined_program}
use Rattle.pc_calls.specs.Refusals.{Refusal, TooBig, TooHigh, refused_if, refusals}
use Rattle.pc_calls.specs.Measures.{Size, list_measure}

-- the symbols of a unit are below this
abbrev pub symbol_bound : ℕ
symbol_bound = 65536

-- the statements that an inlined program may have
abbrev pub most_statements : ℕ
most_statements = 65536

-- the nodes of expressions that it may have
abbrev pub most_expression_nodes : ℕ
most_expression_nodes = 262144

-- The refusals of an inlined program for its size. The block of `main` is none of its statements, but is as high as they are and one more.
abbrev pub size_refusals : Size → List Refusal
size_refusals size =
    refused_if (nat_lt most_statements size.count || nat_lt most_expression_nodes size.nodes) TooBig
    ++ refused_if (nat_lt most_height (1 + size.height)) TooHigh

-- the inlined program of a unit whose symbols are below that bound
abbrev pub inlined_unit : TranslationUnit → SourceProgram
inlined_unit unit = inlined_program symbol_bound unit

-- why a unit cannot be inlined: the refusals of its text in their order, and then those of the inlined program for its size
abbrev pub unit_refusals : TranslationUnit → List Refusal
unit_refusals unit = refusals unit ++ size_refusals (list_measure (inlined_unit unit).items)

-- the inlined program of a unit, or the first of its refusals
abbrev pub inlining : TranslationUnit → Result SourceProgram Refusal
inlining unit = checked (unit_refusals unit) (inlined_unit unit)
