-- Programs as translation units without functions and without calls.
use Rattle.std.specs.Prelude.{◌≡◌, []}
use Rattle.pc_syntax.specs.Source.{SourceStatement, OptionalStatement, SourceList, SourceProgram, Scope, ScalarDeclaration, ArrayDeclaration, Assignment}
use Rattle.pc_syntax.specs.Source.{Printing, Evaluation, Branch, WhileLoop, DoLoop, ForLoop, BreakOut, ContinueOn, ReturnFrom, Nothing, Absent, Present, No_more, More}
use Rattle.pc_syntax.specs.Unit.{UnitStatement, UnitOptional, UnitList, TranslationUnit, Block, Scalar, Array, Assign, Print, Eval, If, While, Do, For}
use Rattle.pc_syntax.specs.Unit.{Break, Continue, Return, Empty, Without, With, Finish, Item}
use Rattle.pc_syntax.specs.declared.program.Program.{Program}
use Rattle.pc_syntax.specs.Erasure.{list_of}
use Rattle.pc_syntax.specs.UnitErasure.{unit_list_of}

unfoldable mutual
  -- a statement, as one that may have calls and has none
  pub plain_statement : SourceStatement → UnitStatement
  plain_statement (Scope items) = Block (plain_list items)
  plain_statement (ScalarDeclaration symbol line initial) = Scalar symbol line initial
  plain_statement (ArrayDeclaration symbol line at length values) = Array symbol line at length values
  plain_statement (Assignment symbol line index bracket op at value) = Assign symbol line index bracket op at value
  plain_statement (Printing line value) = Print line value
  plain_statement (Evaluation line value) = Eval line value
  plain_statement (Branch line test body otherwise) = If line test (plain_statement body) (plain_optional otherwise)
  plain_statement (WhileLoop line test body) = While line test (plain_statement body)
  plain_statement (DoLoop line body test) = Do line (plain_statement body) test
  plain_statement (ForLoop line first test step body) = For line (plain_list first) test (plain_optional step) (plain_statement body)
  plain_statement (BreakOut line) = Break line
  plain_statement (ContinueOn line) = Continue line
  plain_statement (ReturnFrom line value) = Return line value
  plain_statement Nothing = Empty

  -- the same of a statement that may be left out
  pub plain_optional : OptionalStatement → UnitOptional
  plain_optional Absent = Without
  plain_optional (Present statement) = With (plain_statement statement)

  -- the same of statements in order
  pub plain_list : SourceList → UnitList
  plain_list No_more = Finish
  plain_list (More first rest) = Item (plain_statement first) (plain_list rest)

-- a program, as a translation unit without functions
abbrev pub plain_unit : SourceProgram → TranslationUnit
plain_unit program = record { functions = []; main = plain_list program.items }

-- a program in memory has no calls
abbrev pub HasNoCalls : Program → Type 0
HasNoCalls program = unit_list_of program.items ≡ plain_list (list_of program.items)
