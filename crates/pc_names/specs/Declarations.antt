-- The scalars and arrays that statements declare, each in the order of the text, which is that of their numbers.
use Rattle.std.specs.Prelude.{[], ◌∷◌, ◌++◌}
use Rattle.pc_syntax.specs.Source.{SourceStatement, Scope, ScalarDeclaration, ArrayDeclaration, Assignment, Printing, Evaluation, Branch, WhileLoop}
use Rattle.pc_syntax.specs.Source.{DoLoop, ForLoop, BreakOut, ContinueOn, ReturnFrom, Nothing, OptionalStatement, Absent, Present, SourceList}
use Rattle.pc_syntax.specs.Source.{No_more, More}
use Rattle.pc_names.specs.declared.declared.DeclaredSymbols.{DeclaredSymbols}

unfoldable mutual
  -- the symbols of the scalars and arrays declared so far, and after them those that a statement declares
  pub with_declared : SourceStatement → DeclaredSymbols → DeclaredSymbols
  with_declared (Scope items) symbols = with_list items symbols
  with_declared (ScalarDeclaration symbol line initial) symbols = record symbols { scalars = symbols.scalars ++ symbol ∷ [] }
  with_declared (ArrayDeclaration symbol line at length values) symbols = record symbols { arrays = symbols.arrays ++ symbol ∷ [] }
  with_declared (Assignment symbol line index bracket op at value) symbols = symbols
  with_declared (Printing line value) symbols = symbols
  with_declared (Evaluation line value) symbols = symbols
  with_declared (Branch line test body otherwise) symbols = with_branch otherwise (with_declared body symbols)
  with_declared (WhileLoop line test body) symbols = with_declared body symbols
  with_declared (DoLoop line body test) symbols = with_declared body symbols
  with_declared (ForLoop line first test step body) symbols = with_declared body (with_branch step (with_list first symbols))
  with_declared (BreakOut line) symbols = symbols
  with_declared (ContinueOn line) symbols = symbols
  with_declared (ReturnFrom line value) symbols = symbols
  with_declared Nothing symbols = symbols

  -- the same of a statement that may be left out
  pub with_branch : OptionalStatement → DeclaredSymbols → DeclaredSymbols
  with_branch Absent symbols = symbols
  with_branch (Present statement) symbols = with_declared statement symbols

  -- the same of statements in order
  pub with_list : SourceList → DeclaredSymbols → DeclaredSymbols
  with_list No_more symbols = symbols
  with_list (More first rest) symbols = with_list rest (with_declared first symbols)

-- the symbols of the scalars and arrays that statements declare
abbrev pub declared_by : SourceList → DeclaredSymbols
declared_by items = with_list items (record { scalars = []; arrays = [] })
