-- What a tree in memory stands for where it may have calls.
use Rattle.std.specs.Prelude.{Option, Some, None, option_map, List, [], ◌∷◌, map}
use Rattle.std.specs.declared.boxed.Box.{Box}
use Rattle.std.specs.declared.alloc.Global.{Global}
use Rattle.pc_syntax.specs.declared.expression.Expr.{Expr}
use Rattle.pc_syntax.specs.declared.statement.Stmt.{Stmt, Block', Scalar, Array, Assign, Print, Eval, If', While', Do', For', Break, Continue, Return, Empty, Call}
use Rattle.pc_syntax.specs.declared.statement.Stmt.{Row_of-Stmt, end_of-Stmt, more_of-Stmt, Held-Stmt-If-3, None', Some'}
use Rattle.pc_syntax.specs.declared.unit.Function.{Function}
use Rattle.pc_syntax.specs.declared.unit.SourceUnit.{SourceUnit}
use Rattle.pc_syntax.specs.Erasure.{expression_of}
use Rattle.pc_syntax.specs.Unit as unit
use Rattle.pc_syntax.specs.Unit.{UnitStatement, UnitOptional, UnitList, Without, With, Finish, Item, UnitFunction, TranslationUnit}

unfoldable mutual
  -- the statement that a tree stands for, calls included
  pub unit_statement_of : Stmt → UnitStatement
  unit_statement_of (Block' n items) = unit.Block (unit_row_of items)
  unit_statement_of (Scalar symbol line init) = unit.Scalar symbol line (option_map expression_of init)
  unit_statement_of (Array symbol line at length values) = unit.Array symbol line at length values
  unit_statement_of (Assign symbol line index bracket op at value) =
      unit.Assign symbol line (option_map expression_of index) bracket op at (expression_of value)
  unit_statement_of (Print line value) = unit.Print line (expression_of value)
  unit_statement_of (Eval line value) = unit.Eval line (expression_of value)
  unit_statement_of (If' line test p body other) = unit.If line (expression_of test) (unit_statement_of body) (unit_held_of other)
  unit_statement_of (While' line test p body) = unit.While line (expression_of test) (unit_statement_of body)
  unit_statement_of (Do' line p body test) = unit.Do line (unit_statement_of body) (expression_of test)
  unit_statement_of (For' line n first test step p body) =
      unit.For line (unit_row_of first) (expression_of test) (unit_held_of step) (unit_statement_of body)
  unit_statement_of (Break line) = unit.Break line
  unit_statement_of (Continue line) = unit.Continue line
  unit_statement_of (Return line value) = unit.Return line (expression_of value)
  unit_statement_of Empty = unit.Empty
  unit_statement_of (Call line target function at arguments) = unit.Call line target function at (map expression_of arguments)

  -- the statements of a list that a tree holds
  pub unit_row_of : {m : _} → Row_of-Stmt m → UnitList
  unit_row_of end_of-Stmt = Finish
  unit_row_of (more_of-Stmt first rest) = Item (unit_statement_of first) (unit_row_of rest)

  -- the statement that a tree holds where it is not left out
  pub unit_held_of : Held-Stmt-If-3 → UnitOptional
  unit_held_of None' = Without
  unit_held_of (Some' p statement) = With (unit_statement_of statement)

-- the statements that a list of trees stands for
unfoldable pub unit_list_of : List Stmt → UnitList
unit_list_of [] = Finish
unit_list_of (first ∷ rest) = Item (unit_statement_of first) (unit_list_of rest)

-- the statement that an optional tree stands for
unfoldable pub unit_optional_of : Option (Box Stmt Global) → UnitOptional
unit_optional_of None = Without
unit_optional_of (Some boxed) = With (unit_statement_of boxed.value)

-- the function that one of the code stands for
abbrev pub function_of : Function → UnitFunction
function_of function = record {
  symbol = function.symbol;
  line = function.line;
  parameters = function.params;
  items = unit_list_of function.items;
  result = option_map expression_of function.result;
}

-- the translation unit that one of the code stands for
abbrev pub unit_of : SourceUnit → TranslationUnit
unit_of source = record { functions = map function_of source.functions; main = unit_list_of source.main.items }
