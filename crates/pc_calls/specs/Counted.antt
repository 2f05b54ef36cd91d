-- The size of the inlined program, counted of the unit alone: each function once, and so without that program.
use Rattle.std.specs.Prelude.{ℕ, zero, suc, Bool, true, false, Option, Some, None, option_map, List, [], ◌∷◌, if◌then◌else◌, nat_eq, reverse, length}
use Rattle.pc_syntax.specs.Source.{SourceExpression}
use Rattle.pc_syntax.specs.declared.unit.Target.{Target}
use Rattle.pc_syntax.specs.Unit.{UnitStatement, UnitOptional, UnitList, Block, Scalar, Array, Assign, Print, Eval, If, While, Do, For}
use Rattle.pc_syntax.specs.Unit.{Break, Continue, Return, Empty, Call, Without, With, Finish, Item, UnitFunction, TranslationUnit}
use Rattle.pc_calls.specs.Measures.{Size, no_size, together, Extent, no_extent, leaf, around, extent, optional_extent, assignment_extent}

-- what is counted of a function once: its parameters, its items with those of the functions that they call, and its result
pub record FunctionSize : Type 0 where
  pub parameters : ℕ
  pub items : Size
  pub result : Option Extent

-- so many parameters with their arguments
abbrev pub arguments_size : ℕ → List SourceExpression → Size
arguments_size zero arguments = no_size
arguments_size (suc count) [] = no_size
arguments_size (suc count) (e ∷ arguments) = together (around (extent e) no_size) (arguments_size count arguments)

-- what is done with such a result
abbrev pub result_size : Option Target → Option Extent → Size
result_size None None = no_size
result_size None (Some result) = around result no_size
result_size (Some target) None = around leaf no_size
result_size (Some target) (Some result) = around result no_size

-- a call's block
abbrev pub block_size : Option Target → Option FunctionSize → List SourceExpression → Size
block_size target None arguments = around no_extent no_size
block_size target (Some function) arguments =
    around no_extent (together (arguments_size function.parameters arguments) (together function.items (result_size target function.result)))

-- a declarator, which inside a function may become two statements
abbrev pub declarator_size : Bool → Option SourceExpression → Size
declarator_size in_function None = around no_extent no_size
declarator_size false (Some e) = around (extent e) no_size
declarator_size true (Some e) = together (around no_extent no_size) (around (extent e) no_size)

-- a statement in a list, where `done` is what it counts if one statement stands in its place
abbrev pub placed_size : (ℕ → Option FunctionSize) → Bool → UnitStatement → Size → Size
placed_size known in_function (Scalar symbol line initial) done = declarator_size in_function initial
placed_size known in_function (Call line (Some target) function at arguments) done =
    if target.declared then together (around no_extent no_size) (block_size (Some target) (known function) arguments) else block_size (Some target) (known function) arguments
placed_size known in_function _ done = done

unfoldable mutual
  -- what stands in the place of a statement, where that is one statement
  pub counted : (ℕ → Option FunctionSize) → Bool → UnitStatement → Size
  counted known in_function (Block items) = around no_extent (counted_list known in_function items)
  counted known in_function (Scalar symbol line initial) = around (optional_extent initial) no_size
  counted known in_function (Array symbol line at length values) = around no_extent no_size
  counted known in_function (Assign symbol line index bracket op at value) = around (assignment_extent index op value) no_size
  counted known in_function (Print line value) = around (extent value) no_size
  counted known in_function (Eval line value) = around (extent value) no_size
  counted known in_function (If line test body otherwise) =
      around (extent test) (together (counted known in_function body) (counted_optional known in_function otherwise))
  counted known in_function (While line test body) = around (extent test) (counted known in_function body)
  counted known in_function (Do line body test) = around (extent test) (counted known in_function body)
  counted known in_function (For line first test step body) =
      around (extent test) (together (counted_list known in_function first) (together (counted_optional known in_function step) (counted known in_function body)))
  counted known in_function (Break line) = around no_extent no_size
  counted known in_function (Continue line) = around no_extent no_size
  counted known in_function (Return line value) = around (extent value) no_size
  counted known in_function Empty = around no_extent no_size
  counted known in_function (Call line target function at arguments) = block_size target (known function) arguments

  pub counted_optional : (ℕ → Option FunctionSize) → Bool → UnitOptional → Size
  counted_optional known in_function Without = no_size
  counted_optional known in_function (With statement) = counted known in_function statement

  pub counted_list : (ℕ → Option FunctionSize) → Bool → UnitList → Size
  counted_list known in_function Finish = no_size
  counted_list known in_function (Item first rest) =
      together (placed_size known in_function first (counted known in_function first)) (counted_list known in_function rest)

-- the sizes of functions, of which the last comes first
unfoldable pub function_sizes : List UnitFunction → ℕ → Option FunctionSize
function_sizes [] symbol = None
function_sizes (last ∷ earlier) symbol =
    if nat_eq symbol last.symbol then Some (record {
      parameters = length last.parameters;
      items = counted_list (function_sizes earlier) true last.items;
      result = option_map extent last.result;
    }) else function_sizes earlier symbol

-- the size of the inlined program
abbrev pub unit_size : TranslationUnit → Size
unit_size unit = counted_list (function_sizes (reverse unit.functions)) false unit.main
