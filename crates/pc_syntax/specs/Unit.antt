-- A translation unit (C17 6.9) as the language's definitions see it: functions, and then `main`. Its statements are those of
-- `Source`, and calls. A statement of `Source` has no calls, so what speaks of a program without functions knows nothing of them.
use Rattle.std.specs.Prelude.{ℕ, Option, List}
use Rattle.pc_syntax.specs.declared.operator.BinaryOp.{BinaryOp}
use Rattle.pc_syntax.specs.declared.constant.Const.{Const}
use Rattle.pc_syntax.specs.declared.unit.Target.{Target}
use Rattle.pc_syntax.specs.declared.unit.Param.{Param}
use Rattle.pc_syntax.specs.Source.{SourceExpression}

mutual
  -- a statement that may be a call, or one declarator of a declaration
  pub data UnitStatement : Type 0 where
    -- `{ items }`
    Block : (items : UnitList) → UnitStatement
    -- `int name;` or `int name = initial;`
    Scalar : (symbol line : ℕ) → (initial : Option SourceExpression) → UnitStatement
    -- `int name[length];`, where `at` is the length's line; of a static array also with the values of its initialiser
    Array : (symbol line at length : ℕ) → (values : List Const) → UnitStatement
    -- an assignment to a name or an element, compound where there is an operator
    Assign : (symbol line : ℕ) → (index : Option SourceExpression) → (bracket : ℕ) →
        (op : Option BinaryOp) → (at : ℕ) → (value : SourceExpression) → UnitStatement
    -- `print(value);`
    Print : (line : ℕ) → (value : SourceExpression) → UnitStatement
    -- an expression whose value is dropped
    Eval : (line : ℕ) → (value : SourceExpression) → UnitStatement
    -- `if (test) body`, with or without an `else`
    If : (line : ℕ) → (test : SourceExpression) → (body : UnitStatement) → (otherwise : UnitOptional) → UnitStatement
    -- `while (test) body`
    While : (line : ℕ) → (test : SourceExpression) → (body : UnitStatement) → UnitStatement
    -- `do body while (test);`
    Do : (line : ℕ) → (body : UnitStatement) → (test : SourceExpression) → UnitStatement
    -- `for (first; test; step) body`
    For : (line : ℕ) → (first : UnitList) → (test : SourceExpression) → (step : UnitOptional) → (body : UnitStatement) → UnitStatement
    -- `break;`
    Break : (line : ℕ) → UnitStatement
    -- `continue;`
    Continue : (line : ℕ) → UnitStatement
    -- `return value;`
    Return : (line : ℕ) → (value : SourceExpression) → UnitStatement
    -- `;`
    Empty : UnitStatement
    -- `name(arguments);`, `target = name(arguments);` or `int target = name(arguments);`, where `function` is the symbol of the
    -- name and `at` its line
    Call : (line : ℕ) → (target : Option Target) → (function at : ℕ) → (arguments : List SourceExpression) → UnitStatement

  -- a statement that may be left out
  pub data UnitOptional : Type 0 where
    Without : UnitOptional
    With : (statement : UnitStatement) → UnitOptional

  -- statements in order
  pub data UnitList : Type 0 where
    Finish : UnitList
    Item : (first : UnitStatement) → (rest : UnitList) → UnitList

-- a function: its name with the line, its parameters, the statements of its block, and the expression of the `return` with which
-- the block ends, where it has one
pub record UnitFunction : Type 0 where
  pub symbol : ℕ
  pub line : ℕ
  pub parameters : List Param
  pub items : UnitList
  pub result : Option SourceExpression

-- a translation unit: its functions in the order of the text, and the statements of the block of `main`
pub record TranslationUnit : Type 0 where
  pub functions : List UnitFunction
  pub main : UnitList

-- the statements of the one list, and then those of the other
abbrev pub unit_appended : UnitList → UnitList → UnitList
unit_appended Finish others = others
unit_appended (Item first rest) others = Item first (unit_appended rest others)
