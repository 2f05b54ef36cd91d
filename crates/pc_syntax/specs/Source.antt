-- The syntax tree as the language's definitions see it: without the places in memory at which the
-- parts of a tree lie. Two trees are equal where these are.
use Rattle.std.specs.Prelude.{ℕ, ℤ, Option, List}
use Rattle.pc_syntax.specs.declared.operator.UnaryOp.{UnaryOp}
use Rattle.pc_syntax.specs.declared.operator.BinaryOp.{BinaryOp}
use Rattle.pc_syntax.specs.declared.constant.Const.{Const}

-- an expression; a name is a symbol with its line, and the number before the parts of an operator or
-- the index is the line of the operator or of the bracket
pub data SourceExpression : Type 0 where
  -- a number
  Literal : (value : ℤ) → SourceExpression
  -- a name
  Variable : (symbol line : ℕ) → SourceExpression
  -- `read()`
  Input : (line : ℕ) → SourceExpression
  -- `name[index]`
  Indexed : (symbol line at : ℕ) → (index : SourceExpression) → SourceExpression
  -- a unary operator
  Prefixed : (op : UnaryOp) → (operand : SourceExpression) → SourceExpression
  -- a binary operator
  Combined : (op : BinaryOp) → (at : ℕ) → (left right : SourceExpression) → SourceExpression
  -- `left && right`
  Conjunction : (left right : SourceExpression) → SourceExpression
  -- `left || right`
  Disjunction : (left right : SourceExpression) → SourceExpression
  -- `test ? one : other`
  Conditional : (test one other : SourceExpression) → SourceExpression

mutual
  -- a statement, or one declarator of a declaration
  pub data SourceStatement : Type 0 where
    -- `{ items }`
    Scope : (items : SourceList) → SourceStatement
    -- `int name;` or `int name = initial;`
    ScalarDeclaration : (symbol line : ℕ) → (initial : Option SourceExpression) → SourceStatement
    -- `int name[length];`, where `at` is the length's line; of a static array also with the values of its initialiser
    ArrayDeclaration : (symbol line at length : ℕ) → (values : List Const) → SourceStatement
    -- an assignment to a name or an element, compound where there is an operator
    Assignment : (symbol line : ℕ) → (index : Option SourceExpression) → (bracket : ℕ) →
        (op : Option BinaryOp) → (at : ℕ) → (value : SourceExpression) → SourceStatement
    -- `print(value);`
    Printing : (line : ℕ) → (value : SourceExpression) → SourceStatement
    -- an expression whose value is dropped
    Evaluation : (line : ℕ) → (value : SourceExpression) → SourceStatement
    -- `if (test) body`, with or without an `else`
    Branch : (line : ℕ) → (test : SourceExpression) → (body : SourceStatement) →
        (otherwise : OptionalStatement) → SourceStatement
    -- `while (test) body`
    WhileLoop : (line : ℕ) → (test : SourceExpression) → (body : SourceStatement) → SourceStatement
    -- `do body while (test);`
    DoLoop : (line : ℕ) → (body : SourceStatement) → (test : SourceExpression) → SourceStatement
    -- `for (first; test; step) body`
    ForLoop : (line : ℕ) → (first : SourceList) → (test : SourceExpression) →
        (step : OptionalStatement) → (body : SourceStatement) → SourceStatement
    -- `break;`
    BreakOut : (line : ℕ) → SourceStatement
    -- `continue;`
    ContinueOn : (line : ℕ) → SourceStatement
    -- `return value;`
    ReturnFrom : (line : ℕ) → (value : SourceExpression) → SourceStatement
    -- `;`
    Nothing : SourceStatement

  -- a statement that may be left out
  pub data OptionalStatement : Type 0 where
    Absent : OptionalStatement
    Present : (statement : SourceStatement) → OptionalStatement

  -- statements in order
  pub data SourceList : Type 0 where
    No_more : SourceList
    More : (first : SourceStatement) → (rest : SourceList) → SourceList

-- a program: the statements of the block of its `main`
pub record SourceProgram : Type 0 where
  pub items : SourceList

-- A program whose names are numbers: how many scalars it declares, the lengths of its arrays, the data with which each of them
-- begins, and its statements. A scalar is named by its number among the scalars and an array by its number among the arrays.
pub record ResolvedProgram : Type 0 where
  pub scalars : ℕ
  pub arrays : List ℕ
  pub initial : List (List ℤ)
  pub body : SourceList

-- the statements of the one list, and then those of the other
abbrev pub appended : SourceList → SourceList → SourceList
appended No_more others = others
appended (More first rest) others = More first (appended rest others)
