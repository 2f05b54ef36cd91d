-- What the text of a translation unit gives of its tree: a declarator stands in a list of statements, and never alone after `if`,
-- `else` or the head of a loop; and symbols are below a bound.
use Rattle.std.specs.Prelude.{ℕ, Bool, true, false, not, ◌&&◌, Option, Some, None, List, [], ◌∷◌, nat_lt}
use Rattle.pc_syntax.specs.Source.{SourceExpression, Literal, Variable, Input, Indexed, Prefixed, Combined, Conjunction, Disjunction, Conditional}
use Rattle.pc_syntax.specs.Unit.{UnitStatement, UnitOptional, UnitList, Block, Scalar, Array, Assign, Print, Eval, If, While, Do, For}
use Rattle.pc_syntax.specs.Unit.{Break, Continue, Return, Empty, Call, Without, With, Finish, Item, UnitFunction, TranslationUnit}
use Rattle.pc_syntax.specs.declared.unit.Target.{Target}
use Rattle.pc_syntax.specs.declared.unit.Param.{Param}

-- an expression has only symbols that pass a test
unfoldable pub uses_only : (ℕ → Bool) → SourceExpression → Bool
uses_only allowed (Literal value) = true
uses_only allowed (Variable symbol line) = allowed symbol
uses_only allowed (Input line) = true
uses_only allowed (Indexed symbol line at index) = allowed symbol && uses_only allowed index
uses_only allowed (Prefixed op operand) = uses_only allowed operand
uses_only allowed (Combined op at left right) = uses_only allowed left && uses_only allowed right
uses_only allowed (Conjunction left right) = uses_only allowed left && uses_only allowed right
uses_only allowed (Disjunction left right) = uses_only allowed left && uses_only allowed right
uses_only allowed (Conditional test one other) = uses_only allowed test && (uses_only allowed one && uses_only allowed other)

-- the symbols of an expression are below a bound
abbrev pub is_below : ℕ → SourceExpression → Bool
is_below base e = uses_only (λ symbol. nat_lt symbol base) e

-- the same of an expression that may be left out
abbrev pub optional_is_below : ℕ → Option SourceExpression → Bool
optional_is_below base None = true
optional_is_below base (Some e) = is_below base e

-- the same of each expression of a list
abbrev pub all_below : ℕ → List SourceExpression → Bool
all_below base [] = true
all_below base (first ∷ others) = is_below base first && all_below base others

-- the symbol of a call's target is below a bound
abbrev pub target_is_below : ℕ → Option Target → Bool
target_is_below base None = true
target_is_below base (Some target) = nat_lt target.symbol base

-- the symbols of parameters are below a bound
abbrev pub parameters_below : ℕ → List Param → Bool
parameters_below base [] = true
parameters_below base (first ∷ others) = nat_lt first.symbol base && parameters_below base others

-- whether a call declares its target
abbrev pub declares_target : Option Target → Bool
declares_target None = false
declares_target (Some target) = target.declared

-- whether a statement declares nothing for those after it
abbrev pub declares_nothing : UnitStatement → Bool
declares_nothing (Scalar symbol line initial) = false
declares_nothing (Array symbol line at length values) = false
declares_nothing (Call line target function at arguments) = not (declares_target target)
declares_nothing _ = true

unfoldable mutual
  -- a statement with symbols below a bound, in which each declarator stands in a list
  pub is_proper : ℕ → UnitStatement → Bool
  is_proper base (Block items) = list_is_proper base items
  is_proper base (Scalar symbol line initial) = nat_lt symbol base && optional_is_below base initial
  is_proper base (Array symbol line at length values) = nat_lt symbol base
  is_proper base (Assign symbol line index bracket op at value) =
      nat_lt symbol base && (optional_is_below base index && is_below base value)
  is_proper base (Print line value) = is_below base value
  is_proper base (Eval line value) = is_below base value
  is_proper base (If line test body otherwise) =
      is_below base test && ((declares_nothing body && is_proper base body) && optional_is_proper base otherwise)
  is_proper base (While line test body) = is_below base test && (declares_nothing body && is_proper base body)
  is_proper base (Do line body test) = (declares_nothing body && is_proper base body) && is_below base test
  is_proper base (For line first test step body) =
      list_is_proper base first && (is_below base test && (optional_is_proper base step && (declares_nothing body && is_proper base body)))
  is_proper base (Break line) = true
  is_proper base (Continue line) = true
  is_proper base (Return line value) = is_below base value
  is_proper base Empty = true
  is_proper base (Call line target function at arguments) = target_is_below base target && all_below base arguments

  -- the same of a statement that may be left out, which is no declarator
  pub optional_is_proper : ℕ → UnitOptional → Bool
  optional_is_proper base Without = true
  optional_is_proper base (With statement) = declares_nothing statement && is_proper base statement

  -- the same of statements in order
  pub list_is_proper : ℕ → UnitList → Bool
  list_is_proper base Finish = true
  list_is_proper base (Item first rest) = is_proper base first && list_is_proper base rest

-- the same of a function
abbrev pub function_is_proper : ℕ → UnitFunction → Bool
function_is_proper base function =
    parameters_below base function.parameters && (list_is_proper base function.items && optional_is_below base function.result)

-- the same of each function
unfoldable pub functions_are_proper : ℕ → List UnitFunction → Bool
functions_are_proper base [] = true
functions_are_proper base (first ∷ others) = function_is_proper base first && functions_are_proper base others

-- a unit as its text gives it, with symbols below a bound
abbrev pub unit_is_proper : ℕ → TranslationUnit → Bool
unit_is_proper base unit = functions_are_proper base unit.functions && list_is_proper base unit.main
