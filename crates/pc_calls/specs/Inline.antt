-- A translation unit, with each function in the place of each call.
use Rattle.std.specs.Prelude.{ℕ, zero, suc, ◌+◌, pos, Bool, true, false, Option, Some, None, List, [], ◌∷◌, map, if◌then◌else◌, nat_eq, reverse}
use Rattle.pc_syntax.specs.Source.{SourceExpression, Literal, Variable, Input, Indexed, Prefixed, Combined, Conjunction, Disjunction, Conditional}
use Rattle.pc_syntax.specs.Source.{SourceStatement, Scope, ScalarDeclaration, ArrayDeclaration, Assignment, Printing, Evaluation, Branch, WhileLoop}
use Rattle.pc_syntax.specs.Source.{DoLoop, ForLoop, BreakOut, ContinueOn, ReturnFrom, Nothing, OptionalStatement, Absent, Present, SourceList}
use Rattle.pc_syntax.specs.Source.{No_more, More, SourceProgram, appended}
use Rattle.pc_syntax.specs.declared.unit.Target.{Target}
use Rattle.pc_syntax.specs.declared.unit.Param.{Param}
use Rattle.pc_syntax.specs.Unit.{UnitStatement, UnitOptional, UnitList, Block, Scalar, Array, Assign, Print, Eval, If, While, Do, For}
use Rattle.pc_syntax.specs.Unit.{Break, Continue, Return, Empty, Call, Without, With, Finish, Item, UnitFunction, TranslationUnit}

-- The symbol that stands for a symbol of a function in a copy that is so deep in others. `main` has depth 0 and keeps its
-- symbols; all symbols of the unit are below `base`.
abbrev pub copied : ℕ → ℕ → ℕ → ℕ
copied base zero symbol = symbol
copied base (suc depth) symbol = base + copied base depth symbol

-- an expression with other symbols
unfoldable pub renamed : (ℕ → ℕ) → SourceExpression → SourceExpression
renamed r (Literal value) = Literal value
renamed r (Variable symbol line) = Variable (r symbol) line
renamed r (Input line) = Input line
renamed r (Indexed symbol line at index) = Indexed (r symbol) line at (renamed r index)
renamed r (Prefixed op operand) = Prefixed op (renamed r operand)
renamed r (Combined op at left right) = Combined op at (renamed r left) (renamed r right)
renamed r (Conjunction left right) = Conjunction (renamed r left) (renamed r right)
renamed r (Disjunction left right) = Disjunction (renamed r left) (renamed r right)
renamed r (Conditional test one other) = Conditional (renamed r test) (renamed r one) (renamed r other)

-- one that may be left out
abbrev pub renamed_optional : (ℕ → ℕ) → Option SourceExpression → Option SourceExpression
renamed_optional r None = None
renamed_optional r (Some e) = Some (renamed r e)

-- a function as it stands in the place of a call, with the symbols of that copy
pub record Copy : Type 0 where
  pub parameters : List Param
  pub items : SourceList
  pub result : Option SourceExpression

-- where statements stand: in a function or in `main`, with these symbols, and the copies of the functions that they may call
pub record Site : Type 0 where
  pub copies : ℕ → Option Copy
  pub rename : ℕ → ℕ
  pub in_function : Bool

-- the one statement of a list, or a block of several
abbrev pub in_one : SourceList → SourceStatement
in_one No_more = Nothing
in_one (More first No_more) = first
in_one (More first (More second rest)) = Scope (More first (More second rest))

-- ---- declarators

-- inside a function a declarator with initialiser becomes one without, and an assignment
abbrev pub declarator_list : Bool → ℕ → ℕ → Option SourceExpression → SourceList
declarator_list in_function symbol line None = More (ScalarDeclaration symbol line None) No_more
declarator_list false symbol line (Some e) = More (ScalarDeclaration symbol line (Some e)) No_more
declarator_list true symbol line (Some e) =
    More (ScalarDeclaration symbol line None) (More (Assignment symbol line None line None line e) No_more)

-- ---- calls

-- each parameter is declared with its argument
abbrev pub parameters_list : List Param → List SourceExpression → SourceList
parameters_list [] arguments = No_more
parameters_list (first ∷ others) [] = No_more
parameters_list (first ∷ others) (e ∷ arguments) = More (ScalarDeclaration first.symbol first.line (Some e)) (parameters_list others arguments)

-- the result, or 0
abbrev pub result_or_zero : Option SourceExpression → SourceExpression
result_or_zero None = Literal (pos 0)
result_or_zero (Some e) = e

-- what is done with the result
abbrev pub result_list : (ℕ → ℕ) → ℕ → Option Target → Option SourceExpression → SourceList
result_list r line None None = No_more
result_list r line None (Some e) = More (Evaluation line e) No_more
result_list r line (Some target) result =
    More (Assignment (r target.symbol) target.line None target.line None target.line (result_or_zero result)) No_more

-- a call's block
abbrev pub call_block : Site → ℕ → Option Target → Option Copy → List SourceExpression → SourceStatement
call_block site line target None arguments = Nothing
call_block site line target (Some copy) arguments =
    Scope (appended (parameters_list copy.parameters (map (renamed site.rename) arguments))
    (appended copy.items (result_list site.rename line target copy.result)))

-- a target that the call declares is declared before the block
abbrev pub call_list : Site → Option Target → SourceStatement → SourceList
call_list site None block = More block No_more
call_list site (Some target) block =
    if target.declared then More (ScalarDeclaration (site.rename target.symbol) target.line None) (More block No_more)
    else More block No_more

-- ---- statements

-- A statement in front of others, where `done` is what stands in its place if it is one statement: a declarator and a call may
-- become two.
abbrev pub put : Site → UnitStatement → SourceStatement → SourceList → SourceList
put site (Scalar symbol line initial) done rest =
    appended (declarator_list site.in_function (site.rename symbol) line (renamed_optional site.rename initial)) rest
put site (Call line target function at arguments) done rest =
    appended (call_list site target (call_block site line target (site.copies function) arguments)) rest
put site _ done rest = More done rest

unfoldable mutual
  -- what stands in the place of a statement, as one statement
  pub inlined : Site → UnitStatement → SourceStatement
  inlined site (Block items) = Scope (inlined_list site items)
  inlined site (Scalar symbol line initial) =
      in_one (declarator_list site.in_function (site.rename symbol) line (renamed_optional site.rename initial))
  inlined site (Array symbol line at length values) = ArrayDeclaration (site.rename symbol) line at length values
  inlined site (Assign symbol line index bracket op at value) =
      Assignment (site.rename symbol) line (renamed_optional site.rename index) bracket op at (renamed site.rename value)
  inlined site (Print line value) = Printing line (renamed site.rename value)
  inlined site (Eval line value) = Evaluation line (renamed site.rename value)
  inlined site (If line test body otherwise) =
      Branch line (renamed site.rename test) (inlined site body) (inlined_optional site otherwise)
  inlined site (While line test body) = WhileLoop line (renamed site.rename test) (inlined site body)
  inlined site (Do line body test) = DoLoop line (inlined site body) (renamed site.rename test)
  inlined site (For line first test step body) =
      ForLoop line (inlined_list site first) (renamed site.rename test) (inlined_optional site step) (inlined site body)
  inlined site (Break line) = BreakOut line
  inlined site (Continue line) = ContinueOn line
  inlined site (Return line value) = ReturnFrom line (renamed site.rename value)
  inlined site Empty = Nothing
  inlined site (Call line target function at arguments) =
      in_one (call_list site target (call_block site line target (site.copies function) arguments))

  pub inlined_optional : Site → UnitOptional → OptionalStatement
  inlined_optional site Without = Absent
  inlined_optional site (With statement) = Present (inlined site statement)

  pub inlined_list : Site → UnitList → SourceList
  inlined_list site Finish = No_more
  inlined_list site (Item first rest) = put site first (inlined site first) (inlined_list site rest)

-- ---- functions

-- a parameter with another symbol
abbrev pub renamed_parameter : (ℕ → ℕ) → Param → Param
renamed_parameter r parameter = record parameter { symbol = r parameter.symbol }

-- the copy of a function with these symbols, with the copies of those that it may call
abbrev pub copy_of : (ℕ → ℕ) → (ℕ → Option Copy) → UnitFunction → Copy
copy_of r copies function = record {
  parameters = map (renamed_parameter r) function.parameters;
  items = inlined_list (record { copies = copies; rename = r; in_function = true }) function.items;
  result = renamed_optional r function.result;
}

-- the copy of the function of a name among these, of which the last comes first, at a depth
unfoldable pub copies : ℕ → List UnitFunction → ℕ → ℕ → Option Copy
copies base [] depth symbol = None
copies base (last ∷ earlier) depth symbol =
    if nat_eq symbol last.symbol then Some (copy_of (copied base depth) (copies base earlier (suc depth)) last) else copies base earlier depth symbol

-- where the statements of `main` stand
abbrev pub main_site : ℕ → List UnitFunction → Site
main_site base functions = record { copies = copies base functions 1; rename = copied base 0; in_function = false }

-- the inlined program of a unit
abbrev pub inlined_program : ℕ → TranslationUnit → SourceProgram
inlined_program base unit = record { items = inlined_list (main_site base (reverse unit.functions)) unit.main }
