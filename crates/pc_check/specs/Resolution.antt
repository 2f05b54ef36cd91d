-- A program whose names are replaced by the slots that they stand for.
use Rattle.std.specs.Prelude.{ℕ, Option, Some, None, length}
use Rattle.pc_syntax.specs.Source.{SourceExpression, Literal, Variable, Input, Indexed, Prefixed, Combined, Conjunction, Disjunction, Conditional}
use Rattle.pc_syntax.specs.Source.{SourceStatement, Scope, ScalarDeclaration, ArrayDeclaration, Assignment, Printing, Evaluation, Branch, WhileLoop}
use Rattle.pc_syntax.specs.Source.{DoLoop, ForLoop, BreakOut, ContinueOn, ReturnFrom, Nothing, OptionalStatement, Absent, Present, SourceList}
use Rattle.pc_syntax.specs.Source.{No_more, More, SourceProgram, ResolvedProgram}
use Rattle.pc_check.specs.declared.slot.Slot.{Slot}
use Rattle.pc_check.specs.declared.slot.Slot.TheVariants as slot
use Rattle.pc_check.specs.Names.{Names, no_names, found, entered, with_scalar}
use Rattle.pc_check.specs.Faults.{names_behind, names_behind_optional, names_behind_list}

-- the number of a slot, among the scalars or among the arrays; 0 where a name is not declared
abbrev pub number_in_slot : Option Slot → ℕ
number_in_slot None = 0
number_in_slot (Some (slot.Scalar number)) = number
number_in_slot (Some (slot.Array number)) = number

-- the number that a name stands for
abbrev pub slot_number : Names → ℕ → ℕ
slot_number names symbol = number_in_slot (found names symbol)

-- an expression with numbers for names
unfoldable pub resolved_expression : Names → SourceExpression → SourceExpression
resolved_expression names (Literal value) = Literal value
resolved_expression names (Variable symbol line) = Variable (slot_number names symbol) line
resolved_expression names (Input line) = Input line
resolved_expression names (Indexed symbol line at index) =
    Indexed (slot_number names symbol) line at (resolved_expression names index)
resolved_expression names (Prefixed op operand) = Prefixed op (resolved_expression names operand)
resolved_expression names (Combined op at left right) =
    Combined op at (resolved_expression names left) (resolved_expression names right)
resolved_expression names (Conjunction left right) =
    Conjunction (resolved_expression names left) (resolved_expression names right)
resolved_expression names (Disjunction left right) =
    Disjunction (resolved_expression names left) (resolved_expression names right)
resolved_expression names (Conditional test one other) =
    Conditional (resolved_expression names test) (resolved_expression names one) (resolved_expression names other)

-- the same of an expression that may be left out
abbrev pub resolved_optional : Names → Option SourceExpression → Option SourceExpression
resolved_optional names None = None
resolved_optional names (Some e) = Some (resolved_expression names e)

unfoldable mutual
  -- A statement with numbers for names. Declarations take the numbers that come next: scalars from 0, arrays
  -- from 0, each in the order of the text, whatever their scope.
  pub resolved_statement : SourceStatement → Names → SourceStatement
  resolved_statement (Scope items) names = Scope (resolved_list items (entered names))
  resolved_statement (ScalarDeclaration symbol line initial) names =
      ScalarDeclaration names.scalars line (resolved_optional (with_scalar names symbol) initial)
  resolved_statement (ArrayDeclaration symbol line at size values) names =
      ArrayDeclaration (length names.lengths) line at size values
  resolved_statement (Assignment symbol line index bracket op at value) names =
      Assignment (slot_number names symbol) line (resolved_optional names index) bracket op at
      (resolved_expression names value)
  resolved_statement (Printing line value) names = Printing line (resolved_expression names value)
  resolved_statement (Evaluation line value) names = Evaluation line (resolved_expression names value)
  resolved_statement (Branch line test body otherwise) names =
      Branch line (resolved_expression names test) (resolved_statement body names)
      (resolved_branch otherwise (names_behind body names))
  resolved_statement (WhileLoop line test body) names =
      WhileLoop line (resolved_expression names test) (resolved_statement body names)
  resolved_statement (DoLoop line body test) names =
      DoLoop line (resolved_statement body names) (resolved_expression (names_behind body names) test)
  resolved_statement (ForLoop line first test step body) names =
      let inside = names_behind_list first (entered names) in
      ForLoop line (resolved_list first (entered names)) (resolved_expression inside test)
      (resolved_branch step inside) (resolved_statement body (names_behind_optional step inside))
  resolved_statement (BreakOut line) names = BreakOut line
  resolved_statement (ContinueOn line) names = ContinueOn line
  resolved_statement (ReturnFrom line value) names = ReturnFrom line (resolved_expression names value)
  resolved_statement Nothing names = Nothing

  -- the same of a statement that may be left out
  pub resolved_branch : OptionalStatement → Names → OptionalStatement
  resolved_branch Absent names = Absent
  resolved_branch (Present statement) names = Present (resolved_statement statement names)

  -- the same of statements in order
  pub resolved_list : SourceList → Names → SourceList
  resolved_list No_more names = No_more
  resolved_list (More first rest) names =
      More (resolved_statement first names) (resolved_list rest (names_behind first names))

-- a program without faults, resolved
abbrev pub resolved : SourceProgram → ResolvedProgram
resolved program =
    let behind = names_behind_list program.items no_names in
    record {
      scalars = behind.scalars;
      arrays = behind.lengths;
      initial = behind.initial;
      body = resolved_list program.items no_names;
    }
