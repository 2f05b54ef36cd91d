-- What is wrong with the names and limits of a program: its faults, in the order in which they are met. The first of them is
-- the answer of the check, so nothing is meant by what stands after it.
use Rattle.std.specs.Prelude.{ℕ, ◌+◌, Bool, true, false, not, ◌||◌, Option, Some, None, List, [], ◌∷◌, ◌++◌, nat_eq, nat_lt, nat_le, sum, length, slice_get}
use Rattle.pc_word.specs.SourceLimits.{most_scalars, most_temporaries}
use Rattle.pc_word.specs.MachineLimits.{most_arrays, most_length, most_elements}
use Rattle.pc_syntax.specs.declared.operator.BinaryOp.{BinaryOp}
use Rattle.pc_syntax.specs.declared.constant.Const.{Const}
use Rattle.pc_syntax.specs.Source.{SourceExpression, Literal, Variable, Input, Indexed, Prefixed, Combined, Conjunction, Disjunction, Conditional}
use Rattle.pc_syntax.specs.Source.{SourceStatement, Scope, ScalarDeclaration, ArrayDeclaration, Assignment, Printing, Evaluation, Branch, WhileLoop}
use Rattle.pc_syntax.specs.Source.{DoLoop, ForLoop, BreakOut, ContinueOn, ReturnFrom, Nothing, OptionalStatement, Absent, Present, SourceList}
use Rattle.pc_syntax.specs.Source.{No_more, More, SourceProgram}
use Rattle.pc_check.specs.declared.slot.Slot.{Slot}
use Rattle.pc_check.specs.declared.slot.Slot.TheVariants as slot
use Rattle.pc_check.specs.declared.error.CheckError.{CheckError}
use Rattle.pc_check.specs.declared.error.CheckError.TheVariants as fault
use Rattle.pc_check.specs.Names.{Names, no_names, found, is_declared_here, entered, left, with_scalar, with_array}
use Rattle.pc_check.specs.Needs.{need, optional_need, assignment_need}
use Rattle.pc_check.specs.InitialData.{data_of}

-- one fault where a test holds
abbrev pub fault_if : Bool → CheckError → List CheckError
fault_if true e = e ∷ []
fault_if false e = []

-- one fault where a test holds, and else those that come after it
abbrev pub fault_or : Bool → CheckError → List CheckError → List CheckError
fault_or true e others = e ∷ []
fault_or false e others = others

-- a name that is used as a scalar must be declared, and as one
abbrev pub scalar_use : Option Slot → ℕ → List CheckError
scalar_use None line = fault.Undeclared line ∷ []
scalar_use (Some (slot.Scalar number)) line = []
scalar_use (Some (slot.Array number)) line = fault.NotScalar line ∷ []

-- a name that is used as an array must be declared, and as one
abbrev pub array_use : Option Slot → ℕ → List CheckError
array_use None line = fault.Undeclared line ∷ []
array_use (Some (slot.Scalar number)) line = fault.NotArray line ∷ []
array_use (Some (slot.Array number)) line = []

-- the faults at the names of an expression, in the order of the text
unfoldable pub expression_faults : Names → SourceExpression → List CheckError
expression_faults names (Literal value) = []
expression_faults names (Variable symbol line) = scalar_use (found names symbol) line
expression_faults names (Input line) = []
expression_faults names (Indexed symbol line at index) =
    array_use (found names symbol) line ++ expression_faults names index
expression_faults names (Prefixed op operand) = expression_faults names operand
expression_faults names (Combined op at left right) = expression_faults names left ++ expression_faults names right
expression_faults names (Conjunction left right) = expression_faults names left ++ expression_faults names right
expression_faults names (Disjunction left right) = expression_faults names left ++ expression_faults names right
expression_faults names (Conditional test one other) =
    expression_faults names test ++ (expression_faults names one ++ expression_faults names other)

-- the same of an expression that may be left out
abbrev pub optional_faults : Names → Option SourceExpression → List CheckError
optional_faults names None = []
optional_faults names (Some e) = expression_faults names e

-- a statement whose expressions need too many temporaries, by what they need
abbrev pub depth_faults : ℕ → ℕ → List CheckError
depth_faults needed line = fault_if (nat_lt most_temporaries needed) (fault.TooDeep line)

-- an expression that is measured by itself: its depth, and then its names
abbrev pub measured_faults : Names → ℕ → SourceExpression → List CheckError
measured_faults names line e = depth_faults (need e) line ++ expression_faults names e

-- a `break` or `continue` that stands in no loop's body
abbrev pub jump_faults : Bool → ℕ → List CheckError
jump_faults in_loop line = fault_if (not in_loop) (fault.OutsideLoop line)

-- the declaration of a scalar: a name that its own scope declares already, or one scalar too many
abbrev pub scalar_faults : Names → ℕ → ℕ → List CheckError
scalar_faults names symbol line =
    fault_or (is_declared_here names symbol) (fault.Redeclared line)
    (fault_if (nat_le most_scalars names.scalars) (fault.TooManyScalars line))

-- the name of an array that is declared, in the same way
abbrev pub array_name_faults : Names → ℕ → ℕ → List CheckError
array_name_faults names symbol line =
    fault_or (is_declared_here names symbol) (fault.Redeclared line)
    (fault_if (nat_le most_arrays (length names.lengths)) (fault.TooManyArrays line))

-- its length: 0 or too great by itself, or too great for the elements that are left
abbrev pub array_length_faults : Names → ℕ → ℕ → List CheckError
array_length_faults names at size =
    fault_or (nat_eq size 0 || nat_lt most_length size) (fault.BadSize at)
    (fault_if (nat_lt most_elements (sum names.lengths + size)) (fault.TooManyElements at))

-- the first value of an initialiser that is one too many, where there is one (C17 6.7.9)
abbrev pub surplus_faults : Option Const → List CheckError
surplus_faults None = []
surplus_faults (Some surplus) = fault.TooManyValues surplus.line ∷ []

-- the declaration of an array with these values: its name, its length, and then more values than it has elements
abbrev pub array_faults : Names → ℕ → ℕ → ℕ → ℕ → List Const → List CheckError
array_faults names symbol line at size values =
    array_name_faults names symbol line ++ (array_length_faults names at size ++ surplus_faults (slice_get values size))

unfoldable mutual
  -- The names after a statement without faults. What a block or a `for` declares is known inside it alone, but its slots
  -- are used up.
  pub names_behind : SourceStatement → Names → Names
  names_behind (Scope items) names = left names (names_behind_list items (entered names))
  names_behind (ScalarDeclaration symbol line initial) names = with_scalar names symbol
  names_behind (ArrayDeclaration symbol line at size values) names = with_array names symbol size (data_of values)
  names_behind (Assignment symbol line index bracket op at value) names = names
  names_behind (Printing line value) names = names
  names_behind (Evaluation line value) names = names
  names_behind (Branch line test body otherwise) names = names_behind_optional otherwise (names_behind body names)
  names_behind (WhileLoop line test body) names = names_behind body names
  names_behind (DoLoop line body test) names = names_behind body names
  names_behind (ForLoop line first test step body) names =
      left names (names_behind body (names_behind_optional step (names_behind_list first (entered names))))
  names_behind (BreakOut line) names = names
  names_behind (ContinueOn line) names = names
  names_behind (ReturnFrom line value) names = names
  names_behind Nothing names = names

  -- the names after a statement that may be left out
  pub names_behind_optional : OptionalStatement → Names → Names
  names_behind_optional Absent names = names
  names_behind_optional (Present statement) names = names_behind statement names

  -- the names after statements in order
  pub names_behind_list : SourceList → Names → Names
  names_behind_list No_more names = names
  names_behind_list (More first rest) names = names_behind_list rest (names_behind first names)

-- the name of an assignment's target
abbrev pub target_use : Names → Option SourceExpression → ℕ → ℕ → List CheckError
target_use names None symbol line = scalar_use (found names symbol) line
target_use names (Some index) symbol line = array_use (found names symbol) line

-- an assignment: the name, the depth, and then what stands inside its index and its value
abbrev pub assignment_faults : Names → ℕ → ℕ → Option SourceExpression → Option BinaryOp → SourceExpression → List CheckError
assignment_faults names symbol line index op value =
    target_use names index symbol line ++ (depth_faults (assignment_need index op value) line
    ++ (optional_faults names index ++ expression_faults names value))

unfoldable mutual
  -- The faults of a statement, inside the body of a loop or not. At a declared name or a target's name
  -- the fault of the name comes first, then that of the depth, then those inside the expressions. A
  -- declared scalar is in scope in its own initialiser. Of a `for`, the step comes before the body.
  pub statement_faults : Bool → SourceStatement → Names → List CheckError
  statement_faults in_loop (Scope items) names = list_faults in_loop items (entered names)
  statement_faults in_loop (ScalarDeclaration symbol line initial) names =
      scalar_faults names symbol line ++ (depth_faults (optional_need initial) line
      ++ optional_faults (with_scalar names symbol) initial)
  statement_faults in_loop (ArrayDeclaration symbol line at size values) names = array_faults names symbol line at size values
  statement_faults in_loop (Assignment symbol line index bracket op at value) names =
      assignment_faults names symbol line index op value
  statement_faults in_loop (Printing line value) names = measured_faults names line value
  statement_faults in_loop (Evaluation line value) names = measured_faults names line value
  statement_faults in_loop (Branch line test body otherwise) names =
      measured_faults names line test ++ (statement_faults in_loop body names
      ++ branch_faults in_loop otherwise (names_behind body names))
  statement_faults in_loop (WhileLoop line test body) names =
      measured_faults names line test ++ statement_faults true body names
  statement_faults in_loop (DoLoop line body test) names =
      statement_faults true body names ++ measured_faults (names_behind body names) line test
  statement_faults in_loop (ForLoop line first test step body) names =
      let inside = names_behind_list first (entered names) in
      list_faults in_loop first (entered names) ++ (measured_faults inside line test
      ++ (branch_faults in_loop step inside ++ statement_faults true body (names_behind_optional step inside)))
  statement_faults in_loop (BreakOut line) names = jump_faults in_loop line
  statement_faults in_loop (ContinueOn line) names = jump_faults in_loop line
  statement_faults in_loop (ReturnFrom line value) names = measured_faults names line value
  statement_faults in_loop Nothing names = []

  -- the faults of a statement that may be left out
  pub branch_faults : Bool → OptionalStatement → Names → List CheckError
  branch_faults in_loop Absent names = []
  branch_faults in_loop (Present statement) names = statement_faults in_loop statement names

  -- the faults of statements in order
  pub list_faults : Bool → SourceList → Names → List CheckError
  list_faults in_loop No_more names = []
  list_faults in_loop (More first rest) names =
      statement_faults in_loop first names ++ list_faults in_loop rest (names_behind first names)

-- the faults of a program
abbrev pub faults : SourceProgram → List CheckError
faults program = list_faults false program.items no_names
