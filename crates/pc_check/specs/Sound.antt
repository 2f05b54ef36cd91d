-- What holds of every checked program: each name is a slot that there is, no expression needs too many
-- temporaries, and each `break` and `continue` stands in a loop's body.
use Rattle.std.specs.Prelude.{ℕ, Bool, true, ◌&&◌, Option, Some, None, nat_lt, nat_le}
use Rattle.pc_word.specs.SourceLimits.{most_temporaries}
use Rattle.pc_word.specs.MachineLimits.{most_length}
use Rattle.pc_syntax.specs.Source.{SourceExpression, Literal, Variable, Input, Indexed, Prefixed, Combined, Conjunction, Disjunction, Conditional}
use Rattle.pc_syntax.specs.Source.{SourceStatement, Scope, ScalarDeclaration, ArrayDeclaration, Assignment, Printing, Evaluation, Branch, WhileLoop}
use Rattle.pc_syntax.specs.Source.{DoLoop, ForLoop, BreakOut, ContinueOn, ReturnFrom, Nothing, OptionalStatement, Absent, Present, SourceList}
use Rattle.pc_syntax.specs.Source.{No_more, More}
use Rattle.pc_check.specs.Needs.{need, optional_need, assignment_need}

-- the length of an array is at least 1, and not too great
abbrev pub is_length : ℕ → Bool
is_length size = nat_le 1 size && nat_le size most_length

-- the names of an expression are numbers of scalars and of arrays that there are, so many of each
unfoldable pub has_slots : ℕ → ℕ → SourceExpression → Bool
has_slots scalars arrays (Literal value) = true
has_slots scalars arrays (Variable number line) = nat_lt number scalars
has_slots scalars arrays (Input line) = true
has_slots scalars arrays (Indexed number line at index) = nat_lt number arrays && has_slots scalars arrays index
has_slots scalars arrays (Prefixed op operand) = has_slots scalars arrays operand
has_slots scalars arrays (Combined op at left right) = has_slots scalars arrays left && has_slots scalars arrays right
has_slots scalars arrays (Conjunction left right) = has_slots scalars arrays left && has_slots scalars arrays right
has_slots scalars arrays (Disjunction left right) = has_slots scalars arrays left && has_slots scalars arrays right
has_slots scalars arrays (Conditional test one other) =
    has_slots scalars arrays test && (has_slots scalars arrays one && has_slots scalars arrays other)

-- the same of an expression that may be left out
abbrev pub optional_has_slots : ℕ → ℕ → Option SourceExpression → Bool
optional_has_slots scalars arrays None = true
optional_has_slots scalars arrays (Some e) = has_slots scalars arrays e

-- an expression that is measured by itself needs no more temporaries than there are, and has slots
abbrev pub is_measured : ℕ → ℕ → SourceExpression → Bool
is_measured scalars arrays e = nat_le (need e) most_temporaries && has_slots scalars arrays e

-- the target of an assignment is a scalar, or with an index an array
abbrev pub has_target : ℕ → ℕ → Option SourceExpression → ℕ → Bool
has_target scalars arrays None number = nat_lt number scalars
has_target scalars arrays (Some index) number = nat_lt number arrays

unfoldable mutual
  -- a statement, inside the body of a loop or not
  pub is_sound : ℕ → ℕ → Bool → SourceStatement → Bool
  is_sound scalars arrays in_loop (Scope items) = list_is_sound scalars arrays in_loop items
  is_sound scalars arrays in_loop (ScalarDeclaration number line initial) =
      nat_lt number scalars && (nat_le (optional_need initial) most_temporaries && optional_has_slots scalars arrays initial)
  is_sound scalars arrays in_loop (ArrayDeclaration number line at size values) = nat_lt number arrays
  is_sound scalars arrays in_loop (Assignment number line index bracket op at value) =
      has_target scalars arrays index number && (nat_le (assignment_need index op value) most_temporaries
      && (optional_has_slots scalars arrays index && has_slots scalars arrays value))
  is_sound scalars arrays in_loop (Printing line value) = is_measured scalars arrays value
  is_sound scalars arrays in_loop (Evaluation line value) = is_measured scalars arrays value
  is_sound scalars arrays in_loop (Branch line test body otherwise) =
      is_measured scalars arrays test && (is_sound scalars arrays in_loop body && branch_is_sound scalars arrays in_loop otherwise)
  is_sound scalars arrays in_loop (WhileLoop line test body) = is_measured scalars arrays test && is_sound scalars arrays true body
  is_sound scalars arrays in_loop (DoLoop line body test) = is_sound scalars arrays true body && is_measured scalars arrays test
  is_sound scalars arrays in_loop (ForLoop line first test step body) =
      list_is_sound scalars arrays in_loop first && (is_measured scalars arrays test
      && (branch_is_sound scalars arrays in_loop step && is_sound scalars arrays true body))
  is_sound scalars arrays in_loop (BreakOut line) = in_loop
  is_sound scalars arrays in_loop (ContinueOn line) = in_loop
  is_sound scalars arrays in_loop (ReturnFrom line value) = is_measured scalars arrays value
  is_sound scalars arrays in_loop Nothing = true

  -- a statement that may be left out
  pub branch_is_sound : ℕ → ℕ → Bool → OptionalStatement → Bool
  branch_is_sound scalars arrays in_loop Absent = true
  branch_is_sound scalars arrays in_loop (Present statement) = is_sound scalars arrays in_loop statement

  -- statements in order
  pub list_is_sound : ℕ → ℕ → Bool → SourceList → Bool
  list_is_sound scalars arrays in_loop No_more = true
  list_is_sound scalars arrays in_loop (More first rest) =
      is_sound scalars arrays in_loop first && list_is_sound scalars arrays in_loop rest
