-- The loops of a program's text, in the order of their keywords.
use Rattle.std.specs.Prelude.{ℕ, ◌+◌, List, [], ◌∷◌, ◌++◌, length, map, Option, Some, None}
use Rattle.pc_word.specs.declared.loop_mark.LoopMark.{LoopMark}
use Rattle.pc_syntax.specs.Source.{SourceStatement, Scope, ScalarDeclaration, ArrayDeclaration, Assignment, Printing, Evaluation, Branch, WhileLoop}
use Rattle.pc_syntax.specs.Source.{DoLoop, ForLoop, BreakOut, ContinueOn, ReturnFrom, Nothing, OptionalStatement, Absent, Present, SourceList}
use Rattle.pc_syntax.specs.Source.{No_more, More, ResolvedProgram}

-- a loop: the line of its keyword, and the number of the innermost loop in whose text it stands
pub record SourceLoop : Type 0 where
  pub line : ℕ
  pub outer : Option ℕ

-- the loop that a mark is of
abbrev pub source_loop : LoopMark → SourceLoop
source_loop mark = record { line = mark.line; outer = mark.outer }

-- the loops that marks are of
abbrev pub source_loops : List LoopMark → List SourceLoop
source_loops marks = map source_loop marks

-- one more loop
abbrev pub with_loop : ℕ → Option ℕ → List SourceLoop → List SourceLoop
with_loop line outer loops = loops ++ record { line = line; outer = outer } ∷ []

unfoldable mutual
  -- The loops so far, and after them those of a statement that stands in the text of a loop or of none. A loop's number
  -- is how many stand before it. Its body and the step of a `for` stand in it; the first part of a `for` does not.
  pub with_loops : SourceStatement → Option ℕ → List SourceLoop → List SourceLoop
  with_loops (Scope items) outer loops = with_list_loops items outer loops
  with_loops (ScalarDeclaration name line initial) outer loops = loops
  with_loops (ArrayDeclaration name line at length values) outer loops = loops
  with_loops (Assignment name line index bracket op at value) outer loops = loops
  with_loops (Printing line value) outer loops = loops
  with_loops (Evaluation line value) outer loops = loops
  with_loops (Branch line test body otherwise) outer loops = with_branch_loops otherwise outer (with_loops body outer loops)
  with_loops (WhileLoop line test body) outer loops = with_loops body (Some (length loops)) (with_loop line outer loops)
  with_loops (DoLoop line body test) outer loops = with_loops body (Some (length loops)) (with_loop line outer loops)
  with_loops (ForLoop line first test step body) outer loops =
      with_loops body (Some (length loops)) (with_branch_loops step (Some (length loops)) (with_list_loops first outer (with_loop line outer loops)))
  with_loops (BreakOut line) outer loops = loops
  with_loops (ContinueOn line) outer loops = loops
  with_loops (ReturnFrom line value) outer loops = loops
  with_loops Nothing outer loops = loops

  -- the same of a statement that may be left out
  pub with_branch_loops : OptionalStatement → Option ℕ → List SourceLoop → List SourceLoop
  with_branch_loops Absent outer loops = loops
  with_branch_loops (Present statement) outer loops = with_loops statement outer loops

  -- and of statements in order
  pub with_list_loops : SourceList → Option ℕ → List SourceLoop → List SourceLoop
  with_list_loops No_more outer loops = loops
  with_list_loops (More first rest) outer loops = with_list_loops rest outer (with_loops first outer loops)

unfoldable mutual
  -- how many loops a statement has
  pub loop_count : SourceStatement → ℕ
  loop_count (Scope items) = list_loops items
  loop_count (ScalarDeclaration name line initial) = 0
  loop_count (ArrayDeclaration name line at length values) = 0
  loop_count (Assignment name line index bracket op at value) = 0
  loop_count (Printing line value) = 0
  loop_count (Evaluation line value) = 0
  loop_count (Branch line test body otherwise) = loop_count body + branch_loops otherwise
  loop_count (WhileLoop line test body) = loop_count body + 1
  loop_count (DoLoop line body test) = loop_count body + 1
  loop_count (ForLoop line first test step body) = list_loops first + (branch_loops step + loop_count body) + 1
  loop_count (BreakOut line) = 0
  loop_count (ContinueOn line) = 0
  loop_count (ReturnFrom line value) = 0
  loop_count Nothing = 0

  -- the same of a statement that may be left out
  pub branch_loops : OptionalStatement → ℕ
  branch_loops Absent = 0
  branch_loops (Present statement) = loop_count statement

  -- and of statements in order
  pub list_loops : SourceList → ℕ
  list_loops No_more = 0
  list_loops (More first rest) = loop_count first + list_loops rest

-- the loops of a program
abbrev pub loops_of : ResolvedProgram → List SourceLoop
loops_of program = with_list_loops program.body None []
