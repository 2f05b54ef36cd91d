-- How programs are written in these proofs. Everything stands in line 1, where no other line is named.
use Rattle.std.proofs.Common.{ℕ, ℤ, List, [], ◌∷◌, map, Some, None, pos}
use Rattle.pc_word.specs.declared.item.End.TheVariants.{Ended, Trapped}
use Rattle.pc_word.specs.declared.item.TrapKind.{TrapKind}
use Rattle.pc_word.specs.Run.{Seen}
use Rattle.pc_syntax.specs.declared.operator.UnaryOp.TheVariants.{Minus}
use Rattle.pc_syntax.specs.declared.operator.BinaryOp.{BinaryOp}
use Rattle.pc_syntax.specs.declared.operator.BinaryOp.TheVariants.{Add, Less}
use Rattle.pc_syntax.specs.Source.{SourceExpression, SourceStatement, ResolvedProgram, Literal, Variable, Input, Indexed, Prefixed, Combined, Scope}
use Rattle.pc_syntax.specs.Source.{ScalarDeclaration, ArrayDeclaration, Assignment, Printing, Branch, ForLoop, Absent, Present}
use Rattle.pc_syntax.proofs.SourceLists.{source_list}
use Rattle.pc_meaning.specs.SourceRun.{source_run}
use Rattle.pc_meaning.specs.Trace.{Kind, trace_of}

-- int main(void){items}, with at most ten scalars and arrays of these lengths
abbrev pub program : List SourceStatement → List ℕ → ResolvedProgram
program items lengths = record { scalars = 10; arrays = lengths; initial = []; body = source_list items }

-- the same program, whose arrays begin with these data
abbrev pub with_data : List (List ℤ) → (List ℕ → ResolvedProgram) → List ℕ → ResolvedProgram
with_data initial program lengths = record (program lengths) { initial = initial }

-- what it shows on an input, with at most so many turns
abbrev pub shown_by : (List ℕ → ResolvedProgram) → List ℕ → List ℤ → ℕ → Seen
shown_by program lengths input turns = source_run (program lengths) input turns

-- what it passes
abbrev pub passed_by : (List ℕ → ResolvedProgram) → List ℕ → List ℤ → ℕ → List Kind
passed_by program lengths input turns = trace_of (program lengths) input turns

-- ---- expressions

-- n
abbrev pub number : ℕ → SourceExpression
number n = Literal (pos n)

-- -e
abbrev pub minus : SourceExpression → SourceExpression
minus e = Prefixed Minus e

-- x
abbrev pub scalar : ℕ → SourceExpression
scalar x = Variable x 1

-- a[index]
abbrev pub at : ℕ → SourceExpression → SourceExpression
at a index = Indexed a 1 1 index

-- read()
abbrev pub read : SourceExpression
read = Input 1

-- left op right
abbrev pub on : BinaryOp → SourceExpression → SourceExpression → SourceExpression
on op left right = Combined op 1 left right

-- left + right
abbrev pub plus : SourceExpression → SourceExpression → SourceExpression
plus left right = on Add left right

-- ---- statements

-- int x;
abbrev pub new : ℕ → SourceStatement
new x = ScalarDeclaration x 1 None

-- int x=e;
abbrev pub new_as : ℕ → SourceExpression → SourceStatement
new_as x e = ScalarDeclaration x 1 (Some e)

-- int a[length];
abbrev pub new_array : ℕ → ℕ → SourceStatement
new_array a length = ArrayDeclaration a 1 1 length []

-- x=e;
abbrev pub put : ℕ → SourceExpression → SourceStatement
put x e = Assignment x 1 None 1 None 1 e

-- x op=e;
abbrev pub change : ℕ → BinaryOp → SourceExpression → SourceStatement
change x op e = Assignment x 1 None 1 (Some op) 1 e

-- a[index]=e;
abbrev pub put_at : ℕ → SourceExpression → SourceExpression → SourceStatement
put_at a index e = Assignment a 1 (Some index) 1 None 1 e

-- a[index]op=e;
abbrev pub change_at : ℕ → SourceExpression → BinaryOp → SourceExpression → SourceStatement
change_at a index op e = Assignment a 1 (Some index) 1 (Some op) 1 e

-- print(e);
abbrev pub print : SourceExpression → SourceStatement
print e = Printing 1 e

-- {items}
abbrev pub block : List SourceStatement → SourceStatement
block items = Scope (source_list items)

-- if(test)body
abbrev pub when : SourceExpression → SourceStatement → SourceStatement
when test body = Branch 1 test body Absent

-- for(x=0;x<bound;x++)body
abbrev pub count : ℕ → ℕ → SourceStatement → SourceStatement
count x bound body =
    ForLoop 1 (source_list (put x (number 0) ∷ [])) (on Less (scalar x) (number bound)) (Present (change x Add (number 1))) body

-- ---- what is seen

-- these numbers were printed, and the program has ended
abbrev pub ended : List ℕ → Seen
ended printed = record { printed = map pos printed; end = Some Ended }

-- these numbers were printed, and a trap of the line has ended the program
abbrev pub trapped : List ℕ → TrapKind → ℕ → Seen
trapped printed kind line = record { printed = map pos printed; end = Some (Trapped kind line) }

-- these numbers were printed, and the turns are spent
abbrev pub going : List ℕ → Seen
going printed = record { printed = map pos printed; end = None }
