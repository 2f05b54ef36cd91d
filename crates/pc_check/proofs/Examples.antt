-- Small programs with their faults, slots and sizes, worked out by hand: each computes. A program's text
-- stands above it; where lines are not named, a statement stands on the line of its place.
use Rattle.std.proofs.Common.{◌≡◌, refl, ap, ℕ, ℤ, zero, suc, ◌+◌, ◌*◌, pos, List, [], ◌∷◌, ◌++◌, Some, None, arith}
use Rattle.std.specs.Prelude.{negsuc}
use Rattle.pc_syntax.specs.declared.constant.Const.{Const}
use Rattle.pc_syntax.specs.declared.operator.BinaryOp.TheVariants as op
use Rattle.pc_syntax.specs.Source.{SourceExpression, Literal, Variable, Input, Indexed, Combined, SourceStatement, Scope, ScalarDeclaration}
use Rattle.pc_syntax.specs.Source.{ArrayDeclaration, Assignment, Printing, Branch, WhileLoop, DoLoop, ForLoop, BreakOut, ContinueOn, Absent, Present}
use Rattle.pc_syntax.specs.Source.{SourceList, No_more, More, SourceProgram}
use Rattle.pc_syntax.proofs.SourceLists.{source_list}
use Rattle.pc_check.specs.declared.error.CheckError.TheVariants as fault
use Rattle.pc_check.specs.InitialData.{data_of}
use Rattle.pc_check.specs.Needs.{need}
use Rattle.pc_check.specs.Sizes.{size, list_size, statement_size, expression_size}
use Rattle.pc_check.specs.Faults.{faults, expression_faults, statement_faults, names_behind}
use Rattle.pc_check.specs.Resolution.{resolved, resolved_expression, resolved_statement}

abbrev program : List SourceStatement → SourceProgram
program items = record { items = source_list items }

-- the names of the examples
abbrev x : ℕ
x = 0

abbrev y : ℕ
y = 1

abbrev a : ℕ
a = 2

-- `int name;` at a line
abbrev int_at : ℕ → ℕ → SourceStatement
int_at line name = ScalarDeclaration name line None

-- `int name[length];` at a line
abbrev array_at : ℕ → ℕ → ℕ → SourceStatement
array_at line name length = ArrayDeclaration name line line length []

-- `static int name[length]={values};` at a line
abbrev static_at : ℕ → ℕ → ℕ → List Const → SourceStatement
static_at line name length values = ArrayDeclaration name line line length values

-- a constant at a line
abbrev constant : ℕ → ℤ → Const
constant line value = record { line = line; value = value }

-- `name = 1;` at a line
abbrev set_at : ℕ → ℕ → SourceStatement
set_at line name = Assignment name line None line None line (Literal (pos 1))

-- `name = value;` at a line
abbrev assign_at : ℕ → ℕ → SourceExpression → SourceStatement
assign_at line name value = Assignment name line None line None line value

-- `name[0] = 1;` at a line
abbrev set_element_at : ℕ → ℕ → SourceStatement
set_element_at line name = Assignment name line (Some (Literal (pos 0))) line None line (Literal (pos 1))

-- ---- each fault at its place

-- `x = 1;`
undeclared : faults (program (set_at 1 x ∷ [])) ≡ fault.Undeclared 1 ∷ []
unfolding expression_faults statement_faults names_behind need
undeclared = refl

-- `int x;` and again
redeclared : faults (program (int_at 1 x ∷ int_at 2 x ∷ [])) ≡ fault.Redeclared 2 ∷ []
unfolding expression_faults statement_faults names_behind need
redeclared = refl

-- `int x; x[0] = 1;`
no_array : faults (program (int_at 1 x ∷ set_element_at 2 x ∷ [])) ≡ fault.NotArray 2 ∷ []
unfolding expression_faults statement_faults names_behind need
no_array = refl

-- `int a[2]; a = 1;`, and `x = a;` too
no_scalar : faults (program (array_at 1 a 2 ∷ int_at 2 x ∷ set_at 3 a ∷ assign_at 4 x (Variable a 5) ∷ []))
    ≡ fault.NotScalar 3 ∷ fault.NotScalar 5 ∷ []
unfolding expression_faults statement_faults names_behind need
no_scalar = refl

-- arrays of 0, of 65,537 and of 65,536 elements
bad_size : faults (program (ArrayDeclaration x 1 2 0 [] ∷ ArrayDeclaration y 3 4 65537 [] ∷ array_at 5 a 65536 ∷ []))
    ≡ fault.BadSize 2 ∷ fault.BadSize 4 ∷ []
unfolding expression_faults statement_faults names_behind need
bad_size = refl

-- `static int a[2]={1,
-- 2,
-- 3,
-- 4};`, which is told at the first value too many, and so where the rest is 0 too
too_many_values : faults (program (static_at 1 a 2 (constant 1 (pos 1) ∷ constant 2 (pos 2) ∷ constant 3 (pos 0) ∷ constant 4 (pos 0) ∷ []) ∷ []))
    ≡ fault.TooManyValues 3 ∷ []
unfolding expression_faults statement_faults names_behind need
too_many_values = refl

-- `static int a[0]={1};`, where the length comes first
size_before_values : faults (program (static_at 1 a 0 (constant 2 (pos 1) ∷ []) ∷ [])) ≡ fault.BadSize 1 ∷ fault.TooManyValues 2 ∷ []
unfolding expression_faults statement_faults names_behind need
size_before_values = refl

-- `break;`, `continue;`, and both in a loop's body, there also in an `if` and a block
outside_loop : faults (program (BreakOut 1 ∷ ContinueOn 2
    ∷ WhileLoop 3 (Literal (pos 1)) (Branch 3 (Literal (pos 1)) (BreakOut 3) (Present (Scope (More (ContinueOn 4) No_more))))
    ∷ DoLoop 5 (BreakOut 5) (Literal (pos 1))
    ∷ Branch 6 (Literal (pos 1)) (BreakOut 7) Absent ∷ []))
    ≡ fault.OutsideLoop 1 ∷ fault.OutsideLoop 2 ∷ fault.OutsideLoop 7 ∷ []
unfolding expression_faults statement_faults names_behind need
outside_loop = refl

-- ---- scopes

-- `x = 1; int x;`
before_its_declaration : faults (program (set_at 1 x ∷ int_at 2 x ∷ [])) ≡ fault.Undeclared 1 ∷ []
unfolding expression_faults statement_faults names_behind need
before_its_declaration = refl

-- `int y; { int x; x = 1; y = 1; } x = 1;`
left_behind : faults (program (int_at 1 y ∷ Scope (source_list (int_at 2 x ∷ set_at 2 x ∷ set_at 2 y ∷ [])) ∷ set_at 3 x ∷ []))
    ≡ fault.Undeclared 3 ∷ []
unfolding expression_faults statement_faults names_behind need
left_behind = refl

-- `int x; { int x; x = 1; { int x; x = 1; } } int y; y = x;`: an inner declaration hides an outer one, and no slot comes twice
hidden : SourceProgram
hidden = program (int_at 1 x
    ∷ Scope (source_list (int_at 2 x ∷ set_at 3 x ∷ Scope (source_list (int_at 4 x ∷ set_at 5 x ∷ [])) ∷ []))
    ∷ int_at 6 y ∷ assign_at 7 y (Variable x 7) ∷ [])

hidden-faults : faults hidden ≡ []
unfolding hidden expression_faults statement_faults names_behind need
hidden-faults = refl

hidden-slots : resolved hidden ≡ record {
  scalars = 4;
  arrays = [];
  initial = [];
  body = source_list (int_at 1 0
      ∷ Scope (source_list (int_at 2 1 ∷ set_at 3 1 ∷ Scope (source_list (int_at 4 2 ∷ set_at 5 2 ∷ [])) ∷ []))
      ∷ int_at 6 3 ∷ assign_at 7 3 (Variable 0 7) ∷ []);
}
unfolding hidden expression_faults statement_faults names_behind need resolved_expression resolved_statement
hidden-slots = refl

-- `int a[3]; int x = x; { int y[5]; y[x] = a[0]; }`: arrays and scalars are counted apart, and a scalar is known in its own initialiser
numbered : SourceProgram
numbered = program (array_at 1 a 3 ∷ ScalarDeclaration x 2 (Some (Variable x 2))
    ∷ Scope (source_list (array_at 3 y 5 ∷ Assignment y 4 (Some (Variable x 4)) 4 None 4 (Indexed a 4 4 (Literal (pos 0))) ∷ [])) ∷ [])

numbered-faults : faults numbered ≡ []
unfolding numbered expression_faults statement_faults names_behind need
numbered-faults = refl

numbered-slots : resolved numbered ≡ record {
  scalars = 1;
  arrays = 3 ∷ 5 ∷ [];
  initial = [] ∷ [] ∷ [];
  body = source_list (array_at 1 0 3 ∷ ScalarDeclaration 0 2 (Some (Variable 0 2))
      ∷ Scope (source_list (array_at 3 1 5 ∷ Assignment 1 4 (Some (Variable 0 4)) 4 None 4 (Indexed 0 4 4 (Literal (pos 0))) ∷ [])) ∷ []);
}
unfolding numbered expression_faults statement_faults names_behind need resolved_expression resolved_statement data_of
numbered-slots = refl

-- `static int a[4]={5,-6,0,0}; { static int a[2]={0}; static int y[3]={0,
-- 7,0}; }`: each array has its data, and zeros at the end are left out
with_values : SourceProgram
with_values = program (static_at 1 a 4 (constant 1 (pos 5) ∷ constant 1 (negsuc 5) ∷ constant 1 (pos 0) ∷ constant 1 (pos 0) ∷ [])
    ∷ Scope (source_list (static_at 1 a 2 (constant 1 (pos 0) ∷ [])
    ∷ static_at 1 y 3 (constant 1 (pos 0) ∷ constant 2 (pos 7) ∷ constant 2 (pos 0) ∷ []) ∷ [])) ∷ [])

with_values-faults : faults with_values ≡ []
unfolding with_values expression_faults statement_faults names_behind need
with_values-faults = refl

with_values-data : (resolved with_values).initial ≡ (pos 5 ∷ negsuc 5 ∷ []) ∷ [] ∷ (pos 0 ∷ pos 7 ∷ []) ∷ []
unfolding with_values expression_faults statement_faults names_behind need resolved_expression resolved_statement data_of
with_values-data = refl

-- `for (int x = 0; x < y; x += a) x = 1; x = 1;` with none of the others declared: the condition, then the step, then
-- what follows, where x is not known
for_scope : faults (program (ForLoop 1 (source_list (ScalarDeclaration x 1 (Some (Literal (pos 0))) ∷ []))
    (Combined op.Less 2 (Variable x 2) (Variable y 2)) (Present (Assignment x 3 None 3 (Some op.Add) 3 (Variable a 3)))
    (assign_at 4 x (Variable y 4)) ∷ set_at 5 x ∷ []))
    ≡ fault.Undeclared 2 ∷ fault.Undeclared 3 ∷ fault.Undeclared 4 ∷ fault.Undeclared 5 ∷ []
unfolding expression_faults statement_faults names_behind need
for_scope = refl

-- ---- two faults in both orders

-- `y = 1; break;` and `break; y = 1;`
name_then_jump : faults (program (set_at 1 y ∷ BreakOut 2 ∷ [])) ≡ fault.Undeclared 1 ∷ fault.OutsideLoop 2 ∷ []
unfolding expression_faults statement_faults names_behind need
name_then_jump = refl

jump_then_name : faults (program (BreakOut 1 ∷ set_at 2 y ∷ [])) ≡ fault.OutsideLoop 1 ∷ fault.Undeclared 2 ∷ []
unfolding expression_faults statement_faults names_behind need
jump_then_name = refl

-- `int x; int x[0];`: the name comes before the length
name_then_length : faults (program (int_at 1 x ∷ ArrayDeclaration x 2 3 0 [] ∷ [])) ≡ fault.Redeclared 2 ∷ fault.BadSize 3 ∷ []
unfolding expression_faults statement_faults names_behind need
name_then_length = refl

-- ---- limits

-- `int v1;` at line 2, `int v2;` at line 3, and so on: so many
scalars_from : ℕ → ℕ → List SourceStatement
scalars_from first zero = []
scalars_from first (suc n) = int_at (first + 2) first ∷ scalars_from (first + 1) n

-- so many arrays of one length, each on the line of its number
arrays_from : ℕ → ℕ → ℕ → List SourceStatement
arrays_from length first zero = []
arrays_from length first (suc n) = array_at (first + 1) first length ∷ arrays_from length (first + 1) n

scalars_64 : faults (program (scalars_from 0 64)) ≡ []
unfolding scalars_from expression_faults statement_faults names_behind need
scalars_64 = refl

scalars_65 : faults (program (scalars_from 0 65)) ≡ fault.TooManyScalars 66 ∷ []
unfolding scalars_from expression_faults statement_faults names_behind need
scalars_65 = refl

-- a name that is there already is told before the limit
scalars_64_and_one_again : faults (program (scalars_from 0 64 ++ int_at 70 5 ∷ [])) ≡ fault.Redeclared 70 ∷ []
unfolding scalars_from expression_faults statement_faults names_behind need
scalars_64_and_one_again = refl

arrays_32 : faults (program (arrays_from 1 0 32)) ≡ []
unfolding arrays_from expression_faults statement_faults names_behind need
arrays_32 = refl

arrays_33 : faults (program (arrays_from 1 0 33)) ≡ fault.TooManyArrays 33 ∷ []
unfolding arrays_from expression_faults statement_faults names_behind need
arrays_33 = refl

elements_1048576 : faults (program (arrays_from 65536 0 16)) ≡ []
unfolding arrays_from expression_faults statement_faults names_behind need
elements_1048576 = refl

elements_1048577 : faults (program (arrays_from 65536 0 16 ++ ArrayDeclaration 99 50 51 1 [] ∷ [])) ≡ fault.TooManyElements 51 ∷ []
unfolding arrays_from expression_faults statement_faults names_behind need
elements_1048577 = refl

-- a length that is bad by itself is told as that
elements_and_bad_size : faults (program (arrays_from 65536 0 16 ++ ArrayDeclaration 99 50 51 70000 [] ∷ [])) ≡ fault.BadSize 51 ∷ []
unfolding arrays_from expression_faults statement_faults names_behind need
elements_and_bad_size = refl

-- ---- depth

-- `name[0] + (name[0] + ( .. ))` over one element more than n
sum_over : ℕ → ℕ → SourceExpression
sum_over name zero = Indexed name 9 9 (Literal (pos 0))
sum_over name (suc n) = Combined op.Add 9 (Indexed name 9 9 (Literal (pos 0))) (sum_over name n)

-- over 32 elements `print` is accepted
over_32 : faults (program (array_at 1 a 1 ∷ Printing 2 (sum_over a 31) ∷ [])) ≡ []
unfolding sum_over expression_faults statement_faults names_behind need
over_32 = refl

over_33 : faults (program (array_at 1 a 1 ∷ Printing 2 (sum_over a 32) ∷ [])) ≡ fault.TooDeep 2 ∷ []
unfolding sum_over expression_faults statement_faults names_behind need
over_33 = refl

-- an expression that needs 33 temporaries, and whose last name is not declared
deep_unknown : ℕ → SourceExpression
deep_unknown zero = Combined op.Add 9 (Indexed a 9 9 (Literal (pos 0))) (Indexed y 8 8 (Literal (pos 0)))
deep_unknown (suc n) = Combined op.Add 9 (Indexed a 9 9 (Literal (pos 0))) (deep_unknown n)

-- the name of the target, then the depth, then what is inside
depth_behind_the_name : faults (program (array_at 1 a 1 ∷ assign_at 2 x (deep_unknown 31) ∷ []))
    ≡ fault.Undeclared 2 ∷ fault.TooDeep 2 ∷ fault.Undeclared 8 ∷ []
unfolding deep_unknown expression_faults statement_faults names_behind need
depth_behind_the_name = refl

-- of a `do` after the body, of a `while` before it
depth_of_do : faults (program (array_at 1 a 1 ∷ DoLoop 2 (set_at 3 x) (sum_over a 32) ∷ [])) ≡ fault.Undeclared 3 ∷ fault.TooDeep 2 ∷ []
unfolding sum_over expression_faults statement_faults names_behind need
depth_of_do = refl

depth_of_while : faults (program (array_at 1 a 1 ∷ WhileLoop 2 (sum_over a 32) (set_at 3 x) ∷ [])) ≡ fault.TooDeep 2 ∷ fault.Undeclared 3 ∷ []
unfolding sum_over expression_faults statement_faults names_behind need
depth_of_while = refl

-- of a `for` after the first part
depth_of_for : faults (program (array_at 1 a 1 ∷ ForLoop 2 (source_list (set_at 3 x ∷ [])) (sum_over a 32) (Present (set_at 4 x)) (set_at 5 x) ∷ []))
    ≡ fault.Undeclared 3 ∷ fault.TooDeep 2 ∷ fault.Undeclared 4 ∷ fault.Undeclared 5 ∷ []
unfolding sum_over expression_faults statement_faults names_behind need
depth_of_for = refl

-- ---- sizes

-- `int x = read(); print(x / 2 + 1);`
sized : size (program (ScalarDeclaration x 1 (Some (Input 1))
    ∷ Printing 1 (Combined op.Add 1 (Combined op.Div 1 (Variable x 1) (Literal (pos 2))) (Literal (pos 1))) ∷ [])) ≡ 11
unfolding statement_size expression_size
sized = refl

-- `print(x / y);` so many times
quotients : ℕ → SourceList
quotients zero = No_more
quotients (suc n) = More (Printing 1 (Combined op.Div 1 (Variable x 1) (Variable y 1))) (quotients n)

quotients-size : (n : ℕ) → list_size (quotients n) ≡ n * 4
unfolding quotients statement_size expression_size
quotients-size zero = refl
quotients-size (suc n) = let rest = quotients-size n in omega arith

-- `int x; int y;` and 4,096 of them
nodes_16387 : size (record { items = More (int_at 1 x) (More (int_at 1 y) (quotients 4096)) }) ≡ 16387
unfolding statement_size
nodes_16387 = ap (λ (n : ℕ). 1 + (1 + n) + 1) (quotients-size 4096)
