-- One small program for each rule of the language that a definition could get wrong, and what it shows.
use Rattle.std.proofs.Common.{◌≡◌, ℕ, List, [], ◌∷◌, refl, Some, None, pos}
use Rattle.std.specs.Prelude.{negsuc}
use Rattle.std.specs.Int.{int_wrap}
use Rattle.pc_word.specs.declared.item.End.TheVariants.{Ended}
use Rattle.pc_word.specs.declared.item.TrapKind.TheVariants.{DivideByZero, OutOfBounds, EndOfInput}
use Rattle.pc_word.specs.declared.item.OpCode.TheVariants as codes
use Rattle.pc_word.specs.Word.{word_add, word_sub, word_rem, word_shl, word_shr, word_xor, word_less, word_less_eq, word_equal}
use Rattle.pc_syntax.specs.declared.operator.UnaryOp.TheVariants.{Flip, Not}
use Rattle.pc_syntax.specs.declared.operator.BinaryOp.TheVariants.{Add, Sub, Div, Rem, Shl, Shr, Less, Greater, GreaterEq, Equal}
use Rattle.pc_syntax.specs.Source.{SourceExpression, SourceStatement, ResolvedProgram, Prefixed, Conjunction, Disjunction, Conditional, Assignment, WhileLoop, DoLoop, BreakOut, ContinueOn, ReturnFrom}
use Rattle.pc_meaning.specs.SourceRun.{outcome_of, source_run}
use Rattle.pc_meaning.specs.Trace.{trace_of, Binary_node, Copy_node, Load_node, Store_node, Print_node, Read_node, More_node, Test_node}
use Rattle.pc_meaning.proofs.Programs.{program, shown_by, passed_by, number, minus, scalar, at, read, on, plus, new, new_as, new_array, put, change}
use Rattle.pc_meaning.proofs.Programs.{put_at, change_at, print, block, when, count, ended, trapped, going}

-- ---- operators

-- print(1<<33);print(-8>>33);print(~5);print(!5);print(!0);print(2>1);print(1>=2);
operators : shown_by (program (
    print (on Shl (number 1) (number 33)) ∷ print (on Shr (minus (number 8)) (number 33)) ∷ print (Prefixed Flip (number 5)) ∷
    print (Prefixed Not (number 5)) ∷ print (Prefixed Not (number 0)) ∷
    print (on Greater (number 2) (number 1)) ∷ print (on GreaterEq (number 1) (number 2)) ∷ [])) [] [] 0
    ≡ record { printed = pos 2 ∷ negsuc 3 ∷ negsuc 5 ∷ pos 0 ∷ pos 1 ∷ pos 1 ∷ pos 0 ∷ []; end = Some Ended }
unfolding source_run outcome_of word_sub word_shl word_shr word_xor word_equal word_less word_less_eq int_wrap
operators = refl

-- print(read()-read()); : the left operand comes first
left_first : shown_by (program (print (on Sub read read) ∷ [])) [] (pos 5 ∷ pos 3 ∷ []) 0 ≡ ended (2 ∷ [])
unfolding source_run outcome_of word_sub int_wrap
left_first = refl

-- 1/0, which shows where it is evaluated
abbrev crash : SourceExpression
crash = on Div (number 1) (number 0)

-- print(0&&1/0);print(3&&2);print(3||1/0);print(0||0);print(1?4:1/0);print(0?1/0:5);
choices : shown_by (program (
    print (Conjunction (number 0) crash) ∷ print (Conjunction (number 3) (number 2)) ∷
    print (Disjunction (number 3) crash) ∷ print (Disjunction (number 0) (number 0)) ∷
    print (Conditional (number 1) (number 4) crash) ∷ print (Conditional (number 0) crash (number 5)) ∷ [])) [] [] 0
    ≡ ended (0 ∷ 1 ∷ 1 ∷ 0 ∷ 4 ∷ 5 ∷ [])
unfolding source_run outcome_of
choices = refl

-- ---- assignments

-- a[read()]=read();print(a[1]); : the index comes before the value
index_first : shown_by (program (new_array 0 2 ∷ put_at 0 read read ∷ print (at 0 (number 1)) ∷ [])) (2 ∷ []) (pos 1 ∷ pos 9 ∷ []) 0 ≡ ended (9 ∷ [])
unfolding source_run outcome_of
index_first = refl

-- a[2]+=read(); : the bound is tested before the value is evaluated
bound_first : shown_by (program (new_array 0 2 ∷ change_at 0 (number 2) Add read ∷ [])) (2 ∷ []) [] 0 ≡ trapped [] OutOfBounds 1
unfolding source_run outcome_of
bound_first = refl

-- a[-1]=read(); : a negative index is outside, and found so after the value is evaluated
negative_index : shown_by (program (new_array 0 2 ∷ put_at 0 (minus (number 1)) read ∷ [])) (2 ∷ []) (pos 4 ∷ []) 0 ≡ trapped [] OutOfBounds 1
unfolding source_run outcome_of word_sub int_wrap
negative_index = refl

-- a[1]-=read();a[1]-=read();print(a[1]);print(a[0]);
elements_change : shown_by (program (
    new_array 0 2 ∷ put_at 0 (number 1) (number 9) ∷ change_at 0 (number 1) Sub read ∷ change_at 0 (number 1) Sub read ∷
    print (at 0 (number 1)) ∷ print (at 0 (number 0)) ∷ [])) (2 ∷ []) (pos 2 ∷ pos 3 ∷ []) 0 ≡ ended (4 ∷ 0 ∷ [])
unfolding source_run outcome_of word_sub int_wrap
elements_change = refl

-- int x=8;x-=read();print(x);
-- x/=
-- read(); : the divisor is tested after it is evaluated, and the trap has the operator's line
divisor_line : shown_by (program (
    new_as 0 (number 8) ∷ change 0 Sub read ∷ print (scalar 0) ∷ Assignment 0 2 None 2 (Some Div) 2 read ∷ print (number 1) ∷ [])) [] (pos 3 ∷ pos 0 ∷ []) 0
    ≡ trapped (5 ∷ []) DivideByZero 2
unfolding source_run outcome_of word_sub int_wrap
divisor_line = refl

-- int a[1];
-- a[0]
-- %=0; : also where an element is changed
element_divisor : shown_by (program (new_array 0 1 ∷ Assignment 0 2 (Some (number 0)) 2 (Some Rem) 3 (number 0) ∷ [])) (1 ∷ []) [] 0 ≡ trapped [] DivideByZero 3
unfolding source_run outcome_of
element_divisor = refl

-- ---- declarations

-- int i;for(i=0;i<2;i++){int x;print(x);x=7;} : 0 each time that the declarator is reached
declared_anew : shown_by (program (new 0 ∷ count 0 2 (block (new 1 ∷ print (scalar 1) ∷ put 1 (number 7) ∷ [])) ∷ [])) [] [] 2 ≡ ended (0 ∷ 0 ∷ [])
unfolding source_run outcome_of word_add word_less int_wrap
declared_anew = refl

-- int i;for(i=0;i<3;i++){int x=x+1;print(x);} : an initialised declarator first keeps the old value
declared_by_itself : shown_by (program (new 0 ∷ count 0 3 (block (new_as 1 (plus (scalar 1) (number 1)) ∷ print (scalar 1) ∷ [])) ∷ [])) [] [] 3 ≡ ended (1 ∷ 2 ∷ 3 ∷ [])
unfolding source_run outcome_of word_add word_less int_wrap
declared_by_itself = refl

-- int i;for(i=0;i<2;i++){int a[1];a[0]+=1;print(a[0]);} : an array keeps its elements
array_kept : shown_by (program (new 0 ∷ count 0 2 (block (new_array 0 1 ∷ change_at 0 (number 0) Add (number 1) ∷ print (at 0 (number 0)) ∷ [])) ∷ [])) (1 ∷ []) [] 2 ≡ ended (1 ∷ 2 ∷ [])
unfolding source_run outcome_of word_add word_less int_wrap
array_kept = refl

-- ---- jumps

-- int i;for(i=0;i<4;i++){if(i%2)continue;print(i);} : to the step
continue_to_step : shown_by (program (new 0 ∷ count 0 4 (block (when (on Rem (scalar 0) (number 2)) (ContinueOn 1) ∷ print (scalar 0) ∷ [])) ∷ [])) [] [] 4 ≡ ended (0 ∷ 2 ∷ [])
unfolding source_run outcome_of word_add word_rem word_less int_wrap
continue_to_step = refl

-- i++;if(i==2)continue;print(i);
abbrev all_but_two : SourceStatement
all_but_two = block (change 0 Add (number 1) ∷ when (on Equal (scalar 0) (number 2)) (ContinueOn 1) ∷ print (scalar 0) ∷ [])

-- int i;while(i<2){..}print(9); : to the condition, which ends the loop
continue_to_test : shown_by (program (new 0 ∷ WhileLoop 1 (on Less (scalar 0) (number 2)) all_but_two ∷ print (number 9) ∷ [])) [] [] 2 ≡ ended (1 ∷ 9 ∷ [])
unfolding source_run outcome_of word_add word_less word_equal int_wrap
continue_to_test = refl

-- int i;do{..}while(i<2);print(9);
continue_to_last_test : shown_by (program (new 0 ∷ DoLoop 1 all_but_two (on Less (scalar 0) (number 2)) ∷ print (number 9) ∷ [])) [] [] 2 ≡ ended (1 ∷ 9 ∷ [])
unfolding source_run outcome_of word_add word_less word_equal int_wrap
continue_to_last_test = refl

-- int i;for(i=0;i<2;i++){while(1){print(i);break;}print(8);} : out of the innermost loop
break_out : shown_by (program (new 0 ∷ count 0 2 (block (WhileLoop 1 (number 1) (block (print (scalar 0) ∷ BreakOut 1 ∷ [])) ∷ print (number 8) ∷ [])) ∷ [])) [] [] 4
    ≡ ended (0 ∷ 8 ∷ 1 ∷ 8 ∷ [])
unfolding source_run outcome_of word_add word_less int_wrap
break_out = refl

-- while(1){print(1);return read();}print(2); : the value is evaluated and dropped
abbrev returns : List ℕ → ResolvedProgram
returns = program (WhileLoop 1 (number 1) (block (print (number 1) ∷ ReturnFrom 1 read ∷ [])) ∷ print (number 2) ∷ [])

-- with input: it ends
return_ends : shown_by returns [] (pos 6 ∷ []) 1 ≡ ended (1 ∷ [])
unfolding source_run outcome_of
return_ends = refl

-- without input: the value traps
return_evaluates : shown_by returns [] [] 1 ≡ trapped (1 ∷ []) EndOfInput 1
unfolding source_run outcome_of
return_evaluates = refl

-- ---- turns

-- int i;for(i=0;i<2;i++){do print(i);while(0);} : the turns of all loops count together, and `do` starts one at once
abbrev four_turns : List ℕ → ResolvedProgram
four_turns = program (new 0 ∷ count 0 2 (block (DoLoop 1 (print (scalar 0)) (number 0) ∷ [])) ∷ [])

-- four turns are enough
all_four_turns : shown_by four_turns [] [] 4 ≡ ended (0 ∷ 1 ∷ [])
unfolding source_run outcome_of word_add word_less int_wrap
all_four_turns = refl

-- three are not
three_of_four_turns : shown_by four_turns [] [] 3 ≡ going (0 ∷ [])
unfolding source_run outcome_of word_add word_less int_wrap
three_of_four_turns = refl

-- while(0){}print(1); : a loop that starts no turn needs none
no_turn : shown_by (program (WhileLoop 1 (number 0) (block []) ∷ print (number 1) ∷ [])) [] [] 0 ≡ ended (1 ∷ [])
unfolding source_run outcome_of
no_turn = refl

-- while(1){} : goes on for ever
for_ever : shown_by (program (WhileLoop 1 (number 1) (block []) ∷ [])) [] [] 7 ≡ going []
unfolding source_run outcome_of
for_ever = refl

-- ---- what is passed

-- a[read()]+=1;
abbrev element_more : List ℕ → ResolvedProgram
element_more = program (new_array 0 2 ∷ change_at 0 read Add (number 1) ∷ [])

-- inside: the bound, the load, the operator and the store
element_more_passes : passed_by element_more (2 ∷ []) (pos 1 ∷ []) 0
    ≡ More_node ∷ Test_node ∷ Read_node ∷ Binary_node codes.Below ∷ Test_node ∷ Load_node ∷ Binary_node codes.Add ∷ Store_node ∷ []
unfolding trace_of
element_more_passes = refl

-- outside: up to the bound test
element_outside_passes : passed_by element_more (2 ∷ []) (pos 2 ∷ []) 0 ≡ More_node ∷ Test_node ∷ Read_node ∷ Binary_node codes.Below ∷ Test_node ∷ []
unfolding trace_of
element_outside_passes = refl

-- a[0]=~read()>2;
value_before_bound : passed_by (program (new_array 0 2 ∷ put_at 0 (number 0) (on Greater (Prefixed Flip read) (number 2)) ∷ [])) (2 ∷ []) (pos 1 ∷ []) 0
    ≡ More_node ∷ Test_node ∷ Read_node ∷ Binary_node codes.Xor ∷ Binary_node codes.Less ∷ Binary_node codes.Below ∷ Test_node ∷ Store_node ∷ []
unfolding trace_of
value_before_bound = refl

-- a[0]/=read();
element_divided_passes : passed_by (program (new_array 0 2 ∷ change_at 0 (number 0) Div read ∷ [])) (2 ∷ []) (pos 0 ∷ []) 0
    ≡ Binary_node codes.Below ∷ Test_node ∷ Load_node ∷ More_node ∷ Test_node ∷ Read_node ∷ Test_node ∷ []
unfolding trace_of
element_divided_passes = refl

-- print(0&&1);print(2&&1);print(0||1);print(1?-2:!3);
choices_pass : passed_by (program (
    print (Conjunction (number 0) (number 1)) ∷ print (Conjunction (number 2) (number 1)) ∷ print (Disjunction (number 0) (number 1)) ∷
    print (Conditional (number 1) (minus (number 2)) (Prefixed Not (number 3))) ∷ [])) [] [] 0
    ≡ Test_node ∷ Copy_node ∷ Print_node ∷
    Test_node ∷ Binary_node codes.Unequal ∷ Print_node ∷
    Test_node ∷ Binary_node codes.Unequal ∷ Print_node ∷
    Test_node ∷ Binary_node codes.Sub ∷ Copy_node ∷ Print_node ∷ []
unfolding trace_of
choices_pass = refl

-- int i;for(i=0;i<1;i++)continue;
abbrev one_turn : List ℕ → ResolvedProgram
one_turn = program (new 0 ∷ count 0 1 (ContinueOn 1) ∷ [])

-- the condition and a test twice, and the step once
one_turn_passes : passed_by one_turn [] [] 1
    ≡ Copy_node ∷ Copy_node ∷ Binary_node codes.Less ∷ Test_node ∷ Binary_node codes.Add ∷ Copy_node ∷ Binary_node codes.Less ∷ Test_node ∷ []
unfolding trace_of word_add word_less int_wrap
one_turn_passes = refl

-- the test that leads to the turn that is not started is the last
one_turn_spent : passed_by one_turn [] [] 0 ≡ Copy_node ∷ Copy_node ∷ Binary_node codes.Less ∷ Test_node ∷ []
unfolding trace_of word_less
one_turn_spent = refl

-- do break;while(1); : a turn that passes nothing
nothing_passed : passed_by (program (DoLoop 1 (BreakOut 1) (number 1) ∷ [])) [] [] 1 ≡ []
unfolding trace_of
nothing_passed = refl
