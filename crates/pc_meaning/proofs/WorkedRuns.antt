-- What whole programs print, computed from what a source program means.
use Rattle.std.proofs.Common.{◌≡◌, ℕ, List, [], ◌∷◌, refl, Some, pos}
use Rattle.std.specs.Prelude.{negsuc}
use Rattle.std.specs.Int.{int_wrap}
use Rattle.pc_word.specs.declared.item.End.TheVariants.{Ended}
use Rattle.pc_word.specs.declared.item.TrapKind.TheVariants.{DivideByZero, OutOfBounds, EndOfInput}
use Rattle.pc_word.specs.declared.item.OpCode.TheVariants as codes
use Rattle.pc_word.specs.Word.{word_add, word_sub, word_div, word_rem, word_less, word_unequal}
use Rattle.pc_syntax.specs.declared.operator.BinaryOp.TheVariants.{Add, Sub, Div, Rem, Less, Unequal}
use Rattle.pc_syntax.specs.Source.{ResolvedProgram, Combined, Printing, Branch, Present}
use Rattle.pc_meaning.specs.SourceRun.{outcome_of, source_run}
use Rattle.pc_meaning.specs.Trace.{trace_of, Binary_node, Copy_node, Print_node, Read_node, More_node, Test_node}
use Rattle.pc_meaning.proofs.Programs.{program, shown_by, passed_by, number, minus, scalar, at, read, on, plus, new, new_as, new_array}
use Rattle.pc_meaning.proofs.Programs.{put, put_at, change_at, print, block, when, count, with_data, ended, trapped, going}

-- ---- words

-- int main(void){print(2147483647+1);print((-2147483647-1)/-1);print(-7/2);print(-7%2);}
abbrev words : List ℕ → ResolvedProgram
words = program (
    print (plus (number 2147483647) (number 1)) ∷
    print (on Div (on Sub (minus (number 2147483647)) (number 1)) (minus (number 1))) ∷
    print (on Div (minus (number 7)) (number 2)) ∷
    print (on Rem (minus (number 7)) (number 2)) ∷ [])

-- -2147483648, -2147483648, -3 and -1
words_shown : shown_by words [] [] 0 ≡ record { printed = negsuc 2147483647 ∷ negsuc 2147483647 ∷ negsuc 2 ∷ negsuc 0 ∷ []; end = Some Ended }
unfolding source_run outcome_of word_add word_sub word_div word_rem int_wrap
words_shown = refl

-- ---- traps and input

-- int main(void){int a[4];print(1);a[4]=read();}
abbrev outside : List ℕ → ResolvedProgram
outside = program (new_array 0 4 ∷ print (number 1) ∷ put_at 0 (number 4) read ∷ [])

-- the value is evaluated before the bound is tested
outside_without_input : shown_by outside (4 ∷ []) [] 0 ≡ trapped (1 ∷ []) EndOfInput 1
unfolding source_run outcome_of
outside_without_input = refl

-- and then the bound is
outside_with_input : shown_by outside (4 ∷ []) (pos 9 ∷ []) 0 ≡ trapped (1 ∷ []) OutOfBounds 1
unfolding source_run outcome_of
outside_with_input = refl

-- int main(void){
-- print(1);print(5/0);
-- print(2);}
abbrev divided : List ℕ → ResolvedProgram
divided = program (Printing 2 (number 1) ∷ Printing 2 (Combined Div 2 (number 5) (number 0)) ∷ Printing 3 (number 2) ∷ [])

-- what was printed before the trap stays printed
divided_shown : shown_by divided [] [] 0 ≡ trapped (1 ∷ []) DivideByZero 2
unfolding source_run outcome_of
divided_shown = refl

-- int main(void){print(read());print(read());print(read());}
abbrev three_reads : List ℕ → ResolvedProgram
three_reads = program (print read ∷ print read ∷ print read ∷ [])

-- the numbers in their order
three_reads_shown : shown_by three_reads [] (pos 3 ∷ pos 0 ∷ pos 7 ∷ []) 0 ≡ ended (3 ∷ 0 ∷ 7 ∷ [])
unfolding source_run outcome_of
three_reads_shown = refl

-- int main(void){int a=read();int b=read();if(a)if(b)print(1);else print(2);}
abbrev inner_else : List ℕ → ResolvedProgram
inner_else = program (
    new_as 0 read ∷ new_as 1 read ∷
    when (scalar 0) (Branch 1 (scalar 1) (print (number 1)) (Present (print (number 2)))) ∷ [])

-- the `else` belongs to the inner `if`
inner_else_taken : shown_by inner_else [] (pos 1 ∷ pos 0 ∷ []) 0 ≡ ended (2 ∷ [])
unfolding source_run outcome_of
inner_else_taken = refl

-- the outer condition does not hold
inner_else_passed : shown_by inner_else [] (pos 0 ∷ pos 1 ∷ []) 0 ≡ ended []
unfolding source_run outcome_of
inner_else_passed = refl

-- ---- loops

-- int main(void){int i;int t;int x=1;int y=2;for(i=0;i<5;i++){t=x;x=y;y=t;print(x);}}
abbrev swaps : List ℕ → ResolvedProgram
swaps = program (
    new 0 ∷ new 1 ∷ new_as 2 (number 1) ∷ new_as 3 (number 2) ∷
    count 0 5 (block (put 1 (scalar 2) ∷ put 2 (scalar 3) ∷ put 3 (scalar 1) ∷ print (scalar 2) ∷ [])) ∷ [])

-- 2, 1, 2, 1, 2
swaps_shown : shown_by swaps [] [] 5 ≡ ended (2 ∷ 1 ∷ 2 ∷ 1 ∷ 2 ∷ [])
unfolding source_run outcome_of word_add word_less int_wrap
swaps_shown = refl

-- with fewer turns the run goes on
swaps_at_three : shown_by swaps [] [] 3 ≡ going (2 ∷ 1 ∷ 2 ∷ [])
unfolding source_run outcome_of word_add word_less int_wrap
swaps_at_three = refl

-- int main(void){int i;int x=1;int y=2;int t;for(i=0;i<5;i++){if(i!=2){t=x;x=y;y=t;}print(x);}}
abbrev swaps_but_one : List ℕ → ResolvedProgram
swaps_but_one = program (
    new 0 ∷ new_as 1 (number 1) ∷ new_as 2 (number 2) ∷ new 3 ∷
    count 0 5 (block (
    when (on Unequal (scalar 0) (number 2)) (block (put 3 (scalar 1) ∷ put 1 (scalar 2) ∷ put 2 (scalar 3) ∷ [])) ∷
    print (scalar 1) ∷ [])) ∷ [])

-- 2, 1, 1, 2, 1
swaps_but_one_shown : shown_by swaps_but_one [] [] 5 ≡ ended (2 ∷ 1 ∷ 1 ∷ 2 ∷ 1 ∷ [])
unfolding source_run outcome_of word_add word_less word_unequal int_wrap
swaps_but_one_shown = refl

-- int main(void){int a[4];int i;int n=4;int s=0;for(i=0;i<8;i++){if(i<n)s=s+a[i]+1;}print(s);}
abbrev guarded : List ℕ → ResolvedProgram
guarded = program (
    new_array 0 4 ∷ new 0 ∷ new_as 1 (number 4) ∷ new_as 2 (number 0) ∷
    count 0 8 (block (when (on Less (scalar 0) (scalar 1)) (put 2 (plus (plus (scalar 2) (at 0 (scalar 0))) (number 1))) ∷ [])) ∷
    print (scalar 2) ∷ [])

-- one for each element
guarded_shown : shown_by guarded (4 ∷ []) [] 8 ≡ ended (4 ∷ [])
unfolding source_run outcome_of word_add word_less int_wrap
guarded_shown = refl

-- int main(void){int a[51];int i;a[0]=3;for(i=0;i<50;i++)a[i+1]=a[i]+1;print(a[50]);}
abbrev chain : List ℕ → ResolvedProgram
chain = program (
    new_array 0 51 ∷ new 0 ∷ put_at 0 (number 0) (number 3) ∷
    count 0 50 (put_at 0 (plus (scalar 0) (number 1)) (plus (at 0 (scalar 0)) (number 1))) ∷
    print (at 0 (number 50)) ∷ [])

-- 3 and 50
chain_shown : shown_by chain (51 ∷ []) [] 50 ≡ ended (53 ∷ [])
unfolding source_run outcome_of word_add word_less int_wrap
chain_shown = refl

-- ---- static arrays

-- int main(void){static int a[4]={5,-6,0,0};print(a[0]+a[1]+a[3]);}
abbrev three_elements : List ℕ → ResolvedProgram
three_elements = with_data ((pos 5 ∷ negsuc 5 ∷ []) ∷ []) (program (
    new_array 0 4 ∷ print (plus (plus (at 0 (number 0)) (at 0 (number 1))) (at 0 (number 3))) ∷ []))

-- 5, -6 and 0
three_elements_shown : shown_by three_elements (4 ∷ []) [] 0 ≡ record { printed = negsuc 0 ∷ []; end = Some Ended }
unfolding source_run outcome_of word_add int_wrap
three_elements_shown = refl

-- int main(void){int i;for(i=0;i<3;i++){static int a[2]={7};a[0]+=1;a[1]+=a[0];print(a[0]);print(a[1]);}}
abbrev made_once : List ℕ → ResolvedProgram
made_once = with_data ((pos 7 ∷ []) ∷ []) (program (
    new 0 ∷
    count 0 3 (block (
    new_array 0 2 ∷ change_at 0 (number 0) Add (number 1) ∷ change_at 0 (number 1) Add (at 0 (number 0)) ∷
    print (at 0 (number 0)) ∷ print (at 0 (number 1)) ∷ [])) ∷ []))

-- no turn sets the values again
made_once_shown : shown_by made_once (2 ∷ []) [] 3 ≡ ended (8 ∷ 8 ∷ 9 ∷ 17 ∷ 10 ∷ 27 ∷ [])
unfolding source_run outcome_of word_add word_less int_wrap
made_once_shown = refl

-- int main(void){static int a[2]={1};{static int a[1]={2};print(a[0]);}print(a[0]);print(a[1]);}
abbrev one_in_another : List ℕ → ResolvedProgram
one_in_another = with_data ((pos 1 ∷ []) ∷ (pos 2 ∷ []) ∷ []) (program (
    new_array 0 2 ∷ block (new_array 1 1 ∷ print (at 1 (number 0)) ∷ []) ∷ print (at 0 (number 0)) ∷ print (at 0 (number 1)) ∷ []))

-- each array has its own data
one_in_another_shown : shown_by one_in_another (2 ∷ 1 ∷ []) [] 0 ≡ ended (2 ∷ 1 ∷ 0 ∷ [])
unfolding source_run outcome_of
one_in_another_shown = refl

-- ---- what is passed

-- int main(void){int x=read();print(x/2+1);}
abbrev halved : List ℕ → ResolvedProgram
halved = program (new_as 0 read ∷ print (plus (on Div (scalar 0) (number 2)) (number 1)) ∷ [])

-- with an input
halved_passes : passed_by halved [] (pos 8 ∷ []) 0 ≡ More_node ∷ Test_node ∷ Read_node ∷ Copy_node ∷ Test_node ∷ Binary_node codes.Div ∷ Binary_node codes.Add ∷ Print_node ∷ []
unfolding trace_of
halved_passes = refl

-- the test that leads to the trap is the last
halved_without_input : passed_by halved [] [] 0 ≡ More_node ∷ Test_node ∷ []
unfolding trace_of
halved_without_input = refl
