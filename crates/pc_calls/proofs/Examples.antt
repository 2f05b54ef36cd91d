-- Worked sources.
use Rattle.std.proofs.Common.{◌≡◌, true, false, List, [], ◌∷◌, Some, None, refl}
use Rattle.std.specs.Prelude.{pos}
use Rattle.std.specs.Int.{int_wrap}
use Rattle.pc_word.specs.declared.item.End.TheVariants.{Ended}
use Rattle.pc_word.specs.Word.{word_add, word_mul, word_less}
use Rattle.pc_syntax.specs.declared.operator.BinaryOp.TheVariants.{Add, Mul, Less}
use Rattle.pc_syntax.specs.Source.{Literal, Variable, Combined}
use Rattle.pc_check.specs.declared.error.CheckError.TheVariants.{Undeclared}
use Rattle.pc_check.specs.Needs.{need}
use Rattle.pc_check.specs.Faults.{expression_faults, names_behind, statement_faults, faults}
use Rattle.pc_check.specs.Resolution.{resolved_expression, resolved_statement, resolved}
use Rattle.pc_meaning.specs.SourceRun.{outcome_of, source_run}
use Rattle.pc_syntax.specs.Unit.{UnitStatement, UnitList, Block, Scalar, Assign, Print, If, While, For, Break, Call, With, Without, Finish, Item, TranslationUnit}
use Rattle.pc_calls.specs.UnitNames.{unit_names_after}
use Rattle.pc_calls.specs.CallRun.{perform, callees, unit_outcome, call_run}
use Rattle.pc_calls.specs.Inline.{renamed, inlined, copies, inlined_program}
use Rattle.pc_calls.specs.Refusals.{NoFunction, LooseJump, arity, statement_refusals, functions_refusals, refusals}
use Rattle.pc_syntax.specs.Proper.{uses_only, is_proper, functions_are_proper, unit_is_proper}

abbrev listed : List UnitStatement → UnitList
listed [] = Finish
listed (s ∷ others) = Item s (listed others)

-- int sq(int x){return x*x;} int main(void){int s=0;int t;int i;for(i=1;i<4;i++){t=sq(i);s+=t;}print(s);}
-- with the symbols sq 0, x 1, s 2, t 3, i 4
abbrev squares : TranslationUnit
squares = record {
  functions = record { symbol = 0; line = 1; parameters = record { symbol = 1; line = 1 } ∷ []; items = Finish; result = Some (Combined Mul 1 (Variable 1 1) (Variable 1 1)) } ∷ [];
  main = listed (
      Scalar 2 1 (Some (Literal (pos 0))) ∷ Scalar 3 1 None ∷ Scalar 4 1 None ∷
      For 1 (listed (Assign 4 1 None 1 None 1 (Literal (pos 1)) ∷ [])) (Combined Less 1 (Variable 4 1) (Literal (pos 4))) (With (Assign 4 1 None 1 (Some Add) 1 (Literal (pos 1))))
      (Block (listed (
      Call 1 (Some (record { symbol = 3; line = 1; declared = false })) 0 1 (Variable 4 1 ∷ []) ∷
      Assign 2 1 None 1 (Some Add) 1 (Variable 3 1) ∷ []))) ∷
      Print 1 (Variable 2 1) ∷ []);
}

squares-printed : call_run squares [] 10 ≡ record { printed = pos 14 ∷ []; end = Some Ended }
unfolding call_run unit_outcome callees perform unit_names_after resolved_expression word_add word_mul word_less int_wrap
squares-printed = refl

squares-proper : unit_is_proper 5 squares ≡ true
unfolding is_proper uses_only functions_are_proper
squares-proper = refl

squares-allowed : refusals squares ≡ []
unfolding arity statement_refusals functions_refusals
squares-allowed = refl

squares-faultless : faults (inlined_program 5 squares) ≡ []
unfolding renamed inlined copies expression_faults names_behind statement_faults need
squares-faultless = refl

-- int f(int x){int y=f(x);return y;} int main(void){}: no function of this name is there yet
recursive-refused : refusals (record {
  functions = record {
    symbol = 0;
    line = 1;
    parameters = record { symbol = 1; line = 1 } ∷ [];
    items = listed (Call 1 (Some (record { symbol = 2; line = 1; declared = true })) 0 1 (Variable 1 1 ∷ []) ∷ []);
    result = Some (Variable 2 1);
  } ∷ [];
  main = Finish;
}) ≡ NoFunction 1 ∷ []
unfolding arity statement_refusals functions_refusals
recursive-refused = refl

-- int f(void){break;} int main(void){while(1){f();}}
jump-refused : refusals (record {
  functions = record { symbol = 0; line = 1; parameters = []; items = listed (Break 1 ∷ []); result = None } ∷ [];
  main = listed (While 1 (Literal (pos 1)) (Block (listed (Call 1 None 0 1 [] ∷ []))) ∷ []);
}) ≡ LooseJump 1 ∷ []
unfolding arity statement_refusals functions_refusals
jump-refused = refl

-- int f(void){return y;} int main(void){int y;y=f();}
hidden-undeclared : faults (inlined_program 2 (record {
  functions = record { symbol = 0; line = 1; parameters = []; items = Finish; result = Some (Variable 1 1) } ∷ [];
  main = listed (Scalar 1 1 None ∷ Call 1 (Some (record { symbol = 1; line = 1; declared = false })) 0 1 [] ∷ []);
})) ≡ Undeclared 1 ∷ []
unfolding renamed inlined copies expression_faults names_behind statement_faults need
hidden-undeclared = refl

-- ---- why a declarator must stand in a list

-- void f(int c){if(c)int x;print(x);x=5;} int main(void){int i;i=0;while(i<2){f(0);i=i+1;}}, which is no text of the language: on scalars of its
-- own f prints 0 each time, and the copy prints what it was left with
abbrev lone : TranslationUnit
lone = record {
  functions = record {
    symbol = 0;
    line = 1;
    parameters = record { symbol = 1; line = 1 } ∷ [];
    items = listed (If 1 (Variable 1 1) (Scalar 2 1 None) Without ∷ Print 1 (Variable 2 1) ∷ Assign 2 1 None 1 None 1 (Literal (pos 5)) ∷ []);
    result = None;
  } ∷ [];
  main = listed (
      Scalar 3 1 None ∷ Assign 3 1 None 1 None 1 (Literal (pos 0)) ∷
      While 1 (Combined Less 1 (Variable 3 1) (Literal (pos 2)))
      (Block (listed (Call 1 None 0 1 (Literal (pos 0) ∷ []) ∷ Assign 3 1 None 1 (Some Add) 1 (Literal (pos 1)) ∷ []))) ∷ []);
}

lone-called : call_run lone [] 10 ≡ record { printed = pos 0 ∷ pos 0 ∷ []; end = Some Ended }
unfolding call_run unit_outcome callees perform unit_names_after resolved_expression word_add word_mul word_less int_wrap
lone-called = refl

lone-inlined : source_run (resolved (inlined_program 5 lone)) [] 10 ≡ record { printed = pos 0 ∷ pos 5 ∷ []; end = Some Ended }
unfolding renamed inlined copies names_behind resolved_expression resolved_statement source_run outcome_of word_add word_mul word_less int_wrap
lone-inlined = refl

lone-improper : unit_is_proper 5 lone ≡ false
unfolding is_proper uses_only functions_are_proper
lone-improper = refl

-- ---- a value that is left

-- int one(void){return 1;} int main(void){int i;for(i=0;i<3;i++){int x=x+1;int y=one();print(x);}}: in a loop of `main` the declared name is read as it was left
abbrev kept : TranslationUnit
kept = record {
  functions = record { symbol = 0; line = 1; parameters = []; items = Finish; result = Some (Literal (pos 1)) } ∷ [];
  main = listed (
      Scalar 1 1 None ∷
      For 1 (listed (Assign 1 1 None 1 None 1 (Literal (pos 0)) ∷ [])) (Combined Less 1 (Variable 1 1) (Literal (pos 3))) (With (Assign 1 1 None 1 (Some Add) 1 (Literal (pos 1))))
      (Block (listed (Scalar 2 1 (Some (Combined Add 1 (Variable 2 1) (Literal (pos 1)))) ∷ Call 1 (Some (record { symbol = 3; line = 1; declared = true })) 0 1 [] ∷ Print 1
      (Variable 2 1) ∷ []))) ∷ []);
}

kept-called : call_run kept [] 10 ≡ record { printed = pos 1 ∷ pos 2 ∷ pos 3 ∷ []; end = Some Ended }
unfolding call_run unit_outcome callees perform unit_names_after resolved_expression word_add word_mul word_less int_wrap
kept-called = refl

kept-proper : unit_is_proper 5 kept ≡ true
unfolding is_proper uses_only functions_are_proper
kept-proper = refl
