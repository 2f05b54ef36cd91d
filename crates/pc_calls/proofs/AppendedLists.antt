-- Statements after others: their names, faults and meaning.
use Rattle.std.proofs.Common.{◌≡◌, ◌≤◌, refl, ap, ◌∙◌, sym, ℕ, Bool, List, ◌++◌, append_assoc, arith}
use Rattle.std.specs.Prelude.{ℤ}
use Rattle.pc_syntax.specs.Source.{SourceStatement, Scope, ScalarDeclaration, ArrayDeclaration, Assignment, Printing, Evaluation, Branch, WhileLoop}
use Rattle.pc_syntax.specs.Source.{DoLoop, ForLoop, BreakOut, ContinueOn, ReturnFrom, Nothing, OptionalStatement, Absent, Present, SourceList}
use Rattle.pc_syntax.specs.Source.{No_more, More, appended}
use Rattle.pc_check.specs.declared.error.CheckError.{CheckError}
use Rattle.pc_check.specs.Names.{Names, entered}
use Rattle.pc_check.specs.Faults.{names_behind, names_behind_optional, names_behind_list, list_faults, statement_faults}
use Rattle.pc_check.specs.Resolution.{resolved_list, resolved_statement}
use Rattle.pc_meaning.specs.ProgramState.{ProgramState}
use Rattle.pc_meaning.specs.Expression.{Evaluated, Given, Caught}
use Rattle.pc_meaning.specs.Statement.{Completion, GoesOn, Breaks, Continues, Returns, Traps, Spent, do_with, then_do, execute, execute_list}

mutual
  unfolding names_behind

  pub outer-kept : (s : SourceStatement) (n : Names) → (names_behind s n).outer ≡ n.outer
  outer-kept (Scope items) n = refl
  outer-kept (ScalarDeclaration symbol line initial) n = refl
  outer-kept (ArrayDeclaration symbol line at size values) n = refl
  outer-kept (Assignment symbol line index bracket op at value) n = refl
  outer-kept (Printing line value) n = refl
  outer-kept (Evaluation line value) n = refl
  outer-kept (Branch line test body otherwise) n = outer_optional-kept otherwise (names_behind body n) ∙ outer-kept body n
  outer-kept (WhileLoop line test body) n = outer-kept body n
  outer-kept (DoLoop line body test) n = outer-kept body n
  outer-kept (ForLoop line first test step body) n = refl
  outer-kept (BreakOut line) n = refl
  outer-kept (ContinueOn line) n = refl
  outer-kept (ReturnFrom line value) n = refl
  outer-kept Nothing n = refl

  pub outer_optional-kept : (s : OptionalStatement) (n : Names) → (names_behind_optional s n).outer ≡ n.outer
  outer_optional-kept Absent n = refl
  outer_optional-kept (Present s) n = outer-kept s n

  pub outer_list-kept : (s : SourceList) (n : Names) → (names_behind_list s n).outer ≡ n.outer
  outer_list-kept No_more n = refl
  outer_list-kept (More first rest) n = outer_list-kept rest (names_behind first n) ∙ outer-kept first n

pub names-appended : (front rest : SourceList) (n : Names) → names_behind_list (appended front rest) n ≡ names_behind_list rest (names_behind_list front n)
unfolding names_behind
names-appended No_more rest n = refl
names-appended (More first others) rest n = names-appended others rest (names_behind first n)

pub faults-appended : (in_loop : Bool) (front rest : SourceList) (n : Names) →
    list_faults in_loop (appended front rest) n ≡ list_faults in_loop front n ++ list_faults in_loop rest (names_behind_list front n)
unfolding names_behind statement_faults
faults-appended in_loop No_more rest n = refl
faults-appended in_loop (More first others) rest n =
    ap (λ (found : List CheckError). statement_faults in_loop first n ++ found) (faults-appended in_loop others rest (names_behind first n))
    ∙ sym (append_assoc (statement_faults in_loop first n) (list_faults in_loop others (names_behind first n)) _)

pub resolved-appended : (front rest : SourceList) (n : Names) →
    resolved_list (appended front rest) n ≡ appended (resolved_list front n) (resolved_list rest (names_behind_list front n))
unfolding names_behind resolved_statement
resolved-appended No_more rest n = refl
resolved-appended (More first others) rest n =
    ap (More (resolved_statement first n)) (resolved-appended others rest (names_behind first n))

-- ---- one after another

pub then_do-assoc : (x : Completion) (F G : ProgramState → Completion) → then_do (then_do x F) G ≡ then_do x (λ s. then_do (F s) G)
then_do-assoc (GoesOn s) F G = refl
then_do-assoc (Breaks s) F G = refl
then_do-assoc (Continues s) F G = refl
then_do-assoc (Returns s) F G = refl
then_do-assoc (Traps kind line s) F G = refl
then_do-assoc (Spent s) F G = refl

pub do_with-then : (x : Evaluated) (F : ℤ → ProgramState → Completion) (G : ProgramState → Completion) → then_do (do_with x F) G ≡ do_with x (λ v s. then_do (F v s) G)
do_with-then (Given v s) F G = refl
do_with-then (Caught kind line s) F G = refl

pub execute-appended : (lengths : List ℕ) (front rest : SourceList) (s : ProgramState) →
    execute_list lengths (appended front rest) s ≡ then_do (execute_list lengths front s) (execute_list lengths rest)
execute-appended lengths No_more rest s = refl
execute-appended lengths (More first others) rest s =
    ap (λ (next : ProgramState → Completion). then_do (execute lengths first s) next) (λ i t. execute-appended lengths others rest t i)
    ∙ sym (then_do-assoc (execute lengths first s) (execute_list lengths others) (execute_list lengths rest))

-- ---- slots are used up

mutual
  unfolding names_behind

  pub slots-grow : (s : SourceStatement) (n : Names) → n.scalars ≤ (names_behind s n).scalars
  slots-grow (Scope items) n = slots_list-grow items (entered n)
  slots-grow (ScalarDeclaration symbol line initial) n = omega arith
  slots-grow (ArrayDeclaration symbol line at size values) n = omega arith
  slots-grow (Assignment symbol line index bracket op at value) n = omega arith
  slots-grow (Printing line value) n = omega arith
  slots-grow (Evaluation line value) n = omega arith
  slots-grow (Branch line test body otherwise) n = let a = slots-grow body n in let b = slots_optional-grow otherwise (names_behind body n) in omega (arith, a, b)
  slots-grow (WhileLoop line test body) n = slots-grow body n
  slots-grow (DoLoop line body test) n = slots-grow body n
  slots-grow (ForLoop line first test step body) n =
      let z = names_behind_list first (entered n) in
      let a = slots_list-grow first (entered n) in let b = slots_optional-grow step z in let c = slots-grow body (names_behind_optional step z) in omega (arith, a, b, c)
  slots-grow (BreakOut line) n = omega arith
  slots-grow (ContinueOn line) n = omega arith
  slots-grow (ReturnFrom line value) n = omega arith
  slots-grow Nothing n = omega arith

  pub slots_optional-grow : (s : OptionalStatement) (n : Names) → n.scalars ≤ (names_behind_optional s n).scalars
  slots_optional-grow Absent n = omega arith
  slots_optional-grow (Present s) n = slots-grow s n

  pub slots_list-grow : (s : SourceList) (n : Names) → n.scalars ≤ (names_behind_list s n).scalars
  slots_list-grow No_more n = omega arith
  slots_list-grow (More first rest) n = let a = slots-grow first n in let b = slots_list-grow rest (names_behind first n) in omega (arith, a, b)
