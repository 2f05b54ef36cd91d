-- A unit without functions means what the program means, and inlines to that program.
use Rattle.std.proofs.Common.{◌≡◌, ℕ, false, List, [], Option, refl, ap, ◌∙◌}
use Rattle.std.specs.Prelude.{ℤ}
use Rattle.pc_syntax.specs.Source.{SourceStatement, Scope, ScalarDeclaration, ArrayDeclaration, Assignment, Printing, Evaluation, Branch, WhileLoop}
use Rattle.pc_syntax.specs.Source.{DoLoop, ForLoop, BreakOut, ContinueOn, ReturnFrom, Nothing, OptionalStatement, Absent, Present, SourceList}
use Rattle.pc_syntax.specs.Source.{No_more, More, SourceProgram}
use Rattle.pc_check.specs.Names.{Names, no_names, entered, left}
use Rattle.pc_check.specs.Faults.{names_behind, names_behind_optional, names_behind_list}
use Rattle.pc_check.specs.Resolution.{resolved, resolved_expression, resolved_statement, resolved_branch, resolved_list}
use Rattle.pc_meaning.specs.ProgramState.{ProgramState, source_start}
use Rattle.pc_meaning.specs.Expression.{eval, side}
use Rattle.pc_meaning.specs.Statement.{Completion, GoesOn, do_with, then_do, loop_from, do_loop, execute, execute_optional, execute_list}
use Rattle.pc_meaning.specs.SourceRun.{shown, outcome_of, source_run}
use Rattle.pc_calls.specs.UnitNames.{unit_names_after, unit_names_after_optional, unit_names_after_list}
use Rattle.pc_calls.specs.CallRun.{Callee, Setting, perform, perform_optional, perform_list, callees, unit_outcome, call_run}
use Rattle.pc_syntax.specs.Plain.{plain_statement, plain_optional, plain_list, plain_unit}

mutual
  unfolding plain_statement unit_names_after names_behind

  names-plain : (s : SourceStatement) (n : Names) → unit_names_after (plain_statement s) n ≡ names_behind s n
  names-plain (Scope items) n = ap (left n) (names_list-plain items (entered n))
  names-plain (ScalarDeclaration symbol line initial) n = refl
  names-plain (ArrayDeclaration symbol line at length values) n = refl
  names-plain (Assignment symbol line index bracket op at value) n = refl
  names-plain (Printing line value) n = refl
  names-plain (Evaluation line value) n = refl
  names-plain (Branch line test body otherwise) n =
      ap (unit_names_after_optional (plain_optional otherwise)) (names-plain body n) ∙ names_optional-plain otherwise (names_behind body n)
  names-plain (WhileLoop line test body) n = names-plain body n
  names-plain (DoLoop line body test) n = names-plain body n
  names-plain (ForLoop line first test step body) n =
      ap (left n) (ap (λ (z : Names). unit_names_after (plain_statement body) (unit_names_after_optional (plain_optional step) z)) (names_list-plain first (entered n))
      ∙ ap (unit_names_after (plain_statement body)) (names_optional-plain step (names_behind_list first (entered n)))
      ∙ names-plain body (names_behind_optional step (names_behind_list first (entered n))))
  names-plain (BreakOut line) n = refl
  names-plain (ContinueOn line) n = refl
  names-plain (ReturnFrom line value) n = refl
  names-plain Nothing n = refl

  names_optional-plain : (s : OptionalStatement) (n : Names) → unit_names_after_optional (plain_optional s) n ≡ names_behind_optional s n
  names_optional-plain Absent n = refl
  names_optional-plain (Present s) n = names-plain s n

  names_list-plain : (s : SourceList) (n : Names) → unit_names_after_list (plain_list s) n ≡ names_behind_list s n
  names_list-plain No_more n = refl
  names_list-plain (More first rest) n = ap (unit_names_after_list (plain_list rest)) (names-plain first n) ∙ names_list-plain rest (names_behind first n)

module _ (known : ℕ → Option Callee) (lengths : List ℕ) where
  abbrev w : Setting
  w = record { callees = known; in_function = false; lengths = lengths }

  mutual
    unfolding plain_statement perform resolved_statement unit_names_after names_behind

    perform-plain : (s : SourceStatement) (n : Names) → perform w (plain_statement s) n ≡ execute lengths (resolved_statement s n)
    perform-plain (Scope items) n = perform_list-plain items (entered n)
    perform-plain (ScalarDeclaration symbol line initial) n = refl
    perform-plain (ArrayDeclaration symbol line at length values) n = refl
    perform-plain (Assignment symbol line index bracket op at value) n = refl
    perform-plain (Printing line value) n = refl
    perform-plain (Evaluation line value) n = refl
    perform-plain (Branch line test body otherwise) n =
        let T = eval lengths (resolved_expression n test) in
        ap {B = ProgramState → Completion} (λ (F : ProgramState → Completion) (t : ProgramState). do_with (T t)
        (λ v. side v F (perform_optional w (plain_optional otherwise) (unit_names_after (plain_statement body) n)))) (perform-plain body n)
        ∙ ap {B = ProgramState → Completion} (λ (z : Names) (t : ProgramState). do_with (T t)
        (λ v. side v (execute lengths (resolved_statement body n)) (perform_optional w (plain_optional otherwise) z))) (names-plain body n)
        ∙ ap {B = ProgramState → Completion} (λ (F : ProgramState → Completion) (t : ProgramState). do_with (T t) (λ v. side v (execute lengths (resolved_statement body n)) F))
        (perform_optional-plain otherwise (names_behind body n))
    perform-plain (WhileLoop line test body) n = ap (loop_from (eval lengths (resolved_expression n test)) GoesOn) (perform-plain body n)
    perform-plain (DoLoop line body test) n =
        ap (λ (z : Names). do_loop (eval lengths (resolved_expression z test)) (perform w (plain_statement body) n)) (names-plain body n)
        ∙ ap (do_loop (eval lengths (resolved_expression (names_behind body n) test))) (perform-plain body n)
    perform-plain (ForLoop line first test step body) n =
        let z = names_behind_list first (entered n) in
        let y = names_behind_optional step z in
        let whole = λ (A : ProgramState → Completion) (z : Names) (B C : ProgramState → Completion) (t : ProgramState). then_do (A t) (loop_from (eval lengths (resolved_expression z test)) B C) in
        ap (λ (z : Names). whole (perform_list w (plain_list first) (entered n)) z (perform_optional w (plain_optional step) z)
        (perform w (plain_statement body) (unit_names_after_optional (plain_optional step) z))) (names_list-plain first (entered n))
        ∙ ap (λ (A : ProgramState → Completion). whole A z (perform_optional w (plain_optional step) z)
        (perform w (plain_statement body) (unit_names_after_optional (plain_optional step) z))) (perform_list-plain first (entered n))
        ∙ ap (λ (B : ProgramState → Completion). whole (execute_list lengths (resolved_list first (entered n))) z B
        (perform w (plain_statement body) (unit_names_after_optional (plain_optional step) z))) (perform_optional-plain step z)
        ∙ ap (λ (y : Names). whole (execute_list lengths (resolved_list first (entered n))) z (execute_optional lengths (resolved_branch step z)) (perform w (plain_statement body) y))
        (names_optional-plain step z)
        ∙ ap (λ (C : ProgramState → Completion). whole (execute_list lengths (resolved_list first (entered n))) z (execute_optional lengths (resolved_branch step z)) C) (perform-plain body y)
    perform-plain (BreakOut line) n = refl
    perform-plain (ContinueOn line) n = refl
    perform-plain (ReturnFrom line value) n = refl
    perform-plain Nothing n = refl

    perform_optional-plain : (s : OptionalStatement) (n : Names) → perform_optional w (plain_optional s) n ≡ execute_optional lengths (resolved_branch s n)
    perform_optional-plain Absent n = refl
    perform_optional-plain (Present s) n = perform-plain s n

    pub perform_list-plain : (s : SourceList) (n : Names) → perform_list w (plain_list s) n ≡ execute_list lengths (resolved_list s n)
    perform_list-plain No_more n = refl
    perform_list-plain (More first rest) n =
        ap {B = ProgramState → Completion} (λ (F : ProgramState → Completion) (t : ProgramState). then_do (F t)
        (perform_list w (plain_list rest) (unit_names_after (plain_statement first) n))) (perform-plain first n)
        ∙ ap {B = ProgramState → Completion} (λ (z : Names) (t : ProgramState). then_do (execute lengths (resolved_statement first n) t) (perform_list w (plain_list rest) z)) (names-plain first n)
        ∙ ap {B = ProgramState → Completion} (λ (F : ProgramState → Completion) (t : ProgramState). then_do (execute lengths (resolved_statement first n) t) F)
        (perform_list-plain rest (names_behind first n))

-- a unit without functions shows what the program shows
pub plain-same : (program : SourceProgram) (input : List ℤ) (n : ℕ) → call_run (plain_unit program) input n ≡ source_run (resolved program) input n
unfolding source_run outcome_of call_run unit_outcome
plain-same program input n =
    let items = program.items in
    let after = names_list-plain items no_names in
    let names = unit_names_after_list (plain_list items) no_names in
    ap (λ (F : ProgramState → Completion). shown (F (source_start names.initial input n))) (perform_list-plain (callees names.lengths []) names.lengths items no_names)
    ∙ ap (λ (z : Names). shown (execute_list z.lengths (resolved_list items no_names) (source_start z.initial input n))) after
