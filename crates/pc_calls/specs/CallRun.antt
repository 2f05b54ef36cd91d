-- What a translation unit shows as it runs. Each function works on scalars of its own, which are numbered as they are
-- declared there. Nothing here puts a function in the place of a call.
use Rattle.std.specs.Prelude.{ℕ, zero, suc, ℤ, pos, Bool, true, false, Option, Some, None, List, [], ◌∷◌, if◌then◌else◌, nat_eq, reverse}
use Rattle.pc_word.specs.Run.{Run}
use Rattle.pc_syntax.specs.Source.{SourceExpression}
use Rattle.pc_check.specs.Names.{Names, no_names, entered, with_scalar}
use Rattle.pc_check.specs.Resolution.{slot_number, resolved_expression, resolved_optional}
use Rattle.pc_meaning.specs.ProgramState.{ProgramState, add_printed, source_start}
use Rattle.pc_meaning.specs.Expression.{Evaluated, Given, side, eval}
use Rattle.pc_meaning.specs.Statement.{Completion, GoesOn, Breaks, Continues, Returns, do_with, then_do, assign, assignment, declare, loop_from, do_loop}
use Rattle.pc_meaning.specs.SourceRun.{shown}
use Rattle.pc_syntax.specs.declared.unit.Target.{Target}
use Rattle.pc_syntax.specs.Unit.{UnitStatement, UnitOptional, UnitList, Block, Scalar, Array, Assign, Print, Eval, If, While, Do, For}
use Rattle.pc_syntax.specs.Unit.{Break, Continue, Return, Empty, Call, Without, With, Finish, Item, UnitFunction, TranslationUnit}
use Rattle.pc_calls.specs.UnitNames.{with_target, with_parameters, unit_names_after, unit_names_after_optional, unit_names_after_list}

-- ---- calls

-- what a function is to those that call it
pub record Callee : Type 0 where
  -- what its items do, in a state whose scalars are its own
  pub runs : ProgramState → Completion
  -- the value of its result after them
  pub answers : ProgramState → Evaluated

-- the value at a place of a list, and 0 after its end
abbrev pub value_at : List ℤ → ℕ → ℤ
value_at [] i = pos 0
value_at (v ∷ others) zero = v
value_at (v ∷ others) (suc i) = value_at others i

-- the state with these scalars
abbrev pub with_scalars : (ℕ → ℤ) → ProgramState → ProgramState
with_scalars scalars s = record s { scalars = scalars }

-- where a function starts: its first scalars, the parameters, have these values, and its others are 0
abbrev pub framed : List ℤ → ProgramState → ProgramState
framed values s = with_scalars (value_at values) s

-- a call with these values, and what is done with the value that it comes to, with the caller's scalars as they were
abbrev pub called : Option Callee → List ℤ → (ℤ → ProgramState → Completion) → ProgramState → Completion
called None values next s = GoesOn s
called (Some callee) values next s =
    then_do (callee.runs (framed values s)) (λ t. do_with (callee.answers t) (λ v u. next v (with_scalars s.scalars u)))

-- the values of arguments, from left to right
abbrev pub with_arguments : List ℕ → Names → List SourceExpression → (List ℤ → ProgramState → Completion) → ProgramState → Completion
with_arguments lengths names [] next s = next [] s
with_arguments lengths names (first ∷ others) next s =
    do_with (eval lengths (resolved_expression names first) s)
    (λ v. with_arguments lengths names others (λ values. next (v ∷ values)))

-- a target that a call declares is first set to 0
abbrev pub target_declared : Option Target → Names → ProgramState → Completion
target_declared None names s = GoesOn s
target_declared (Some target) names s = if target.declared then assign names.scalars (pos 0) s else GoesOn s

-- the value of a call is put into its target
abbrev pub to_target : Option Target → Names → ℤ → ProgramState → Completion
to_target None names v s = GoesOn s
to_target (Some target) names v s = assign (slot_number names target.symbol) v s

-- ---- statements

-- A declarator. Inside a function it first sets its scalar to 0.
abbrev pub declared_in_function : List ℕ → ℕ → Option SourceExpression → ProgramState → Completion
declared_in_function lengths slot None s = assign slot (pos 0) s
declared_in_function lengths slot (Some initial) s =
    then_do (assign slot (pos 0) s) (λ s. do_with (eval lengths initial s) (assign slot))

abbrev pub declarator : Bool → List ℕ → ℕ → Option SourceExpression → ProgramState → Completion
declarator true lengths slot initial s = declared_in_function lengths slot initial s
declarator false lengths slot initial s = declare lengths slot initial s

-- where statements stand: in a function or in `main`, with the functions that they may call, in a unit with arrays of these lengths
pub record Setting : Type 0 where
  pub callees : ℕ → Option Callee
  pub in_function : Bool
  pub lengths : List ℕ

unfoldable mutual
  -- a statement among the names that are declared, in a state
  pub perform : Setting → UnitStatement → Names → ProgramState → Completion
  perform w (Block items) names s = perform_list w items (entered names) s
  perform w (Scalar symbol line initial) names s =
      declarator w.in_function w.lengths names.scalars (resolved_optional (with_scalar names symbol) initial) s
  perform w (Array symbol line at length values) names s = GoesOn s
  perform w (Assign symbol line index bracket op at value) names s =
      assignment w.lengths (slot_number names symbol) line (resolved_optional names index) bracket op at (resolved_expression names value) s
  perform w (Print line value) names s = do_with (eval w.lengths (resolved_expression names value) s) (λ v s. GoesOn (add_printed v s))
  perform w (Eval line value) names s = do_with (eval w.lengths (resolved_expression names value) s) (λ v. GoesOn)
  perform w (If line test body otherwise) names s =
      do_with (eval w.lengths (resolved_expression names test) s)
      (λ v. side v (perform w body names) (perform_optional w otherwise (unit_names_after body names)))
  perform w (While line test body) names s = loop_from (eval w.lengths (resolved_expression names test)) GoesOn (perform w body names) s
  perform w (Do line body test) names s =
      do_loop (eval w.lengths (resolved_expression (unit_names_after body names) test)) (perform w body names) s
  perform w (For line first test step body) names s =
      let inside = unit_names_after_list first (entered names) in
      then_do (perform_list w first (entered names) s)
      (loop_from (eval w.lengths (resolved_expression inside test)) (perform_optional w step inside) (perform w body (unit_names_after_optional step inside)))
  perform w (Break line) names s = Breaks s
  perform w (Continue line) names s = Continues s
  perform w (Return line value) names s = do_with (eval w.lengths (resolved_expression names value) s) (λ v. Returns)
  perform w Empty names s = GoesOn s
  perform w (Call line target function at arguments) names s =
      then_do (target_declared target names s)
      (with_arguments w.lengths (with_target target names) arguments
      (λ values. called (w.callees function) values (to_target target (with_target target names))))

  pub perform_optional : Setting → UnitOptional → Names → ProgramState → Completion
  perform_optional w Without names s = GoesOn s
  perform_optional w (With statement) names s = perform w statement names s

  pub perform_list : Setting → UnitList → Names → ProgramState → Completion
  perform_list w Finish names s = GoesOn s
  perform_list w (Item first rest) names s = then_do (perform w first names s) (perform_list w rest (unit_names_after first names))

-- ---- functions

-- the value of a function: that of its result, or 0
abbrev pub answer_of : List ℕ → Names → Option SourceExpression → ProgramState → Evaluated
answer_of lengths names None s = Given (pos 0) s
answer_of lengths names (Some result) s = eval lengths (resolved_expression names result) s

-- a function that may call these
abbrev pub callee_of : List ℕ → (ℕ → Option Callee) → UnitFunction → Callee
callee_of lengths callees function =
    let names = with_parameters function.parameters no_names in
    record {
      runs = perform_list (record { callees = callees; in_function = true; lengths = lengths }) function.items names;
      answers = answer_of lengths (unit_names_after_list function.items names) function.result;
    }

-- the function of a name among these, of which the last comes first; each may call those after it
unfoldable pub callees : List ℕ → List UnitFunction → ℕ → Option Callee
callees lengths [] symbol = None
callees lengths (last ∷ earlier) symbol =
    if nat_eq symbol last.symbol then Some (callee_of lengths (callees lengths earlier) last) else callees lengths earlier symbol

-- the lengths of the arrays that `main` declares
abbrev pub unit_lengths : TranslationUnit → List ℕ
unit_lengths unit = (unit_names_after_list unit.main no_names).lengths

-- the data with which these arrays begin
abbrev pub unit_data : TranslationUnit → List (List ℤ)
unit_data unit = (unit_names_after_list unit.main no_names).initial

-- what a translation unit comes to on an input, with at most n turns of loops in all
unfoldable pub unit_outcome : TranslationUnit → List ℤ → ℕ → Completion
unit_outcome unit input n =
    perform_list (record { callees = callees (unit_lengths unit) (reverse unit.functions); in_function = false; lengths = unit_lengths unit })
    unit.main no_names (source_start (unit_data unit) input n)

-- its run on an input: at most n turns of loops in all
unfoldable pub call_run : TranslationUnit → List ℤ → Run
call_run unit input n = shown (unit_outcome unit input n)
