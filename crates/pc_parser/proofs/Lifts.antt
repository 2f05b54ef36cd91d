-- What is read without calls is read where they may stand.
use Rattle.std.proofs.Common.{ℕ, ◌+◌, List}
use Rattle.pc_lexer.specs.declared.token.Token.{Token}
use Rattle.pc_syntax.specs.Source.{SourceProgram}
use Rattle.pc_syntax.specs.Plain.{plain_unit}
use Rattle.pc_syntax.specs.Unit.{UnitStatement, UnitList, UnitOptional}
use Rattle.pc_parser.specs.declared.calls.Calls.TheVariants.{Allowed, Refused}
use Rattle.pc_parser.specs.declared.storage.Storage.{Storage}
use Rattle.pc_parser.specs.Statements.{ReadsSimple, ReadsDeclarator, ReadsDeclarators, ReadsDeclaration, ReadsFirst, ReadsStep, ReadsStatement, ReadsItems, ReadsMain, ReadsProgram}
use Rattle.pc_parser.specs.Units.{ReadsFunctions, ReadsUnit}

module _ (tokens : List Token) where
  simple-lifts : (p : ℕ) (s : UnitStatement) (h q : ℕ) → ReadsSimple tokens Refused p s h q → ReadsSimple tokens Allowed p s h q
  simple-lifts p s h q (ReadsSimple.assignment d is found e) = ReadsSimple.assignment d is found e
  simple-lifts p s h q (ReadsSimple.step_behind d is found) = ReadsSimple.step_behind d is found
  simple-lifts p s h q (ReadsSimple.step_before is found d) = ReadsSimple.step_before is found d
  simple-lifts p s h q (ReadsSimple.print is d) = ReadsSimple.print is d
  simple-lifts p s h q (ReadsSimple.evaluation d) = ReadsSimple.evaluation d
  simple-lifts p s h q (ReadsSimple.call may d) = cc
  simple-lifts p s h q (ReadsSimple.assigned_call may is assign d) = cc

  declarator-lifts : (storage : Storage) (p : ℕ) (s : UnitStatement) (h q : ℕ) → ReadsDeclarator tokens Refused storage p s h q → ReadsDeclarator tokens Allowed storage p s h q
  declarator-lifts storage p s h q (ReadsDeclarator.scalar is) = ReadsDeclarator.scalar is
  declarator-lifts storage p s h q (ReadsDeclarator.initialised is assign d) = ReadsDeclarator.initialised is assign d
  declarator-lifts storage p s h q (ReadsDeclarator.called may is assign d) = cc
  declarator-lifts storage p s h q (ReadsDeclarator.array is open' number close') = ReadsDeclarator.array is open' number close'
  declarator-lifts storage p s h q (ReadsDeclarator.initialised_array is open' number close' assign brace d) = ReadsDeclarator.initialised_array is open' number close' assign brace d

  declarators-lift : (storage : Storage) (p : ℕ) (l : UnitList) (h q : ℕ) → ReadsDeclarators tokens Refused storage p l h q → ReadsDeclarators tokens Allowed storage p l h q
  declarators-lift storage p l h q (ReadsDeclarators.last {q = r} {tree = tree} d close') = ReadsDeclarators.last (declarator-lifts storage p tree h r d) close'
  declarators-lift storage p l h q (ReadsDeclarators.comma {i = i} {q = r} {j = j} {tree = tree} {rest = rest} d comma e) =
      ReadsDeclarators.comma (declarator-lifts storage p tree i r d) comma (declarators-lift storage (r + 1) rest j q e)

  declaration-lifts : (storage : Storage) (p : ℕ) (l : UnitList) (h q : ℕ) → ReadsDeclaration tokens Refused storage p l h q → ReadsDeclaration tokens Allowed storage p l h q
  declaration-lifts storage p l h q (ReadsDeclaration.automatic is d) = ReadsDeclaration.automatic is (declarators-lift _ (p + 1) l h q d)
  declaration-lifts storage p l h q (ReadsDeclaration.static is int d) = ReadsDeclaration.static is int (declarators-lift _ (p + 2) l h q d)

  first-lifts : (p : ℕ) (l : UnitList) (h q : ℕ) → ReadsFirst tokens Refused p l h q → ReadsFirst tokens Allowed p l h q
  first-lifts p l h q (ReadsFirst.declared d) = ReadsFirst.declared (declaration-lifts _ p l h q d)
  first-lifts p l h q (ReadsFirst.simple {q = r} {tree = tree} d close') = ReadsFirst.simple (simple-lifts p tree h r d) close'
  first-lifts p l h q (ReadsFirst.none is) = ReadsFirst.none is

  step-lifts : (p : ℕ) (s : UnitOptional) (h q : ℕ) → ReadsStep tokens Refused p s h q → ReadsStep tokens Allowed p s h q
  step-lifts p s h q (ReadsStep.given {q = r} {tree = tree} d close') = ReadsStep.given (simple-lifts p tree h r d) close'
  step-lifts p s h q (ReadsStep.none is) = ReadsStep.none is

  mutual
    statement-lifts : (p : ℕ) (s : UnitStatement) (h q : ℕ) → ReadsStatement tokens Refused p s h q → ReadsStatement tokens Allowed p s h q
    statement-lifts p s h q (ReadsStatement.block {height = i} {items = items} is d) = ReadsStatement.block is (items-lift (p + 1) items i q d)
    statement-lifts p s h q (ReadsStatement.empty is) = ReadsStatement.empty is
    statement-lifts p s h q (ReadsStatement.simple {q = r} d is) = ReadsStatement.simple (simple-lifts p s h r d) is
    statement-lifts p s h q (ReadsStatement.branch {i = i} {q = r} {j = j} {body = body} is d e) = ReadsStatement.branch is d (statement-lifts r body j q e)
    statement-lifts p s h q (ReadsStatement.branch_else {i = i} {q = r} {j = j} {r = t} {k = l} {body = body} {other = other} is d e closed is' f) =
        ReadsStatement.branch_else is d (statement-lifts r body j t e) closed is' (statement-lifts (t + 1) other l q f)
    statement-lifts p s h q (ReadsStatement.while_loop {i = i} {q = r} {j = j} {body = body} is d e) = ReadsStatement.while_loop is d (statement-lifts r body j q e)
    statement-lifts p s h q (ReadsStatement.do_loop {i = i} {q = r} {body = body} is d is' e close') = ReadsStatement.do_loop is (statement-lifts (p + 1) body i r d) is' e close'
    statement-lifts p s h q (ReadsStatement.for_loop {i = i} {q = r} {j = j} {r = t} {k = l} {s = u} {l = m} {first = first} {step = step} {body = body} is open' d e f g) =
        ReadsStatement.for_loop is open' (first-lifts (p + 2) first i r d) e (step-lifts t step l u f) (statement-lifts u body m q g)
    statement-lifts p s h q (ReadsStatement.break_out is close') = ReadsStatement.break_out is close'
    statement-lifts p s h q (ReadsStatement.continue_on is close') = ReadsStatement.continue_on is close'
    statement-lifts p s h q (ReadsStatement.return_from is d close') = ReadsStatement.return_from is d close'

    items-lift : (p : ℕ) (l : UnitList) (h q : ℕ) → ReadsItems tokens Refused p l h q → ReadsItems tokens Allowed p l h q
    items-lift p l h q (ReadsItems.close is) = ReadsItems.close is
    items-lift p l h q (ReadsItems.declared {storage = storage} {i = i} {q = r} {j = j} {trees = some} {rest = rest} d e) =
        ReadsItems.declared (declaration-lifts storage p some i r d) (items-lift r rest j q e)
    items-lift p l h q (ReadsItems.stated {i = i} {q = r} {j = j} {tree = tree} {rest = rest} d e) = ReadsItems.stated (statement-lifts p tree i r d) (items-lift r rest j q e)

  main-lifts : (p : ℕ) (l : UnitList) (h : ℕ) → ReadsMain tokens Refused p l h → ReadsMain tokens Allowed p l h
  main-lifts p l h (ReadsMain.without_void {height = i} {to = to} main open' close' brace d end') = ReadsMain.without_void main open' close' brace (items-lift (p + 4) l i to d) end'
  main-lifts p l h (ReadsMain.with_void {height = i} {to = to} main open' void close' brace d end') = ReadsMain.with_void main open' void close' brace (items-lift (p + 5) l i to d) end'

-- a program is a unit without functions
pub program-unit : (tokens : List Token) (program : SourceProgram) (height : ℕ) → ReadsProgram tokens program height → ReadsUnit tokens (plain_unit program) height
program-unit tokens program height (ReadsProgram.program int d) = ReadsFunctions.main int (main-lifts tokens 1 _ height d)
