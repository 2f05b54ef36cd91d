use Rattle.std.proofs.Common.{◌≡◌, sym, ap, ◌∙◌, ◌-◌, length, arith, ◌+◌}
use Rattle.std.specs.Prelude.{max}
use Rattle.std.proofs.lemmas.Result.{err_from_is_err_and}
use Rattle.pc_syntax.specs.UnitErasure.{unit_list_of, unit_statement_of}
use Rattle.pc_syntax.proofs.UnitLaws.{unit_list_of-push}
use Rattle.pc_parser.proofs.Further.{declarator-further}
use Rattle.pc_parser.proofs.Lists.{declarators-init, declarators-more, declarators-fail_first, declarators-fail_more}
use Rattle.pc_parser.proofs.declaration.declarators.Goals as goal

-- a failure of the first declarator
pub returns-in_err-first-clause-gives : goal.returns-in_err-first-clause-gives
returns-in_err-first-clause-gives c =
    let p = err_from_is_err_and c.from_residual.result c.from_residual.ensures.1 in
    rw (p.1, p.2) (declarators-fail_first c.args.tokens.now c.args.calls c.args.budget c.args.storage (unit_list_of c.args.items) c.args.place _ c.in_err-first.ensures.gives)

-- the first declarator
pub loop-alloc-init : goal.loop-alloc-init
loop-alloc-init c =
    let tokens = c.args.tokens.now in
    let first = c.in_ok-first.first in
    let ends = c.in_ok-first.ensures.ends in
    let further = declarator-further tokens c.args.calls c.args.budget c.args.storage c.args.place (unit_statement_of first.tree) first.height first.next c.in_ok-first.ensures.gives in
    record {
      turns = length tokens;
      enough = omega arith;
      same = declarators-init tokens c.args.calls c.args.budget c.args.storage (unit_list_of c.args.items) (unit_list_of c.push.new.self) c.args.place
          (unit_statement_of first.tree) first.height first.next c.in_ok-first.ensures.gives
          (ap unit_list_of c.in_ok-push.ensures.ok ∙ unit_list_of-push c.args.items first.tree);
      low = ends.low;
      inside = ends.inside;
      further = further;
    }

-- a failure of a declarator after a comma
pub returns-in_err-other-clause-gives : goal.returns-in_err-other-clause-gives
returns-in_err-other-clause-gives c =
    let p = err_from_is_err_and c.from_residual-in_err-other.result c.from_residual-in_err-other.ensures.1 in
    let so_far = c.loop-alloc.invariant in
    let enough = so_far.enough in
    let inside = c.loop-alloc-test.ensures.inside in
    rw (p.1, p.2) (declarators-fail_more c.args.tokens.now c.args.calls c.args.budget c.args.storage _
    (unit_list_of c.loop-alloc.items) c.loop-alloc.height c.loop-alloc.next so_far.turns _ so_far.same
    (sym c.loop-alloc-test.ensures.value) (omega arith) c.in_err-other.ensures.gives)

-- one more declarator
pub loop-alloc-preserved : goal.loop-alloc-preserved
loop-alloc-preserved c =
    let tokens = c.args.tokens.now in
    let so_far = c.loop-alloc.invariant in
    let enough = so_far.enough in
    let inside = c.loop-alloc-test.ensures.inside in
    let other = c.in_ok-other.other in
    let ends = c.in_ok-other.ensures.ends in
    let further = declarator-further tokens c.args.calls c.args.budget c.args.storage (c.loop-alloc.next + 1) (unit_statement_of other.tree) other.height other.next c.in_ok-other.ensures.gives in
    let was = so_far.further in
    let low = so_far.low in
    let more_low = ends.low in
    let high : c.max-height.result ≡ max c.loop-alloc.height other.height = c.max-height.ensures in
    record {
      turns = so_far.turns - 1;
      enough = omega arith;
      same = declarators-more tokens c.args.calls c.args.budget c.args.storage _ (unit_list_of c.loop-alloc.items)
          (unit_list_of c.push-in-loop-alloc.new.self) c.loop-alloc.height c.loop-alloc.next so_far.turns
          (unit_statement_of other.tree) other.height other.next c.max-height.result so_far.same
          (sym c.loop-alloc-test.ensures.value) (omega arith) c.in_ok-other.ensures.gives (ap unit_list_of c.in_ok-push-2.ensures.ok ∙ unit_list_of-push c.loop-alloc.items other.tree) high;
      low = omega arith;
      inside = ends.inside;
      further = omega arith;
    }

-- each declarator is read further on
pub loop-alloc-smaller : goal.loop-alloc-smaller
loop-alloc-smaller c =
    let inside = c.loop-alloc-test.ensures.inside in
    let other = c.in_ok-other.other in
    let further = declarator-further c.args.tokens.now c.args.calls c.args.budget c.args.storage (c.loop-alloc.next + 1) (unit_statement_of other.tree) other.height other.next
    c.in_ok-other.ensures.gives in
    omega arith
