use Rattle.std.proofs.Common.{◌<◌, length}
use Rattle.pc_lines.proofs.Forms.{of_scalar, of_if, of_while, of_do, of_for, of_no_nodes, of_empty_or_call, of_none, of_nothing, of_one_more}
use Rattle.pc_lines.proofs.Pushed.{on_ok, none, both, as_said, condition}
use Rattle.pc_lines.proofs.statement.+push_statement.Goals as goal

pub push_branch-returns-in-None : goal.push_branch-returns-in-None
push_branch-returns-in-None t c = none c.args.lines.now (of_none c.args.statement.now c.in-None.is)

pub push_statement-returns-in_ok-push_optional-in-Scalar : goal.push_statement-returns-in_ok-push_optional-in-Scalar
push_statement-returns-in_ok-push_optional-in-Scalar t c =
    on_ok c.push_nodes.result
    (λ last. as_said c.args.lines.now _ (of_scalar c.args.statement.now _ _ _ c.in-Scalar.is)
    (both c.args.lines.now _ _ c.in_ok-push_optional-in-Scalar.ensures last))
    c.push_nodes.ensures

pub push_statement-returns-in-Empty : goal.push_statement-returns-in-Empty
push_statement-returns-in-Empty t c = none c.args.lines.now (of_empty_or_call c.args.statement.now c.in-Empty.is)

pub push_statement-returns-in-Empty-2 : goal.push_statement-returns-in-Empty-2
push_statement-returns-in-Empty-2 t c = none c.args.lines.now (of_empty_or_call c.args.statement.now c.in-Empty.is)

pub push_statement-returns-in-Array : goal.push_statement-returns-in-Array
push_statement-returns-in-Array t c = none c.args.lines.now (of_no_nodes c.args.statement.now c.in-Array.is)

pub push_statement-returns-in-Array-2 : goal.push_statement-returns-in-Array-2
push_statement-returns-in-Array-2 t c = none c.args.lines.now (of_no_nodes c.args.statement.now c.in-Array.is)

pub push_statement-returns-in-Array-3 : goal.push_statement-returns-in-Array-3
push_statement-returns-in-Array-3 t c = none c.args.lines.now (of_no_nodes c.args.statement.now c.in-Array.is)

pub push_list-loop-item-init : goal.push_list-loop-item-init
push_list-loop-item-init t c = none c.args.lines.now of_nothing

pub push_list-loop-item-preserved : goal.push_list-loop-item-preserved
push_list-loop-item-preserved t c =
    let same = c.as_slice-item-items.ensures in
    let below : c.loop-item.item-index < length c.args.items.now = rw same at c.loop-item-test.true in
    let read = rw same at c.item-item.is in
    as_said c.args.lines.now _ (of_one_more c.args.items.now c.loop-item.item-index c.item-item.result below read)
    (both c.args.lines.now _ _ c.loop-item.invariant c.in_ok-push_statement.ensures)

pub push_statement-returns-in_ok-push_statement-in-If : goal.push_statement-returns-in_ok-push_statement-in-If
push_statement-returns-in_ok-push_statement-in-If t c =
    let body = rw c.deref.ensures at c.in_ok-push_statement-in-If.ensures in
    on_ok c.push_branch.result
    (λ last. as_said c.args.lines.now _ (of_if c.args.statement.now _ _ _ _ c.in-If.is)
    (condition c.args.lines.now _ _ _ c.in_ok-push_condition-in-If.ensures (both c.push_condition-in-If.new.lines _ _ body last)))
    c.push_branch.ensures

pub push_statement-returns-in_ok-push_condition-in-While : goal.push_statement-returns-in_ok-push_condition-in-While
push_statement-returns-in_ok-push_condition-in-While t c =
    on_ok c.push_statement-in-While.result
    (λ last. as_said c.args.lines.now _ (of_while c.args.statement.now _ _ _ c.in-While.is)
    (condition c.args.lines.now _ _ _ c.in_ok-push_condition-in-While.ensures (rw c.deref-in-While.ensures at last)))
    c.push_statement-in-While.ensures

pub push_statement-returns-in_ok-push_statement-in-Do : goal.push_statement-returns-in_ok-push_statement-in-Do
push_statement-returns-in_ok-push_statement-in-Do t c =
    let body = rw c.deref-in-Do.ensures at c.in_ok-push_statement-in-Do.ensures in
    on_ok c.push_condition-in-Do.result
    (λ last. as_said c.args.lines.now _ (of_do c.args.statement.now _ _ _ c.in-Do.is) (both c.args.lines.now _ _ body last))
    c.push_condition-in-Do.ensures

pub push_statement-returns-in_ok-push_statement-in-For : goal.push_statement-returns-in_ok-push_statement-in-For
push_statement-returns-in_ok-push_statement-in-For t c =
    let body = rw c.deref-in-For.ensures at c.in_ok-push_statement-in-For.ensures in
    on_ok c.push_branch-in-For.result
    (λ last. as_said c.args.lines.now _ (of_for c.args.statement.now _ _ _ _ _ c.in-For.is)
    (both c.args.lines.now _ _ c.in_ok-push_list-in-For.ensures
    (condition c.push_list-in-For.new.lines _ _ _ c.in_ok-push_condition-in-For.ensures (both c.push_condition-in-For.new.lines _ _ body last))))
    c.push_branch-in-For.ensures
