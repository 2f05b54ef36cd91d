use Rattle.std.proofs.Common.{◌<◌, length, ap, sym, ◌∙◌}
use Rattle.pc_syntax.specs.declared.statement.Stmt.{Stmt}
use Rattle.pc_syntax.specs.Erasure.{statement_of, optional_of}
use Rattle.pc_names.specs.declared.declared.DeclaredSymbols.{DeclaredSymbols}
use Rattle.pc_names.specs.Declarations.{with_declared, with_branch}
use Rattle.pc_names.proofs.Numbering.{one_more, with_declared-for}
use Rattle.pc_names.proofs.declared.+push_declared.Goals as goal

pub push_declared-returns-in_ok-push_branch-in-For : goal.push_declared-returns-in_ok-push_branch-in-For
push_declared-returns-in_ok-push_branch-in-For t c =
    let whole = with_declared-for c.args.statement.now _ _ _ _ _ c.args.symbols.now c.in-For.is in
    let first = ap (λ (l : DeclaredSymbols). with_branch (optional_of c.in-For.step) l) (sym c.in_ok-push_list-in-For.ensures) in
    let parts = ap (with_declared (statement_of c.in-For.body.value)) (first ∙ sym c.in_ok-push_branch-in-For.ensures) in
    let same = ap (λ (x : Stmt). with_declared (statement_of x) c.push_branch-in-For.new.symbols) (sym c.deref-in-For.ensures) in
    rw (whole ∙ parts ∙ same) c.push_declared-in-For.ensures

pub push_list-loop-item-preserved : goal.push_list-loop-item-preserved
push_list-loop-item-preserved t c =
    let same = c.as_slice-item-items.ensures in
    let below : c.loop-item.item-index < length c.args.items.now = rw same at c.loop-item-test.true in
    let read = rw same at c.item-item.is in
    one_more c.args.items.now c.loop-item.item-index c.item-item.result c.args.symbols.now below read c.loop-item.invariant c.in_ok-push_declared.ensures
