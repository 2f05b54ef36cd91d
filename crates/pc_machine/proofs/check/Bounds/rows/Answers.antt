use Rattle.std.proofs.Common.{rules, ◌≡◌, ◌<◌, Err, length, arith, refl, ◌∙◌}
use Rattle.pc_machine.proofs.Checks.{row-stops}
use Rattle.pc_machine.proofs.check.Bounds.rows.Goals as goal

pub returns-in_err-row : goal.returns-in_err-row
returns-in_err-row c =
    let is_err : c.from_residual.result ≡ Err c.in_err-row.field-0.0 = search rules in
    let within : c.loop-tree.tree-index < length c.args.trees.now = omega arith in
    is_err ∙ row-stops _ _ _ _ _ _ _ _ _ within c.tree-item.is refl c.none.ensures c.root-path.ensures c.loop-tree.invariant c.in_err-row.ensures
