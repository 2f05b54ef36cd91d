use Rattle.std.proofs.Common.{sym, ◌∙◌, arith}
use Rattle.pc_lower.proofs.Layouts.{binary_fits, lays_division}
use Rattle.pc_lower.proofs.parts.lay_operation.Goals as goal

pub lay-at-requires-clause-fits : goal.lay-at-requires-clause-fits
lay-at-requires-clause-fits c =
    let there = c.requires.result_there in
    rw c.binary_item-item.ensures (record {
      names = binary_fits c.args.operation.op _ _ c.args.left c.args.right (omega (arith, there)) c.requires.left c.requires.right;
      leads = c.requires.leads;
    })

pub returns : goal.returns
returns c =
    let guarded = rw c.leading_to.ensures at c.lay_guard.ensures in
    lays_division c.args.draft.now _ _ c.args.operation.op c.args.operation.line _ _ _ _ _ c.args.left c.args.right _ c.lay-at.ensures guarded
    c.binary_item-item.ensures (sym c.divides.ensures ∙ c.if-not-divides.false)
