use Rattle.std.proofs.Common.{◌∙◌, ap, refl}
use Rattle.pc_machine.specs.declared.code.Code.{Code}
use Rattle.pc_trace.proofs.Steps.{tree-runnable, tree-walk}
use Rattle.pc_trace.proofs.cycle.follow.Goals as goal

pub sides_of-requires : goal.sides_of-requires
sides_of-requires c =
    tree-runnable c.args.machine.now c.exit-row.result c.as_slice.result.now c.index-as_slice-row.result c.code.ensures.well c.exit-row.ensures
    (c.as_slice.ensures ∙ ap (λ (code : Code). code.rows) c.code.ensures.code) c.index-as_slice-row.is

pub deeds_of-requires : goal.deeds_of-requires
deeds_of-requires c =
    tree-runnable c.args.machine.now c.exit-row.result c.as_slice.result.now c.index-as_slice-row.result c.code.ensures.well c.exit-row.ensures
    (c.as_slice.ensures ∙ ap (λ (code : Code). code.rows) c.code.ensures.code) c.index-as_slice-row.is

pub returns : goal.returns
returns c =
    tree-walk c.args.machine.now c.exit-row.result c.as_slice.result.now c.index-as_slice-row.result _ c.exit-row.ensures
    (c.as_slice.ensures ∙ ap (λ (code : Code). code.rows) c.code.ensures.code) c.index-as_slice-row.is
    refl c.in_ok-sides.ensures c.in_ok-deeds.ensures
