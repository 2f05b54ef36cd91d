use Rattle.std.proofs.Common.{rules, ◌<◌, length}
use Rattle.pc_window_specimen.proofs.Unwindable.{opened_can}
use Rattle.pc_window_specimen.proofs.windows.opened.Goals as goal

pub returns-clause-can : goal.returns-clause-can
returns-clause-can c =
    let there : c.args.region < length c.args.table.now.regions = search rules in
    opened_can c.args.table.now _ c.args.region c.in_ok-of_region.field-0 there c.in_ok-of_region.ensures.opened
