use Rattle.std.proofs.Common.{rules, ◌≡◌, ◌<◌, length}
use Rattle.pc_settling.proofs.EnteredRegions.{enters_one_ok}
use Rattle.pc_settling.proofs.entering.+entered.Goals as goal

pub returns-clause-entered : goal.returns-clause-entered
returns-clause-entered t c =
    let some : c.args.most ≡ 0 → ⊥ = search rules in
    let there : c.in-Exit.region < length c.args.table.now.regions = search rules in
    enters_one_ok c.args.table.now c.args.limits c.args.left c.in-Exit.region c.in-Exit.tag c.in-Exit.homes c.args.most c.in_ok-inside.inside c.entered.result
    c.in-Exit.is some there c.as_slice.result.now c.as_slice-2.result.now c.as_slice.ensures c.as_slice-2.ensures c.in_ok-inside.ensures.inside c.entered.ensures.entered
