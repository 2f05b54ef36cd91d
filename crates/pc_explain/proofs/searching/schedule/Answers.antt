use Rattle.std.proofs.Common.{subst}
use Rattle.pc_table.specs.StoredTable.{table_of}
use Rattle.pc_pattern.specs.Pattern.{rules_for, IsNotFound}
use Rattle.pc_pattern.proofs.Determinism.{one_answer}
use Rattle.pc_explain.proofs.searching.schedule.Goals as goal

-- a search that found states does not come to too many
pub unreachable-requires : goal.unreachable-requires
unreachable-requires c =
    let rules = rules_for (table_of c.args.table.now) c.args.limits c.args.extent.window in
    let none = subst (IsNotFound rules c.args.region c.args.extent.rows) c.in-Err-NoPattern.field-0-is c.in-Err-NoPattern.ensures.not_found in
    one_answer rules c.args.region c.args.extent.rows c.requires.searched.0 c.requires.searched.1 none.none
