use Rattle.std.proofs.Common.{ap}
use Rattle.pc_table.specs.StoredTable.{table_of}
use Rattle.pc_word.specs.declared.row_tree.RowTree.{RowTree}
use Rattle.pc_automaton.specs.declared.left.Left.{Left}
use Rattle.pc_automaton.specs.StoredLeft.{left_in}
use Rattle.pc_pattern.specs.models.Renaming.{pairs_in}
use Rattle.pc_pattern.specs.models.Pools.{pool_in}
use Rattle.pc_pattern.specs.models.Leading.{rules_within}
use Rattle.pc_pattern.proofs.Steps.{row_plain, row_written}
use Rattle.pc_pattern.proofs.leading.+led.Goals as goal
use Rattle.pc_word.specs.StoredRow.{row_in}

pub returns-in_ok-step-in-None-clause-leads : goal.returns-in_ok-step-in-None-clause-leads
returns-in_ok-step-in-None-clause-leads t c =
    row_plain (rules_within (table_of c.args.table.now) c.args.bounds) (pairs_in c.args.names.now) c.args.next.now _ (pool_in c.args.pool.now) _ c.in-Step.item _
    _ _ _ (ap (λ (row : RowTree Left). row_in left_in row) c.in-Step.is) c.in_ok-step-in-None.ensures c.in-None.ensures
    (rw c.into_inner-below.ensures at c.in_ok-below-in-None.ensures.leads)

pub returns-in_ok-step-in-Some-clause-leads : goal.returns-in_ok-step-in-Some-clause-leads
returns-in_ok-step-in-Some-clause-leads t c =
    row_written (rules_within (table_of c.args.table.now) c.args.bounds) (pairs_in c.args.names.now) c.args.next.now _ c.in-Some.one (pool_in c.args.pool.now) _
    c.in-Step.item _ _ _ _ (ap (λ (row : RowTree Left). row_in left_in row) c.in-Step.is) c.in_ok-step-in-Some.ensures c.in-Some.ensures
    (rw c.into_inner-below.ensures at c.in_ok-below-in-Some.ensures.leads)
