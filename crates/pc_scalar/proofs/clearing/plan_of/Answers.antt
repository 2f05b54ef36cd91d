use Rattle.std.proofs.Common.{subst, rules}
use Rattle.std.specs.Prelude.{List, length}
use Rattle.pc_live.specs.declared.variable_set.VariableSet.{VariableSet}
use Rattle.pc_scalar.specs.Tally.{AreMany}
use Rattle.pc_scalar.specs.models.Counted.{IsReachedAnd}
use Rattle.pc_scalar.specs.models.Ends.{AreEnds}
use Rattle.pc_scalar.specs.models.Needed.{node_needless, AreCleared}
use Rattle.pc_scalar.proofs.Clears.{entry_end}
use Rattle.pc_scalar.proofs.clearing.plan_of.Goals as goal

pub returns : goal.returns
returns c =
    let flow = c.args.flow.now in
    let sets = c.in_ok-sets.sets.items in
    let table = c.in_ok-table.table.items in
    let ends = c.in_ok-ends.ends.items in
    let cleared : AreCleared flow sets table = search rules in
    let are : AreEnds table ends = search rules in
    record {
      sets = sets;
      table = table;
      ends = ends;
      are_needed = c.in_ok-sets.ensures;
      are_cleared = cleared;
      are_ends = are;
      nodes = search rules;
      entry = entry_end flow sets table ends c.entry.result c.index-entry.result.now c.in_ok-sets.ensures cleared are c.entry.ensures c.index-entry.ensures;
      changed = subst (λ (s : List VariableSet). AreMany (IsReachedAnd (λ at. node_needless s) flow) (length flow.nodes) c.in_ok-changed.changed) c.as_slice-3.ensures.value c.in_ok-changed.ensures;
    }
