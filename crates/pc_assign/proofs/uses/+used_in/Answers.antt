use Rattle.std.proofs.Common.{ap, subst}
use Rattle.pc_automaton.specs.declared.automaton.AutomatonLeaf.{AutomatonLeaf}
use Rattle.pc_word.specs.declared.row_tree.RowTree.{RowTree}
use Rattle.pc_assign.specs.Uses.{row_uses}
use Rattle.pc_assign.specs.models.Choosing.{IsUsedSet}
use Rattle.pc_assign.proofs.UsedSets.{set_either}
use Rattle.pc_assign.proofs.uses.+used_in.Goals as goal
use Rattle.pc_word.specs.StoredRow.{row_in}

pub returns-in-Test : goal.returns-in-Test
returns-in-Test t c =
    set_either c.args.parameters.now (row_in (λ leaf. leaf) c.args.row.now) (row_in (λ leaf. leaf) c.in-Test.yes.value)
    (row_in (λ leaf. leaf) c.in-Test.no.value) c.in-Test.on
    c.used_in-in-Test.result c.used_in-in-Test-2.result c.union.result (ap (row_in (λ leaf. leaf)) c.in-Test.is)
    (subst (λ (side : RowTree AutomatonLeaf). IsUsedSet
    (row_uses (row_in (λ leaf. leaf) side)) c.args.parameters.now c.used_in-in-Test.result) c.deref-in-Test.ensures c.used_in-in-Test.ensures)
    (subst (λ (side : RowTree AutomatonLeaf). IsUsedSet
    (row_uses (row_in
    (λ leaf. leaf) side)) c.args.parameters.now c.used_in-in-Test-2.result) c.deref-in-Test-2.ensures c.used_in-in-Test-2.ensures)
    c.union.ensures
