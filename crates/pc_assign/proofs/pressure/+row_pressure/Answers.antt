use Rattle.std.proofs.Common.{◌≡◌, ◌+◌, suc, refl, sym, ◌∙◌, ap, subst}
use Rattle.std.specs.Prelude.{count_by}
use Rattle.pc_automaton.specs.declared.automaton.AutomatonLeaf.{AutomatonLeaf}
use Rattle.pc_word.specs.declared.row_tree.RowTree.{RowTree}
use Rattle.pc_assign.specs.Uses.{row_uses}
use Rattle.pc_assign.specs.Pressure.{row_pressure}
use Rattle.pc_assign.proofs.Pressures.{defining_pressure}
use Rattle.pc_assign.proofs.pressure.+row_pressure.Goals as goal
use Rattle.pc_word.specs.StoredRow.{row_in}

pub returns-in-Some : goal.returns-in-Some
returns-in-Some t c =
    defining_pressure c.args.parameters.now c.args.above (row_in (λ leaf. leaf) c.args.row.now)
    (row_in (λ leaf. leaf) c.in-Step.next.value) c.in-Step.item c.in-Some.field-0
    (c.args.above + 1) c.item_pressure.result c.row_pressure.result c.max.result (ap (row_in (λ leaf. leaf)) c.in-Step.is)
    (sym c.dest.ensures ∙ c.in-Some.is) refl
    (subst (λ (rest : RowTree AutomatonLeaf). c.item_pressure.result ≡ suc c.args.above + count_by
    (row_uses (row_in (λ leaf. leaf) rest)) c.args.parameters.now)
    c.deref.ensures c.item_pressure.ensures)
    (subst (λ (rest : RowTree AutomatonLeaf). c.row_pressure.result ≡ row_pressure c.args.parameters.now (c.args.above + 1)
    (row_in (λ leaf. leaf) rest))
    c.deref-in-Some.ensures c.row_pressure.ensures)
    c.max.ensures
