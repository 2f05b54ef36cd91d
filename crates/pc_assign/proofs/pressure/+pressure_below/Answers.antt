use Rattle.std.proofs.Common.{arith, ◌≡◌, ◌+◌, suc, refl, sym, ◌∙◌, ap, subst}
use Rattle.std.specs.Prelude.{count_by}
use Rattle.pc_automaton.specs.declared.automaton.AutomatonLeaf.{AutomatonLeaf}
use Rattle.pc_word.specs.declared.row_tree.RowTree.{RowTree}
use Rattle.pc_assign.specs.Uses.{row_uses}
use Rattle.pc_assign.specs.Pressure.{row_pressure}
use Rattle.pc_assign.specs.models.Choosing.{IsUsedSet}
use Rattle.pc_assign.proofs.Pressures.{defining_pressure}
use Rattle.pc_assign.proofs.UsedSets.{set_either, used_count}
use Rattle.pc_assign.proofs.pressure.+pressure_below.Goals as goal
use Rattle.pc_word.specs.StoredRow.{row_in}

pub returns-in-Some-clause-live : goal.returns-in-Some-clause-live
returns-in-Some-clause-live t c =
    let parameters = c.args.parameters.now in
    let rest = row_in (λ leaf. leaf) c.in-Step.next.value in
    let used : IsUsedSet (row_uses rest) parameters c.pressure_below-below.result.used =
    subst (λ (tree : RowTree AutomatonLeaf). IsUsedSet (row_uses (row_in (λ leaf. leaf) tree)) parameters c.pressure_below-below.result.used)
    c.deref.ensures c.pressure_below-below.ensures.used in
    let below : c.pressure_below-below.result.live ≡ row_pressure parameters (c.args.above + 1) rest =
    subst (λ (tree : RowTree AutomatonLeaf). c.pressure_below-below.result.live ≡ row_pressure parameters (c.args.above + 1)
    (row_in (λ leaf. leaf) tree))
    c.deref.ensures c.pressure_below-below.ensures.live in
    let counted : c.count.result ≡ count_by (row_uses rest) parameters =
    used_count (row_uses rest) parameters c.pressure_below-below.result.used c.count.result used c.count.ensures.count c.count.ensures.fits in
    let here : c.args.above + 1 + c.from.result ≡ suc c.args.above + count_by (row_uses rest) parameters = omega (arith, c.from.ensures, counted) in
    defining_pressure parameters c.args.above (row_in (λ leaf. leaf) c.args.row.now) rest c.in-Step.item c.in-Some.field-0 (c.args.above + 1)
    (c.args.above + 1 + c.from.result) c.pressure_below-below.result.live c.max.result (ap (row_in (λ leaf. leaf)) c.in-Step.is)
    (sym c.dest.ensures ∙ c.in-Some.is) refl here below c.max.ensures

pub returns-in-Test-clause-used : goal.returns-in-Test-clause-used
returns-in-Test-clause-used t c =
    let parameters = c.args.parameters.now in
    set_either parameters (row_in (λ leaf. leaf) c.args.row.now) (row_in (λ leaf. leaf) c.in-Test.yes.value)
    (row_in (λ leaf. leaf) c.in-Test.no.value) c.in-Test.on
    c.pressure_below-yes.result.used c.pressure_below-no.result.used c.union.result (ap (row_in (λ leaf. leaf)) c.in-Test.is)
    (subst (λ (side : RowTree AutomatonLeaf). IsUsedSet (row_uses (row_in (λ leaf. leaf) side)) parameters c.pressure_below-yes.result.used)
    c.deref-in-Test.ensures c.pressure_below-yes.ensures.used)
    (subst (λ (side : RowTree AutomatonLeaf). IsUsedSet (row_uses (row_in (λ leaf. leaf) side)) parameters c.pressure_below-no.result.used)
    c.deref-in-Test-2.ensures c.pressure_below-no.ensures.used)
    c.union.ensures
