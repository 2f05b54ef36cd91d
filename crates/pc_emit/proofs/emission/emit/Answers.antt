use Rattle.std.proofs.Common.{◌≡◌, sym, ◌∙◌, ap, subst}
use Rattle.std.specs.Prelude.{◌+◌, ◌<◌, ◌^◌, List}
use Rattle.pc_table.specs.declared.table.Region.{Region}
use Rattle.pc_emit.specs.models.Layout.{all_rows, entries_from}
use Rattle.pc_emit.proofs.Emits.{begins_behind, are_entries, rows_below}
use Rattle.pc_emit.proofs.emission.emit.Goals as goal

pub entries-requires-clause-few : goal.entries-requires-clause-few
entries-requires-clause-few c =
    let table = c.args.table.now in
    let forms = c.args.forms.now in
    let begins = begins_behind table forms c.as_slice-regions.result.now c.index-regions-0.result c.index-forms-0.result c.in_ok-front.front c.len.result c.as_slice-regions.ensures
    c.args.table.now.kept.some_region c.requires.count c.index-forms-0.is c.in_ok-front.ensures c.len.ensures in
    subst (λ (regions : List Region). c.len.result + all_rows regions forms < 2 ^ 32) (sym c.as_slice-regions.ensures)
    (rows_below table forms c.args.limits c.len.result c.requires.forms begins)

pub all_rows-requires-clause-plan : goal.all_rows-requires-clause-plan
all_rows-requires-clause-plan c =
    let table = c.args.table.now in
    let forms = c.args.forms.now in
    let begins = begins_behind table forms c.as_slice-regions.result.now c.index-regions-0.result c.index-forms-0.result c.in_ok-front.front c.len.result c.as_slice-regions.ensures
    c.args.table.now.kept.some_region c.requires.count c.index-forms-0.is c.in_ok-front.ensures c.len.ensures in
    let found : c.as_slice.result.now ≡ entries_from c.len.result table.regions forms =
    c.as_slice.ensures.value ∙ c.in_ok-entries.ensures ∙ ap (λ (regions : List Region). entries_from c.len.result regions forms) c.as_slice-regions.ensures in
    record {
      kept = c.args.table.now.kept;
      limits = c.requires.limits;
      count = c.requires.count;
      forms = c.requires.forms;
      entries = are_entries table forms c.args.limits c.as_slice.result.now c.len.result c.requires.count c.requires.forms begins found;
    }
