use Rattle.std.proofs.Common.{ℕ, Option, None, false, sym, ◌∙◌, ap}
use Rattle.std.specs.Prelude.{replicate}
use Rattle.std.proofs.lemmas.List.{length-replicate}
use Rattle.pc_table.specs.Table.{table_region}
use Rattle.pc_table.specs.StoredTable.{table_of}
use Rattle.pc_emit.specs.declared.form.RegionForm.{RegionForm}
use Rattle.pc_compile.proofs.Progress.{progress_begins}
use Rattle.pc_compile.proofs.choosing.begun.Goals as goal
use Rattle.pc_word.proofs.Places.{map_length}

pub returns : goal.returns
returns c limits extent =
    let finds = rw c.in_ok-found.ensures at c.in_ok-find.ensures in
    let count = c.len-count.ensures ∙ sym (map_length table_region c.args.table.now.regions) in
    progress_begins (table_of c.args.table.now) c.args.initial.now limits extent _ finds.order
    (finds.as_many ∙ length-replicate c.len-count.result false ∙ count)
    c.new-2.ensures
    (c.in_ok-no_forms.ensures.none ∙ ap (λ (n : ℕ). let nothing : Option RegionForm = None in replicate n nothing) count)
    c.object_bytes.ensures c.requires.small
