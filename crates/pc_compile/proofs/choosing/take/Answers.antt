use Rattle.std.proofs.Common.{◌∙◌, ap, arith}
use Rattle.pc_table.specs.Table.{table_region}
use Rattle.pc_table.specs.StoredTable.{table_of}
use Rattle.pc_emit.specs.Bytes.{plain_bytes}
use Rattle.pc_compile.specs.models.Giving.{form_of}
use Rattle.pc_compile.proofs.Progress.{next_counted, leads_below, takes_next}
use Rattle.pc_compile.proofs.choosing.take.Goals as goal
use Rattle.pc_word.proofs.Places.{map_length}

pub plain_bytes-plain-requires : goal.plain_bytes-plain-requires
plain_bytes-plain-requires c =
    let within = next_counted c.args.table.now c.requires.choosing.initial c.args.limits c.args.extent c.args.progress.now c.requires.choosing.choosing
    c.args.region c.requires.next c.requires.there in
    let short = c.requires.choosing.choosing.short in
    rw c.tree-tree.ensures.tree (omega (arith, within, short))

pub overflow_sub-others : goal.overflow_sub-others
overflow_sub-others c =
    let within = next_counted c.args.table.now c.requires.choosing.initial c.args.limits c.args.extent c.args.progress.now c.requires.choosing.choosing
    c.args.region c.requires.next c.requires.there in
    let plain = c.plain_bytes-plain.ensures ∙ ap plain_bytes c.tree-tree.ensures.tree in
    omega (arith, within, plain)

pub form_for-requires-clause-short : goal.form_for-requires-clause-short
form_for-requires-clause-short c =
    let within = next_counted c.args.table.now c.requires.choosing.initial c.args.limits c.args.extent c.args.progress.now c.requires.choosing.choosing
    c.args.region c.requires.next c.requires.there in
    let plain = c.plain_bytes-plain.ensures ∙ ap plain_bytes c.tree-tree.ensures.tree in
    let short = c.requires.choosing.choosing.short in
    omega (arith, within, plain, short)

pub find_behind-requires-clause-there : goal.find_behind-requires-clause-there
find_behind-requires-clause-there c =
    let given = c.in_ok-given.ensures in
    rw (c.requires.choosing.choosing.marks, c.tree-tree.ensures.tree)
    (leads_below (table_of c.args.table.now) c.args.table.now.kept c.args.limits c.args.extent c.args.region _ (form_of c.in_ok-given.given.form)
    c.in_ok-given.given.kind c.in_ok-given.given.causes given.gets)

pub put-requires : goal.put-requires
put-requires c =
    let regions = map_length table_region c.args.table.now.regions in
    let there = c.requires.there in
    let forms = c.requires.choosing.choosing.forms in
    omega (arith, regions, there, forms)

pub returns-clause-choosing : goal.returns-clause-choosing
returns-clause-choosing c initial choosing =
    let regions = map_length table_region c.args.table.now.regions in
    let there = c.requires.there in
    let plain = c.plain_bytes-plain.ensures ∙ ap plain_bytes c.tree-tree.ensures.tree in
    takes_next (table_of c.args.table.now) initial c.args.limits c.args.extent c.args.progress.now choosing c.args.region c.requires.next
    (omega (arith, regions, there)) _ c.in_ok-given.given (rw plain at c.in_ok-given.ensures) (rw c.tree-tree.ensures.tree at c.in_ok-find_behind.ensures) c.in_ok-put.ensures.bytes
    c.in_ok-put.ensures.choices c.in_ok-put.ensures.forms
