use Rattle.std.proofs.Common.{ap, arith}
use Rattle.pc_table.specs.Table.{table_regions}
use Rattle.pc_table.specs.StoredTable.{table_of}
use Rattle.pc_compile.specs.models.Counting.{all_plain_bytes}
use Rattle.pc_compile.proofs.Counting.{plain_object}
use Rattle.pc_compile.proofs.bytes.object_bytes.Goals as goal

pub bytes_beside_rows-requires : goal.bytes_beside_rows-requires
bytes_beside_rows-requires c =
    let is = plain_object (table_of c.args.table.now) c.args.initial.now in
    omega (arith, is, c.requires)

pub all_plain_bytes-requires : goal.all_plain_bytes-requires
all_plain_bytes-requires c =
    let is = plain_object (table_of c.args.table.now) c.args.initial.now in
    let same = ap (λ r. all_plain_bytes (table_regions r)) c.as_slice.ensures in
    omega (arith, is, same, c.requires)

pub overflow_add-result : goal.overflow_add-result
overflow_add-result c =
    let is = plain_object (table_of c.args.table.now) c.args.initial.now in
    let same = ap (λ r. all_plain_bytes (table_regions r)) c.as_slice.ensures in
    omega (arith, is, same, c.requires, c.bytes_beside_rows.ensures, c.all_plain_bytes.ensures)

pub returns : goal.returns
returns c =
    let is = plain_object (table_of c.args.table.now) c.args.initial.now in
    let same = ap (λ r. all_plain_bytes (table_regions r)) c.as_slice.ensures in
    omega (arith, is, same, c.bytes_beside_rows.ensures, c.all_plain_bytes.ensures)
