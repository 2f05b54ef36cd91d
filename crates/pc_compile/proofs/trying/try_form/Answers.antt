use Rattle.std.proofs.Common.{◌+◌, arith}
use Rattle.pc_table.specs.StoredTable.{table_of}
use Rattle.pc_compile.specs.Choosing.{pipelines}
use Rattle.pc_compile.specs.models.Giving.{bytes_of}
use Rattle.pc_compile.proofs.Attempts.{found_short, tried_live, tried_bytes}
use Rattle.pc_compile.proofs.trying.try_form.Goals as goal

pub returns-in-Err-Pressure : goal.returns-in-Err-Pressure
returns-in-Err-Pressure c =
    tried_live (pipelines (table_of c.args.table.now) c.args.limits c.args.extent) c.args.region c.args.extent.rows
    (bytes_of (table_of c.args.table.now) c.args.region c.args.others) c.high_pressure.result c.in-Ok.automaton c.in-Err-Pressure.field-0-0
    c.in-Err-Pressure.live c.in-Ok.ensures.found (rw c.in-Err-Pressure.field-0-is at c.in-Err-Pressure.ensures) c.high_pressure.ensures

pub states_bytes-requires-clause-few : goal.states_bytes-requires-clause-few
states_bytes-requires-clause-few c =
    found_short (pipelines (table_of c.args.table.now) c.args.limits c.args.extent) c.args.table.now.kept c.args.region c.args.extent.rows c.requires.limits
    c.requires.extent.rows.1 c.in-Ok.automaton c.in-Ok.ensures.found c.in-Ok-assign.ensures.0

pub overflow_add-bytes : goal.overflow_add-bytes
overflow_add-bytes c =
    let few =
    found_short (pipelines (table_of c.args.table.now) c.args.limits c.args.extent) c.args.table.now.kept c.args.region c.args.extent.rows c.requires.limits
    c.requires.extent.rows.1 c.in-Ok.automaton c.in-Ok.ensures.found c.in-Ok-assign.ensures.0 in
    let short = c.requires.short in
    omega (arith, few, short, c.states_bytes.ensures)

pub returns-then-bytes : goal.returns-then-bytes
returns-then-bytes c =
    tried_bytes (pipelines (table_of c.args.table.now) c.args.limits c.args.extent) c.args.region c.args.extent.rows c.args.others
    (table_of c.args.table.now) c.many_bytes.result c.in-Ok.automaton c.in-Ok-assign.registers (c.args.others + c.states_bytes.result)
    c.in-Ok.ensures.found c.in-Ok-assign.ensures.0 c.in-Ok-assign.ensures.1 (omega (arith, c.states_bytes.ensures)) (omega (arith, c.if-bytes.true))
    c.many_bytes.ensures
