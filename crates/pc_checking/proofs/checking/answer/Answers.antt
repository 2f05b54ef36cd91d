use Rattle.pc_table.specs.StoredTable.{table_of}
use Rattle.pc_machine.specs.MachineCode.{code_of}
use Rattle.pc_checking.proofs.Starting.{answer_other, answer_all}
use Rattle.pc_checking.proofs.checking.answer.Goals as goal

pub returns-then-not-has_data : goal.returns-then-not-has_data
returns-then-not-has_data c =
    answer_other (table_of c.args.table.now) c.args.initial.now (code_of c.args.code.now) c.args.entries.now c.has_data.result c.has_data.ensures c.if-not-has_data.true

pub returns : goal.returns
returns c =
    answer_all (table_of c.args.table.now) c.args.initial.now (code_of c.args.code.now) c.args.entries.now c.has_data.result c.go_through.result c.has_data.ensures
    c.if-not-has_data.false c.go_through.ensures
