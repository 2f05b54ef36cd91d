use Rattle.std.proofs.Common.{sym, ◌∙◌, subst}
use Rattle.pc_machine.specs.Registers.{most_registers}
use Rattle.pc_emit.specs.Emitting.{region_forms, AreEnough}
use Rattle.pc_machine.specs.MachineCode.{RowCode, code_of, rows_of}
use Rattle.pc_machine.specs.WellFormed.{WellFormed}
use Rattle.pc_table.specs.StoredTable.{table_of}
use Rattle.pc_compile.proofs.Compilations.{beside_within, loose_is_well_formed, made_object}
use Rattle.pc_compile.proofs.program.object_of.Goals as goal

pub rows_bytes-most-requires-clause-within : goal.rows_bytes-most-requires-clause-within
rows_bytes-most-requires-clause-within c =
    beside_within (table_of c.args.table.now) c.args.initial.now (region_forms c.args.chosen.now.forms) c.args.chosen.now.bytes c.requires.counted

pub recolor_and_tighten-requires : goal.recolor_and_tighten-requires
recolor_and_tighten-requires c =
    subst (λ (code : RowCode). WellFormed code) (sym c.fitted-emitted.ensures)
    (loose_is_well_formed (table_of c.args.table.now) c.args.initial.now c.as_slice-3.result.now c.args.limits _ _ (rows_of c.in_ok-rows.rows) c.requires.limits c.requires.arrays
    c.requires.fit (c.in_ok-arrays.ensures ∙ c.as_slice.ensures) (c.in_ok-initial.ensures ∙ c.as_slice-2.ensures)
    (subst (λ forms. AreEnough most_registers (region_forms forms)) (sym c.as_slice-3.ensures) c.requires.enough) c.in_ok-rows.ensures)

pub returns-clause-object : goal.returns-clause-object
returns-clause-object c =
    made_object (table_of c.args.table.now) c.args.initial.now c.args.limits c.args.chosen.now.forms c.as_slice-3.result.now c.args.chosen.now.choices c.as_slice-4.result.now
    _ _ (rows_of c.in_ok-rows.rows) _ _ (code_of c.fitted-emitted.result) (code_of c.in_ok-code.code) (code_of c.fitted.result) _ (c.in_ok-arrays.ensures ∙ c.as_slice.ensures)
    (c.in_ok-initial.ensures ∙ c.as_slice-2.ensures) c.in_ok-notes.ensures c.as_slice-4.ensures
    c.in_ok-rows.ensures c.as_slice-3.ensures c.requires.counted c.rows_bytes-most.ensures c.fitted-emitted.ensures c.in_ok-code.ensures c.fitted.ensures
