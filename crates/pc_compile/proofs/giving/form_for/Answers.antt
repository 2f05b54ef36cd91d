use Rattle.std.proofs.Common.{sym, ◌∙◌, subst}
use Rattle.pc_table.specs.StoredTable.{table_of}
use Rattle.pc_compile.specs.models.Giving.{IsGiven}
use Rattle.pc_compile.proofs.FormsGiven.{given_pipelined, passed_over, not_tried}
use Rattle.pc_compile.proofs.giving.form_for.Goals as goal

pub returns-then-not-may_pipeline : goal.returns-then-not-may_pipeline
returns-then-not-may_pipeline c =
    c.packed_or_plain.ensures c.args.extent
    (not_tried (table_of c.args.table.now) c.args.limits c.args.extent c.args.region c.args.others c.new-causes.result
    (sym c.may_pipeline.ensures ∙ c.if-not-may_pipeline.true) c.new-causes.ensures)

pub returns-in-Fits : goal.returns-in-Fits
returns-in-Fits c =
    subst (IsGiven (table_of c.args.table.now) c.args.limits c.args.extent c.args.region c.args.others) (sym c.given_as_automaton.ensures)
    (given_pipelined (table_of c.args.table.now) c.args.limits c.args.extent c.args.region c.args.others c.new-causes.result c.in_ok-automaton.field-0
    c.in-Fits.automaton c.in-Fits.registers c.pipelined-kind.result c.in-Fits.bytes (sym c.may_pipeline.ensures ∙ c.if-not-may_pipeline.false)
    c.new-causes.ensures c.in-Fits.is c.pipelined-kind.ensures c.in_ok-automaton.ensures)

pub returns-in_ok-tell-in-Refused : goal.returns-in_ok-tell-in-Refused
returns-in_ok-tell-in-Refused c =
    c.packed_or_plain-in-Refused.ensures c.args.extent
    (passed_over (table_of c.args.table.now) c.args.limits c.args.extent c.args.region c.args.others c.new-causes.result c.tell.new.causes
    c.in-Refused.cause c.in_ok-automaton.field-0 (sym c.may_pipeline.ensures ∙ c.if-not-may_pipeline.false) c.new-causes.ensures
    c.in_ok-tell-in-Refused.ensures c.in-Refused.is c.in_ok-automaton.ensures)
