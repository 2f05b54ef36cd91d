use Rattle.std.proofs.Common.{Ok, Err, arith}
use Rattle.pc_table.specs.StoredTable.{table_of}
use Rattle.pc_machine.specs.MachineCode.{row_of}
use Rattle.pc_checking.specs.models.Stored.{arrival_in, arrivals_in, setting_in}
use Rattle.pc_checking.proofs.Arrived.{was_so}
use Rattle.pc_checking.proofs.Passes.{row_there, row_keeps, begun_there, arranged_so, pass_not, pass_on, pass_no_leaf}
use Rattle.pc_checking.proofs.passing.pass.Goals as goal

pub arrange-requires : goal.arrange-requires
arrange-requires c =
    begun_there c.args.setting.now c.args.arrivals.now c.args.number c.index-arrivals-number.result c.in-Some.arrived c.requires.kept c.requires.within c.in-Some.is

pub returns-in-Err-clause-passes : goal.returns-in-Err-clause-passes
returns-in-Err-clause-passes c =
    let s = c.args.setting.now in
    let entry = c.args.entry.now in
    let many = c.requires.kept.as_many in
    let within = c.requires.within in
    let here = c.index-arrivals-number in
    let row = c.in-Some-get in
    pass_not (setting_in s) c.args.number entry (arrivals_in c.args.arrivals.now) (arrival_in c.in-Some.arrived) (row_of row.row.now)
    (was_so c.args.arrivals.now c.args.number here.result _ (omega (arith, many, within)) c.in-Some.is)
    (row_there s.code.now.rows entry.row row.row.now row.ensures.value) c.in-Err.flaw
    (arranged_so (table_of s.table.now) entry.steps c.as_slice-steps.result.now (arrival_in c.in-Some.arrived) (row_of row.row.now) c.in_ok-arranged.field-0 (Err c.in-Err.flaw)
    c.as_slice-steps.ensures c.in-Err.is c.in_ok-arranged.ensures.arranges)

pub leaves_lead_on-requires-clause-row : goal.leaves_lead_on-requires-clause-row
leaves_lead_on-requires-clause-row c = row_keeps c.args.setting.now c.args.entry.now.row c.in-Some-get.row.now c.requires.setting c.in-Some-get.ensures.value

pub returns-in-Ok-led-clause-passes : goal.returns-in-Ok-led-clause-passes
returns-in-Ok-led-clause-passes c =
    let s = c.args.setting.now in
    let entry = c.args.entry.now in
    let many = c.requires.kept.as_many in
    let within = c.requires.within in
    let here = c.index-arrivals-number in
    let row = c.in-Some-get in
    pass_on (setting_in s) c.args.number entry (arrivals_in c.args.arrivals.now) (arrival_in c.in-Some.arrived) (row_of row.row.now)
    (was_so c.args.arrivals.now c.args.number here.result _ (omega (arith, many, within)) c.in-Some.is)
    (row_there s.code.now.rows entry.row row.row.now row.ensures.value) c.in-Ok.arranged
    (arranged_so (table_of s.table.now) entry.steps c.as_slice-steps.result.now (arrival_in c.in-Some.arrived) (row_of row.row.now) c.in_ok-arranged.field-0 (Ok c.in-Ok.arranged)
    c.as_slice-steps.ensures c.in-Ok.is c.in_ok-arranged.ensures.arranges) c.front_tag.result c.front_tag.ensures c.as_slice-helds.result.now c.as_slice-helds.ensures
    (arrivals_in c.leaves_lead_on.new.arrivals) c.in_ok-led.led c.in_ok-led.ensures.lead c.in-Ok-led.field-0 c.in-Ok-led.is

pub returns-clause-passes : goal.returns-clause-passes
returns-clause-passes c =
    let s = c.args.setting.now in
    let entry = c.args.entry.now in
    let many = c.requires.kept.as_many in
    let within = c.requires.within in
    let here = c.index-arrivals-number in
    let row = c.in-Some-get in
    pass_no_leaf (setting_in s) c.args.number entry (arrivals_in c.args.arrivals.now) (arrival_in c.in-Some.arrived) (row_of row.row.now)
    (was_so c.args.arrivals.now c.args.number here.result _ (omega (arith, many, within)) c.in-Some.is)
    (row_there s.code.now.rows entry.row row.row.now row.ensures.value) c.in-Ok.arranged
    (arranged_so (table_of s.table.now) entry.steps c.as_slice-steps.result.now (arrival_in c.in-Some.arrived) (row_of row.row.now) c.in_ok-arranged.field-0 (Ok c.in-Ok.arranged)
    c.as_slice-steps.ensures c.in-Ok.is c.in_ok-arranged.ensures.arranges) c.front_tag.result c.front_tag.ensures c.as_slice-helds.result.now c.as_slice-helds.ensures
    (arrivals_in c.leaves_lead_on.new.arrivals) c.in_ok-led.led c.in_ok-led.ensures.lead c.in-Err-led.refusal c.in-Err-led.is
