use Rattle.std.proofs.Common.{◌∙◌, sym}
use Rattle.pc_table.specs.StoredTable.{table_of}
use Rattle.pc_settling.specs.Stored.{remaining_in, begun_in}
use Rattle.pc_checking.specs.models.Stored.{arrivals_in, setting_in, some_departure_in}
use Rattle.pc_checking.proofs.FirstEntries.{is_entry}
use Rattle.pc_checking.proofs.Leads.{lead_nowhere, lead_nothing, lead_result, begins_not, begins_so}
use Rattle.pc_checking.proofs.leading.lead.Goals as goal

pub returns-in_default-clause-leads : goal.returns-in_default-clause-leads
returns-in_default-clause-leads c =
    lead_nowhere (setting_in c.args.setting.now) (some_departure_in c.args.departure) (remaining_in c.args.left) (arrivals_in c.args.arrivals.now) c.args.row
    (sym c.in_default.is ∙ c.entry_of.ensures.number)

pub returns-in_default-begun-clause-leads : goal.returns-in_default-begun-clause-leads
returns-in_default-begun-clause-leads c =
    let s = c.args.setting.now in
    let entry = c.index-setting-number in
    let of_row = is_entry s.entries.now c.args.row c.in-Some.number entry.result (sym c.in-Some.is ∙ c.entry_of.ensures.number) c.in-Some.ensures.within entry.is in
    lead_nothing (setting_in s) (some_departure_in c.args.departure) (remaining_in c.args.left) (arrivals_in c.args.arrivals.now) c.args.row c.in-Some.number entry.result of_row
    (begins_not (table_of s.table.now) s.code.now.limits entry.result _ (remaining_in c.args.left) c.in_ok-begun.begun entry.is c.in_default-begun.is c.in_ok-begun.ensures.begins)

pub returns-clause-leads : goal.returns-clause-leads
returns-clause-leads c =
    let s = c.args.setting.now in
    let entry = c.index-setting-number in
    let of_row = is_entry s.entries.now c.args.row c.in-Some.number entry.result (sym c.in-Some.is ∙ c.entry_of.ensures.number) c.in-Some.ensures.within entry.is in
    lead_result (setting_in s) (some_departure_in c.args.departure) (remaining_in c.args.left) (arrivals_in c.args.arrivals.now) c.args.row c.in-Some.number entry.result
    (begun_in c.in-Some-begun.begun) (arrivals_in c.lead_to.new.arrivals) c.lead_to.result of_row
    (begins_so (table_of s.table.now) s.code.now.limits entry.result _ (remaining_in c.args.left) c.in_ok-begun.begun c.in-Some-begun.begun entry.is c.in-Some-begun.is
    c.in_ok-begun.ensures.begins) c.lead_to.ensures.leads
