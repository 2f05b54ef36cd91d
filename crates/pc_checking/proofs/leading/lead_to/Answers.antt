use Rattle.std.proofs.Common.{◌∙◌, sym, ap, get_or, arith}
use Rattle.std.proofs.lemmas.Option.{slice_get-get_or}
use Rattle.pc_table.specs.StoredTable.{table_of}
use Rattle.pc_settling.specs.Stored.{begun_in}
use Rattle.pc_settling.proofs.BegunWindows.{begun_key}
use Rattle.pc_checking.specs.models.Stored.{arrival_in, some_arrival_in, arrivals_in, setting_in, some_departure_in}
use Rattle.pc_checking.proofs.Arrived.{was_at, was_in, was_begun, begun_first, put_back_in, put_back_kept}
use Rattle.pc_checking.proofs.Leads.{led_nowhere, led_on}
use Rattle.pc_checking.proofs.leading.lead_to.Goals as goal

pub returns-in_default-clause-leads : goal.returns-in_default-clause-leads
returns-in_default-clause-leads c =
    let s = c.args.setting.now in
    let arrivals = c.args.arrivals.now in
    let entry = get_or s.entries.now c.args.number c.index-setting-number.result in
    let here = c.index-arrivals-number in
    let many = c.requires.kept.as_many in
    let within = c.requires.within in
    let was = was_at arrivals c.args.number here.result c.take-before.result (omega (arith, many, within)) c.take-before.ensures.value in
    led_nowhere (setting_in s) (some_departure_in c.args.departure) (begun_in c.args.begun.now) c.args.number (arrivals_in arrivals) entry
    (slice_get-get_or s.entries.now c.args.number c.index-setting-number.result within) (some_arrival_in c.take-before.result) (was_in arrivals c.args.number c.take-before.result was)
    (sym (ap some_arrival_in c.in_default.is) ∙ c.in_ok-first.ensures.stands)

pub meet-requires-clause-here : goal.meet-requires-clause-here
meet-requires-clause-here c = begun_key (table_of c.args.setting.now.table.now) c.args.begun.now.window c.requires.begun

pub meet-requires-clause-there : goal.meet-requires-clause-there
meet-requires-clause-there c =
    let s = c.args.setting.now in
    let arrivals = c.args.arrivals.now in
    let here = c.index-arrivals-number in
    let many = c.requires.kept.as_many in
    let within = c.requires.within in
    let table = table_of s.table.now in
    let was = was_at arrivals c.args.number here.result c.take-before.result (omega (arith, many, within)) c.take-before.ensures.value in
    begun_key table c.in-Some.arrived.window (begun_first table c.in_ok-first.first c.in-Some.arrived c.in-Some.is (
    c.in_ok-first.ensures.begun table c.requires.begun (was_begun s arrivals c.requires.kept c.args.number within c.take-before.result was)))

pub returns-clause-leads : goal.returns-clause-leads
returns-clause-leads c =
    let s = c.args.setting.now in
    let arrivals = c.args.arrivals.now in
    let entry = get_or s.entries.now c.args.number c.index-setting-number.result in
    let here = c.index-arrivals-number in
    let many = c.requires.kept.as_many in
    let within = c.requires.within in
    let was = was_at arrivals c.args.number here.result c.take-before.result (omega (arith, many, within)) c.take-before.ensures.value in
    led_on (setting_in s) (some_departure_in c.args.departure) (begun_in c.args.begun.now) c.args.number (arrivals_in arrivals) entry
    (slice_get-get_or s.entries.now c.args.number c.index-setting-number.result within) (some_arrival_in c.take-before.result) (was_in arrivals c.args.number c.take-before.result was)
    (arrival_in c.in-Some.arrived) (sym (ap some_arrival_in c.in-Some.is) ∙ c.in_ok-first.ensures.stands) _ c.in_ok-met.met
    (put_back_in arrivals c.args.number c.take-before.new.self c.in-Some.arrived) c.in_ok-met.ensures

pub returns-clause-kept : goal.returns-clause-kept
returns-clause-kept c =
    let s = c.args.setting.now in
    let arrivals = c.args.arrivals.now in
    let here = c.index-arrivals-number in
    let many = c.requires.kept.as_many in
    let within = c.requires.within in
    let table = table_of s.table.now in
    let was = was_at arrivals c.args.number here.result c.take-before.result (omega (arith, many, within)) c.take-before.ensures.value in
    put_back_kept s arrivals c.requires.kept c.args.number within c.take-before.new.self c.in-Some.arrived (begun_first table c.in_ok-first.first c.in-Some.arrived c.in-Some.is (
    c.in_ok-first.ensures.begun table c.requires.begun (was_begun s arrivals c.requires.kept c.args.number within c.take-before.result was)))
