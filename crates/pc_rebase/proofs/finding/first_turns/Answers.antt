use Rattle.std.proofs.Common.{rules, ◌≡◌}
use Rattle.pc_window.specs.StoredWindow.{forms_in, supply_in}
use Rattle.pc_rebase.specs.models.Finding.{nothing_found, found_all, all_written}
use Rattle.pc_rebase.specs.models.Standing.{stands_in}
use Rattle.pc_rebase.proofs.FirstBases.{names_turned}
use Rattle.pc_rebase.proofs.finding.first_turns.Goals as goal

pub returns : goal.returns
returns c =
    let all = c.args.all.now in
    let parameters = c.args.parameters.now in
    let names = c.args.names in
    let later = c.write_all.new.names in
    let found = c.find_all.new.found in
    let old = c.as_slice-3.result.now in
    let same : old ≡ names.forms = search rules in
    let is : found ≡ found_all (forms_in names.forms) parameters (nothing_found names.next_variable) = search rules in
    let written : supply_in later ≡ all_written (stands_in found.stands) (forms_in names.forms) all (supply_in names) = search rules in
    names_turned all parameters names later found old c.write_all.ensures.kept same c.requires.below c.requires.among is written
