use Rattle.std.proofs.Common.{rules, ◌≡◌, ◌++◌, length}
use Rattle.std.specs.Prelude.{map}
use Rattle.pc_window.specs.StoredWindow.{forms_in}
use Rattle.pc_canon.specs.Canonical.{constant_in}
use Rattle.pc_canon.specs.Key.{constant_numbers, list_numbers}
use Rattle.pc_canon.specs.models.Gathered.{and_forms}
use Rattle.pc_canon.proofs.Gathering.{constants_written, both_gathered, names-length}
use Rattle.pc_canon.proofs.forms.write_constants.Goals as goal

pub returns-clause-columns : goal.returns-clause-columns
returns-clause-columns c =
    let forms = forms_in c.args.table.now.forms in
    let names = c.args.parameters.now in
    let parameters = map forms names in
    let definitions = map forms c.args.defined.now in
    let first : c.write_names.new.columns ≡ and_forms 0 parameters c.args.columns.now = search rules in
    let second : c.write_names-2.new.columns ≡ and_forms (length names) definitions c.write_names.new.columns = search rules in
    both_gathered parameters definitions (length names) c.args.columns.now c.write_names.new.columns c.write_names-2.new.columns (names-length forms names) first second

pub returns-clause-numbers : goal.returns-clause-numbers
returns-clause-numbers c =
    let forms = forms_in c.args.table.now.forms in
    let parameters = map forms c.args.parameters.now in
    let definitions = map forms c.args.defined.now in
    let old = c.args.numbers.now in
    let one = c.write_names.new.numbers in
    let two = c.write_names-2.new.numbers in
    let first : one ≡ old ++ list_numbers constant_numbers (map constant_in parameters) = search rules in
    let second : two ≡ one ++ list_numbers constant_numbers (map constant_in definitions) = search rules in
    constants_written parameters definitions old one two first second
