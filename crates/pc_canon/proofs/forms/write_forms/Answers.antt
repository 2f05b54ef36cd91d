use Rattle.std.proofs.Common.{rules, ◌≡◌, [], ◌++◌, ◌∙◌, length, List, refl, ap}
use Rattle.std.specs.Prelude.{ℤ, map, replicate}
use Rattle.std.proofs.lemmas.List.{take_at}
use Rattle.pc_window.specs.StoredWindow.{forms_in}
use Rattle.pc_canon.specs.Canonical.{constant_in, columns_below}
use Rattle.pc_canon.specs.Key.{constant_numbers, list_numbers, column_numbers}
use Rattle.pc_canon.specs.models.Gathered.{column_in, and_forms}
use Rattle.pc_canon.proofs.Factors.{gathered_from_none, forms_above, above-append}
use Rattle.pc_canon.proofs.Gathering.{all_forms_written}
use Rattle.pc_canon.proofs.forms.write_forms.Goals as goal

pub returns : goal.returns
returns c =
    let table = c.args.table.now in
    let forms = forms_in table.forms in
    let names = c.args.parameters.now in
    let defined = c.args.defined.now in
    let parameters = map forms names in
    let definitions = map forms defined in
    let count = table.next_variable in
    let none : List ℤ = [] in
    let old = c.args.numbers.now in
    let one = c.write_constants.new.numbers in
    let sorted = c.in_ok-sorted.sorted.items in
    let columns = c.write_constants.new.columns in
    let first : one ≡ old ++ (list_numbers constant_numbers (map constant_in parameters) ++ list_numbers constant_numbers (map constant_in definitions)) = search rules in
    let last : c.write_columns.new.numbers ≡ one ++ list_numbers column_numbers sorted = search rules in
    let gathered : columns ≡ and_forms 0 (parameters ++ definitions) (replicate count none) = search rules in
    let long : length columns ≡ c.in_ok-columns.columns.len = search rules in
    let in_order : sorted ≡ columns_below (column_in columns) (length columns) =
    c.in_ok-sorted.ensures ∙ ap (λ (all : List (List ℤ)). columns_below (column_in all) (length all)) (take_at columns _ c.in_ok-columns.columns.len long) in
    let above = above-append count parameters definitions (forms_above count forms names c.requires.variables.form) (forms_above count forms defined c.requires.variables.form) in
    all_forms_written parameters definitions old one c.write_columns.new.numbers sorted first last
    (in_order ∙ gathered_from_none count (parameters ++ definitions) columns none refl above gathered)
