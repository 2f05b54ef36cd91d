use Rattle.std.proofs.Common.{rules, ◌≡◌, refl}
use Rattle.std.specs.Prelude.{false, replicate}
use Rattle.pc_renumber.specs.models.Numbering.{and_forms, counts_from}
use Rattle.pc_renumber.proofs.Marks.{new_numbers_are}
use Rattle.pc_renumber.proofs.variables.new_variables.Goals as goal

pub returns : goal.returns
returns c =
    let forms = c.args.forms.now in
    let counts : c.in_ok-numbers.numbers.items ≡ counts_from 0 (and_forms forms (replicate c.args.variables false)) = search rules in
    new_numbers_are forms c.args.variables (and_forms forms (replicate c.args.variables false)) c.in_ok-numbers.numbers.items refl counts
