use Rattle.std.proofs.Common.{◌≡◌, ◌++◌, take, drop, map}
use Rattle.std.specs.Prelude.{slice_index}
use Rattle.std.specs.List.{AllByRecursion}
use Rattle.pc_linear.specs.Form.{Form, in_variables}
use Rattle.pc_renumber.specs.models.Numbering.{Rise}
use Rattle.pc_renumber.proofs.forms.renumbered_forms.Given as goal

-- the forms so far, and those from here on in the new variables, are all forms in the new variables; these may be put into the forms from here on
abbrev pub invariant-loop-at : goal.invariant-loop-at
invariant-loop-at l =
    (take l.at l.forms.items ++ map (in_variables (slice_index l.numbers)) (drop l.at l.forms.items) ≡ map (in_variables (slice_index l.numbers)) l.fn.forms.items)
    × AllByRecursion (λ (form : Form). Rise l.numbers form.terms) (drop l.at l.forms.items)
