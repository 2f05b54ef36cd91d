use Rattle.std.proofs.Common.{◌≡◌, ◌+◌, ◌*◌, take}
use Rattle.pc_syntax.specs.Unit.{unit_appended}
use Rattle.pc_syntax.specs.Plain.{plain_list}
use Rattle.pc_syntax.specs.UnitErasure.{unit_statement_of, unit_optional_of, unit_list_of}
use Rattle.pc_calls.specs.Inline.{inlined_list}
use Rattle.pc_inline.specs.models.Sites.{site_in}
use Rattle.pc_inline.specs.models.Weights.{weight, weight_of_optional, weight_of_list, weight_of_functions}
use Rattle.pc_inline.proofs.Rows.{last_first}
use Rattle.pc_inline.proofs.copying.+copy_statement.Given as goal

-- Four for each part that is left, in the tree and in the functions, and less than four for the step of the walk.
abbrev pub decreases-copy_statement : goal.decreases-copy_statement
decreases-copy_statement l = 4 * (weight (unit_statement_of l.from.now) + weight_of_functions (last_first l.site.functions.now)) + 2

abbrev pub decreases-copy_if : goal.decreases-copy_if
decreases-copy_if l = 4 * (weight (unit_statement_of l.yes.now) + weight_of_functions (last_first l.site.functions.now)) + 3

abbrev pub decreases-copy_while : goal.decreases-copy_while
decreases-copy_while l = 4 * (weight (unit_statement_of l.body.now) + weight_of_functions (last_first l.site.functions.now)) + 3

abbrev pub decreases-copy_do : goal.decreases-copy_do
decreases-copy_do l = 4 * (weight (unit_statement_of l.body.now) + weight_of_functions (last_first l.site.functions.now)) + 3

abbrev pub decreases-copy_for : goal.decreases-copy_for
decreases-copy_for l = 4 * (weight (unit_statement_of l.body.now) + weight_of_functions (last_first l.site.functions.now)) + 3

abbrev pub decreases-copy_held : goal.decreases-copy_held
decreases-copy_held l = 4 * (weight_of_optional (unit_optional_of l.from.now) + weight_of_functions (last_first l.site.functions.now)) + 3

abbrev pub decreases-copy_into : goal.decreases-copy_into
decreases-copy_into l = 4 * (weight (unit_statement_of l.from.now) + weight_of_functions (last_first l.site.functions.now)) + 3

abbrev pub decreases-copy_declaring : goal.decreases-copy_declaring
decreases-copy_declaring l = 4 * (weight (unit_statement_of l.from.now) + weight_of_functions (last_first l.site.functions.now)) + 1

abbrev pub decreases-copy_block : goal.decreases-copy_block
decreases-copy_block l = 4 * weight_of_functions (last_first l.site.functions.now) + 3

abbrev pub decreases-copy_items : goal.decreases-copy_items
decreases-copy_items l = 4 * (weight_of_list (unit_list_of l.items.now) + weight_of_functions (last_first l.site.functions.now)) + 2

-- what stands in the place of the statements so far
abbrev pub invariant-copy_items-loop-item : goal.invariant-copy_items-loop-item
invariant-copy_items-loop-item l =
    unit_list_of l.into ≡ unit_appended (unit_list_of l.initial.into) (plain_list (inlined_list (site_in l.site) (unit_list_of (take l.item-index l.items))))
