use Rattle.std.proofs.Common.{◌≡◌, map, take}
use Rattle.pc_syntax.specs.Unit.{unit_appended}
use Rattle.pc_syntax.specs.Plain.{plain_list}
use Rattle.pc_syntax.specs.Erasure.{expression_of}
use Rattle.pc_syntax.specs.UnitErasure.{unit_list_of}
use Rattle.pc_calls.specs.Inline.{renamed, renamed_parameter, parameters_list}
use Rattle.pc_inline.specs.models.Sites.{shifted}
use Rattle.pc_inline.proofs.parts.copy_parameters.Given as goal

-- the parameters so far are declared
abbrev pub invariant-loop-at : goal.invariant-loop-at
invariant-loop-at l =
    unit_list_of l.into ≡ unit_appended (unit_list_of l.initial.into)
    (plain_list (parameters_list (map (renamed_parameter (shifted l.inner)) (take l.at l.params)) (map (renamed (shifted l.offset)) (map expression_of l.args))))
