-- The names that the statements of a translation unit declare.
use Rattle.std.specs.Prelude.{Option, Some, None, List, [], ◌∷◌, if◌then◌else◌}
use Rattle.pc_check.specs.Names.{Names, entered, left, with_scalar, with_array}
use Rattle.pc_check.specs.InitialData.{data_of}
use Rattle.pc_syntax.specs.declared.unit.Target.{Target}
use Rattle.pc_syntax.specs.declared.unit.Param.{Param}
use Rattle.pc_syntax.specs.Unit.{UnitStatement, UnitOptional, UnitList, Block, Scalar, Array, Assign, Print, Eval, If, While, Do, For}
use Rattle.pc_syntax.specs.Unit.{Break, Continue, Return, Empty, Call, Without, With, Finish, Item}

-- with the target of a call, where the call declares it
abbrev pub with_target : Option Target → Names → Names
with_target None names = names
with_target (Some target) names = if target.declared then with_scalar names target.symbol else names

-- the parameters of a function, and nothing else
abbrev pub with_parameters : List Param → Names → Names
with_parameters [] names = names
with_parameters (first ∷ others) names = with_parameters others (with_scalar names first.symbol)

unfoldable mutual
  -- the names after a statement
  pub unit_names_after : UnitStatement → Names → Names
  unit_names_after (Block items) names = left names (unit_names_after_list items (entered names))
  unit_names_after (Scalar symbol line initial) names = with_scalar names symbol
  unit_names_after (Array symbol line at size values) names = with_array names symbol size (data_of values)
  unit_names_after (Assign symbol line index bracket op at value) names = names
  unit_names_after (Print line value) names = names
  unit_names_after (Eval line value) names = names
  unit_names_after (If line test body otherwise) names = unit_names_after_optional otherwise (unit_names_after body names)
  unit_names_after (While line test body) names = unit_names_after body names
  unit_names_after (Do line body test) names = unit_names_after body names
  unit_names_after (For line first test step body) names =
      left names (unit_names_after body (unit_names_after_optional step (unit_names_after_list first (entered names))))
  unit_names_after (Break line) names = names
  unit_names_after (Continue line) names = names
  unit_names_after (Return line value) names = names
  unit_names_after Empty names = names
  unit_names_after (Call line target function at arguments) names = with_target target names

  pub unit_names_after_optional : UnitOptional → Names → Names
  unit_names_after_optional Without names = names
  unit_names_after_optional (With statement) names = unit_names_after statement names

  pub unit_names_after_list : UnitList → Names → Names
  unit_names_after_list Finish names = names
  unit_names_after_list (Item first rest) names = unit_names_after_list rest (unit_names_after first names)
