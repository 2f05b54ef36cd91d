use Rattle.std.proofs.Common.{◌≡◌, map, take}
use Rattle.pc_word.specs.declared.item.Operand.TheVariants.{Name}
use Rattle.serde_json.specs.View.{view}
use Rattle.pc_explain.specs.Naming.{naming_in}
use Rattle.pc_explain_json.specs.Json.{operand_json}
use Rattle.pc_explain_json.proofs.json_state.parameters_value.Given as goal

-- those so far are in the list
abbrev pub invariant-loop-name : goal.invariant-loop-name
invariant-loop-name l = map view l.list.items ≡ map (λ name. operand_json (naming_in l.naming) (Name name)) (take l.name-index l.parameters)
