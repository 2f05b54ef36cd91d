use Rattle.std.proofs.Common.{◌≡◌, map, take}
use Rattle.serde_json.specs.View.{view}
use Rattle.pc_explain.specs.Naming.{naming_in}
use Rattle.pc_explain_json.specs.Json.{operand_json}
use Rattle.pc_explain_json.proofs.json_row.operands_value.Given as goal

-- those so far are in the list
abbrev pub invariant-loop-operand : goal.invariant-loop-operand
invariant-loop-operand l = map view l.list.items ≡ map (operand_json (naming_in l.naming)) (take l.operand-index l.operands)
