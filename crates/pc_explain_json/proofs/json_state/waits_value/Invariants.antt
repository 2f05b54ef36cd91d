use Rattle.std.proofs.Common.{◌≡◌, map, take}
use Rattle.serde_json.specs.View.{view}
use Rattle.pc_explain.specs.Legends.{legend_in}
use Rattle.pc_explain_json.specs.Json.{wait_json}
use Rattle.pc_explain_json.proofs.json_state.waits_value.Given as goal

-- those so far are in the list
abbrev pub invariant-loop-it : goal.invariant-loop-it
invariant-loop-it l = map view l.list.items ≡ map (wait_json (legend_in l.legend)) (take l.it-index l.waiting)
