use Rattle.std.proofs.Common.{◌≡◌, map, take}
use Rattle.serde_json.specs.View.{view}
use Rattle.pc_explain.specs.Explained.{explanations_in}
use Rattle.pc_explain.specs.Legends.{legend_in}
use Rattle.pc_explain_json.specs.Json.{loop_json}
use Rattle.pc_explain_json.proofs.json.loops_value.Given as goal

-- those so far are in the list
abbrev pub invariant-loop-explanation : goal.invariant-loop-explanation
invariant-loop-explanation l = map view l.list.items ≡ map (loop_json (legend_in l.legend)) (explanations_in (take l.explanation-index l.loops))
