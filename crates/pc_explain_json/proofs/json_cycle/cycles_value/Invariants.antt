use Rattle.std.proofs.Common.{◌≡◌, map, take}
use Rattle.serde_json.specs.View.{view}
use Rattle.pc_explain.specs.Explained.{schedule_in}
use Rattle.pc_explain_json.specs.CycleJson.{cycle_json}
use Rattle.pc_explain_json.proofs.json_cycle.cycles_value.Given as goal

-- those so far are in the list
abbrev pub invariant-loop-cycle : goal.invariant-loop-cycle
invariant-loop-cycle l = map view l.list.items ≡ map (cycle_json l.legend.lines (schedule_in l.schedule)) (take l.cycle-index l.cycles)
