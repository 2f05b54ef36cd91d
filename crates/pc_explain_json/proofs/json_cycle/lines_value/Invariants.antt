use Rattle.std.proofs.Common.{◌≡◌, ◌++◌, drop, map}
use Rattle.serde_json.specs.View.{view}
use Rattle.pc_explain.specs.Explained.{schedule_in}
use Rattle.pc_explain_json.specs.CycleJson.{links_json}
use Rattle.pc_explain_json.proofs.json_cycle.lines_value.Given as goal

-- the list with the links from here on has all of them
abbrev pub invariant-loop-at : goal.invariant-loop-at
invariant-loop-at l =
    map view l.list.items ++ links_json l.legend.lines (schedule_in l.schedule) l.transitions l.at (drop l.at l.links)
    ≡ links_json l.legend.lines (schedule_in l.schedule) l.transitions 0 l.links
