use Rattle.std.proofs.Common.{◌≡◌, map, take}
use Rattle.serde_json.specs.View.{view}
use Rattle.pc_explain.specs.Naming.{naming_in}
use Rattle.pc_explain_json.specs.Json.{home_json}
use Rattle.pc_explain_json.proofs.json_row.homes_value.Given as goal

-- those so far are in the list
abbrev pub invariant-loop-home : goal.invariant-loop-home
invariant-loop-home l = map view l.list.items ≡ map (home_json (naming_in l.naming)) (take l.home-index l.homes)
