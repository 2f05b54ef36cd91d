use Rattle.std.proofs.Common.{◌≡◌, ◌++◌, drop, map}
use Rattle.serde_json.specs.View.{view}
use Rattle.pc_stat.specs.Json.{rows_from}
use Rattle.pc_stat.proofs.json.rows_value.Given as goal

-- the rows so far are in the list
abbrev pub invariant-loop-number : goal.invariant-loop-number
invariant-loop-number l = map view l.list.items ++ rows_from l.leaves l.number (drop l.number l.rows) ≡ rows_from l.leaves 0 l.rows
