use Rattle.std.proofs.Common.{◌≡◌, map, take}
use Rattle.serde_json.specs.View.{view}
use Rattle.pc_json.specs.Json.{whole}
use Rattle.pc_stat.proofs.json.counts_value.Given as goal

-- the counts so far are in the list
abbrev pub invariant-loop-count : goal.invariant-loop-count
invariant-loop-count l = map view l.list.items ≡ map whole (take l.count-index l.counts)
