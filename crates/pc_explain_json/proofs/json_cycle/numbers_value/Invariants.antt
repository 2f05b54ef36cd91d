use Rattle.std.proofs.Common.{◌≡◌, map, take}
use Rattle.serde_json.specs.View.{view}
use Rattle.pc_json.specs.Json.{whole}
use Rattle.pc_explain_json.proofs.json_cycle.numbers_value.Given as goal

-- those so far are in the list
abbrev pub invariant-loop-transition : goal.invariant-loop-transition
invariant-loop-transition l = map view l.list.items ≡ map (λ transition. whole transition.state) (take l.transition-index l.transitions)
