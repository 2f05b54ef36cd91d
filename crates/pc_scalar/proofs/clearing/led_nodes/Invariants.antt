use Rattle.std.proofs.Common.{◌≡◌, map, take}
use Rattle.pc_scalar.specs.models.Ends.{led}
use Rattle.pc_scalar.proofs.clearing.led_nodes.Given as goal

abbrev pub invariant-loop-at : goal.invariant-loop-at
invariant-loop-at l = l.nodes ≡ map (λ node. led l.fn.ends node) (take l.at l.flow.nodes)
