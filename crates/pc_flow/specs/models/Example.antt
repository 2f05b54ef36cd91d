-- A small graph, for tests and worked runs.
use Rattle.std.specs.Prelude.{pos, [], ◌∷◌, None}
use Rattle.pc_word.specs.declared.item.Item.TheVariants.{Copy, Print}
use Rattle.pc_word.specs.declared.item.Operand.TheVariants.{Name, Lit}
use Rattle.pc_flow.specs.declared.node.FlowNode.TheVariants.{Op, Test, Stop}
use Rattle.pc_flow.specs.FlowGraph.{FlowGraph}

-- `v0 = 5; if (v0) print(v0);`
abbrev pub example : FlowGraph
example = record {
  nodes = Op (Copy 0 (Lit (pos 5))) 1 ∷ Test (Name 0) 2 3 None ∷ Op (Print (Name 0)) 3 ∷ Stop ∷ [];
  ranks = 3 ∷ 2 ∷ 1 ∷ 0 ∷ [];
  inside = None ∷ None ∷ None ∷ None ∷ [];
  entry = 0;
  loops = [];
  arrays = [];
  initial = [];
}
