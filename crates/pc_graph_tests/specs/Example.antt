-- A small graph with something for each pass, for tests.
use Rattle.std.specs.Prelude.{pos, [], ◌∷◌, Some, None}
use Rattle.pc_word.specs.declared.item.Item.TheVariants.{Bin, Copy, Print}
use Rattle.pc_word.specs.declared.item.OpCode.TheVariants.{Add, Mul}
use Rattle.pc_word.specs.declared.item.Operand.TheVariants.{Name, Lit}
use Rattle.pc_flow.specs.declared.node.FlowNode.TheVariants.{Op, Test, Stop}
use Rattle.pc_flow.specs.FlowGraph.{FlowGraph}

-- `v0 = 2 + 3; v1 = v0; v2 = v0 * v1; v3 = v0 * v1; v1 = v2; if (1) do print(v3); while (0);`
abbrev pub example : FlowGraph
example = record {
  nodes =
      Op (Bin Add 0 (Lit (pos 2)) (Lit (pos 3))) 1
      ∷ Op (Copy 1 (Name 0)) 2
      ∷ Op (Bin Mul 2 (Name 0) (Name 1)) 3
      ∷ Op (Bin Mul 3 (Name 0) (Name 1)) 4
      ∷ Op (Copy 1 (Name 2)) 5
      ∷ Test (Lit (pos 1)) 6 8 None
      ∷ Op (Print (Name 3)) 7
      ∷ Test (Lit (pos 0)) 6 8 (Some 0)
      ∷ Stop
      ∷ [];
  ranks = 8 ∷ 7 ∷ 6 ∷ 5 ∷ 4 ∷ 3 ∷ 2 ∷ 1 ∷ 0 ∷ [];
  inside = None ∷ None ∷ None ∷ None ∷ None ∷ None ∷ Some 0 ∷ Some 0 ∷ None ∷ [];
  entry = 0;
  loops = record { line = 1; header = 6; outer = None } ∷ [];
  arrays = [];
  initial = [];
}
