-- A small graph with a loop, for tests and worked facts.
use Rattle.std.specs.Prelude.{pos, [], ◌∷◌, Some, None}
use Rattle.pc_word.specs.declared.item.Item.TheVariants.{Bin, Copy, Print}
use Rattle.pc_word.specs.declared.item.OpCode.TheVariants.{Sub}
use Rattle.pc_word.specs.declared.item.Operand.TheVariants.{Name, Lit}
use Rattle.pc_flow.specs.declared.node.FlowNode.TheVariants.{Op, Test, Stop}
use Rattle.pc_flow.specs.FlowGraph.{FlowGraph}

-- `v0 = 3; while (v0) { print(v1); v1 = v0; v0 = v0 - 1; } v1 = 7; print(v2);`
abbrev pub example : FlowGraph
example = record {
  nodes =
      Op (Copy 0 (Lit (pos 3))) 1
      ∷ Test (Name 0) 2 5 (Some 0)
      ∷ Op (Print (Name 1)) 3
      ∷ Op (Copy 1 (Name 0)) 4
      ∷ Op (Bin Sub 0 (Name 0) (Lit (pos 1))) 1
      ∷ Op (Copy 1 (Lit (pos 7))) 6
      ∷ Op (Print (Name 2)) 7
      ∷ Stop
      ∷ [];
  ranks = 8 ∷ 3 ∷ 7 ∷ 6 ∷ 5 ∷ 2 ∷ 1 ∷ 0 ∷ [];
  inside = None ∷ Some 0 ∷ Some 0 ∷ Some 0 ∷ Some 0 ∷ None ∷ None ∷ None ∷ [];
  entry = 0;
  loops = record { line = 1; header = 1; outer = None } ∷ [];
  arrays = [];
  initial = [];
}
