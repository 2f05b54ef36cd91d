-- The graph of the tests is one.
use Rattle.std.proofs.Common.{◌≡◌, ◌<◌, ℕ, zero, suc, Some, None, IfSome, refl, subst, arith}
use Rattle.std.specs.Prelude.{pos, slice_get}
use Rattle.pc_word.specs.declared.item.Item.TheVariants.{Bin, Copy, Print}
use Rattle.pc_word.specs.declared.item.OpCode.TheVariants.{Add, Mul}
use Rattle.pc_word.specs.declared.item.Operand.TheVariants.{Name, Lit}
use Rattle.pc_word.specs.declared.loop_mark.LoopMark.{LoopMark}
use Rattle.pc_flow.specs.declared.node.FlowNode.{FlowNode}
use Rattle.pc_flow.specs.declared.node.FlowNode.TheVariants.{Op, Test, Stop}
use Rattle.pc_flow.specs.FlowGraph.{IsFlow, NodeFits}
use Rattle.pc_graph_tests.specs.Example.{example}

abbrev Fits : ℕ → FlowNode → Type 0
Fits = NodeFits example

-- the node at a number is the one that stands there
here : {X : Type 0} (P : X → Type 0) (x y : X) → P x → Some x ≡ Some y → P y
here P x y p e = let same : x ≡ y = (cc) in subst P same p

fits_0 : Fits 0 (Op (Bin Add 0 (Lit (pos 2)) (Lit (pos 3))) 1)
fits_0 = (record { reads = (tt, (tt, tt)); writes = omega arith; array = tt }, record { target = omega arith; lower = omega arith })

fits_1 : Fits 1 (Op (Copy 1 (Name 0)) 2)
fits_1 = (record { reads = (omega arith, tt); writes = omega arith; array = tt }, record { target = omega arith; lower = omega arith })

fits_2 : Fits 2 (Op (Bin Mul 2 (Name 0) (Name 1)) 3)
fits_2 = (record { reads = (omega arith, (omega arith, tt)); writes = omega arith; array = tt }, record { target = omega arith; lower = omega arith })

fits_3 : Fits 3 (Op (Bin Mul 3 (Name 0) (Name 1)) 4)
fits_3 = (record { reads = (omega arith, (omega arith, tt)); writes = omega arith; array = tt }, record { target = omega arith; lower = omega arith })

fits_4 : Fits 4 (Op (Copy 1 (Name 2)) 5)
fits_4 = (record { reads = (omega arith, tt); writes = omega arith; array = tt }, record { target = omega arith; lower = omega arith })

fits_5 : Fits 5 (Test (Lit (pos 1)) 6 8 None)
fits_5 = (tt, (record { target = omega arith; lower = omega arith }, record { target = omega arith; lower = omega arith }))

fits_6 : Fits 6 (Op (Print (Name 3)) 7)
fits_6 = (record { reads = (omega arith, tt); writes = tt; array = tt }, record { target = omega arith; lower = omega arith })

fits_7 : Fits 7 (Test (Lit (pos 0)) 6 8 (Some 0))
fits_7 = (tt, (omega arith, omega arith, omega arith))

-- each node fits
nodes_fit : (number : ℕ) (node : FlowNode) → slice_get example.nodes number ≡ Some node → Fits number node
nodes_fit zero node e = here (Fits 0) (Op (Bin Add 0 (Lit (pos 2)) (Lit (pos 3))) 1) node fits_0 e
nodes_fit (suc zero) node e = here (Fits 1) (Op (Copy 1 (Name 0)) 2) node fits_1 e
nodes_fit (suc (suc zero)) node e = here (Fits 2) (Op (Bin Mul 2 (Name 0) (Name 1)) 3) node fits_2 e
nodes_fit (suc (suc (suc zero))) node e = here (Fits 3) (Op (Bin Mul 3 (Name 0) (Name 1)) 4) node fits_3 e
nodes_fit (suc (suc (suc (suc zero)))) node e = here (Fits 4) (Op (Copy 1 (Name 2)) 5) node fits_4 e
nodes_fit (suc (suc (suc (suc (suc zero))))) node e = here (Fits 5) (Test (Lit (pos 1)) 6 8 None) node fits_5 e
nodes_fit (suc (suc (suc (suc (suc (suc zero)))))) node e = here (Fits 6) (Op (Print (Name 3)) 7) node fits_6 e
nodes_fit (suc (suc (suc (suc (suc (suc (suc zero))))))) node e = here (Fits 7) (Test (Lit (pos 0)) 6 8 (Some 0)) node fits_7 e
nodes_fit (suc (suc (suc (suc (suc (suc (suc (suc zero)))))))) node e = here (Fits 8) Stop node tt e
nodes_fit (suc (suc (suc (suc (suc (suc (suc (suc (suc number))))))))) node e = absurd (cc)

-- each node is in the one loop, or in none
loops_there : (number loop : ℕ) → slice_get example.inside number ≡ Some (Some loop) → loop < 1
loops_there zero loop e = absurd (cc)
loops_there (suc zero) loop e = absurd (cc)
loops_there (suc (suc zero)) loop e = absurd (cc)
loops_there (suc (suc (suc zero))) loop e = absurd (cc)
loops_there (suc (suc (suc (suc zero)))) loop e = absurd (cc)
loops_there (suc (suc (suc (suc (suc zero))))) loop e = absurd (cc)
loops_there (suc (suc (suc (suc (suc (suc zero)))))) loop e = here (λ (l : ℕ). l < 1) 0 loop (omega arith) (cc)
loops_there (suc (suc (suc (suc (suc (suc (suc zero))))))) loop e = here (λ (l : ℕ). l < 1) 0 loop (omega arith) (cc)
loops_there (suc (suc (suc (suc (suc (suc (suc (suc zero)))))))) loop e = absurd (cc)
loops_there (suc (suc (suc (suc (suc (suc (suc (suc (suc number))))))))) loop e = absurd (cc)

outer_first : (loop : ℕ) (mark : LoopMark) → slice_get example.loops loop ≡ Some mark → IfSome mark.outer (λ outer. outer < loop)
outer_first zero mark e = here (λ (m : LoopMark). IfSome m.outer (λ outer. outer < 0)) (record { line = 1; header = 6; outer = None }) mark tt e
outer_first (suc loop) mark e = absurd (cc)

-- so it is a graph
pub example_is : IsFlow example
example_is = record {
  some_nodes = omega arith;
  few_nodes = omega arith;
  all_ranked = refl;
  all_placed = refl;
  begins = omega arith;
  few_arrays = omega arith;
  data_fit = tt;
  data_words = λ place other h. absurd (omega (arith, h));
  loops_there = loops_there;
  outer_first = outer_first;
  nodes_fit = nodes_fit;
}
