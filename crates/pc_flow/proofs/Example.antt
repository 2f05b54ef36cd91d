-- A small graph, and what it does.
use Rattle.std.proofs.Common.{◌≡◌, ℕ, zero, suc, List, [], ◌∷◌, Some, None, refl, subst, arith}
use Rattle.std.specs.Prelude.{ℤ, pos, slice_get}
use Rattle.pc_word.specs.declared.item.Item.TheVariants.{Copy, Print}
use Rattle.pc_word.specs.declared.item.Operand.TheVariants.{Name, Lit}
use Rattle.pc_word.specs.declared.item.End.TheVariants.{Ended}
use Rattle.pc_flow.specs.declared.node.FlowNode.{FlowNode}
use Rattle.pc_flow.specs.declared.node.FlowNode.TheVariants.{Op, Test, Stop}
use Rattle.pc_flow.specs.FlowGraph.{IsFlow, NodeFits}
use Rattle.pc_flow.specs.FlowRun.{flow_run}
use Rattle.pc_flow.specs.models.Example.{example}

-- it prints 5 and ends, in four units
example-run : (input : List ℤ) → flow_run example input 4 ≡ record { printed = pos 5 ∷ []; end = Some Ended }
example-run input = refl

-- after three units it goes on
example-goes_on : (input : List ℤ) → flow_run example input 3 ≡ record { printed = pos 5 ∷ []; end = None }
example-goes_on input = refl

abbrev Fits : ℕ → FlowNode → Type 0
Fits = NodeFits example

copy_fits : Fits 0 (Op (Copy 0 (Lit (pos 5))) 1)
copy_fits = (record { reads = (tt, tt); writes = omega arith; array = tt }, record { target = omega arith; lower = omega arith })

test_fits : Fits 1 (Test (Name 0) 2 3 None)
test_fits = (
  omega arith,
  (record { target = omega arith; lower = omega arith }, record { target = omega arith; lower = omega arith }),
)

print_fits : Fits 2 (Op (Print (Name 0)) 3)
print_fits = (record { reads = (omega arith, tt); writes = tt; array = tt }, record { target = omega arith; lower = omega arith })

-- each node fits
nodes_fit : (number : ℕ) (node : FlowNode) → slice_get example.nodes number ≡ Some node → Fits number node
nodes_fit zero node e = let same : Op (Copy 0 (Lit (pos 5))) 1 ≡ node = (cc) in subst (Fits 0) same copy_fits
nodes_fit (suc zero) node e = let same : Test (Name 0) 2 3 None ≡ node = (cc) in subst (Fits 1) same test_fits
nodes_fit (suc (suc zero)) node e = let same : Op (Print (Name 0)) 3 ≡ node = (cc) in subst (Fits 2) same print_fits
nodes_fit (suc (suc (suc zero))) node e = let same : Stop ≡ node = (cc) in subst (Fits 3) same tt
nodes_fit (suc (suc (suc (suc number)))) node e = absurd (cc)

no_loop : (number loop : ℕ) → slice_get example.inside number ≡ Some (Some loop) → ⊥
no_loop zero loop e = cc
no_loop (suc zero) loop e = cc
no_loop (suc (suc zero)) loop e = cc
no_loop (suc (suc (suc zero))) loop e = cc
no_loop (suc (suc (suc (suc number)))) loop e = cc

-- so it is a graph
pub example-is : IsFlow example
example-is = record {
  some_nodes = omega arith;
  few_nodes = omega arith;
  all_ranked = refl;
  all_placed = refl;
  begins = omega arith;
  few_arrays = omega arith;
  data_fit = tt;
  data_words = λ place other h. absurd (omega (arith, h));
  loops_there = λ number loop e. absurd (no_loop number loop e);
  outer_first = λ loop mark e. absurd (cc);
  nodes_fit = nodes_fit;
}
