-- A small graph with a loop: it is one, and which of its variables are live.
use Rattle.std.proofs.Common.{◌≡◌, ◌<◌, inl, inr, true, false, ℕ, zero, suc, Some, None, IfSome, refl, subst, arith}
use Rattle.std.specs.Prelude.{pos, slice_get}
use Rattle.pc_word.specs.declared.item.Item.TheVariants.{Bin, Copy, Print}
use Rattle.pc_word.specs.declared.item.OpCode.TheVariants.{Sub}
use Rattle.pc_word.specs.declared.item.Operand.TheVariants.{Name, Lit}
use Rattle.pc_word.specs.declared.loop_mark.LoopMark.{LoopMark}
use Rattle.pc_flow.specs.declared.node.FlowNode.{FlowNode}
use Rattle.pc_flow.specs.declared.node.FlowNode.TheVariants.{Op, Test, Stop}
use Rattle.pc_flow.specs.FlowGraph.{IsFlow, NodeFits}
use Rattle.pc_live.specs.Live.{node_reads, node_writes, IsLive, Read_here, Read_later}
use Rattle.pc_live.specs.models.Example.{example}

-- ---- it is a graph

abbrev Fits : ℕ → FlowNode → Type 0
Fits = NodeFits example

fits_0 : Fits 0 (Op (Copy 0 (Lit (pos 3))) 1)
fits_0 = (record { reads = (tt, tt); writes = omega arith; array = tt }, record { target = omega arith; lower = omega arith })

fits_1 : Fits 1 (Test (Name 0) 2 5 (Some 0))
fits_1 = (omega arith, (omega arith, omega arith, omega arith))

fits_2 : Fits 2 (Op (Print (Name 1)) 3)
fits_2 = (record { reads = (omega arith, tt); writes = tt; array = tt }, record { target = omega arith; lower = omega arith })

fits_3 : Fits 3 (Op (Copy 1 (Name 0)) 4)
fits_3 = (record { reads = (omega arith, tt); writes = omega arith; array = tt }, record { target = omega arith; lower = omega arith })

fits_4 : Fits 4 (Op (Bin Sub 0 (Name 0) (Lit (pos 1))) 1)
fits_4 = (record { reads = (omega arith, (tt, tt)); writes = omega arith; array = tt }, record { target = omega arith; lower = omega arith })

fits_5 : Fits 5 (Op (Copy 1 (Lit (pos 7))) 6)
fits_5 = (record { reads = (tt, tt); writes = omega arith; array = tt }, record { target = omega arith; lower = omega arith })

fits_6 : Fits 6 (Op (Print (Name 2)) 7)
fits_6 = (record { reads = (omega arith, tt); writes = tt; array = tt }, record { target = omega arith; lower = omega arith })

-- the node at a number is the one that stands there
here : {X : Type 0} (P : X → Type 0) (x y : X) → P x → Some x ≡ Some y → P y
here P x y p e = let same : x ≡ y = (cc) in subst P same p

-- each node fits
nodes_fit : (number : ℕ) (node : FlowNode) → slice_get example.nodes number ≡ Some node → Fits number node
nodes_fit zero node e = here (Fits 0) (Op (Copy 0 (Lit (pos 3))) 1) node fits_0 e
nodes_fit (suc zero) node e = here (Fits 1) (Test (Name 0) 2 5 (Some 0)) node fits_1 e
nodes_fit (suc (suc zero)) node e = here (Fits 2) (Op (Print (Name 1)) 3) node fits_2 e
nodes_fit (suc (suc (suc zero))) node e = here (Fits 3) (Op (Copy 1 (Name 0)) 4) node fits_3 e
nodes_fit (suc (suc (suc (suc zero)))) node e = here (Fits 4) (Op (Bin Sub 0 (Name 0) (Lit (pos 1))) 1) node fits_4 e
nodes_fit (suc (suc (suc (suc (suc zero))))) node e = here (Fits 5) (Op (Copy 1 (Lit (pos 7))) 6) node fits_5 e
nodes_fit (suc (suc (suc (suc (suc (suc zero)))))) node e = here (Fits 6) (Op (Print (Name 2)) 7) node fits_6 e
nodes_fit (suc (suc (suc (suc (suc (suc (suc zero))))))) node e = here (Fits 7) Stop node tt e
nodes_fit (suc (suc (suc (suc (suc (suc (suc (suc number)))))))) node e = absurd (cc)

-- each node is in the one loop, or in none
loops_there : (number loop : ℕ) → slice_get example.inside number ≡ Some (Some loop) → loop < 1
loops_there zero loop e = absurd (cc)
loops_there (suc zero) loop e = here (λ (l : ℕ). l < 1) 0 loop (omega arith) (cc)
loops_there (suc (suc zero)) loop e = here (λ (l : ℕ). l < 1) 0 loop (omega arith) (cc)
loops_there (suc (suc (suc zero))) loop e = here (λ (l : ℕ). l < 1) 0 loop (omega arith) (cc)
loops_there (suc (suc (suc (suc zero)))) loop e = here (λ (l : ℕ). l < 1) 0 loop (omega arith) (cc)
loops_there (suc (suc (suc (suc (suc zero))))) loop e = absurd (cc)
loops_there (suc (suc (suc (suc (suc (suc zero)))))) loop e = absurd (cc)
loops_there (suc (suc (suc (suc (suc (suc (suc zero))))))) loop e = absurd (cc)
loops_there (suc (suc (suc (suc (suc (suc (suc (suc number)))))))) loop e = absurd (cc)

outer_first : (loop : ℕ) (mark : LoopMark) → slice_get example.loops loop ≡ Some mark → IfSome mark.outer (λ outer. outer < loop)
outer_first zero mark e = here (λ (m : LoopMark). IfSome m.outer (λ outer. outer < 0)) (record { line = 1; header = 1; outer = None }) mark tt e
outer_first (suc loop) mark e = absurd (cc)

-- so it is a graph
pub example_is : IsFlow example
example_is = record {
  some_nodes = omega arith;
  few_nodes = omega arith;
  all_ranked = refl;
  all_placed = refl;
  begins = omega arith;
  few_arrays = omega arith;
  data_fit = tt;
  data_words = λ place other h. absurd (omega (arith, h));
  loops_there = loops_there;
  outer_first = outer_first;
  nodes_fit = nodes_fit;
}

-- ---- what is live

-- `v1` is live after its last read in the loop's text, round the edge back to the loop's test
live_round_the_loop : IsLive example 1 4
live_round_the_loop = Read_later {next = 1} refl refl refl (Read_later {next = 2} refl refl (inl refl) (Read_here refl refl))

-- `v0 = v0 - 1` reads `v0` before it writes it
live_where_read_and_written : IsLive example 0 4
live_where_read_and_written = Read_here refl refl

-- `v2` is live in the loop, by the side of the test that leaves it
live_by_the_other_side : IsLive example 2 2
live_by_the_other_side =
    Read_later {next = 3} refl refl refl (Read_later {next = 4} refl refl refl
    (Read_later {next = 1} refl refl refl (Read_later {next = 5} refl refl (inr refl) (Read_later {next = 6} refl refl refl (Read_here refl refl)))))

-- a node that writes a variable and does not read it has it not live
pub dead_where_written : {at variable : ℕ} {node : FlowNode} → slice_get example.nodes at ≡ Some node
    → node_reads node variable ≡ false → node_writes node variable ≡ true → IsLive example variable at → ⊥
dead_where_written {variable = x} there no_read written (Read_here other reads) =
    absurd (cc)
dead_where_written {variable = x} there no_read written (Read_later other passed leads later) =
    absurd (cc)

-- `v1 = v0` writes `v1` before any read of it
dead_before_a_write : IsLive example 1 3 → ⊥
dead_before_a_write = dead_where_written refl refl refl
