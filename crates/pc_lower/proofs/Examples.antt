-- A flow of eleven nodes that implements `int main(void) { int x = read(); print(x / 2 + 1); }`, and loops that pass no node.
use Rattle.std.proofs.Common.{◌≡◌, ℕ, List, [], ◌∷◌, replicate, Option, Some, None, refl, sym, subst, arith}
use Rattle.std.specs.Prelude.{pos, slice_get}
use Rattle.std.specs.Int.{int_wrap}
use Rattle.pc_word.specs.Word.{word_add, word_div}
use Rattle.pc_word.specs.declared.item.Item.TheVariants.{Bin, Copy, Print, Read, More}
use Rattle.pc_word.specs.declared.item.Operand.TheVariants.{Name, Lit}
use Rattle.pc_word.specs.declared.item.OpCode.TheVariants as codes
use Rattle.pc_word.specs.declared.item.End.TheVariants.{Ended, Trapped}
use Rattle.pc_word.specs.declared.item.TrapKind.TheVariants.{DivideByZero, EndOfInput}
use Rattle.pc_syntax.specs.declared.operator.BinaryOp.TheVariants.{Add, Div}
use Rattle.pc_syntax.specs.Source as source
use Rattle.pc_syntax.specs.Source.{SourceList}
use Rattle.pc_flow.specs.declared.node.FlowNode.{FlowNode}
use Rattle.pc_flow.specs.declared.node.FlowNode.TheVariants.{Op, Test, Stop, Trap}
use Rattle.pc_flow.specs.FlowGraph.{FlowGraph}
use Rattle.pc_flow.specs.FlowRun.{nodes_run}
use Rattle.pc_lower.specs.Lowers.{IsAt, Lowers}

abbrev halving : SourceList
halving = source.More (source.ScalarDeclaration 0 1 (Some (source.Input 1)))
    (source.More (source.Printing 1 (source.Combined Add 1 (source.Combined Div 1 (source.Variable 0 1) (source.Literal (pos 2))) (source.Literal (pos 1)))) source.No_more)

abbrev halving_nodes : List FlowNode
halving_nodes =
    Stop
    ∷ Op (Print (Name 64)) 0
    ∷ Op (Bin codes.Add 64 (Name 64) (Lit (pos 1))) 1
    ∷ Trap DivideByZero 1
    ∷ Op (Bin codes.Div 64 (Name 0) (Lit (pos 2))) 2
    ∷ Test (Lit (pos 2)) 4 3 None
    ∷ Op (Copy 0 (Name 64)) 5
    ∷ Op (Read 64) 6
    ∷ Trap EndOfInput 1
    ∷ Test (Name 64) 7 8 None
    ∷ Op (More 64) 9
    ∷ []

-- they stand in no loop
abbrev halving_graph : FlowGraph
halving_graph = record { nodes = halving_nodes; ranks = []; inside = replicate 11 None; entry = 10; loops = []; arrays = []; initial = [] }

-- a node that stands in a loop or in none
placed : (graph : FlowGraph) {p : ℕ} {node : FlowNode} {loop : Option ℕ} → slice_get graph.nodes p ≡ Some node → slice_get graph.inside p ≡ Some loop
    → IsAt graph p node loop
placed graph there inside = record { there = there; inside = inside }

halving_lowered : Lowers halving_graph halving
halving_lowered =
    let print = placed halving_graph {p = 1} refl refl in
    let sum = placed halving_graph {p = 2} refl refl in
    let quotient = placed halving_graph {p = 4} refl refl in
    let divisor = placed halving_graph {p = 5} refl refl in
    let copy = placed halving_graph {p = 6} refl refl in
    let read = placed halving_graph {p = 7} refl refl in
    let left = placed halving_graph {p = 9} refl refl in
    let more = placed halving_graph {p = 10} refl refl in
    let trap = placed halving_graph {p = 3} refl refl in
    let ended = placed halving_graph {p = 8} refl refl in
    record {
      first = 10;
      last = 0;
      stops = placed halving_graph refl refl;
      body = (
        5,
        5,
        (refl, (6, omega arith, (9, 7, 8, more, left, ended, read), copy)),
        (0, 0, (1, refl, (2, 2, (5, 5, (omega arith, refl), refl, (4, 3, divisor, trap, quotient)), refl, sum), print), (refl, refl)),
      );
    }

halving_runs : nodes_run halving_nodes [] [] 10 (pos 8 ∷ []) 9 ≡ record { printed = pos 5 ∷ []; end = Some Ended }
unfolding word_add word_div int_wrap
halving_runs = refl

halving_traps : nodes_run halving_nodes [] [] 10 [] 3 ≡ record { printed = []; end = Some (Trapped EndOfInput 1) }
halving_traps = refl

-- `int main(void) { do break; while (0); }` has one test, and passes no node
abbrev breaking : SourceList
breaking = source.More (source.DoLoop 1 (source.BreakOut 1) (source.Literal (pos 0))) source.No_more

-- the test is the first node of its condition, and so the header
abbrev breaking_graph : FlowGraph
breaking_graph = record {
  nodes = Stop ∷ Test (Lit (pos 0)) 0 0 (Some 0) ∷ [];
  ranks = [];
  inside = None ∷ Some 0 ∷ [];
  entry = 0;
  loops = record { line = 1; header = 1; outer = None } ∷ [];
  arrays = [];
  initial = [];
}

breaking_lowered : Lowers breaking_graph breaking
breaking_lowered = record {
  first = 1;
  last = 0;
  stops = placed breaking_graph refl refl;
  body = (0, 0, (1, 1, refl, (refl, refl), refl, placed breaking_graph refl refl), (refl, refl));
}

-- `int main(void) { while (1); }` is one test that leads to itself
abbrev waiting : SourceList
waiting = source.More (source.WhileLoop 1 (source.Literal (pos 1)) source.Nothing) source.No_more

abbrev waiting_graph : List (Option ℕ) → FlowGraph
waiting_graph inside = record {
  nodes = Stop ∷ Test (Lit (pos 1)) 1 0 (Some 0) ∷ [];
  ranks = [];
  inside = inside;
  entry = 1;
  loops = record { line = 1; header = 1; outer = None } ∷ [];
  arrays = [];
  initial = [];
}

waiting_lowered : Lowers (waiting_graph (None ∷ Some 0 ∷ [])) waiting
waiting_lowered =
    let graph = waiting_graph (None ∷ Some 0 ∷ []) in
    record {
      first = 1;
      last = 0;
      stops = placed graph refl refl;
      body = (0, 0, (1, 1, 0, refl, refl, refl, placed graph refl refl, (refl, refl)), (refl, refl));
    }

-- which does not stand in no loop
waiting_elsewhere : Lowers (waiting_graph (None ∷ None ∷ [])) waiting → ⊥
waiting_elsewhere lowers =
    let loop = lowers.body.2 in
    let at : 1 ≡ loop.0 = loop.5 in
    let inside : ◌≡◌ {A = Option (Option ℕ)} (Some None) (Some (Some 0)) =
    subst (λ (p : ℕ). slice_get (waiting_graph (None ∷ None ∷ [])).inside p ≡ Some (Some 0)) (sym at) loop.6.inside in
    absurd (cc)
