-- Loops whose tests were placed.
use Rattle.std.proofs.Common.{◌≡◌, inl, inr, ℕ, zero, suc, ◌+◌, ◌<◌, List, [], ◌∷◌, length, Some, sym, ◌∙◌, ap, subst, arith}
use Rattle.std.proofs.lemmas.Bool.{cases_eq}
use Rattle.std.specs.Prelude.{slice_get}
use Rattle.pc_word.proofs.Lists.{set_length}
use Rattle.pc_word.proofs.Truth.{decide_le}
use Rattle.pc_syntax.specs.Source.{SourceExpression}
use Rattle.pc_flow.specs.FlowGraph.{tested_loop}
use Rattle.pc_flow.specs.declared.node.FlowNode.{FlowNode}
use Rattle.pc_lower.specs.LoopTests.{HasTest}
use Rattle.pc_lower.specs.models.Drafts.{Draft, PlacedTest, IsTested}
use Rattle.pc_lower.specs.models.Fills.{Fills}
use Rattle.pc_lower.specs.models.LowersStatement.{LaysTurn, AreTested, closed}
use Rattle.pc_lower.proofs.Fills.{tested_still}
use Rattle.pc_word.proofs.Places.{set_there, set_elsewhere}

-- no loops
pub tested_none : {d : Draft} {ends : ℕ} → AreTested d 0 ends
tested_none = record { each = λ loop lo hi. absurd (omega (arith, lo, hi)) }

-- later placing leaves tests as they are
pub all_still : {old new : Draft} {from to many ends : ℕ} {Mine : ℕ → Type 0} → Fills old new from to Mine → AreTested old many ends
    → AreTested new many ends
all_still fills tested = record { each = λ loop lo hi. tested_still fills (tested.each loop lo hi) }

-- loops and those that are numbered after them
pub tested_both : {d : Draft} {few mid more ends : ℕ} (total : ℕ) → AreTested d few mid → AreTested d more ends → mid + more ≡ ends → few + more ≡ total
    → AreTested d total ends
tested_both {d} {few} {mid} {more} {ends} total first second e sum = record {
  each = λ loop lo hi. elim (decide_le mid loop) [
    | inl h ↦ second.each loop (omega (arith, h, e)) hi
    | inr h ↦ first.each loop (omega (arith, lo, e, sum)) h
  ];
}

-- one loop
tested_one : {d : Draft} {own : ℕ} → IsTested d.graph own → AreTested d 1 (own + 1)
tested_one {d} {own} tested = record {
  each = λ loop lo hi. let same : own ≡ loop = omega (arith, lo, hi) in subst (IsTested d.graph) same tested;
}

-- a loop and those that are numbered after it
pub tested_round : {d : Draft} {own many ends : ℕ} → IsTested d.graph own → AreTested d many ends → own + 1 + many ≡ ends → AreTested d (many + 1) ends
tested_round {many = many} own rest e = tested_both (many + 1) (tested_one own) rest e (omega arith)

-- where an element stands, there is a place
get_below : {X : Type 0} (xs : List X) (i : ℕ) {x : X} → slice_get xs i ≡ Some x → i < length xs
get_below [] i e = absurd (cc)
get_below (y ∷ ys) zero e = omega arith
get_below (y ∷ ys) (suc i) e = let h = get_below ys i e in omega (arith, h)

-- the test of a loop, once it was laid
pub turn_tested : {old new : Draft} {x : SourceExpression} {own start at : ℕ} → LaysTurn old new x own start at → PlacedTest new.graph at own
turn_tested {new = new} {at = at} turn =
    let e = turn.size_is in
    record {
      test = turn.tested;
      placed = record { there = get_below new.graph.nodes at turn.tested.is_there; ranked = turn.fills.filled at (omega (arith, e)) (omega arith) };
    }

module _ (c : Draft) (at own : ℕ) (node : FlowNode) (header : ℕ) (turns : tested_loop node ≡ Some own) (test : HasTest c.graph at own) where
  abbrev new : Draft
  new = closed at node own header c

  -- once its test was aimed, and its header put, a loop is tested where it was
  pub closed_tested : {i loop : ℕ} → PlacedTest c.graph i loop → PlacedTest new.graph i loop
  closed_tested {i} {loop} t = record {
    test = elim (cases_eq at i) [
      | inl same ↦
          let read : Some test.node ≡ Some t.test.node = sym test.is_there ∙ ap (slice_get c.graph.nodes) same ∙ t.test.is_there in
          let as_one : test.node ≡ t.test.node = cc in
          record {
            node = node;
            is_there = subst (λ (k : ℕ). slice_get new.graph.nodes k ≡ Some node) same
                (set_there c.graph.nodes at node (subst (λ (k : ℕ). k < length c.graph.nodes) (sym same) t.placed.there));
            tests = turns ∙ sym test.tests ∙ ap tested_loop as_one ∙ t.test.tests;
          }
      | inr other ↦ record {
        node = t.test.node;
        is_there = set_elsewhere c.graph.nodes at i node other ∙ t.test.is_there;
        tests = t.test.tests;
      }
    ];
    placed = record { there = subst (λ (n : ℕ). i < n) (sym (set_length c.graph.nodes at node)) t.placed.there; ranked = t.placed.ranked };
  }

  -- and so are more of them
  pub all_closed : {many ends : ℕ} → AreTested c many ends → AreTested new many ends
  all_closed tested = record { each = λ loop lo hi. let t = tested.each loop lo hi in (t.0, closed_tested t.1) }
