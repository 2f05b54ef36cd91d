-- Loops that are lowered part by part: the test is placed first, then the condition, and what is after the test last.
use Rattle.std.proofs.Common.{◌≡◌, ◌≢◌, ℕ, ◌+◌, ◌<◌, ◌≤◌, ◌⊎◌, inl, inr, length, Some, refl, sym, ◌∙◌, subst, arith}
use Rattle.std.specs.Prelude.{slice_get, slice_index}
use Rattle.pc_word.proofs.Lists.{set_length}
use Rattle.pc_word.proofs.Truth.{decide_le}
use Rattle.pc_syntax.specs.Source.{SourceExpression}
use Rattle.pc_check.specs.Sizes.{expression_size}
use Rattle.pc_flow.specs.declared.node.FlowNode.{FlowNode}
use Rattle.pc_flow.specs.FlowGraph.{FlowGraph}
use Rattle.pc_lower.specs.Lowers.{IsAt, Gives}
use Rattle.pc_lower.specs.models.Drafts.{Draft}
use Rattle.pc_lower.specs.models.Fills.{NoLoop, IsOr, Fills, Keeps, LaysLoops, IsOutside}
use Rattle.pc_lower.specs.models.LowersStatement.{HasHeader, LaysTurn, closed}
use Rattle.pc_lower.proofs.LoopMarks.{loops_with_header, header_length, header_there, header_elsewhere}
use Rattle.pc_lower.proofs.Fills.{fills_both}
use Rattle.pc_word.proofs.Places.{set_there, set_elsewhere}

-- two adjoining parts are one, where the second is placed after the first
module _ (a b c : Draft) (from mid to : ℕ) (Mine : ℕ → Type 0) (front : Fills a b from mid NoLoop) (back : Fills b c mid to Mine) where
  outside-back : (i : ℕ) → IsOutside from to i → IsOutside mid to i
  outside-back i (inl h) = let f = front.forward in inl (omega (arith, h, f))
  outside-back i (inr h) = inr h

  outside-front : (i : ℕ) → IsOutside from to i → IsOutside from mid i
  outside-front i (inl h) = inl h
  outside-front i (inr h) = let f = back.forward in inr (omega (arith, h, f))

  filled-each : (i : ℕ) → from ≤ i → i < to → (mid ≤ i) ⊎ (i < mid) → 1 ≤ slice_index c.graph.ranks i
  filled-each i lo hi (inl h) = back.filled i h hi
  filled-each i lo hi (inr h) = subst (λ (n : ℕ). 1 ≤ n) (sym (back.ranks_kept i (inl h))) (front.filled i lo h)

  opens-each : (i : ℕ) → from ≤ i → i < to → (mid ≤ i) ⊎ (i < mid) → slice_index a.graph.ranks i ≡ 0
  opens-each i lo hi (inl h) = sym (front.ranks_kept i (inr h)) ∙ back.opens i h hi
  opens-each i lo hi (inr h) = front.opens i lo h

  pub fills_behind : Fills a c from to Mine
  fills_behind =
      let f = front.forward in
      let g = back.forward in
      let r = front.ranked in
      let s = back.ranked in
      record {
        forward = omega (arith, f, g);
        as_many = back.as_many ∙ front.as_many;
        as_many_loops = back.as_many_loops ∙ front.as_many_loops;
        same_loops = back.same_loops ∙ front.same_loops;
        arrays = back.arrays ∙ front.arrays;
        initial = back.initial ∙ front.initial;
        nodes_kept = λ i h. back.nodes_kept i (outside-back i h) ∙ front.nodes_kept i (outside-front i h);
        inside_kept = λ i h. back.inside_kept i (outside-back i h) ∙ front.inside_kept i (outside-front i h);
        loops_kept = λ loop h. back.loops_kept loop h ∙ front.loops_kept loop (λ none. none);
        ranks_kept = λ i h. back.ranks_kept i (outside-back i h) ∙ front.ranks_kept i (outside-front i h);
        opens = λ i lo hi. opens-each i lo hi (decide_le mid i);
        filled = λ i lo hi. filled-each i lo hi (decide_le mid i);
        ranked = omega (arith, r, s);
      }

-- the test of a loop that was placed may be aimed, and its header be put
module _ (a c : Draft) (from to at : ℕ) (node : FlowNode) (own header : ℕ) (Mine : ℕ → Type 0) (fills : Fills a c from to Mine) (lo : from ≤ at) (hi : at < to) where
  elsewhere : (i : ℕ) → IsOutside from to i → at ≢ i
  elsewhere i (inl h) e = omega (arith, h, e, lo)
  elsewhere i (inr h) e = omega (arith, h, e, hi)

  pub fills_closed : Fills a (closed at node own header c) from to (IsOr own Mine)
  fills_closed = record {
    forward = fills.forward;
    as_many = set_length c.graph.nodes at node ∙ fills.as_many;
    as_many_loops = header_length c.graph.loops own header ∙ fills.as_many_loops;
    same_loops = loops_with_header c.graph.loops own header ∙ fills.same_loops;
    arrays = fills.arrays;
    initial = fills.initial;
    nodes_kept = λ i h. set_elsewhere c.graph.nodes at i node (elsewhere i h) ∙ fills.nodes_kept i h;
    inside_kept = fills.inside_kept;
    loops_kept = λ loop h. header_elsewhere c.graph.loops own header loop (λ e. h (inl e)) ∙ fills.loops_kept loop (λ mine. h (inr mine));
    ranks_kept = fills.ranks_kept;
    opens = fills.opens;
    filled = fills.filled;
    ranked = fills.ranked;
  }

module _ (c : Draft) (from to at : ℕ) (node : FlowNode) (own header : ℕ) (Mine : ℕ → Type 0) (final : FlowGraph)
    (keeps : Keeps (closed at node own header c) from to (IsOr own Mine) final) where
  -- a part of a closed loop that does not hold the test, and has not its number, is as it was
  pub keeps_closed : (lo hi : ℕ) → from ≤ lo → hi ≤ to → IsOutside lo hi at → (Mine own → ⊥) → Keeps c lo hi Mine final
  keeps_closed lo hi le ge out apart = record {
    arrays = keeps.arrays;
    nodes = λ i above below.
        keeps.nodes i (omega (arith, le, above)) (omega (arith, ge, below)) ∙ set_elsewhere c.graph.nodes at i node (other out i above below);
    inside = λ i above below. keeps.inside i (omega (arith, le, above)) (omega (arith, ge, below));
    loops = λ loop mine. keeps.loops loop (inr mine) ∙ header_elsewhere c.graph.loops own header loop (λ e. apart (subst Mine e mine));
  }
    where
      other : IsOutside lo hi at → (i : ℕ) → lo ≤ i → i < hi → at ≢ i
      other (inl k) i above below e = omega (arith, k, e, above)
      other (inr k) i above below e = omega (arith, k, e, below)

  -- the test itself is there
  pub test_closed : from ≤ at → at < to → at < length c.graph.nodes → slice_get c.graph.inside at ≡ Some (Some own) → IsAt final at node (Some own)
  test_closed lo hi there stands = record {
    there = keeps.nodes at lo hi ∙ set_there c.graph.nodes at node there;
    inside = keeps.inside at lo hi ∙ stands;
  }

  -- and so is the header
  pub header_closed : own < length c.graph.loops → HasHeader final own header
  header_closed there =
      let put = header_there c.graph.loops own header there in
      record { mark = put.0; marked = keeps.loops own (inl refl) ∙ put.1; header = put.2 }

-- a condition with its test, what is after them, and the test aimed
pub lays_round : {a b c : Draft} {start at to k : ℕ} {Mine : ℕ → Type 0} {P : FlowGraph → Type 0} (x : SourceExpression) (node : FlowNode) (own header : ℕ)
    → LaysTurn a b x own start at → LaysLoops b c k (at + 1) to Mine P → to ≤ length a.graph.nodes → own < length a.graph.loops → (Mine own → ⊥)
    → LaysLoops a (closed at node own header c) (expression_size x + 1 + k) start to (IsOr own Mine)
    (λ flow. HasHeader flow own header × Gives flow (Some own) x 0 start at × IsAt flow at node (Some own) × P flow)
lays_round {a} {b} {c} {start} {at} {to} {k} {Mine} {P} x node own header turn l there numbered apart =
    let e = turn.size_is in
    let s = l.size_is in
    let n = turn.fills.as_many in
    let m = l.fills.as_many in
    let i = turn.fills.as_many_loops in
    let j = l.fills.as_many_loops in
    let whole = fills_behind a b c start (at + 1) to Mine turn.fills l.fills in
    record {
      size_is = omega (arith, e, s);
      fills = fills_closed a c start to at node own header Mine whole (omega (arith, e)) (omega (arith, s));
      gives = λ final h. (
        header_closed c start to at node own header Mine final h (omega (arith, i, j, numbered)),
        turn.gives final (front final h),
        test_closed c start to at node own header Mine final h (omega (arith, e)) (omega (arith, s)) (omega (arith, n, m, s, there))
            (l.fills.inside_kept at (inl (omega arith)) ∙ turn.stands),
        l.gives final (keeps_closed c start to at node own header Mine final h (at + 1) to (omega (arith, e)) (omega arith) (inl (omega arith)) apart),
      );
    }
  where
    front : (final : FlowGraph) → Keeps (closed at node own header c) start to (IsOr own Mine) final → Keeps b start at NoLoop final
    front final h =
        let e = turn.size_is in
        let s = l.size_is in
        let kept = keeps_closed c start to at node own header Mine final h start at (omega arith) (omega (arith, s)) (inr (omega arith)) apart in
        record {
          arrays = kept.arrays ∙ l.fills.arrays;
          nodes = λ i lo hi. kept.nodes i lo hi ∙ l.fills.nodes_kept i (inl (omega (arith, hi)));
          inside = λ i lo hi. kept.inside i lo hi ∙ l.fills.inside_kept i (inl (omega (arith, hi)));
          loops = λ loop none. absurd none;
        }

-- a condition with its test, what is before them, and the test aimed
pub lays_round_before : {a b c : Draft} {start from at k : ℕ} {Mine : ℕ → Type 0} {P : FlowGraph → Type 0} (x : SourceExpression) (node : FlowNode) (own header : ℕ)
    → LaysTurn a b x own start at → LaysLoops b c k from start Mine P → at < length a.graph.nodes → own < length a.graph.loops → (Mine own → ⊥)
    → LaysLoops a (closed at node own header c) (k + expression_size x + 1) from (at + 1) (IsOr own Mine)
    (λ flow. HasHeader flow own header × P flow × Gives flow (Some own) x 0 start at × IsAt flow at node (Some own))
lays_round_before {a} {b} {c} {start} {from} {at} {k} {Mine} {P} x node own header turn l there numbered apart =
    let e = turn.size_is in
    let s = l.size_is in
    let n = turn.fills.as_many in
    let m = l.fills.as_many in
    let i = turn.fills.as_many_loops in
    let j = l.fills.as_many_loops in
    let whole = fills_both a b c from start (at + 1) NoLoop Mine Mine turn.fills l.fills (λ loop none. absurd none) (λ loop own. own) in
    record {
      size_is = omega (arith, e, s);
      fills = fills_closed a c from (at + 1) at node own header Mine whole (omega (arith, e, s)) (omega arith);
      gives = λ final h. (
        header_closed c from (at + 1) at node own header Mine final h (omega (arith, i, j, numbered)),
        l.gives final (keeps_closed c from (at + 1) at node own header Mine final h from start (omega arith) (omega (arith, e)) (inr (omega (arith, e))) apart),
        turn.gives final (back final h),
        test_closed c from (at + 1) at node own header Mine final h (omega (arith, e, s)) (omega arith) (omega (arith, n, m, there))
            (l.fills.inside_kept at (inr (omega (arith, e))) ∙ turn.stands),
      );
    }
  where
    back : (final : FlowGraph) → Keeps (closed at node own header c) from (at + 1) (IsOr own Mine) final → Keeps b start at NoLoop final
    back final h =
        let s = l.size_is in
        let kept = keeps_closed c from (at + 1) at node own header Mine final h start at (omega (arith, s)) (omega arith) (inr (omega arith)) apart in
        record {
          arrays = kept.arrays ∙ l.fills.arrays;
          nodes = λ i lo hi. kept.nodes i lo hi ∙ l.fills.nodes_kept i (inr lo);
          inside = λ i lo hi. kept.inside i lo hi ∙ l.fills.inside_kept i (inr lo);
          loops = λ loop none. absurd none;
        }
