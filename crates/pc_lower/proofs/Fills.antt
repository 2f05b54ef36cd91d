-- Numbers of a draft that are filled from the end: one part after the other.
use Rattle.std.proofs.Common.{◌≡◌, ℕ, ◌+◌, ◌<◌, ◌≤◌, ◌⊎◌, inl, inr, Option, sym, ◌∙◌, subst, arith}
use Rattle.std.specs.Prelude.{IfSome, slice_index}
use Rattle.pc_word.proofs.Truth.{decide_le}
use Rattle.pc_flow.specs.FlowGraph.{FlowGraph}
use Rattle.pc_lower.specs.models.Drafts.{Draft, IsPlaced, PlacedTest, IsTested}
use Rattle.pc_lower.specs.LoopTests.{HasTest}
use Rattle.pc_lower.specs.models.Fills.{IsOutside, Fills, Keeps, Lays, LaysLoops, HasRoom}

-- ---- one part after the other

-- a number outside of two adjoining parts is outside of each
outside_later : (from mid to i : ℕ) → from ≤ mid → IsOutside from to i → mid ≤ to → IsOutside mid to i
outside_later from mid to i h (inl k) g = inl (omega (arith, h, k))
outside_later from mid to i h (inr k) g = inr k

outside_earlier : (from mid to i : ℕ) → mid ≤ to → IsOutside from to i → IsOutside from mid i
outside_earlier from mid to i h (inl k) = inl k
outside_earlier from mid to i h (inr k) = inr (omega (arith, h, k))

module _ (a b c : Draft) (from mid to : ℕ) (First Second Mine : ℕ → Type 0) (later : Fills a b mid to First) (earlier : Fills b c from mid Second)
    (first : (loop : ℕ) → First loop → Mine loop) (second : (loop : ℕ) → Second loop → Mine loop) where
  -- each place of the two was filled
  filled-both : (i : ℕ) → from ≤ i → i < to → (i < mid) ⊎ (mid ≤ i) → 1 ≤ slice_index c.graph.ranks i
  filled-both i lo hi (inl h) = earlier.filled i lo h
  filled-both i lo hi (inr h) = subst (λ (n : ℕ). 1 ≤ n) (sym (earlier.ranks_kept i (inr h))) (later.filled i h hi)

  -- and was open before
  opens-both : (i : ℕ) → from ≤ i → i < to → (i < mid) ⊎ (mid ≤ i) → slice_index a.graph.ranks i ≡ 0
  opens-both i lo hi (inl h) = sym (later.ranks_kept i (inl h)) ∙ earlier.opens i lo h
  opens-both i lo hi (inr h) = later.opens i h hi

  below-or : (i : ℕ) → (i < mid) ⊎ (mid ≤ i)
  below-or i = elim (decide_le mid i) [ inl h ↦ inr h | inr h ↦ inl h ]

  -- two adjoining parts are one
  pub fills_both : Fills a c from to Mine
  fills_both =
      let f = later.forward in
      let g = earlier.forward in
      let r = later.ranked in
      let s = earlier.ranked in
      record {
        forward = omega (arith, f, g);
        as_many = earlier.as_many ∙ later.as_many;
        as_many_loops = earlier.as_many_loops ∙ later.as_many_loops;
        same_loops = earlier.same_loops ∙ later.same_loops;
        arrays = earlier.arrays ∙ later.arrays;
        initial = earlier.initial ∙ later.initial;
        nodes_kept = λ i h. earlier.nodes_kept i (outside_earlier from mid to i f h) ∙ later.nodes_kept i (outside_later from mid to i g h f);
        inside_kept = λ i h. earlier.inside_kept i (outside_earlier from mid to i f h) ∙ later.inside_kept i (outside_later from mid to i g h f);
        loops_kept = λ loop h. earlier.loops_kept loop (λ own. h (second loop own)) ∙ later.loops_kept loop (λ own. h (first loop own));
        ranks_kept = λ i h. earlier.ranks_kept i (outside_earlier from mid to i f h) ∙ later.ranks_kept i (outside_later from mid to i g h f);
        opens = λ i lo hi. opens-both i lo hi (below-or i);
        filled = λ i lo hi. filled-both i lo hi (below-or i);
        ranked = omega (arith, r, s);
      }

  -- what keeps both parts keeps the later as it was before the other, which puts no header of its loops
  pub keeps_later : ((loop : ℕ) → First loop → Second loop → ⊥) → (final : FlowGraph) → Keeps c from to Mine final → Keeps b mid to First final
  keeps_later apart final h =
      let g = earlier.forward in
      record {
        arrays = h.arrays ∙ earlier.arrays;
        nodes = λ i lo hi. h.nodes i (omega (arith, lo, g)) hi ∙ earlier.nodes_kept i (inr lo);
        inside = λ i lo hi. h.inside i (omega (arith, lo, g)) hi ∙ earlier.inside_kept i (inr lo);
        loops = λ loop own. h.loops loop (first loop own) ∙ earlier.loops_kept loop (apart loop own);
      }

  -- and the earlier
  pub keeps_earlier : (final : FlowGraph) → Keeps c from to Mine final → Keeps c from mid Second final
  keeps_earlier final h =
      let f = later.forward in
      record {
        arrays = h.arrays;
        nodes = λ i lo hi. h.nodes i lo (omega (arith, hi, f));
        inside = λ i lo hi. h.inside i lo (omega (arith, hi, f));
        loops = λ loop own. h.loops loop (second loop own);
      }

-- two adjoining parts with loops of their own, of which each gives something, give both
pub lays_loops_both : {a b c : Draft} {from mid to k n : ℕ} {First Second : ℕ → Type 0} {P Q : FlowGraph → Type 0} (Mine : ℕ → Type 0)
    → LaysLoops a b k mid to First P → LaysLoops b c n from mid Second Q
    → ((loop : ℕ) → First loop → Mine loop) → ((loop : ℕ) → Second loop → Mine loop) → ((loop : ℕ) → First loop → Second loop → ⊥)
    → LaysLoops a c (n + k) from to Mine (λ flow. P flow × Q flow)
lays_loops_both {a} {b} {c} {from} {mid} {to} {k} {n} {First} {Second} {P} {Q} Mine later earlier first second apart =
    let e = later.size_is in
    let d = earlier.size_is in
    record {
      size_is = omega (arith, e, d);
      fills = fills_both a b c from mid to First Second Mine later.fills earlier.fills first second;
      gives = λ final h. (
        later.gives final (keeps_later a b c from mid to First Second Mine later.fills earlier.fills first second apart final h),
        earlier.gives final (keeps_earlier a b c from mid to First Second Mine later.fills earlier.fills first second final h),
      );
    }

-- a part with loops, and one without before it
pub lays_both : {a b c : Draft} {from mid to k n : ℕ} {Mine : ℕ → Type 0} {P Q : FlowGraph → Type 0}
    → LaysLoops a b k mid to Mine P → Lays b c n from mid Q → LaysLoops a c (n + k) from to Mine (λ flow. P flow × Q flow)
lays_both {Mine = Mine} later earlier = lays_loops_both Mine later earlier (λ loop own. own) (λ loop none. absurd none) (λ loop own none. none)

-- the same of more loops
pub lays_wider : {old new : Draft} {k from to : ℕ} {Mine : ℕ → Type 0} {P : FlowGraph → Type 0} (Wider : ℕ → Type 0)
    → LaysLoops old new k from to Mine P → ((loop : ℕ) → Mine loop → Wider loop) → LaysLoops old new k from to Wider P
lays_wider Wider l f =
    let fills = l.fills in
    record {
      size_is = l.size_is;
      fills = record {
        forward = fills.forward;
        as_many = fills.as_many;
        as_many_loops = fills.as_many_loops;
        same_loops = fills.same_loops;
        arrays = fills.arrays;
        initial = fills.initial;
        nodes_kept = fills.nodes_kept;
        inside_kept = fills.inside_kept;
        loops_kept = λ loop h. fills.loops_kept loop (λ own. h (f loop own));
        ranks_kept = fills.ranks_kept;
        opens = fills.opens;
        filled = fills.filled;
        ranked = fills.ranked;
      };
      gives = λ final h. l.gives final (record {
        arrays = h.arrays;
        nodes = h.nodes;
        inside = h.inside;
        loops = λ loop own. h.loops loop (f loop own);
      });
    }

-- no loop is one of any
pub lays_more : {old new : Draft} {k from to : ℕ} {Mine : ℕ → Type 0} {P : FlowGraph → Type 0} → Lays old new k from to P → LaysLoops old new k from to Mine P
lays_more {Mine = Mine} l = lays_wider Mine l (λ loop none. absurd none)

-- what is given, put another way
pub lays_as : {old new : Draft} {k from to : ℕ} {Mine : ℕ → Type 0} {P : FlowGraph → Type 0} (n : ℕ) (Q : FlowGraph → Type 0)
    → LaysLoops old new k from to Mine P → k ≡ n → ((flow : FlowGraph) → P flow → Q flow) → LaysLoops old new n from to Mine Q
lays_as {from = from} {to = to} n Q l e f =
    record { size_is = subst (λ (x : ℕ). from + x ≡ to) e l.size_is; fills = l.fills; gives = λ final h. f final (l.gives final h) }

-- the same, with the arrays known
pub lays_with_arrays : {old new : Draft} {k from to : ℕ} {Mine : ℕ → Type 0} {P : FlowGraph → Type 0} (Q : FlowGraph → Type 0)
    → LaysLoops old new k from to Mine P → ((flow : FlowGraph) → flow.arrays ≡ old.graph.arrays → P flow → Q flow) → LaysLoops old new k from to Mine Q
lays_with_arrays Q l f =
    record { size_is = l.size_is; fills = l.fills; gives = λ final h. f final (h.arrays ∙ l.fills.arrays) (l.gives final h) }

-- ---- what is left

-- room for fewer
pub less_room : {draft : Draft} {many to : ℕ} {inside : Option ℕ} (few : ℕ) → few ≤ many → HasRoom draft many to inside → HasRoom draft few to inside
less_room {draft} {many} {to} {inside} few h room =
    let w = room.within in
    let r = room.ranks in
    record {
      within = omega (arith, h, w);
      there = room.there;
      unranked = λ i lo hi. room.unranked i lo (omega (arith, h, hi));
      ranks = omega (arith, h, r);
      loop_there = room.loop_there;
    }

-- room that is left before a part
pub room_left : {old new : Draft} {size k from to : ℕ} {inside : Option ℕ} {Mine : ℕ → Type 0} {P : FlowGraph → Type 0} (rest : ℕ)
    → HasRoom old size to inside → LaysLoops old new k from to Mine P → rest + k ≤ size → HasRoom new rest from inside
room_left {old} {new} {size} {k} {from} {to} {inside} rest room l h =
    let e = l.size_is in
    let w = room.within in
    let there = room.there in
    let r = room.ranks in
    let s = l.fills.ranked in
    let n = l.fills.as_many in
    record {
      within = omega (arith, e, w, h);
      there = omega (arith, there, n, e);
      unranked = λ i lo hi. l.fills.ranks_kept i (inl lo) ∙ room.unranked i (omega (arith, lo, e)) (omega (arith, hi, e, h));
      ranks = omega (arith, r, s, e, h);
      loop_there = subst (λ (x : ℕ). IfSome inside (λ loop. loop < x)) (sym l.fills.as_many_loops) room.loop_there;
    }

-- ---- nodes that were placed

-- a number is outside of a part or in it
in_or_out : (from to i : ℕ) → IsOutside from to i ⊎ ((from ≤ i) × (i < to))
in_or_out from to i = elim (decide_le from i) [
  | inl h ↦ elim (decide_le to i) [ inl k ↦ inl (inr k) | inr k ↦ inr (h, k) ]
  | inr h ↦ inl (inl h)
]

-- what was placed stays so
pub placed_still : {old new : Draft} {from to i : ℕ} {Mine : ℕ → Type 0} → Fills old new from to Mine → IsPlaced old.graph i → IsPlaced new.graph i
placed_still {old} {new} {from} {to} {i} fills h = record {
  there = subst (λ (n : ℕ). i < n) (sym fills.as_many) h.there;
  ranked = ranked-still (in_or_out from to i);
}
  where
    ranked-still : IsOutside from to i ⊎ ((from ≤ i) × (i < to)) → 1 ≤ slice_index new.graph.ranks i
    ranked-still (inl g) = subst (λ (n : ℕ). 1 ≤ n) (sym (fills.ranks_kept i g)) h.ranked
    ranked-still (inr g) = fills.filled i g.0 g.1

-- the nodes of a part were placed
pub placed_within : {old new : Draft} {k from to size : ℕ} {inside : Option ℕ} {Mine : ℕ → Type 0} {P : FlowGraph → Type 0} (i : ℕ) → HasRoom old size to inside
    → LaysLoops old new k from to Mine P → from ≤ i → i < to → IsPlaced new.graph i
placed_within {old} {new} i room l lo hi =
    let there = room.there in
    let n = l.fills.as_many in
    record { there = omega (arith, hi, there, n); ranked = l.fills.filled i lo hi }

-- the test of a loop outside of a part stays
pub test_kept : {old new : Draft} {from to at loop : ℕ} {Mine : ℕ → Type 0} → HasTest old.graph at loop → Fills old new from to Mine
    → IsOutside from to at → HasTest new.graph at loop
test_kept {at = at} h fills out = record { node = h.node; is_there = fills.nodes_kept at out ∙ h.is_there; tests = h.tests }

-- the test of a loop that was placed stays
pub placed_test_still : {old new : Draft} {from to at loop : ℕ} {Mine : ℕ → Type 0} → Fills old new from to Mine
    → PlacedTest old.graph at loop → PlacedTest new.graph at loop
placed_test_still {from = from} {to = to} {at = at} fills t =
    record { test = test_kept t.test fills (elsewhere (in_or_out from to at)); placed = placed_still fills t.placed }
  where
    elsewhere : IsOutside from to at ⊎ ((from ≤ at) × (at < to)) → IsOutside from to at
    elsewhere (inl out) = out
    elsewhere (inr h) =
        let none = fills.opens at h.0 h.1 in
        let some = t.placed.ranked in
        absurd (omega (arith, none, some))

-- and so a loop that is tested
pub tested_still : {old new : Draft} {from to loop : ℕ} {Mine : ℕ → Type 0} → Fills old new from to Mine → IsTested old.graph loop → IsTested new.graph loop
tested_still fills t = (t.0, placed_test_still fills t.1)

-- and its first one
pub placed_first : {old new : Draft} {k from to size : ℕ} {inside : Option ℕ} {Mine : ℕ → Type 0} {P : FlowGraph → Type 0} → HasRoom old size to inside
    → LaysLoops old new k from to Mine P → 1 ≤ k → IsPlaced new.graph from
placed_first {old} {new} {k} {from} {to} room l h =
    let e = l.size_is in
    placed_within from room l (omega arith) (omega (arith, e, h))
