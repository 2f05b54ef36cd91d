-- Statements that are lowered part by part: what a part may take for granted.
use Rattle.std.proofs.Common.{◌≡◌, ℕ, ◌+◌, ◌≤◌, inr, length, Option, Some, true, refl, sym, ◌∙◌, ap, subst, arith}
use Rattle.pc_syntax.specs.Source.{SourceExpression, Literal, Variable, Input, Indexed, Prefixed, Combined, Conjunction, Disjunction, Conditional}
use Rattle.pc_check.specs.Needs.{hold}
use Rattle.pc_check.specs.Sound.{has_slots}
use Rattle.pc_word.specs.declared.item.Item.TheVariants.{Print}
use Rattle.pc_word.specs.declared.item.Operand.{Operand}
use Rattle.pc_word.specs.SourceLimits.{most_scalars}
use Rattle.pc_word.proofs.Truth.{less_of}
use Rattle.pc_check.specs.Sizes.{expression_size}
use Rattle.pc_flow.specs.declared.node.FlowNode.{FlowNode}
use Rattle.pc_flow.specs.FlowGraph.{FlowGraph, IsVariable, ItemFits, tested_loop}
use Rattle.pc_lower.specs.Lowers.{held, IsAt, Tests, Gives, Begins}
use Rattle.pc_lower.specs.declared.spot.Spot.{Spot}
use Rattle.pc_lower.specs.models.Drafts.{Draft, IsPlaced}
use Rattle.pc_lower.specs.models.Fills.{NoLoop, Fills, Lays, LaysLoops}
use Rattle.pc_lower.specs.models.LowersExpression.{IsReady, IsHeld, MayLower, LaysExpression}
use Rattle.pc_lower.specs.models.LowersStatement.{ConditionNodes, LaysTurn, IsSpot}
use Rattle.pc_lower.proofs.Fills.{fills_both, lays_both, lays_as, room_left, placed_still}
use Rattle.pc_lower.proofs.Lowered.{operator_some}

-- ---- values

-- without a place that holds its value, an expression has no nodes
pub none_of_size : (e : SourceExpression) → hold e ≡ 0 → expression_size e ≡ 0
unfolding expression_size
none_of_size (Literal value) h = refl
none_of_size (Variable symbol line) h = refl
none_of_size (Input line) h = omega (arith, h)
none_of_size (Indexed symbol line at index) h = omega (arith, h)
none_of_size (Prefixed op operand) h = omega (arith, h)
none_of_size (Combined op at left right) h = omega (arith, h)
none_of_size (Conjunction left right) h = omega (arith, h)
none_of_size (Disjunction left right) h = omega (arith, h)
none_of_size (Conditional test one other) h = omega (arith, h)

-- with one it has some
pub some_of_size : (e : SourceExpression) → (hold e ≡ 0 → ⊥) → 1 ≤ expression_size e
unfolding expression_size
some_of_size (Literal value) h = absurd (h refl)
some_of_size (Variable symbol line) h = absurd (h refl)
some_of_size (Input line) h = omega arith
some_of_size (Indexed symbol line at index) h = omega arith
some_of_size (Prefixed op operand) h = omega arith
some_of_size (Combined op at left right) h = let some = operator_some op in omega (arith, some)
some_of_size (Conjunction left right) h = omega arith
some_of_size (Disjunction left right) h = omega arith
some_of_size (Conditional test one other) h = omega arith

-- and leads on where it begins
pub gives_held : (e : SourceExpression) → hold e ≡ 0 → (flow : FlowGraph) (inside : Option ℕ) (q n : ℕ) → has_slots most_scalars n e ≡ true → Gives flow inside e 0 q q
unfolding has_slots
gives_held (Literal value) h flow inside q n slots = refl
gives_held (Variable symbol line) h flow inside q n slots = (less_of symbol most_scalars slots, refl)
gives_held (Input line) h flow inside q n slots = absurd (omega (arith, h))
gives_held (Indexed symbol line at index) h flow inside q n slots = absurd (omega (arith, h))
gives_held (Prefixed op operand) h flow inside q n slots = absurd (omega (arith, h))
gives_held (Combined op at left right) h flow inside q n slots = absurd (omega (arith, h))
gives_held (Conjunction left right) h flow inside q n slots = absurd (omega (arith, h))
gives_held (Disjunction left right) h flow inside q n slots = absurd (omega (arith, h))
gives_held (Conditional test one other) h flow inside q n slots = absurd (omega (arith, h))

-- nothing is placed
pub lays_nothing : (d : Draft) (to : ℕ) {Mine : ℕ → Type 0} (P : FlowGraph → Type 0) → ((final : FlowGraph) → P final) → LaysLoops d d 0 to to Mine P
lays_nothing d to P f = record {
  size_is = omega arith;
  fills = record {
    forward = omega arith;
    as_many = refl;
    as_many_loops = refl;
    same_loops = refl;
    arrays = refl;
    initial = refl;
    nodes_kept = λ i h. refl;
    inside_kept = λ i h. refl;
    loops_kept = λ loop h. refl;
    ranks_kept = λ i h. refl;
    opens = λ i lo hi. absurd (omega (arith, lo, hi));
    filled = λ i lo hi. absurd (omega (arith, lo, hi));
    ranked = refl;
  };
  gives = λ final h. f final;
}

-- an expression without nodes
pub lays_none : {d : Draft} {to : ℕ} (inside : Option ℕ) (q : ℕ) (x : SourceExpression) → IsHeld d.graph.arrays x 0 → hold x ≡ 0
    → Lays d d (expression_size x) to to (λ flow. Begins (expression_size x) q to to × Gives flow inside x 0 q q)
lays_none {d} {to} inside q x value h =
    let none = none_of_size x h in
    let begins : Begins (expression_size x) q to to = record { some = λ some. absurd (omega (arith, none, some)); none = λ e. refl } in
    subst (λ (k : ℕ). Lays d d k to to (λ flow. Begins (expression_size x) q to to × Gives flow inside x 0 q q)) (sym none)
    (lays_nothing d to (λ flow. Begins (expression_size x) q to to × Gives flow inside x 0 q q)
    (λ final. (begins, gives_held x h final inside q (length d.graph.arrays) value.slots)))

-- an expression with nodes begins with the first
pub lays_some : {c d : Draft} {start to : ℕ} (inside : Option ℕ) (q : ℕ) (x : SourceExpression) → LaysExpression x 0 start to q inside c d
    → Lays c d (expression_size x) start to (λ flow. Begins (expression_size x) start start to × Gives flow inside x 0 start q)
lays_some {start = start} {to = to} inside q x l =
    let e = l.size_is in
    let begins : Begins (expression_size x) start start to = record { some = λ some. refl; none = λ none. omega (arith, e, none) } in
    lays_as _ (λ flow. Begins (expression_size x) start start to × Gives flow inside x 0 start q) l refl (λ flow h. (begins, h))

-- ---- a value and what is done with it

-- an expression that is lowered alone
pub value_alone : {d : Draft} {x : SourceExpression} {to q : ℕ} {inside : Option ℕ} → IsReady d (expression_size x) to q inside → IsHeld d.graph.arrays x 0
    → (hold x ≡ 0 → ⊥) → MayLower d x 0 to q inside
value_alone {x = x} ready value h = record {
  arrays = ready.arrays;
  slots = value.slots;
  temporaries = value.temporaries;
  room = ready.room;
  leads = ready.leads;
  contiguous = λ none. let some = some_of_size x h in absurd (omega (arith, none, some));
}

-- a condition and its test
pub lays_condition : {a b c : Draft} {start m to : ℕ} {inside : Option ℕ} (x : SourceExpression) (y z : ℕ)
    → Lays a b 1 m to (λ flow. Tests flow inside m (held x 0) y z) → LaysExpression x 0 start m m inside b c
    → Lays a c (expression_size x + 1) start to (ConditionNodes x inside y z start)
lays_condition {start = start} {m = m} {inside = inside} x y z test value =
    lays_as _ (ConditionNodes x inside y z start) (lays_both test value) refl (λ flow h. record { is = (m, h.1, h.0) })

-- the condition of a loop and its test
pub lays_turn : {a b c : Draft} {start m to at own : ℕ} {inside : Option ℕ} {node : FlowNode} (x : SourceExpression) → at + 1 ≡ to → tested_loop node ≡ Some own
    → inside ≡ Some own → Lays a b 1 m to (λ flow. IsAt flow m node inside) → LaysExpression x 0 start m m inside b c → LaysTurn a c x own start at
lays_turn {a} {b} {c} {start} {m} {to} {at} {own} {inside} {node} x e turns within test value =
    let s = test.size_is in
    let same : m ≡ at = omega (arith, s, e) in
    let here = test.gives b.graph (record { arrays = refl; nodes = λ i lo hi. refl; inside = λ i lo hi. refl; loops = λ loop none. refl }) in
    let made : LaysTurn a c x own start m = record {
      size_is = value.size_is;
      tested = record {
        node = node;
        is_there = value.fills.nodes_kept m (inr (omega arith)) ∙ here.there;
        tests = turns;
      };
      stands = value.fills.inside_kept m (inr (omega arith)) ∙ here.inside ∙ ap Some within;
      fills = fills_both a b c start m (m + 1) NoLoop NoLoop NoLoop (subst (λ (n : ℕ). Fills a b m n NoLoop) (sym s) test.fills) value.fills
          (λ loop none. none) (λ loop none. none);
      gives = λ final h. subst (λ (loop : Option ℕ). Gives final loop x 0 start m) within (value.gives final h);
    } in
    subst (λ (n : ℕ). LaysTurn a c x own start n) same made

-- a print fits
pub print_fits : (arrays : ℕ) (value : Operand) → IsVariable value → ItemFits arrays (Print value)
print_fits arrays value h = record { reads = (h, tt); writes = tt; array = tt }

-- ---- spots of parts

-- the spot of a part that is placed before another one, and leads on to it
pub spot_before : {d d1 : Draft} {size loops k start entry : ℕ} {spot : Spot} {Mine : ℕ → Type 0} {P : FlowGraph → Type 0} (rest few done ends : ℕ)
    → IsSpot d size loops spot → LaysLoops d d1 k start spot.end Mine P → IsPlaced d1.graph entry → rest + k ≤ size → few + done ≤ loops → ends + done ≡ spot.loops_end
    → IsSpot d1 rest few (record spot { end = start; next = entry; loops_end = ends })
spot_before {d} {d1} {size} {loops} {k} {start} {entry} {spot} rest few done ends is l begins fits numbers e =
    let there = is.loops_there in
    let as_many = l.fills.as_many_loops in
    let below = is.numbers in
    record {
      arrays = rw l.fills.arrays is.arrays;
      room = room_left rest is.room l fits;
      next = begins;
      breaks = placed_still l.fills is.breaks;
      continues = placed_still l.fills is.continues;
      returns = placed_still l.fills is.returns;
      loops_there = omega (arith, there, as_many, e);
      numbers = omega (arith, numbers, below, e);
    }
