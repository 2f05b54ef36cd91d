-- Statements that are lowered part by part: what the nodes and the loops of the parts together give.
use Rattle.std.proofs.Common.{◌≡◌, inl, inr, ℕ, ◌+◌, ◌<◌, ◌≤◌, List, length, Option, Some, refl, sym, subst, arith}
use Rattle.pc_syntax.specs.Source.{SourceExpression, SourceStatement}
use Rattle.pc_syntax.specs.Source.{Branch, WhileLoop, DoLoop, ForLoop, OptionalStatement}
use Rattle.pc_syntax.specs.Source.{SourceList}
use Rattle.pc_check.specs.Sizes.{expression_size, statement_size, branch_size, list_size}
use Rattle.pc_flow.specs.FlowGraph.{FlowGraph}
use Rattle.pc_flow.specs.declared.node.FlowNode.TheVariants.{Test}
use Rattle.pc_lower.specs.Lowers.{held, Implements, ImplementsOptional}
use Rattle.pc_lower.specs.models.Drafts.{Draft}
use Rattle.pc_lower.specs.models.Fills.{IsOr, IsOwn, Lays, LaysLoops}
use Rattle.pc_lower.specs.SourceLoops.{SourceLoop, with_loops, with_branch_loops, with_list_loops, loop_count, branch_loops, list_loops}
use Rattle.pc_lower.specs.models.LowersStatement.{LaysTurn, closed}
use Rattle.pc_lower.specs.models.LowersStatement.{AreMarked, ConditionNodes, StatementNodes, OptionalNodes, ListNodes, RoundNodes, TurnsNodes}
use Rattle.pc_lower.proofs.Fills.{lays_loops_both, lays_both, lays_as, lays_wider}
use Rattle.pc_lower.proofs.Loops.{lays_round, lays_round_before}
use Rattle.pc_lower.proofs.Numbered.{adds_loops, adds_branch_loops, adds_list_loops, marked_first, marked_second, marked_inner, marked_loop}
use Rattle.pc_lower.proofs.Numbered.{while_marked, do_marked, for_marked, within_for, adds_within_for, adds_round}

-- ---- loops of parts

-- the loops before others are among all, and so are the others
own_first : {few mid ends total : ℕ} (more loop : ℕ) → mid + more ≡ ends → few + more ≡ total → IsOwn few mid loop → IsOwn total ends loop
own_first more loop e sum own = let from = own.from in let below = own.below in record { from = omega (arith, from, e, sum); below = omega (arith, below, e) }

own_last : {more ends total : ℕ} (few loop : ℕ) → few + more ≡ total → IsOwn more ends loop → IsOwn total ends loop
own_last few loop sum own = let from = own.from in let below = own.below in record { from = omega (arith, from, sum); below = below }

-- and are not the same
own_apart : {few mid more ends : ℕ} (loop : ℕ) → mid + more ≡ ends → IsOwn few mid loop → IsOwn more ends loop → ⊥
own_apart loop e one other = let below = one.below in let from = other.from in omega (arith, below, from, e)

-- a loop before its own, and these, are among all
own_or : {own many ends : ℕ} (loop : ℕ) → own + (many + 1) ≡ ends → IsOr own (IsOwn many ends) loop → IsOwn (many + 1) ends loop
own_or loop e (inl same) = record { from = omega (arith, same, e); below = omega (arith, same, e) }
own_or loop e (inr own) = let from = own.from in let below = own.below in record { from = omega (arith, from); below = below }

-- and is none of these
own_before : {own many ends : ℕ} → own + many < ends → IsOwn many ends own → ⊥
own_before lt own = let from = own.from in omega (arith, lt, from)

-- parts of which one has the loops before those of the other
pub lays_numbered : {a b c : Draft} {start mid to n m few lo more ends : ℕ} {P Q : FlowGraph → Type 0} (total : ℕ)
    → LaysLoops a b n mid to (IsOwn more ends) P → LaysLoops b c m start mid (IsOwn few lo) Q → lo + more ≡ ends → few + more ≡ total
    → LaysLoops a c (m + n) start to (IsOwn total ends) (λ flow. P flow × Q flow)
lays_numbered {few = few} {more = more} {ends = ends} total last first e sum =
    lays_loops_both (IsOwn total ends) last first (λ loop own. own_last few loop sum own) (λ loop own. own_first more loop e sum own)
    (λ loop own other. own_apart loop e other own)

-- ---- the nodes of the parts implement the whole

-- `if`
pub lays_branch : {a b c d : Draft} {p m start z y to : ℕ} {inside : Option ℕ} {mid ends : ℕ} (x : SourceExpression) (s : SourceStatement) (o : OptionalStatement) (b' c' r q : ℕ)
    → LaysLoops a b (branch_size o) start to (IsOwn (branch_loops o) ends) (OptionalNodes o inside ends start to b' c' r z q)
    → LaysLoops b c (statement_size s) m start (IsOwn (loop_count s) mid) (StatementNodes s inside mid m start b' c' r y q)
    → Lays c d (expression_size x + 1) p m (ConditionNodes x inside y z p) → mid + branch_loops o ≡ ends
    → LaysLoops a d (expression_size x + statement_size s + branch_size o + 1) p to (IsOwn (loop_count s + branch_loops o) ends)
    (StatementNodes (Branch 0 x s o) inside ends p to b' c' r p q)
unfolding loop_count with_loops
lays_branch {p = p} {m = m} {start = start} {z = z} {y = y} {to = to} {inside = inside} {mid = mid} {ends = ends} x s o b' c' r q other chosen test e =
    lays_as (expression_size x + statement_size s + branch_size o + 1) (StatementNodes (Branch 0 x s o) inside ends p to b' c' r p q)
    (lays_both (lays_numbered (loop_count s + branch_loops o) other chosen e refl) test) (omega arith)
    (λ flow h. record {
      is = λ k n marked. (
        h.1.is.0,
        y,
        z,
        m,
        start,
        refl,
        h.1.is.1,
        h.1.is.2,
        h.0.1.is k (omega (arith, n, e)) (marked_first (with_loops s inside) (with_branch_loops o inside) marked (adds_branch_loops o inside)),
        h.0.0.is (k + loop_count s) (omega (arith, n)) (marked_second (with_loops s inside) (with_branch_loops o inside) marked (adds_loops s inside)),
      );
    })

-- `while`
pub lays_while : {a b c : Draft} {h at start to y : ℕ} {inside : Option ℕ} {ends : ℕ} (line : ℕ) (x : SourceExpression) (s : SourceStatement) (b' c' r q own : ℕ)
    → LaysTurn a b x own h at
    → LaysLoops b c (statement_size s) start to (IsOwn (loop_count s) ends) (StatementNodes s (Some own) ends start to q h r y h)
    → at + 1 + statement_size s ≡ to → to ≤ length a.graph.nodes → own < length a.graph.loops → own + (loop_count s + 1) ≡ ends
    → LaysLoops a (closed at (Test (held x 0) y q (Some own)) own h c) (expression_size x + statement_size s + 1) h to (IsOwn (loop_count s + 1) ends)
    (StatementNodes (WhileLoop line x s) inside ends h to b' c' r h q)
unfolding loop_count
lays_while {b = b} {c = c} {h = h} {at = at} {start = start} {to = to} {y = y} {inside = inside} {ends = ends} line x s b' c' r q own turn body place there numbered e =
    let f = body.size_is in
    let same : start ≡ at + 1 = omega (arith, f, place) in
    let behind = subst (λ (n : ℕ). LaysLoops b c (statement_size s) n to (IsOwn (loop_count s) ends) (StatementNodes s (Some own) ends n to q h r y h)) same body in
    let round = lays_round x (Test (held x 0) y q (Some own)) own h turn behind there numbered (λ mine. own_before (omega (arith, e)) mine) in
    let all = WhileLoop line x s in
    lays_as (expression_size x + statement_size s + 1) (StatementNodes all inside ends h to b' c' r h q)
    (lays_wider (IsOwn (loop_count s + 1) ends) round (λ loop mine. own_or loop e mine)) (omega arith)
    (λ flow g. record {
      is = λ k n. subst (λ (k : ℕ). AreMarked flow k (with_loops all inside) → Implements flow all inside k h to b' c' r h q) (omega (arith, n, e))
          (λ marked.
          let mine = while_marked line x s inside marked in
          let adds = adds_loops s (Some own) in (
            at,
            y,
            at + 1,
            refl,
            marked_loop line inside (with_loops s (Some own)) mine adds g.0,
            g.1,
            g.2,
            g.3.is (own + 1) (omega (arith, e)) (marked_inner line inside (with_loops s (Some own)) mine adds),
          ));
    })

-- `do`
pub lays_do : {a b c : Draft} {h at start p to : ℕ} {inside : Option ℕ} {ends : ℕ} (line : ℕ) (x : SourceExpression) (s : SourceStatement) (b' c' r q own : ℕ)
    → LaysTurn a b x own h at
    → LaysLoops b c (statement_size s) start h (IsOwn (loop_count s) ends) (StatementNodes s (Some own) ends start h q h r p h)
    → at + 1 ≡ to → to ≤ length a.graph.nodes → own < length a.graph.loops → own + (loop_count s + 1) ≡ ends
    → LaysLoops a (closed at (Test (held x 0) p q (Some own)) own start c) (statement_size s + expression_size x + 1) start to (IsOwn (loop_count s + 1) ends)
    (StatementNodes (DoLoop line s x) inside ends start to b' c' r p q)
unfolding loop_count
lays_do {a = a} {c = c} {h = h} {at = at} {start = start} {p = p} {to = to} {inside = inside} {ends = ends} line x s b' c' r q own turn body place there numbered e =
    let round = lays_round_before x (Test (held x 0) p q (Some own)) own start turn body (omega (arith, place, there)) numbered (λ mine. own_before (omega (arith, e)) mine) in
    let all = DoLoop line s x in
    subst (λ (n : ℕ). LaysLoops a (closed at (Test (held x 0) p q (Some own)) own start c) (statement_size s + expression_size x + 1) start n
    (IsOwn (loop_count s + 1) ends) (StatementNodes all inside ends start n b' c' r p q)) place
    (lays_as (statement_size s + expression_size x + 1) (StatementNodes all inside ends start (at + 1) b' c' r p q)
    (lays_wider (IsOwn (loop_count s + 1) ends) round (λ loop mine. own_or loop e mine)) refl
    (λ flow g. record {
      is = λ k n. subst (λ (k : ℕ). AreMarked flow k (with_loops all inside) → Implements flow all inside k start (at + 1) b' c' r p q) (omega (arith, n, e))
          (λ marked.
          let mine = do_marked line x s inside marked in
          let adds = adds_loops s (Some own) in (
            h,
            at,
            marked_loop line inside (with_loops s (Some own)) mine adds g.0,
            g.1.is (own + 1) (omega (arith, e)) (marked_inner line inside (with_loops s (Some own)) mine adds),
            g.2,
            g.3,
          ));
    }))

-- the body and the step of a `for`
pub lays_body_and_step : {a b c : Draft} {start middle to y m : ℕ} {inside : Option ℕ} {mid ends : ℕ} (s : SourceStatement) (o : OptionalStatement) (out b' c' r q : ℕ)
    → LaysLoops a b (branch_size o) middle to (IsOwn (branch_loops o) mid) (OptionalNodes o inside mid middle to b' c' r m q)
    → LaysLoops b c (statement_size s) start middle (IsOwn (loop_count s) ends) (StatementNodes s inside ends start middle out m r y m) → mid + loop_count s ≡ ends
    → LaysLoops a c (statement_size s + branch_size o) start to (IsOwn (branch_loops o + loop_count s) ends) (RoundNodes s o inside ends start to out b' c' r y q)
lays_body_and_step {start = start} {middle = middle} {to = to} {y = y} {m = m} {inside = inside} {mid = mid} {ends = ends} s o out b' c' r q step body e =
    lays_as (statement_size s + branch_size o) (RoundNodes s o inside ends start to out b' c' r y q)
    (lays_loops_both (IsOwn (branch_loops o + loop_count s) ends) step body (λ loop own. own_first (loop_count s) loop e refl own) (λ loop own. own_last (branch_loops o) loop refl own)
    (λ loop own other. own_apart loop e own other)) refl
    (λ flow h. record {
      is = λ k n marked.
          let first = with_branch_loops o inside in
          let second = with_loops s inside in (
            m,
            middle,
            h.1.is (k + branch_loops o) (omega (arith, n)) (marked_second first second marked (adds_branch_loops o inside)),
            h.0.is k (omega (arith, n, e)) (marked_first first second marked (adds_loops s inside)),
          );
    })

-- the turns of a `for`
pub lays_turns : {a b c : Draft} {h at start to y : ℕ} {ends : ℕ} (x : SourceExpression) (o : OptionalStatement) (s : SourceStatement) (b' c' r q own : ℕ)
    → LaysTurn a b x own h at
    → LaysLoops b c (statement_size s + branch_size o) start to (IsOwn (branch_loops o + loop_count s) ends) (RoundNodes s o (Some own) ends start to q b' c' r y h)
    → at + 1 + (statement_size s + branch_size o) ≡ to → to ≤ length a.graph.nodes → own < length a.graph.loops → own + (branch_loops o + loop_count s) < ends
    → LaysLoops a (closed at (Test (held x 0) y q (Some own)) own h c) (expression_size x + 1 + (statement_size s + branch_size o)) h to
    (IsOr own (IsOwn (branch_loops o + loop_count s) ends)) (TurnsNodes x o s own ends to b' c' r h q)
lays_turns {b = b} {c = c} {h = h} {at = at} {start = start} {to = to} {y = y} {ends = ends} x o s b' c' r q own turn round place there numbered below =
    let e = round.size_is in
    let same : start ≡ at + 1 = omega (arith, e, place) in
    let behind = subst (λ (n : ℕ). LaysLoops b c (statement_size s + branch_size o) n to (IsOwn (branch_loops o + loop_count s) ends)
    (RoundNodes s o (Some own) ends n to q b' c' r y h)) same round in
    lays_as (expression_size x + 1 + (statement_size s + branch_size o)) (TurnsNodes x o s own ends to b' c' r h q)
    (lays_round x (Test (held x 0) y q (Some own)) own h turn behind there numbered (λ mine. own_before below mine)) refl
    (λ flow g. record {
      is = λ k n marked. let parts = g.3.is k n marked in (at, y, parts.0, at + 1, parts.1, g.0, g.1, g.2, parts.2, parts.3);
    })

-- `for`
pub lays_for : {a b c : Draft} {h start to p : ℕ} {inside : Option ℕ} {mid ends : ℕ}
    (line : ℕ) (f : SourceList) (x : SourceExpression) (o : OptionalStatement) (s : SourceStatement) (b' c' r q own : ℕ)
    → LaysLoops a b (expression_size x + 1 + (statement_size s + branch_size o)) h to (IsOr own (IsOwn (branch_loops o + loop_count s) ends))
    (TurnsNodes x o s own ends to b' c' r h q)
    → LaysLoops b c (list_size f) start h (IsOwn (list_loops f) mid) (ListNodes f inside mid start h b' c' r p h)
    → own + 1 + list_loops f ≡ mid → mid + (branch_loops o + loop_count s) ≡ ends
    → LaysLoops a c (list_size f + expression_size x + branch_size o + statement_size s + 1) start to
    (IsOwn (list_loops f + (branch_loops o + loop_count s) + 1) ends) (StatementNodes (ForLoop line f x o s) inside ends start to b' c' r p q)
unfolding loop_count
lays_for {h = h} {start = start} {to = to} {p = p} {inside = inside} {mid = mid} {ends = ends} line f x o s b' c' r q own turns first before e =
    let all = ForLoop line f x o s in
    let total = list_loops f + (branch_loops o + loop_count s) + 1 in
    lays_as (list_size f + expression_size x + branch_size o + statement_size s + 1) (StatementNodes all inside ends start to b' c' r p q)
    (lays_loops_both (IsOwn total ends) turns first turned begun apart) (omega arith)
    (λ flow g. record {
      is = λ k n. subst (λ (k : ℕ). AreMarked flow k (with_loops all inside) → Implements flow all inside k start to b' c' r p q) (omega (arith, n, before, e))
          (λ marked.
          let mine = for_marked line f x o s inside marked in
          let inner = within_for own f o s inside in
          let adds = adds_within_for own f o s inside in
          let within = marked_inner line inside inner mine adds in
          let list = with_list_loops f inside in
          let later = λ (loops : List SourceLoop). with_loops s (Some own) (with_branch_loops o (Some own) loops) in
          let turned = subst (λ (k : ℕ). AreMarked flow k later) before (marked_second list later within (adds_list_loops f inside)) in
          let parts = g.0.is mid e turned in
          let second : own + 1 + list_loops f + branch_loops o ≡ mid + branch_loops o = omega (arith, before) in (
            h,
            parts.0,
            parts.1,
            parts.2,
            parts.3,
            parts.4,
            g.1.is (own + 1) before (marked_first list later within (adds_round own o s)),
            marked_loop line inside inner mine adds parts.5,
            parts.6,
            parts.7,
            subst (λ (k : ℕ). Implements flow s (Some own) k parts.3 parts.4 q parts.2 r parts.1 parts.2) (sym second) parts.8,
            subst (λ (k : ℕ). ImplementsOptional flow o (Some own) k parts.4 to b' c' r parts.2 h) (sym before) parts.9,
          ));
    })
  where
    turned : (loop : ℕ) → IsOr own (IsOwn (branch_loops o + loop_count s) ends) loop → IsOwn (list_loops f + (branch_loops o + loop_count s) + 1) ends loop
    turned loop (inl same) = record { from = omega (arith, same, before, e); below = omega (arith, same, before, e) }
    turned loop (inr mine) = let from = mine.from in let below = mine.below in record { from = omega (arith, from); below = below }

    begun : (loop : ℕ) → IsOwn (list_loops f) mid loop → IsOwn (list_loops f + (branch_loops o + loop_count s) + 1) ends loop
    begun loop mine = let from = mine.from in let below = mine.below in record { from = omega (arith, from, e); below = omega (arith, below, e) }

    apart : (loop : ℕ) → IsOr own (IsOwn (branch_loops o + loop_count s) ends) loop → IsOwn (list_loops f) mid loop → ⊥
    apart loop (inl same) mine = let from = mine.from in omega (arith, same, from, before)
    apart loop (inr other) mine = let from = other.from in let below = mine.below in omega (arith, from, below, e)
