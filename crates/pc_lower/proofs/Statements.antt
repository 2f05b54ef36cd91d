-- Nodes that implement a statement follow its run, and pass the nodes that its trace lists.
use Rattle.std.proofs.Common.{◌≡◌, ℕ, zero, suc, ◌+◌, Bool, true, false, List, [], ◌∷◌, ◌++◌, Option, Some, None, refl, sym, ◌∙◌, ap, subst, append-nil, nat_eq, arith}
use Rattle.std.specs.Prelude.{ℤ, pos, slice_get, slice_index, if◌then◌else◌}
use Rattle.pc_word.specs.declared.item.Item.TheVariants.{Copy, Store, Print}
use Rattle.pc_word.specs.declared.item.Operand.{Operand}
use Rattle.pc_word.specs.declared.item.Operand.TheVariants.{Name, Lit}
use Rattle.pc_word.specs.declared.item.TrapKind.TheVariants.{OutOfBounds}
use Rattle.pc_syntax.specs.declared.operator.BinaryOp.{BinaryOp}
use Rattle.pc_syntax.specs.Source as source
use Rattle.pc_syntax.specs.Source.{SourceExpression, SourceStatement, SourceList, OptionalStatement}
use Rattle.pc_word.specs.State.{State}
use Rattle.pc_word.specs.Commit.{state_after}
use Rattle.pc_word.specs.Items.{operand_value, place_in}
use Rattle.pc_meaning.specs.ProgramState.{ProgramState, set_scalar, set_element, add_printed, set_turns}
use Rattle.pc_meaning.specs.Expression.{Evaluated, Given, Caught, side, operate, eval}
use Rattle.pc_meaning.specs.Statement.{Completion, GoesOn, Breaks, Continues, Returns, Traps, Spent, do_with, then_do, after_body, assign, store}
use Rattle.pc_meaning.specs.Statement.{with_place, update, assignment, declare, turn_from, turn_of, round_of, loop, loop_from, execute}
use Rattle.pc_meaning.specs.Statement.{execute_optional, execute_list}
use Rattle.pc_meaning.specs.Trace.{Kind, Copy_node, Load_node, Store_node, Print_node, traced, traced_on, traced_body, tested, passes}
use Rattle.pc_meaning.specs.Trace.{passes_nothing, place_trace, operation_trace, trace, update_trace, assignment_trace, declaration_trace}
use Rattle.pc_meaning.specs.Trace.{turn_trace_from, turn_trace, round_trace, loop_trace, loop_trace_from, statement_trace, optional_trace}
use Rattle.pc_meaning.specs.Trace.{list_trace}
use Rattle.pc_flow.specs.declared.node.FlowNode.{FlowNode}
use Rattle.pc_flow.specs.declared.node.FlowNode.TheVariants.{Op, Stop}
use Rattle.pc_flow.specs.FlowGraph.{FlowGraph}
use Rattle.pc_flow.specs.FlowRun.{FlowState}
use Rattle.pc_check.specs.Needs.{hold}
use Rattle.pc_lower.specs.SourceLoops.{loop_count, branch_loops, list_loops}
use Rattle.pc_lower.specs.Lowers.{temporary, held, Gives, Puts, Assigns, Declares, TestsTurn, Implements, ImplementsOptional, ImplementsList}
use Rattle.pc_lower.proofs.Walks.{Comes, Comes-map, Comes-append, Keeps, Keeps-trans, Stands, Wrote, Pure-copy, item-comes, pure-comes, side-comes, standing}
use Rattle.pc_lower.proofs.Operations.{held-kept}
use Rattle.pc_lower.proofs.Expressions.{Arrives, TrapsAt, Valued, here, bounds-comes, load-arrives, operate-comes, gives-comes}

-- ---- states

-- equal numbers
equal_of : (a b : ℕ) → nat_eq a b ≡ true → a ≡ b
equal_of a b e = grind arith

-- one name after a write
after_write : (b : Bool) (d x : ℕ) (v : ℤ) (s : ProgramState) (old new : State) → nat_eq d x ≡ b → Wrote d v old new → old.names x ≡ s.scalars x
    → new.names x ≡ (if b then v else s.scalars x)
after_write true d x v s old new e w p = subst (λ (y : ℕ). new.names y ≡ v) (equal_of d x e) w.there
after_write false d x v s old new e w p = w.elsewhere x e ∙ p

-- a scalar's write is a write of the source's
Stands-scalar : (d : ℕ) (v : ℤ) (s : ProgramState) (out : List ℤ) (old new : State) → Wrote d v old new → Stands s out old → Stands (set_scalar d v s) out new
Stands-scalar d v s out old new w p = record {
  scalars = λ x h. after_write (nat_eq d x) d x v s old new refl w (p.scalars x h);
  cells = λ a i. w.cells a i ∙ p.cells a i;
  input = w.input ∙ p.input;
  printed = p.printed;
}

-- turns are nothing to a flow
Stands-turn : (left : ℕ) (s : ProgramState) (out : List ℤ) (m : State) → Stands s out m → Stands (set_turns left s) out m
Stands-turn left s out m p = record { scalars = p.scalars; cells = p.cells; input = p.input; printed = p.printed }

-- the flow is at a node q, in a state that stands for s
pub record Reaches (q : ℕ) (s : ProgramState) (out : List ℤ) (g : FlowState) : Type 0 where
  pub at : g.node ≡ q
  pub stands : Stands s out g.state

-- the flow has followed a statement: to q where it goes on, to b where it breaks, to c where it continues
abbrev pub Finished : List FlowNode → (q b c : ℕ) → Completion → List ℤ → FlowState → Type 0
Finished nodes q b c (GoesOn s) out g = Reaches q s out g
Finished nodes q b c (Breaks s) out g = Reaches b s out g
Finished nodes q b c (Continues s) out g = Reaches c s out g
Finished nodes q b c (Returns s) out g = (slice_get nodes g.node ≡ Some Stop) × (s.printed ≡ out)
Finished nodes q b c (Traps kind line s) out g = TrapsAt nodes kind line s out g
Finished nodes q b c (Spent s) out g = s.printed ≡ out

module _ (flow : FlowGraph) where
  abbrev nodes : List FlowNode
  nodes = flow.nodes

  abbrev lengths : List ℕ
  lengths = flow.arrays

  -- ---- one after another

  -- a value, and what is done with it
  do_with-comes : (x : Evaluated) (ks : List Kind) (next : ℤ → ProgramState → List Kind) (kont : ℤ → ProgramState → Completion) (out : List ℤ) (f : FlowState)
      (w : Operand) (t m q b c : ℕ) (old : State)
      → Comes nodes lengths ks out f (Valued nodes w t m old x)
      → ((v : ℤ) (s : ProgramState) (o : List ℤ) (g : FlowState) → Arrives w t m old v s o g → Comes nodes lengths (next v s) o g (Finished nodes q b c (kont v s)))
      → Comes nodes lengths (traced ks x next) out f (Finished nodes q b c (do_with x kont))
  do_with-comes (Given v s) ks next kont out f w t m q b c old p h =
      let P : List ℤ → FlowState → Type 0 = Finished nodes q b c (kont v s) in
      Comes-append nodes lengths ks (next v s) out f P
      (Comes-map nodes lengths ks out f (Valued nodes w t m old (Given v s)) (λ o g. Comes nodes lengths (next v s) o g P) (h v s) p)
  do_with-comes (Caught kind line s) ks next kont out f w t m q b c old p h = p

  -- a value that is dropped
  dropped-comes : (x : Evaluated) (ks : List Kind) (end : ProgramState → Completion) (out : List ℤ) (f : FlowState)
      (w : Operand) (t m q b c : ℕ) (old : State)
      → Comes nodes lengths ks out f (Valued nodes w t m old x)
      → ((v : ℤ) (s : ProgramState) (o : List ℤ) (g : FlowState) → Arrives w t m old v s o g → Finished nodes q b c (end s) o g)
      → Comes nodes lengths ks out f (Finished nodes q b c (do_with x (λ v. end)))
  dropped-comes (Given v s) ks end out f w t m q b c old p h =
      Comes-map nodes lengths ks out f (Valued nodes w t m old (Given v s)) (Finished nodes q b c (end s)) (h v s) p
  dropped-comes (Caught kind line s) ks end out f w t m q b c old p h = p

  -- a statement, and what follows it
  then-comes : (x : Completion) (ks : List Kind) (next : ProgramState → List Kind) (kont : ProgramState → Completion) (out : List ℤ) (f : FlowState) (m q b c : ℕ)
      → Comes nodes lengths ks out f (Finished nodes m b c x)
      → ((s : ProgramState) (o : List ℤ) (g : FlowState) → Reaches m s o g → Comes nodes lengths (next s) o g (Finished nodes q b c (kont s)))
      → Comes nodes lengths (traced_on ks x next) out f (Finished nodes q b c (then_do x kont))
  then-comes (GoesOn s) ks next kont out f m q b c p h =
      let P : List ℤ → FlowState → Type 0 = Finished nodes q b c (kont s) in
      Comes-append nodes lengths ks (next s) out f P
      (Comes-map nodes lengths ks out f (Reaches m s) (λ o g. Comes nodes lengths (next s) o g P) (h s) p)
  then-comes (Breaks s) ks next kont out f m q b c p h = p
  then-comes (Continues s) ks next kont out f m q b c p h = p
  then-comes (Returns s) ks next kont out f m q b c p h = p
  then-comes (Traps kind line s) ks next kont out f m q b c p h = p
  then-comes (Spent s) ks next kont out f m q b c p h = p

  -- the body of a loop, which leads to m where it goes on or continues and to q where it breaks, and what follows it
  body-comes : (x : Completion) (ks : List Kind) (next : ProgramState → List Kind) (kont : ProgramState → Completion) (out : List ℤ) (f : FlowState) (m q b c : ℕ)
      → Comes nodes lengths ks out f (Finished nodes m q m x)
      → ((s : ProgramState) (o : List ℤ) (g : FlowState) → Reaches m s o g → Comes nodes lengths (next s) o g (Finished nodes q b c (kont s)))
      → Comes nodes lengths (traced_body ks x next) out f (Finished nodes q b c (after_body x kont))
  body-comes (GoesOn s) ks next kont out f m q b c p h =
      let P : List ℤ → FlowState → Type 0 = Finished nodes q b c (kont s) in
      Comes-append nodes lengths ks (next s) out f P
      (Comes-map nodes lengths ks out f (Reaches m s) (λ o g. Comes nodes lengths (next s) o g P) (h s) p)
  body-comes (Breaks s) ks next kont out f m q b c p h = p
  body-comes (Continues s) ks next kont out f m q b c p h =
      let P : List ℤ → FlowState → Type 0 = Finished nodes q b c (kont s) in
      Comes-append nodes lengths ks (next s) out f P
      (Comes-map nodes lengths ks out f (Reaches m s) (λ o g. Comes nodes lengths (next s) o g P) (h s) p)
  body-comes (Returns s) ks next kont out f m q b c p h = p
  body-comes (Traps kind line s) ks next kont out f m q b c p h = p
  body-comes (Spent s) ks next kont out f m q b c p h = p

  -- ---- assignments

  -- a copy to a scalar
  assign-comes : (scalar q b c : ℕ) (w : Operand) (v : ℤ) (s : ProgramState) (out : List ℤ) (f : FlowState)
      → slice_get nodes f.node ≡ Some (Op (Copy scalar w) q) → operand_value f.state.names w ≡ v → Stands s out f.state
      → Comes nodes lengths (Copy_node ∷ []) out f (Finished nodes q b c (assign scalar v s))
  assign-comes scalar q b c w v s out f e value stands =
      pure-comes nodes lengths (Copy scalar w) scalar q f out (Reaches q (set_scalar scalar v s)) e (Pure-copy scalar w)
      (λ g at wrote. record {
        at = at;
        stands = Stands-scalar scalar v s out f.state g.state
            (record { there = wrote.there ∙ value; elsewhere = wrote.elsewhere; cells = wrote.cells; input = wrote.input }) stands;
      })

  -- a store
  store-comes : (array q b c : ℕ) (index w : Operand) (i v : ℤ) (place : ℕ) (s : ProgramState) (out : List ℤ) (f : FlowState)
      → slice_get nodes f.node ≡ Some (Op (Store array index w) q) → operand_value f.state.names index ≡ i → operand_value f.state.names w ≡ v
      → place_in (slice_index lengths array) i ≡ Some place → Stands s out f.state
      → Comes nodes lengths (Store_node ∷ []) out f (Finished nodes q b c (store array place v s))
  store-comes array q b c index w i v place s out f e ei ev found stands =
      let M = f.state in
      let item = Store array index w in
      let inside : place_in (slice_index lengths array) (operand_value M.names index) ≡ Some place =
      ap (place_in (slice_index lengths array)) ei ∙ found in
      let new = state_after lengths M (item ∷ []) in
      let P : List ℤ → FlowState → Type 0 = Reaches q (set_element array place v s) in
      let reaches : P out (standing q new) = record {
        at = refl;
        stands = record {
          scalars = stands.scalars;
          cells = λ a j. rw (inside, ev, stands.cells a j) refl;
          input = stands.input;
          printed = stands.printed;
        };
      } in
      item-comes nodes lengths item q f out P e (rw inside refl) (subst (λ (o : List ℤ). P o (standing q new)) (sym (append-nil out)) reaches)

  -- a print
  print-comes : (q b c : ℕ) (w : Operand) (v : ℤ) (s : ProgramState) (out : List ℤ) (f : FlowState)
      → slice_get nodes f.node ≡ Some (Op (Print w) q) → operand_value f.state.names w ≡ v → Stands s out f.state
      → Comes nodes lengths (Print_node ∷ []) out f (Finished nodes q b c (GoesOn (add_printed v s)))
  print-comes q b c w v s out f e value stands =
      item-comes nodes lengths (Print w) q f out (Reaches q (add_printed v s)) e refl
      (record {
        at = refl;
        stands = record {
          scalars = stands.scalars;
          cells = stands.cells;
          input = stands.input;
          printed = ap (λ (o : List ℤ). o ++ v ∷ []) stands.printed ∙ ap (λ (x : ℤ). out ++ x ∷ []) (sym value);
        };
      })

  -- a value that is put into a scalar
  put-comes : (loop : Option ℕ) (scalar : ℕ) (value : SourceExpression) (p q b c : ℕ) → Puts flow loop scalar value p q
      → (s : ProgramState) (out : List ℤ) (f : FlowState) → f.node ≡ p → Stands s out f.state
      → Comes nodes lengths (traced (trace lengths value s) (eval lengths value s) (λ v. passes Copy_node)) out f (Finished nodes q b c (do_with (eval lengths value s) (assign scalar)))
  put-comes loop scalar value p q b c g s out f at stands =
      do_with-comes (eval lengths value s) (trace lengths value s) (λ v. passes Copy_node) (assign scalar) out f (held value 0) 0 g.0 q b c f.state
      (gives-comes flow loop value 0 p g.0 g.2 s out f at stands)
      (λ v s1 o h a. assign-comes scalar q b c (held value 0) v s1 o h (here nodes h.node g.0 _ a.at g.3.there) a.value a.stands)

  -- the value of an expression with temporaries from 0 on is kept
  first-kept : (loop : Option ℕ) (e : SourceExpression) (p q : ℕ) → Gives flow loop e 0 p q → (old new : State) → Keeps (hold e) old new
      → operand_value new.names (held e 0) ≡ operand_value old.names (held e 0)
  first-kept loop e p q g old new k = held-kept flow loop e 0 p q g old new (λ x h. k x (omega arith))

  -- every assignment
  assigns-comes : (loop : Option ℕ) (name line : ℕ) (index : Option SourceExpression) (bracket : ℕ) (op : Option BinaryOp) (at : ℕ) (value : SourceExpression) (p q b c : ℕ)
      → Assigns flow loop name line index bracket op at value p q → (s : ProgramState) (out : List ℤ) (f : FlowState) → f.node ≡ p → Stands s out f.state
      → Comes nodes lengths (assignment_trace lengths name line index op at value s) out f (Finished nodes q b c (assignment lengths name line index bracket op at value s))
  assigns-comes loop name line None bracket None at value p q b c g s out f e stands = put-comes loop name value p q b c g s out f e stands
  assigns-comes loop name line None bracket (Some op) at value p q b c g s out f e stands =
      put-comes loop name (source.Combined op at (source.Variable name line) value) p q b c g s out f e stands
  assigns-comes loop name line (Some index) bracket None at value p q b c g s out f e stands =
      let put = λ (i v : ℤ). with_place lengths name bracket i (λ place. store name place v) in
      let passed = λ (i v : ℤ). place_trace lengths name i (λ place. passes Store_node) in
      do_with-comes (eval lengths index s) (trace lengths index s) (λ i t. traced (trace lengths value t) (eval lengths value t) (passed i))
      (λ i t. do_with (eval lengths value t) (put i)) out f (held index 0) 0 g.0 q b c f.state (gives-comes flow loop index 0 p g.0 g.3 s out f e stands)
      (λ i s1 o1 h1 a1. do_with-comes (eval lengths value s1) (trace lengths value s1) (passed i) (put i) o1 h1 (held value (hold index)) (hold index) g.1 q b c h1.state
      (gives-comes flow loop value (hold index) g.0 g.1 g.4 s1 o1 h1 a1.at a1.stands)
      (λ v s2 o2 h2 a2.
      let kept = first-kept loop index p g.0 g.3 h1.state h2.state a2.keeps ∙ a1.value in
      bounds-comes flow loop Completion name bracket (hold index + hold value) g.1 g.2 (held index 0) i s2 h2 o2 (λ place. passes Store_node) (Traps OutOfBounds bracket)
      (λ place. store name place v) (Finished nodes q b c) g.5 a2.at kept a2.stands
      (λ place found h3 at3 keeps3 stands3. store-comes name q b c (held index 0) (held value (hold index)) i v place s2 o2 h3 (here nodes h3.node g.2 _ at3 g.6.there)
      (first-kept loop index p g.0 g.3 h2.state h3.state (λ x h. keeps3 x (omega arith)) ∙ kept)
      (held-kept flow loop value (hold index) g.0 g.1 g.4 h2.state h3.state keeps3 ∙ a2.value) found stands3)
      (λ h3 trap. trap)))
  assigns-comes loop name line (Some index) bracket (Some op) at value p q b c g s out f e stands =
      let t = hold index in
      let own = Name (temporary (hold index)) in
      do_with-comes (eval lengths index s) (trace lengths index s) (λ i. place_trace lengths name i (update_trace lengths name op at value))
      (λ i. with_place lengths name bracket i (update lengths name op at value)) out f (held index 0) 0 g.0 q b c f.state (gives-comes flow loop index 0 p g.0 g.5 s out f e stands)
      (λ i s1 o1 h1 a1. bounds-comes flow loop Completion name bracket t g.0 g.1 (held index 0) i s1 h1 o1 (update_trace lengths name op at value) (Traps OutOfBounds bracket)
      (update lengths name op at value) (Finished nodes q b c) g.6 a1.at a1.value a1.stands
      (λ place found h2 at2 keeps2 stands2.
      let old = s1.cells name place in
      let after = λ (v : ℤ) (u : ProgramState). traced (operation_trace op v u) (operate op at old v u) (λ r. passes Store_node) in
      let kont = λ (v : ℤ) (u : ProgramState). do_with (operate op at old v u) (store name place) in
      Comes-map nodes lengths (Load_node ∷ []) o1 h2 (Arrives own t g.2 h1.state old s1)
      (λ o h. Comes nodes lengths (traced (trace lengths value s1) (eval lengths value s1) after) o h (Finished nodes q b c (do_with (eval lengths value s1) kont)))
      (λ o3 h3 a3. do_with-comes (eval lengths value s1) (trace lengths value s1) after kont o3 h3 (held value (t + 1)) (t + 1) g.3 q b c h3.state
      (gives-comes flow loop value (t + 1) g.2 g.3 g.8 s1 o3 h3 a3.at a3.stands)
      (λ v s4 o4 h4 a4. do_with-comes (operate op at old v s4) (operation_trace op v s4) (λ r. passes Store_node) (store name place) o4 h4 own t g.4 q b c h1.state
      (operate-comes flow loop op at t g.3 g.4 own (held value (t + 1)) old v s4 o4 h4 h1.state g.9 a4.at
      (a4.keeps (temporary t) (omega arith) ∙ a3.value) a4.value a4.stands (Keeps-trans t (t + 1) h1.state h3.state h4.state (omega arith) a3.keeps a4.keeps))
      (λ r s5 o5 h5 a5. store-comes name q b c (held index 0) own i r place s5 o5 h5 (here nodes h5.node g.4 _ a5.at g.10.there)
      (first-kept loop index p g.0 g.5 h1.state h5.state a5.keeps ∙ a1.value) a5.value found a5.stands)))
      (load-arrives flow loop name t g.2 (held index 0) i place s1 o1 h2 h1.state (here nodes h2.node g.1 _ at2 g.7.there)
      (first-kept loop index p g.0 g.5 h1.state h2.state keeps2 ∙ a1.value) found stands2 keeps2))
      (λ h2 trap. trap))

  -- every declarator
  declares-comes : (loop : Option ℕ) (scalar : ℕ) (initial : Option SourceExpression) (p q b c : ℕ) → Declares flow loop scalar initial p q
      → (s : ProgramState) (out : List ℤ) (f : FlowState) → f.node ≡ p → Stands s out f.state
      → Comes nodes lengths (declaration_trace lengths initial s) out f (Finished nodes q b c (declare lengths scalar initial s))
  declares-comes loop scalar None p q b c g s out f at stands =
      assign-comes scalar q b c (Lit (pos 0)) (pos 0) s out f (here nodes f.node p _ at g.1.there) refl stands
  declares-comes loop scalar (Some initial) p q b c g s out f at stands = put-comes loop scalar initial p q b c g s out f at stands

  -- ---- loops

  -- a turn, where one is left
  turn_from-comes : (left : ℕ) (body : ProgramState → Completion) (passed : ProgramState → List Kind) (y q b c : ℕ)
      → ((s : ProgramState) (out : List ℤ) (f : FlowState) → f.node ≡ y → Stands s out f.state → Comes nodes lengths (passed s) out f (Finished nodes q b c (body s)))
      → (s : ProgramState) (out : List ℤ) (f : FlowState) → f.node ≡ y → Stands s out f.state
      → Comes nodes lengths (turn_trace_from left passed s) out f (Finished nodes q b c (turn_from left body s))
  turn_from-comes zero body passed y q b c h s out f at stands = stands.printed
  turn_from-comes (suc left) body passed y q b c h s out f at stands = h (set_turns left s) out f at (Stands-turn left s out f.state stands)

  -- a loop from h to q, whose condition comes to its test at m, whose body begins at y and comes to n, and whose step comes from n to h
  module _ (test : ProgramState → Evaluated) (test_trace : ProgramState → List Kind)
      (step : ProgramState → Completion) (step_trace : ProgramState → List Kind) (body : ProgramState → Completion) (body_trace : ProgramState → List Kind)
      (own : ℕ) (w : Operand) (h m y n q b c : ℕ) (tests-at : TestsTurn flow own m w y q)
      (test-comes : (s : ProgramState) (out : List ℤ) (f : FlowState) → f.node ≡ h → Stands s out f.state → Comes nodes lengths (test_trace s) out f (Valued nodes w 0 m f.state (test s)))
      (step-comes : (s : ProgramState) (out : List ℤ) (f : FlowState) → f.node ≡ n → Stands s out f.state → Comes nodes lengths (step_trace s) out f (Finished nodes h b c (step s)))
      (round-comes : (s : ProgramState) (out : List ℤ) (f : FlowState) → f.node ≡ y → Stands s out f.state → Comes nodes lengths (body_trace s) out f (Finished nodes n q n (body s))) where
    -- a turn
    turn-comes : (next : ProgramState → Completion) (after : ProgramState → List Kind)
        → ((s : ProgramState) (out : List ℤ) (f : FlowState) → f.node ≡ h → Stands s out f.state → Comes nodes lengths (after s) out f (Finished nodes q b c (next s)))
        → (s : ProgramState) (out : List ℤ) (f : FlowState) → f.node ≡ y → Stands s out f.state
        → Comes nodes lengths (turn_trace (round_trace body body_trace step step_trace after) s) out f (Finished nodes q b c (turn_of (round_of body step next) s))
    turn-comes next after follows s out f at stands =
        turn_from-comes s.turns (round_of body step next) (round_trace body body_trace step step_trace after) y q b c
        (λ s1 o1 f1 at1 stands1. body-comes (body s1) (body_trace s1) (λ u. traced_on (step_trace u) (step u) after) (λ u. then_do (step u) next) o1 f1 n q b c
        (round-comes s1 o1 f1 at1 stands1)
        (λ s2 o2 f2 r2. then-comes (step s2) (step_trace s2) after next o2 f2 h q b c (step-comes s2 o2 f2 r2.at r2.stands)
        (λ s3 o3 f3 r3. follows s3 o3 f3 r3.at r3.stands))) s out f at stands

    -- a loop
    loop-comes : (tests : ℕ) (s : ProgramState) (out : List ℤ) (f : FlowState) → f.node ≡ h → Stands s out f.state
        → Comes nodes lengths (loop_trace tests test test_trace step step_trace body body_trace s) out f (Finished nodes q b c (loop tests test step body s))
    loop-comes zero s out f at stands = stands.printed
    loop-comes (suc tests) s out f at stands =
        let next = loop tests test step body in
        let after = loop_trace tests test test_trace step step_trace body body_trace in
        let turn = turn_of (round_of body step next) in
        let passed = turn_trace (round_trace body body_trace step step_trace after) in
        do_with-comes (test s) (test_trace s) (λ v. tested (side v passed passes_nothing)) (λ v. side v turn GoesOn) out f w 0 m q b c f.state (test-comes s out f at stands)
        (λ v s1 o1 h1 a1. side-comes nodes lengths Completion w y q (Some own) v s1 h1 o1 passed passes_nothing turn GoesOn (Finished nodes q b c)
        (here nodes h1.node m _ a1.at tests-at.there) a1.value
        (turn-comes next after (loop-comes tests) s1 o1 (standing y h1.state) refl a1.stands)
        (record { at = refl; stands = a1.stands }))

    -- a loop from a state
    loop_from-comes : (s : ProgramState) (out : List ℤ) (f : FlowState) → f.node ≡ h → Stands s out f.state
        → Comes nodes lengths (loop_trace_from test test_trace step step_trace body body_trace s) out f (Finished nodes q b c (loop_from test step body s))
    loop_from-comes s out f at stands = loop-comes (suc s.turns) s out f at stands

  -- what is left out
  nothing-comes : (p q b c : ℕ) → p ≡ q → (s : ProgramState) (out : List ℤ) (f : FlowState) → f.node ≡ p → Stands s out f.state
      → Comes nodes lengths (passes_nothing s) out f (Finished nodes q b c (GoesOn s))
  nothing-comes p q b c e s out f at stands = record { at = at ∙ e; stands = stands }

  -- ---- statements

  module _ (r : ℕ) (stops : slice_get nodes r ≡ Some Stop) where
    mutual
      -- every statement
      pub implements-comes : (statement : SourceStatement) (loop : Option ℕ) (k i j b c p q : ℕ) → Implements flow statement loop k i j b c r p q
          → (s : ProgramState) (out : List ℤ) (f : FlowState) → f.node ≡ p → Stands s out f.state
          → Comes nodes lengths (statement_trace lengths statement s) out f (Finished nodes q b c (execute lengths statement s))
      implements-comes (source.Scope items) loop k i j b c p q g s out f at stands = list-comes items loop k i j b c p q g s out f at stands
      implements-comes (source.ScalarDeclaration name line initial) loop k i j b c p q g s out f at stands =
          declares-comes loop name initial p q b c g.1 s out f at stands
      implements-comes (source.ArrayDeclaration name line bracket length values) loop k i j b c p q g s out f at stands = record { at = at ∙ g.1; stands = stands }
      implements-comes (source.Assignment name line index bracket op place value) loop k i j b c p q g s out f at stands =
          assigns-comes loop name line index bracket op place value p q b c g.1 s out f at stands
      implements-comes (source.Printing line value) loop k i j b c p q g s out f at stands =
          do_with-comes (eval lengths value s) (trace lengths value s) (λ v. passes Print_node) (λ v t. GoesOn (add_printed v t)) out f (held value 0) 0 g.0 q b c f.state
          (gives-comes flow loop value 0 p g.0 g.2 s out f at stands)
          (λ v s1 o1 h1 a1. print-comes q b c (held value 0) v s1 o1 h1 (here nodes h1.node g.0 _ a1.at g.3.there) a1.value a1.stands)
      implements-comes (source.Evaluation line value) loop k i j b c p q g s out f at stands =
          dropped-comes (eval lengths value s) (trace lengths value s) GoesOn out f (held value 0) 0 q q b c f.state (gives-comes flow loop value 0 p q g.1 s out f at stands)
          (λ v s1 o1 h1 a1. record { at = a1.at; stands = a1.stands })
      implements-comes (source.Branch line test body otherwise) loop k i j b c p q g s out f at stands =
          do_with-comes (eval lengths test s) (trace lengths test s) (λ v. tested (side v (statement_trace lengths body) (optional_trace lengths otherwise)))
          (λ v. side v (execute lengths body) (execute_optional lengths otherwise)) out f (held test 0) 0 g.0 q b c f.state
          (gives-comes flow loop test 0 p g.0 g.6 s out f at stands)
          (λ v s1 o1 h1 a1. side-comes nodes lengths Completion (held test 0) g.1 g.2 None v s1 h1 o1 (statement_trace lengths body) (optional_trace lengths otherwise)
          (execute lengths body) (execute_optional lengths otherwise) (Finished nodes q b c) (here nodes h1.node g.0 _ a1.at g.7.there) a1.value
          (implements-comes body loop k g.3 g.4 b c g.1 q g.8 s1 o1 (standing g.1 h1.state) refl a1.stands)
          (optional-comes otherwise loop (k + loop_count body) g.4 j b c g.2 q g.9 s1 o1 (standing g.2 h1.state) refl a1.stands))
      implements-comes (source.WhileLoop line test body) loop k i j b c p q g s out f at stands =
          loop_from-comes (eval lengths test) (trace lengths test) GoesOn passes_nothing (execute lengths body) (statement_trace lengths body)
          k (held test 0) p g.0 g.1 p q b c g.6 (gives-comes flow (Some k) test 0 p g.0 g.5) (nothing-comes p p b c refl)
          (implements-comes body (Some k) (k + 1) g.2 j q p g.1 p g.7) s out f at stands
      implements-comes (source.DoLoop line body test) loop k i j b c p q g s out f at stands =
          turn-comes (eval lengths test) (trace lengths test) GoesOn passes_nothing (execute lengths body) (statement_trace lengths body)
          k (held test 0) g.0 g.1 p g.0 q b c g.5 (gives-comes flow (Some k) test 0 g.0 g.1 g.4) (nothing-comes g.0 g.0 b c refl)
          (implements-comes body (Some k) (k + 1) i g.0 q g.0 p g.0 g.3)
          (loop_from (eval lengths test) GoesOn (execute lengths body))
          (loop_trace_from (eval lengths test) (trace lengths test) GoesOn passes_nothing (execute lengths body) (statement_trace lengths body))
          (loop_from-comes (eval lengths test) (trace lengths test) GoesOn passes_nothing (execute lengths body) (statement_trace lengths body)
          k (held test 0) g.0 g.1 p g.0 q b c g.5 (gives-comes flow (Some k) test 0 g.0 g.1 g.4) (nothing-comes g.0 g.0 b c refl)
          (implements-comes body (Some k) (k + 1) i g.0 q g.0 p g.0 g.3)) s out f at stands
      implements-comes (source.ForLoop line first test step body) loop k i j b c p q g s out f at stands =
          let next = loop_from (eval lengths test) (execute_optional lengths step) (execute lengths body) in
          let after = loop_trace_from (eval lengths test) (trace lengths test) (execute_optional lengths step) (optional_trace lengths step) (execute lengths body) (statement_trace lengths body) in
          then-comes (execute_list lengths first s) (list_trace lengths first s) after next out f g.0 q b c
          (list-comes first loop (k + 1) i g.0 b c p g.0 g.6 s out f at stands)
          (λ s1 o1 h1 r1. loop_from-comes (eval lengths test) (trace lengths test) (execute_optional lengths step) (optional_trace lengths step) (execute lengths body) (statement_trace lengths body)
          k (held test 0) g.0 g.1 g.2 g.3 q b c g.9 (gives-comes flow (Some k) test 0 g.0 g.1 g.8)
          (optional-comes step (Some k) (k + 1 + list_loops first) g.5 j b c g.3 g.0 g.11)
          (implements-comes body (Some k) (k + 1 + list_loops first + branch_loops step) g.4 g.5 q g.3 g.2 g.3 g.10) s1 o1 h1 r1.at r1.stands)
      implements-comes (source.BreakOut line) loop k i j b c p q g s out f at stands = record { at = at ∙ g.1; stands = stands }
      implements-comes (source.ContinueOn line) loop k i j b c p q g s out f at stands = record { at = at ∙ g.1; stands = stands }
      implements-comes (source.ReturnFrom line value) loop k i j b c p q g s out f at stands =
          dropped-comes (eval lengths value s) (trace lengths value s) Returns out f (held value 0) 0 r q b c f.state (gives-comes flow loop value 0 p r g.1 s out f at stands)
          (λ v s1 o1 h1 a1. (here nodes h1.node r _ a1.at stops, a1.stands.printed))
      implements-comes source.Nothing loop k i j b c p q g s out f at stands = record { at = at ∙ g.1; stands = stands }

      -- every statement that may be left out
      pub optional-comes : (statement : OptionalStatement) (loop : Option ℕ) (k i j b c p q : ℕ) → ImplementsOptional flow statement loop k i j b c r p q
          → (s : ProgramState) (out : List ℤ) (f : FlowState) → f.node ≡ p → Stands s out f.state
          → Comes nodes lengths (optional_trace lengths statement s) out f (Finished nodes q b c (execute_optional lengths statement s))
      optional-comes source.Absent loop k i j b c p q g s out f at stands = record { at = at ∙ g.1; stands = stands }
      optional-comes (source.Present statement) loop k i j b c p q g s out f at stands = implements-comes statement loop k i j b c p q g s out f at stands

      -- every list of statements
      pub list-comes : (items : SourceList) (loop : Option ℕ) (k i j b c p q : ℕ) → ImplementsList flow items loop k i j b c r p q
          → (s : ProgramState) (out : List ℤ) (f : FlowState) → f.node ≡ p → Stands s out f.state
          → Comes nodes lengths (list_trace lengths items s) out f (Finished nodes q b c (execute_list lengths items s))
      list-comes source.No_more loop k i j b c p q g s out f at stands = record { at = at ∙ g.1; stands = stands }
      list-comes (source.More first rest) loop k i j b c p q g s out f at stands =
          then-comes (execute lengths first s) (statement_trace lengths first s) (list_trace lengths rest) (execute_list lengths rest) out f g.0 q b c
          (implements-comes first loop k i g.1 b c p g.0 g.2 s out f at stands)
          (λ s1 o1 h1 r1. list-comes rest loop (k + loop_count first) g.1 j b c g.0 q g.3 s1 o1 h1 r1.at r1.stands)
