-- Nodes that implement an expression follow its evaluation, pass the nodes that its trace lists, and write temporaries alone.
use Rattle.std.proofs.Common.{◌≡◌, ℕ, ◌+◌, Bool, true, false, List, [], ◌∷◌, Option, Some, None, refl, sym, ◌∙◌, ap, subst, append-nil, arith}
use Rattle.std.specs.Prelude.{ℤ, pos, slice_get, slice_index, is_some, drop, if◌then◌else◌}
use Rattle.pc_word.specs.declared.item.Item.{Item}
use Rattle.pc_word.specs.declared.item.Item.TheVariants.{Bin, Copy, Load, Read, More}
use Rattle.pc_word.specs.declared.item.Operand.{Operand}
use Rattle.pc_word.specs.declared.item.Operand.TheVariants.{Name, Lit}
use Rattle.pc_word.specs.declared.item.OpCode.TheVariants as codes
use Rattle.pc_word.specs.declared.item.TrapKind.{TrapKind}
use Rattle.pc_word.specs.declared.item.TrapKind.TheVariants.{DivideByZero, OutOfBounds, EndOfInput}
use Rattle.pc_word.specs.Word.{holds, word_of_test, word_below, word_unequal}
use Rattle.pc_syntax.specs.declared.operator.BinaryOp.{BinaryOp}
use Rattle.pc_syntax.specs.Source.{SourceExpression, Literal, Variable, Input, Indexed, Prefixed, Combined, Conjunction, Disjunction, Conditional}
use Rattle.pc_word.specs.State.{State}
use Rattle.pc_word.specs.Items.{operand_value, value_of, element_at, place_in, next_input, some_left}
use Rattle.pc_word.specs.Commit.{state_after}
use Rattle.pc_meaning.specs.ProgramState.{ProgramState, set_left}
use Rattle.pc_meaning.specs.Expression.{Evaluated, Given, Caught, with_value, side, with_divisor, binary_value, prefix_value, divides, operate, at_place, loaded, element, read_from, truth, eval}
use Rattle.pc_meaning.specs.Lowered.{prefix_code, binary_code}
use Rattle.pc_meaning.specs.Trace.{Kind, Binary_node, Copy_node, Load_node, Read_node, Test_node, traced, tested, passes, passes_nothing, read_trace}
use Rattle.pc_meaning.specs.Trace.{place_trace, divisor_trace, operation_trace, trace}
use Rattle.pc_meaning.proofs.Operators.{place_in-below, holds-unequal}
use Rattle.pc_flow.specs.declared.node.FlowNode.{FlowNode}
use Rattle.pc_flow.specs.declared.node.FlowNode.TheVariants.{Op, Trap}
use Rattle.pc_flow.specs.FlowGraph.{FlowGraph}
use Rattle.pc_flow.specs.FlowRun.{FlowState}
use Rattle.pc_lower.specs.Kinds.{kind_of_item}
use Rattle.pc_check.specs.Needs.{hold}
use Rattle.pc_lower.specs.Lowers.{temporary, held, Bounds, Operates, Combines, Gives}
use Rattle.pc_lower.proofs.Walks.{Comes, Comes-map, Comes-append, Keeps, Keeps-refl, Keeps-trans, Keeps-wrote, Stands, Stands-wrote, differs}
use Rattle.pc_lower.proofs.Walks.{is_itself, Pure, Pure-bin, Pure-copy, Pure-load, Pure-more, item-comes, pure-comes, test-comes, side-comes}
use Rattle.pc_lower.proofs.Walks.{standing}
use Rattle.pc_lower.proofs.Operations.{binary-item, prefix-item, held-kept}

-- the flow is at a node q, in a state that stands for s, an operand has this value, and names below t's temporary are as
-- they were
pub record Arrives (w : Operand) (t q : ℕ) (old : State) (v : ℤ) (s : ProgramState) (out : List ℤ) (g : FlowState) : Type 0 where
  pub at : g.node ≡ q
  pub stands : Stands s out g.state
  pub keeps : Keeps t old g.state
  pub value : operand_value g.state.names w ≡ v

-- the flow is at a trap, and what the source printed is printed
abbrev pub TrapsAt : List FlowNode → TrapKind → ℕ → ProgramState → List ℤ → FlowState → Type 0
TrapsAt nodes kind line s out g = (slice_get nodes g.node ≡ Some (Trap kind line)) × (s.printed ≡ out)

-- the flow has followed an evaluation
abbrev pub Valued : List FlowNode → Operand → ℕ → ℕ → State → Evaluated → List ℤ → FlowState → Type 0
Valued nodes w t q old (Given v s) out g = Arrives w t q old v s out g
Valued nodes w t q old (Caught kind line s) out g = TrapsAt nodes kind line s out g

-- the node where the flow is
pub here : (nodes : List FlowNode) (p q : ℕ) (x : Option FlowNode) → p ≡ q → slice_get nodes q ≡ x → slice_get nodes p ≡ x
here nodes p q x e h = ap (slice_get nodes) e ∙ h

module _ (flow : FlowGraph) (loop : Option ℕ) where
  abbrev nodes : List FlowNode
  nodes = flow.nodes

  abbrev lengths : List ℕ
  lengths = flow.arrays

  -- ---- one after another

  -- a value, and what is done with it
  pub with_value-comes : (x : Evaluated) (ks : List Kind) (next : ℤ → ProgramState → List Kind) (kont : ℤ → ProgramState → Evaluated) (out : List ℤ) (f : FlowState)
      (w w' : Operand) (t t' q q' : ℕ) (old old' : State)
      → Comes nodes lengths ks out f (Valued nodes w t q old x)
      → ((v : ℤ) (s : ProgramState) (o : List ℤ) (g : FlowState) → Arrives w t q old v s o g → Comes nodes lengths (next v s) o g (Valued nodes w' t' q' old' (kont v s)))
      → Comes nodes lengths (traced ks x next) out f (Valued nodes w' t' q' old' (with_value x kont))
  with_value-comes (Given v s) ks next kont out f w w' t t' q q' old old' p h =
      let P : List ℤ → FlowState → Type 0 = Valued nodes w' t' q' old' (kont v s) in
      Comes-append nodes lengths ks (next v s) out f P
      (Comes-map nodes lengths ks out f (Valued nodes w t q old (Given v s)) (λ o g. Comes nodes lengths (next v s) o g P) (h v s) p)
  with_value-comes (Caught kind line s) ks next kont out f w w' t t' q q' old old' p h = p

  -- a value, and one node more
  pub last-comes : (x : Evaluated) (ks : List Kind) (kind : Kind) (out : List ℤ) (f : FlowState)
      (w w' : Operand) (t t' q q' : ℕ) (old old' : State)
      → Comes nodes lengths ks out f (Valued nodes w t q old x)
      → ((v : ℤ) (s : ProgramState) (o : List ℤ) (g : FlowState) → Arrives w t q old v s o g → Comes nodes lengths (kind ∷ []) o g (Arrives w' t' q' old' v s))
      → Comes nodes lengths (traced ks x (λ v. passes kind)) out f (Valued nodes w' t' q' old' x)
  last-comes (Given v s) ks kind out f w w' t t' q q' old old' p h =
      let P : List ℤ → FlowState → Type 0 = Arrives w' t' q' old' v s in
      Comes-append nodes lengths ks (kind ∷ []) out f P
      (Comes-map nodes lengths ks out f (Valued nodes w t q old (Given v s)) (λ o g. Comes nodes lengths (kind ∷ []) o g P) (h v s) p)
  last-comes (Caught kind' line s) ks kind out f w w' t t' q q' old old' p h = p

  -- an item that writes a temporary
  pub op-arrives : (item : Item) (kind : Kind) (t q : ℕ) (v : ℤ) (s : ProgramState) (out : List ℤ) (f : FlowState) (old : State)
      → slice_get nodes f.node ≡ Some (Op item q) → Pure item (temporary t) → kind_of_item item ≡ kind → value_of lengths f.state item ≡ v
      → Stands s out f.state → Keeps t old f.state
      → Comes nodes lengths (kind ∷ []) out f (Arrives (Name (temporary t)) t q old v s)
  op-arrives item kind t q v s out f old e pure k value stands keeps =
      subst (λ (k : Kind). Comes nodes lengths (k ∷ []) out f (Arrives (Name (temporary t)) t q old v s)) k
      (pure-comes nodes lengths item (temporary t) q f out (Arrives (Name (temporary t)) t q old v s) e pure
      (λ g at wrote. record {
        at = at;
        stands = Stands-wrote t (value_of lengths f.state item) s out f.state g.state wrote stands;
        keeps = Keeps-trans t t old f.state g.state (omega arith) keeps (Keeps-wrote t (value_of lengths f.state item) f.state g.state wrote);
        value = wrote.there ∙ value;
      }))

  -- ---- operators

  -- an operation, after a test of its divisor where there is one
  divisor-comes : (b : Bool) (line t p q : ℕ) (divisor : Operand) (item : Item) (kind : Kind) (d v : ℤ) (s : ProgramState) (out : List ℤ) (f : FlowState) (old : State)
      → Operates flow loop b line divisor item p q → f.node ≡ p → Pure item (temporary t) → kind_of_item item ≡ kind
      → operand_value f.state.names divisor ≡ d → value_of lengths f.state item ≡ v → Stands s out f.state → Keeps t old f.state
      → Comes nodes lengths (divisor_trace b d kind s) out f (Valued nodes (Name (temporary t)) t q old (with_divisor b line d v s))
  divisor-comes true line t p q divisor item kind d v s out f old g at pure k e value stands keeps =
      side-comes nodes lengths Evaluated divisor g.0 g.1 None d s f out (passes kind) passes_nothing (Given v) (Caught DivideByZero line)
      (Valued nodes (Name (temporary t)) t q old) (here nodes f.node p _ at g.2.there) e
      (op-arrives item kind t q v s out (standing g.0 f.state) old g.4.there pure k value stands keeps)
      (g.3.there, stands.printed)
  divisor-comes false line t p q divisor item kind d v s out f old g at pure k e value stands keeps =
      op-arrives item kind t q v s out f old (here nodes f.node p _ at g.there) pure k value stands keeps

  -- a binary operator
  pub operate-comes : (op : BinaryOp) (line t p q : ℕ) (left right : Operand) (a b : ℤ) (s : ProgramState) (out : List ℤ) (f : FlowState) (old : State)
      → Combines flow loop op line (temporary t) left right p q → f.node ≡ p
      → operand_value f.state.names left ≡ a → operand_value f.state.names right ≡ b → Stands s out f.state → Keeps t old f.state
      → Comes nodes lengths (operation_trace op b s) out f (Valued nodes (Name (temporary t)) t q old (operate op line a b s))
  operate-comes op line t p q left right a b s out f old g at ea eb stands keeps =
      let made = binary-item op (temporary t) left right in
      let bin = Bin (binary_code op) (temporary t) made.left made.right in
      let g' : Operates flow loop (divides op) line right bin p q = subst (λ (item : Item). Operates flow loop (divides op) line right item p q) made.same g in
      divisor-comes (divides op) line t p q right bin (Binary_node (binary_code op)) b (binary_value op a b) s out f old g' at
      (Pure-bin (binary_code op) (temporary t) made.left made.right) refl eb
      (made.value f.state.names ∙ ap (λ (x : ℤ). binary_value op x (operand_value f.state.names right)) ea ∙ ap (binary_value op a) eb) stands keeps

  -- ---- elements

  -- what comes after a bound test
  placed-comes : (X : Type 0) (place : Option ℕ) (line t q z : ℕ) (s : ProgramState) (m old : State) (out : List ℤ)
      (next : ℕ → ProgramState → List Kind) (outside : ProgramState → X) (kont : ℕ → ProgramState → X) (P : X → List ℤ → FlowState → Type 0)
      → m.names (temporary t) ≡ word_of_test (is_some place) → slice_get nodes z ≡ Some (Trap OutOfBounds line) → Stands s out m → Keeps t old m
      → ((i : ℕ) → place ≡ Some i → (g : FlowState) → g.node ≡ q → Keeps t old g.state → Stands s out g.state → Comes nodes lengths (next i s) out g (P (kont i s)))
      → ((g : FlowState) → TrapsAt nodes OutOfBounds line s out g → P (outside s) out g)
      → Comes nodes lengths (at_place place passes_nothing next s) out (standing (if holds (m.names (temporary t)) then q else z) m) (P (at_place place outside kont s))
  placed-comes X None line t q z s m old out next outside kont P value trap stands keeps inside caught =
      let to : FlowState = standing (if holds (m.names (temporary t)) then q else z) m in
      caught to (here nodes to.node z _ (ap (λ (v : ℤ). if holds v then q else z) value) trap, stands.printed)
  placed-comes X (Some i) line t q z s m old out next outside kont P value trap stands keeps inside caught =
      let to : FlowState = standing (if holds (m.names (temporary t)) then q else z) m in
      inside i refl to (ap (λ (v : ℤ). if holds v then q else z) value) keeps stands

  -- a bound test
  pub bounds-comes : (X : Type 0) (array line t p q : ℕ) (index : Operand) (i : ℤ) (s : ProgramState) (f : FlowState) (out : List ℤ)
      (next : ℕ → ProgramState → List Kind) (outside : ProgramState → X) (kont : ℕ → ProgramState → X) (P : X → List ℤ → FlowState → Type 0)
      → Bounds flow loop array line (temporary t) index p q → f.node ≡ p → operand_value f.state.names index ≡ i → Stands s out f.state
      → ((place : ℕ) → place_in (slice_index lengths array) i ≡ Some place → (g : FlowState) → g.node ≡ q → Keeps t f.state g.state → Stands s out g.state
      → Comes nodes lengths (next place s) out g (P (kont place s)))
      → ((g : FlowState) → TrapsAt nodes OutOfBounds line s out g → P (outside s) out g)
      → Comes nodes lengths (place_trace lengths array i next s) out f (P (at_place (place_in (slice_index lengths array) i) outside kont s))
  bounds-comes X array line t p q index i s f out next outside kont P g at e stands inside caught =
      let place = place_in (slice_index lengths array) i in
      let item = Bin codes.Below (temporary t) index (Lit (pos (slice_index lengths array))) in
      let Q : List ℤ → FlowState → Type 0 = P (at_place place outside kont s) in
      let rest : List Kind = at_place place passes_nothing next s in
      pure-comes nodes lengths item (temporary t) g.0 f out (λ o h. Comes nodes lengths (Test_node ∷ rest) o h Q) (here nodes f.node p _ at g.2.there)
      (Pure-bin codes.Below (temporary t) index (Lit (pos (slice_index lengths array))))
      (λ h at' wrote. test-comes nodes lengths (Name (temporary t)) q g.1 None h out (λ o k. Comes nodes lengths rest o k Q) (here nodes h.node g.0 _ at' g.3.there)
      (placed-comes X place line t q g.1 s h.state f.state out next outside kont P
      (wrote.there ∙ ap (λ (v : ℤ). word_below v (pos (slice_index lengths array))) e ∙ place_in-below (slice_index lengths array) i) g.4.there
      (Stands-wrote t (value_of lengths f.state item) s out f.state h.state wrote stands)
      (Keeps-wrote t (value_of lengths f.state item) f.state h.state wrote) inside caught))

  -- the element at a place
  pub load-arrives : (array t q : ℕ) (index : Operand) (i : ℤ) (place : ℕ) (s : ProgramState) (out : List ℤ) (f : FlowState) (old : State)
      → slice_get nodes f.node ≡ Some (Op (Load (temporary t) array index) q) → operand_value f.state.names index ≡ i → place_in (slice_index lengths array) i ≡ Some place
      → Stands s out f.state → Keeps t old f.state
      → Comes nodes lengths (Load_node ∷ []) out f (Arrives (Name (temporary t)) t q old (s.cells array place) s)
  load-arrives array t q index i place s out f old e value found stands keeps =
      let n = slice_index lengths array in
      op-arrives (Load (temporary t) array index) Load_node t q (s.cells array place) s out f old e (Pure-load (temporary t) array index) refl
      (ap (λ (v : ℤ). element_at (f.state.cells array) (place_in n v)) value ∙ ap (element_at (f.state.cells array)) found ∙ stands.cells array place)
      stands keeps

  -- ---- input

  -- a read where a number is left
  read-arrives : (t q : ℕ) (v : ℤ) (rest : List ℤ) (s : ProgramState) (out : List ℤ) (f : FlowState) (old : State)
      → slice_get nodes f.node ≡ Some (Op (Read (temporary t)) q) → s.input ≡ v ∷ rest → Stands s out f.state → Keeps t old f.state
      → Comes nodes lengths (Read_node ∷ []) out f (Arrives (Name (temporary t)) t q old v (set_left rest s))
  read-arrives t q v rest s out f old e left stands keeps =
      let M = f.state in
      let item = Read (temporary t) in
      let some : M.input ≡ v ∷ rest = stands.input ∙ left in
      let new = state_after lengths M (item ∷ []) in
      let P : List ℤ → FlowState → Type 0 = Arrives (Name (temporary t)) t q old v (set_left rest s) in
      let arrives : P out (standing q new) = record {
        at = refl;
        stands = record {
          scalars = λ x h. rw (differs (temporary t) x (omega arith)) (stands.scalars x h);
          cells = stands.cells;
          input = ap (drop 1) some;
          printed = stands.printed;
        };
        keeps = λ x h. rw (differs (temporary t) x h) (keeps x h);
        value = rw (is_itself (temporary t)) (ap next_input some);
      } in
      item-comes nodes lengths item q f out P e (rw some refl) (subst (λ (o : List ℤ). P o (standing q new)) (sym (append-nil out)) arrives)

  -- the input, which has a number left or not
  input-comes : (input : List ℤ) (line t p q : ℕ) (s : ProgramState) (out : List ℤ) (f : FlowState)
      → Gives flow loop (Input line) t p q → f.node ≡ p → s.input ≡ input → Stands s out f.state
      → Comes nodes lengths (read_trace input) out f (Valued nodes (Name (temporary t)) t q f.state (read_from input line s))
  input-comes [] line t p q s out f g at left stands =
      let Q : List ℤ → FlowState → Type 0 = TrapsAt nodes EndOfInput line s in
      pure-comes nodes lengths (More (temporary t)) (temporary t) g.0 f out (λ o h. Comes nodes lengths (Test_node ∷ []) o h Q) (here nodes f.node p _ at g.3.there) (Pure-more (temporary t))
      (λ h at' wrote. test-comes nodes lengths (Name (temporary t)) g.1 g.2 None h out Q (here nodes h.node g.0 _ at' g.4.there) (
        here nodes (if holds (h.state.names (temporary t)) then g.1 else g.2) g.2 _
            (ap (λ (v : ℤ). if holds v then g.1 else g.2) (wrote.there ∙ ap (λ (i : List ℤ). word_of_test (some_left i)) (stands.input ∙ left))) g.5.there,
        stands.printed,
      ))
  input-comes (v ∷ rest) line t p q s out f g at left stands =
      let Q : List ℤ → FlowState → Type 0 = Arrives (Name (temporary t)) t q f.state v (set_left rest s) in
      let more = value_of lengths f.state (More (temporary t)) in
      pure-comes nodes lengths (More (temporary t)) (temporary t) g.0 f out (λ o h. Comes nodes lengths (Test_node ∷ Read_node ∷ []) o h Q)
      (here nodes f.node p _ at g.3.there) (Pure-more (temporary t))
      (λ h at' wrote. test-comes nodes lengths (Name (temporary t)) g.1 g.2 None h out (λ o k. Comes nodes lengths (Read_node ∷ []) o k Q) (here nodes h.node g.0 _ at' g.4.there)
      (read-arrives t q v rest s out (standing (if holds (h.state.names (temporary t)) then g.1 else g.2) h.state) f.state
      (here nodes (if holds (h.state.names (temporary t)) then g.1 else g.2) g.1 _
      (ap (λ (v : ℤ). if holds v then g.1 else g.2) (wrote.there ∙ ap (λ (i : List ℤ). word_of_test (some_left i)) (stands.input ∙ left))) g.6.there)
      left (Stands-wrote t more s out f.state h.state wrote stands) (Keeps-wrote t more f.state h.state wrote)))

  -- ---- expressions

  -- a copy to a temporary
  copy-arrives : (from : Operand) (t q : ℕ) (v : ℤ) (s : ProgramState) (out : List ℤ) (f : FlowState) (old : State)
      → slice_get nodes f.node ≡ Some (Op (Copy (temporary t) from) q) → operand_value f.state.names from ≡ v
      → Stands s out f.state → Keeps t old f.state
      → Comes nodes lengths (Copy_node ∷ []) out f (Arrives (Name (temporary t)) t q old v s)
  copy-arrives from t q v s out f old e value stands keeps =
      op-arrives (Copy (temporary t) from) Copy_node t q v s out f old e (Pure-copy (temporary t) from) refl value stands keeps

  -- whether a value holds
  truth-arrives : (w : Operand) (t q : ℕ) (v : ℤ) (s : ProgramState) (out : List ℤ) (f : FlowState) (old : State)
      → slice_get nodes f.node ≡ Some (Op (Bin codes.Unequal (temporary t) w (Lit (pos 0))) q) → operand_value f.state.names w ≡ v
      → Stands s out f.state → Keeps t old f.state
      → Comes nodes lengths (Binary_node codes.Unequal ∷ []) out f (Arrives (Name (temporary t)) t q old (word_of_test (holds v)) s)
  truth-arrives w t q v s out f old e value stands keeps =
      op-arrives (Bin codes.Unequal (temporary t) w (Lit (pos 0))) (Binary_node codes.Unequal) t q (word_of_test (holds v)) s out f old e
      (Pure-bin codes.Unequal (temporary t) w (Lit (pos 0))) refl (ap (λ (a : ℤ). word_unequal a (pos 0)) value ∙ sym (holds-unequal v)) stands keeps

  -- every expression
  pub gives-comes : (e : SourceExpression) (t p q : ℕ) → Gives flow loop e t p q → (s : ProgramState) (out : List ℤ) (f : FlowState) → f.node ≡ p → Stands s out f.state
      → Comes nodes lengths (trace lengths e s) out f (Valued nodes (held e t) t q f.state (eval lengths e s))
  gives-comes (Literal value) t p q g s out f at stands = record { at = at ∙ g; stands = stands; keeps = Keeps-refl t f.state; value = refl }
  gives-comes (Variable scalar line) t p q g s out f at stands =
      record { at = at ∙ g.1; stands = stands; keeps = Keeps-refl t f.state; value = stands.scalars scalar g.0 }
  gives-comes (Input line) t p q g s out f at stands = input-comes s.input line t p q s out f g at refl stands
  gives-comes (Indexed array line bracket index) t p q g s out f at stands =
      let w = Name (temporary t) in
      with_value-comes (eval lengths index s) (trace lengths index s) (λ i. place_trace lengths array i (λ place. passes Load_node)) (element lengths array bracket)
      out f (held index t) w t t g.0 q f.state f.state (gives-comes index t p g.0 g.2 s out f at stands)
      (λ i s1 out1 h a. bounds-comes Evaluated array bracket (t + hold index) g.0 g.1 (held index t) i s1 h out1 (λ place. passes Load_node) (Caught OutOfBounds bracket) (loaded array)
      (Valued nodes w t q f.state) g.3 a.at a.value a.stands
      (λ place found k at' kept stands'. load-arrives array t q (held index t) i place s1 out1 k f.state (here nodes k.node g.1 _ at' g.4.there)
      (held-kept flow loop index t p g.0 g.2 h.state k.state kept ∙ a.value) found stands' (Keeps-trans t (t + hold index) f.state h.state k.state (omega arith) a.keeps kept))
      (λ k trap. trap))
  gives-comes (Prefixed op operand) t p q g s out f at stands =
      let w = Name (temporary t) in
      let made = prefix-item op (temporary t) (held operand t) in
      let bin = Bin (prefix_code op) (temporary t) made.left made.right in
      with_value-comes (eval lengths operand s) (trace lengths operand s) (λ a. passes (Binary_node (prefix_code op))) (λ a. Given (prefix_value op a))
      out f (held operand t) w t t g.0 q f.state f.state (gives-comes operand t p g.0 g.1 s out f at stands)
      (λ v s1 out1 h a. op-arrives bin (Binary_node (prefix_code op)) t q (prefix_value op v) s1 out1 h f.state
      (here nodes h.node g.0 _ a.at (g.2.there ∙ ap (λ (item : Item). Some (Op item q)) made.same)) (Pure-bin (prefix_code op) (temporary t) made.left made.right) refl
      (made.value h.state.names ∙ ap (prefix_value op) a.value) a.stands a.keeps)
  gives-comes (Combined op line left right) t p q g s out f at stands =
      let w = Name (temporary t) in
      with_value-comes (eval lengths left s) (trace lengths left s) (λ a s. traced (trace lengths right s) (eval lengths right s) (operation_trace op))
      (λ a s. with_value (eval lengths right s) (operate op line a)) out f (held left t) w t t g.0 q f.state f.state (gives-comes left t p g.0 g.2 s out f at stands)
      (λ x s1 out1 h a. with_value-comes (eval lengths right s1) (trace lengths right s1) (operation_trace op) (operate op line x)
      out1 h (held right (t + hold left)) w (t + hold left) t g.1 q h.state f.state (gives-comes right (t + hold left) g.0 g.1 g.3 s1 out1 h a.at a.stands)
      (λ y s2 out2 k b. operate-comes op line t g.1 q (held left t) (held right (t + hold left)) x y s2 out2 k f.state g.4 b.at
      (held-kept flow loop left t p g.0 g.2 h.state k.state b.keeps ∙ a.value) b.value b.stands (Keeps-trans t (t + hold left) f.state h.state k.state (omega arith) a.keeps b.keeps)))
  gives-comes (Conjunction left right) t p q g s out f at stands =
      let w = Name (temporary t) in
      let passed = λ (t : ProgramState). traced (trace lengths right t) (eval lengths right t) (λ b. passes (Binary_node codes.Unequal)) in
      let value = λ (t : ProgramState). with_value (eval lengths right t) truth in
      with_value-comes (eval lengths left s) (trace lengths left s) (λ a. tested (side a passed (passes Copy_node))) (λ a. side a value (Given (pos 0)))
      out f (held left t) w t t g.0 q f.state f.state (gives-comes left t p g.0 g.4 s out f at stands)
      (λ x s1 out1 h a. side-comes nodes lengths Evaluated (held left t) g.1 g.2 None x s1 h out1 passed (passes Copy_node) value (Given (pos 0)) (Valued nodes w t q f.state)
      (here nodes h.node g.0 _ a.at g.5.there) a.value
      (with_value-comes (eval lengths right s1) (trace lengths right s1) (λ b. passes (Binary_node codes.Unequal)) truth
      out1 (standing g.1 h.state) (held right t) w t t g.3 q h.state f.state (gives-comes right t g.1 g.3 g.6 s1 out1 (standing g.1 h.state) refl a.stands)
      (λ y s2 out2 k b. truth-arrives (held right t) t q y s2 out2 k f.state (here nodes k.node g.3 _ b.at g.7.there) b.value b.stands
      (Keeps-trans t t f.state h.state k.state (omega arith) a.keeps b.keeps)))
      (copy-arrives (Lit (pos 0)) t q (pos 0) s1 out1 (standing g.2 h.state) f.state g.8.there refl a.stands a.keeps))
  gives-comes (Disjunction left right) t p q g s out f at stands =
      let w = Name (temporary t) in
      let passed = λ (t : ProgramState). traced (trace lengths right t) (eval lengths right t) (λ b. passes (Binary_node codes.Unequal)) in
      let value = λ (t : ProgramState). with_value (eval lengths right t) truth in
      with_value-comes (eval lengths left s) (trace lengths left s) (λ a. tested (side a (passes Copy_node) passed)) (λ a. side a (Given (pos 1)) value)
      out f (held left t) w t t g.0 q f.state f.state (gives-comes left t p g.0 g.4 s out f at stands)
      (λ x s1 out1 h a. side-comes nodes lengths Evaluated (held left t) g.1 g.2 None x s1 h out1 (passes Copy_node) passed (Given (pos 1)) value (Valued nodes w t q f.state)
      (here nodes h.node g.0 _ a.at g.5.there) a.value
      (copy-arrives (Lit (pos 1)) t q (pos 1) s1 out1 (standing g.1 h.state) f.state g.6.there refl a.stands a.keeps)
      (with_value-comes (eval lengths right s1) (trace lengths right s1) (λ b. passes (Binary_node codes.Unequal)) truth
      out1 (standing g.2 h.state) (held right t) w t t g.3 q h.state f.state (gives-comes right t g.2 g.3 g.7 s1 out1 (standing g.2 h.state) refl a.stands)
      (λ y s2 out2 k b. truth-arrives (held right t) t q y s2 out2 k f.state (here nodes k.node g.3 _ b.at g.8.there) b.value b.stands
      (Keeps-trans t t f.state h.state k.state (omega arith) a.keeps b.keeps))))
  gives-comes (Conditional test one other) t p q g s out f at stands =
      let w = Name (temporary t) in
      let first = λ (t : ProgramState). traced (trace lengths one t) (eval lengths one t) (λ b. passes Copy_node) in
      let second = λ (t : ProgramState). traced (trace lengths other t) (eval lengths other t) (λ b. passes Copy_node) in
      with_value-comes (eval lengths test s) (trace lengths test s) (λ a. tested (side a first second)) (λ a. side a (eval lengths one) (eval lengths other))
      out f (held test t) w t t g.0 q f.state f.state (gives-comes test t p g.0 g.5 s out f at stands)
      (λ x s1 out1 h a. side-comes nodes lengths Evaluated (held test t) g.1 g.2 None x s1 h out1 first second (eval lengths one) (eval lengths other) (Valued nodes w t q f.state)
      (here nodes h.node g.0 _ a.at g.6.there) a.value
      (last-comes (eval lengths one s1) (trace lengths one s1) Copy_node out1 (standing g.1 h.state) (held one t) w t t g.3 q h.state f.state
      (gives-comes one t g.1 g.3 g.7 s1 out1 (standing g.1 h.state) refl a.stands)
      (λ y s2 out2 k b. copy-arrives (held one t) t q y s2 out2 k f.state (here nodes k.node g.3 _ b.at g.8.there) b.value b.stands
      (Keeps-trans t t f.state h.state k.state (omega arith) a.keeps b.keeps)))
      (last-comes (eval lengths other s1) (trace lengths other s1) Copy_node out1 (standing g.2 h.state) (held other t) w t t g.4 q h.state f.state
      (gives-comes other t g.2 g.4 g.9 s1 out1 (standing g.2 h.state) refl a.stands)
      (λ y s2 out2 k b. copy-arrives (held other t) t q y s2 out2 k f.state (here nodes k.node g.4 _ b.at g.10.there) b.value b.stands
      (Keeps-trans t t f.state h.state k.state (omega arith) a.keeps b.keeps))))
