-- A flow that comes, by nodes of given kinds, to where something holds; and states of the flow that stand for states of
-- the source.
use Rattle.std.proofs.Common.{◌≡◌, ℕ, ◌<◌, ◌≤◌, Bool, true, false, List, [], ◌∷◌, ◌++◌, Option, Some, None, refl, sym, ◌∙◌, ap, subst, append-nil, nat_eq, arith}
use Rattle.std.specs.Prelude.{ℤ, slice_get, if◌then◌else◌}
use Rattle.pc_word.specs.declared.item.Item.{Item}
use Rattle.pc_word.specs.declared.item.Item.TheVariants.{Bin, Copy, Load, More}
use Rattle.pc_word.specs.declared.item.Operand.{Operand}
use Rattle.pc_word.specs.declared.item.OpCode.{OpCode}
use Rattle.pc_word.specs.declared.item.MachineFault.{MachineFault}
use Rattle.pc_word.specs.Word.{holds}
use Rattle.pc_word.specs.Run.{Step, Goes, Stops}
use Rattle.pc_word.specs.State.{State}
use Rattle.pc_word.specs.Items.{operand_value, dest_of, value_of}
use Rattle.pc_word.specs.Commit.{stores_of, prints_of, reads_of, fault_of, state_after}
use Rattle.pc_word.specs.Row.{commit_of}
use Rattle.pc_meaning.specs.ProgramState.{ProgramState}
use Rattle.pc_meaning.specs.Expression.{side, where_true}
use Rattle.pc_meaning.specs.Trace.{Kind, Test_node, tested}
use Rattle.pc_flow.specs.declared.node.FlowNode.{FlowNode}
use Rattle.pc_flow.specs.declared.node.FlowNode.TheVariants.{Op, Test}
use Rattle.pc_flow.specs.FlowRun.{FlowState, step_after_item, run_node, node_step}
use Rattle.pc_lower.specs.Kinds.{kind_of_item, kind_of_node}
use Rattle.pc_lower.specs.Lowers.{temporary}

-- ---- walks

-- a step goes on to where something holds of what it printed and of the state
abbrev pub Passed : Step FlowState → (List ℤ → FlowState → Type 0) → Type 0
Passed (Goes out next) P = P out next
Passed (Stops out end) P = ⊥

-- from a state where these numbers are printed, a flow passes nodes of these kinds and comes to where something holds
-- of what is printed and of the state
abbrev pub Comes : List FlowNode → List ℕ → List Kind → List ℤ → FlowState → (List ℤ → FlowState → Type 0) → Type 0
Comes nodes lengths [] out f P = P out f
Comes nodes lengths (k ∷ ks) out f P =
    (kind_of_node (slice_get nodes f.node) ≡ Some k) × Passed (node_step nodes lengths f) (λ o g. Comes nodes lengths ks (out ++ o) g P)

-- what holds more widely
Passed-map : (x : Step FlowState) (P Q : List ℤ → FlowState → Type 0) → ((o : List ℤ) (g : FlowState) → P o g → Q o g) → Passed x P → Passed x Q
Passed-map (Goes out next) P Q h p = h out next p
Passed-map (Stops out end) P Q h p = p

-- the same of a walk
pub Comes-map : (nodes : List FlowNode) (lengths : List ℕ) (ks : List Kind) (out : List ℤ) (f : FlowState) (P Q : List ℤ → FlowState → Type 0)
    → ((o : List ℤ) (g : FlowState) → P o g → Q o g) → Comes nodes lengths ks out f P → Comes nodes lengths ks out f Q
Comes-map nodes lengths [] out f P Q h p = h out f p
Comes-map nodes lengths (k ∷ ks) out f P Q h p = (
  p.0,
  Passed-map (node_step nodes lengths f) (λ o g. Comes nodes lengths ks (out ++ o) g P) (λ o g. Comes nodes lengths ks (out ++ o) g Q)
      (λ o g. Comes-map nodes lengths ks (out ++ o) g P Q h) p.1,
)

-- one walk after another
pub Comes-append : (nodes : List FlowNode) (lengths : List ℕ) (ks ls : List Kind) (out : List ℤ) (f : FlowState) (P : List ℤ → FlowState → Type 0)
    → Comes nodes lengths ks out f (λ o g. Comes nodes lengths ls o g P) → Comes nodes lengths (ks ++ ls) out f P
Comes-append nodes lengths [] ls out f P p = p
Comes-append nodes lengths (k ∷ ks) ls out f P p = (
  p.0,
  Passed-map (node_step nodes lengths f) (λ o g. Comes nodes lengths ks (out ++ o) g (λ o' g'. Comes nodes lengths ls o' g' P))
      (λ o g. Comes nodes lengths (ks ++ ls) (out ++ o) g P) (λ o g. Comes-append nodes lengths ks ls (out ++ o) g P) p.1,
)

-- ---- states

-- scalars and temporaries below t have the values that they had
abbrev pub Keeps : ℕ → State → State → Type 0
Keeps t old new = (x : ℕ) → x < temporary t → new.names x ≡ old.names x

-- a state of the flow stands for a state of the source, where these numbers are printed
pub record Stands (s : ProgramState) (out : List ℤ) (m : State) : Type 0 where
  pub scalars : (x : ℕ) → x < 64 → m.names x ≡ s.scalars x
  pub cells : (a i : ℕ) → m.cells a i ≡ s.cells a i
  pub input : m.input ≡ s.input
  pub printed : s.printed ≡ out

-- one name was written, and nothing else
pub record Wrote (d : ℕ) (v : ℤ) (old new : State) : Type 0 where
  pub there : new.names d ≡ v
  pub elsewhere : (x : ℕ) → nat_eq d x ≡ false → new.names x ≡ old.names x
  pub cells : (a i : ℕ) → new.cells a i ≡ old.cells a i
  pub input : new.input ≡ old.input

-- numbers that differ
pub differs : (d x : ℕ) → x < d → nat_eq d x ≡ false
differs d x p = grind arith

-- a number is itself
pub is_itself : (d : ℕ) → nat_eq d d ≡ true
is_itself d = grind arith

-- what a temporary's write keeps
pub Keeps-wrote : (d : ℕ) (v : ℤ) (old new : State) → Wrote (temporary d) v old new → Keeps d old new
Keeps-wrote d v old new w x p = w.elsewhere x (differs (temporary d) x p)

-- nothing is changed
pub Keeps-refl : (d : ℕ) (m : State) → Keeps d m m
Keeps-refl d m x p = refl

-- kept by one and then by another
pub Keeps-trans : (t d : ℕ) (a b c : State) → t ≤ d → Keeps t a b → Keeps d b c → Keeps t a c
Keeps-trans t d a b c le p q x h = q x (omega arith) ∙ p x h

-- a temporary's write changes nothing that the source sees
pub Stands-wrote : (d : ℕ) (v : ℤ) (s : ProgramState) (out : List ℤ) (old new : State) → Wrote (temporary d) v old new → Stands s out old → Stands s out new
Stands-wrote d v s out old new w p = record {
  scalars = λ x h. w.elsewhere x (differs (temporary d) x (omega arith)) ∙ p.scalars x h;
  cells = λ a i. w.cells a i ∙ p.cells a i;
  input = w.input ∙ p.input;
  printed = p.printed;
}

-- ---- items

-- an item that writes one name, and does nothing else
pub record Pure (item : Item) (d : ℕ) : Type 0 where
  pub dest : dest_of item ≡ Some d
  pub stores_nothing : (lengths : List ℕ) (old : State) → stores_of lengths old (item ∷ []) ≡ []
  pub prints_nothing : (old : State) → prints_of old (item ∷ []) ≡ []
  pub reads_nothing : reads_of (item ∷ []) ≡ 0

pub Pure-bin : (op : OpCode) (d : ℕ) (l r : Operand) → Pure (Bin op d l r) d
Pure-bin op d l r = record { dest = refl; stores_nothing = λ lengths old. refl; prints_nothing = λ old. refl; reads_nothing = refl }

pub Pure-copy : (d : ℕ) (from : Operand) → Pure (Copy d from) d
Pure-copy d from = record { dest = refl; stores_nothing = λ lengths old. refl; prints_nothing = λ old. refl; reads_nothing = refl }

pub Pure-load : (d array : ℕ) (index : Operand) → Pure (Load d array index) d
Pure-load d array index = record { dest = refl; stores_nothing = λ lengths old. refl; prints_nothing = λ old. refl; reads_nothing = refl }

pub Pure-more : (d : ℕ) → Pure (More d) d
Pure-more d = record { dest = refl; stores_nothing = λ lengths old. refl; prints_nothing = λ old. refl; reads_nothing = refl }

-- it has no fault
Pure-faultless : (lengths : List ℕ) (old : State) (item : Item) (d : ℕ) → Pure item d → fault_of lengths old (item ∷ []) ≡ None
Pure-faultless lengths old item d p = rw (p.stores_nothing lengths old, p.reads_nothing) refl

-- and it writes that name
Pure-wrote : (lengths : List ℕ) (old : State) (item : Item) (d : ℕ) → Pure item d → Wrote d (value_of lengths old item) old (state_after lengths old (item ∷ []))
Pure-wrote lengths old item d p = record {
  there = rw (p.dest, is_itself d) refl;
  elsewhere = λ x h. rw (p.dest, h) refl;
  cells = λ a i. rw (p.stores_nothing lengths old) refl;
  input = rw (p.reads_nothing) refl;
}

-- an item is passed, where it has no fault
pub item-comes : (nodes : List FlowNode) (lengths : List ℕ) (item : Item) (q : ℕ) (f : FlowState) (out : List ℤ) (P : List ℤ → FlowState → Type 0)
    → slice_get nodes f.node ≡ Some (Op item q) → fault_of lengths f.state (item ∷ []) ≡ None
    → P (out ++ prints_of f.state (item ∷ [])) (record { node = q; state = state_after lengths f.state (item ∷ []) })
    → Comes nodes lengths (kind_of_item item ∷ []) out f P
item-comes nodes lengths item q f out P e n p =
    let Q : List ℤ → FlowState → Type 0 = λ o g. P (out ++ o) g in
    let after : Passed (step_after_item (commit_of lengths f.state (item ∷ []) q (fault_of lengths f.state (item ∷ [])))) Q =
    subst (λ (fault : Option MachineFault). Passed (step_after_item (commit_of lengths f.state (item ∷ []) q fault)) Q) (sym n) p in
    (ap kind_of_node e, subst (λ (node : Option FlowNode). Passed (run_node lengths f.state node) Q) (sym e) after)

-- an item that writes a name alone
pub pure-comes : (nodes : List FlowNode) (lengths : List ℕ) (item : Item) (d q : ℕ) (f : FlowState) (out : List ℤ) (P : List ℤ → FlowState → Type 0)
    → slice_get nodes f.node ≡ Some (Op item q) → Pure item d
    → ((g : FlowState) → g.node ≡ q → Wrote d (value_of lengths f.state item) f.state g.state → P out g)
    → Comes nodes lengths (kind_of_item item ∷ []) out f P
pure-comes nodes lengths item d q f out P e pure p =
    let g : FlowState = record { node = q; state = state_after lengths f.state (item ∷ []) } in
    item-comes nodes lengths item q f out P e (Pure-faultless lengths f.state item d pure)
    (subst (λ (o : List ℤ). P o g) (sym (append-nil out) ∙ ap (λ (o : List ℤ). out ++ o) (sym (pure.prints_nothing f.state)))
    (p g refl (Pure-wrote lengths f.state item d pure)))

-- a test is passed
pub test-comes : (nodes : List FlowNode) (lengths : List ℕ) (on : Operand) (y z : ℕ) (turn : Option ℕ) (f : FlowState) (out : List ℤ) (P : List ℤ → FlowState → Type 0)
    → slice_get nodes f.node ≡ Some (Test on y z turn)
    → P out (record { node = if holds (operand_value f.state.names on) then y else z; state = f.state })
    → Comes nodes lengths (Test_node ∷ []) out f P
test-comes nodes lengths on y z turn f out P e p =
    let g : FlowState = record { node = if holds (operand_value f.state.names on) then y else z; state = f.state } in
    let Q : List ℤ → FlowState → Type 0 = λ o g. P (out ++ o) g in (
      ap kind_of_node e,
      subst (λ (node : Option FlowNode). Passed (run_node lengths f.state node) Q) (sym e)
          (subst (λ (o : List ℤ). P o g) (sym (append-nil out)) p),
    )

-- a state at a node
abbrev pub standing : ℕ → State → FlowState
standing q m = record { node = q; state = m }

-- the side that came out
where_true-comes : (nodes : List FlowNode) (lengths : List ℕ) (X : Type 0) (y z : ℕ) (b : Bool) (s : ProgramState) (m : State) (out : List ℤ)
    (one other : ProgramState → List Kind) (one' other' : ProgramState → X) (P : X → List ℤ → FlowState → Type 0)
    → Comes nodes lengths (one s) out (standing y m) (P (one' s))
    → Comes nodes lengths (other s) out (standing z m) (P (other' s))
    → Comes nodes lengths (where_true b one other s) out (standing (if b then y else z) m) (P (where_true b one' other' s))
where_true-comes nodes lengths X y z true s m out one other one' other' P p q = p
where_true-comes nodes lengths X y z false s m out one other one' other' P p q = q

-- a test, and the side that it chooses
pub side-comes : (nodes : List FlowNode) (lengths : List ℕ) (X : Type 0) (on : Operand) (y z : ℕ) (turn : Option ℕ) (v : ℤ) (s : ProgramState) (f : FlowState) (out : List ℤ)
    (one other : ProgramState → List Kind) (one' other' : ProgramState → X) (P : X → List ℤ → FlowState → Type 0)
    → slice_get nodes f.node ≡ Some (Test on y z turn) → operand_value f.state.names on ≡ v
    → Comes nodes lengths (one s) out (standing y f.state) (P (one' s))
    → Comes nodes lengths (other s) out (standing z f.state) (P (other' s))
    → Comes nodes lengths (tested (side v one other) s) out f (P (side v one' other' s))
side-comes nodes lengths X on y z turn v s f out one other one' other' P e value p q =
    subst (λ (a : ℤ). Comes nodes lengths (tested (side a one other) s) out f (P (side a one' other' s))) value
    (test-comes nodes lengths on y z turn f out (λ o g. Comes nodes lengths (side (operand_value f.state.names on) one other s) o g (P (side (operand_value f.state.names on) one' other' s))) e
    (where_true-comes nodes lengths X y z (holds (operand_value f.state.names on)) s f.state out one other one' other' P p q))
