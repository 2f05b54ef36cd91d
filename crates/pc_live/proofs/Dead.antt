-- Variables that are not live do not matter.
use Rattle.std.proofs.Common.{◌≡◌, ◌⊎◌, inl, inr, ℕ, zero, suc, Bool, true, false, ◌&&◌, List, [], ◌∷◌, Option, Some, None, refl, sym, ◌∙◌, ap, subst, eq-eqb, eqb-true}
use Rattle.std.specs.Prelude.{ℤ, nat_eq, if◌then◌else◌, slice_get, slice_index}
use Rattle.std.specs.List.{AllByRecursion, list_any}
use Rattle.pc_word.specs.declared.item.Item.{Item}
use Rattle.pc_word.specs.declared.item.Item.TheVariants.{Bin, Copy, Load, Store, Print, Read, More}
use Rattle.pc_word.specs.declared.item.Operand.{Operand}
use Rattle.pc_word.specs.declared.item.Operand.TheVariants.{Name, Lit}
use Rattle.pc_word.specs.declared.item.End.{End}
use Rattle.pc_word.specs.declared.item.End.TheVariants.{Fault}
use Rattle.pc_word.specs.Word.{holds, word_of_test, word_apply}
use Rattle.pc_word.specs.State.{State, set_name}
use Rattle.pc_word.specs.Items.{operand_value, place_in, element_at, some_left, operands_of, dest_of, reads_name}
use Rattle.pc_word.specs.Commit.{writes}
use Rattle.pc_word.specs.Row.{RowOutcome, Faults, Commits, item_step}
use Rattle.pc_word.specs.Run.{Seen, Step, Goes, Stops, after_printing, seen_of, run_from}
use Rattle.pc_word.specs.Laws.{does_alone, stores_alone, reads_alone}
use Rattle.pc_word.proofs.Items.{item_step-is}
use Rattle.pc_flow.specs.declared.node.FlowNode.{FlowNode}
use Rattle.pc_flow.specs.declared.node.FlowNode.TheVariants.{Op, Test, Stop, Trap}
use Rattle.pc_flow.specs.FlowGraph.{FlowGraph}
use Rattle.pc_flow.specs.FlowRun.{FlowState, step_after_item, run_node, flow_step}
use Rattle.pc_live.specs.Live.{IsLive, Read_here, Read_later}
use Rattle.pc_live.specs.Laws.{AlikeWhereLive, StepsAlike}
use Rattle.pc_word.proofs.Truth.{or_first, or_second}

-- ---- operands

-- an operand has the same value where the variable that it is has
pub operand_same : (names other : ℕ → ℤ) (operand : Operand) → ((x : ℕ) → reads_name operand x ≡ true → other x ≡ names x)
    → operand_value other operand ≡ operand_value names operand
operand_same names other (Name name) h = h name (eq-eqb name name refl)
operand_same names other (Lit value) h = refl

-- the operands have the same values
abbrev pub Same : (ℕ → ℤ) → (ℕ → ℤ) → List Operand → Type 0
Same names other operands = AllByRecursion (λ operand. operand_value other operand ≡ operand_value names operand) operands

pub operands_same : (names other : ℕ → ℤ) (operands : List Operand)
    → ((x : ℕ) → list_any (λ operand. reads_name operand x) operands ≡ true → other x ≡ names x) → Same names other operands
operands_same names other [] h = tt
operands_same names other (operand ∷ operands) h = (
  operand_same names other operand (λ x e. h x (or_first (reads_name operand x) (list_any (λ o. reads_name o x) operands) e)),
  operands_same names other operands (λ x e. h x (or_second (reads_name operand x) (list_any (λ o. reads_name o x) operands) e)),
)

-- ---- one item

-- two states after an item that leads to a node and may write a variable: a variable that is written or was the same is the same
pub record StatesAlike (to : ℕ) (dest : Option ℕ) (s t new other : State) (leaf last : ℕ) : Type 0 where
  pub leads : to ≡ leaf
  pub leaves : last ≡ leaf
  pub cells : other.cells ≡ new.cells
  pub input : other.input ≡ new.input
  pub names : (x : ℕ) → (writes dest x ≡ false → t.names x ≡ s.names x) → other.names x ≡ new.names x

-- two outcomes of an item: the same fault, or the same printed and states that are alike
abbrev pub OutcomesAlike : (to : ℕ) (dest : Option ℕ) (s t : State) → RowOutcome ℕ → RowOutcome ℕ → Type 0
OutcomesAlike to dest s t (Faults fault) (Faults other) = other ≡ fault
OutcomesAlike to dest s t (Commits printed new leaf) (Commits again other last) =
    (again ≡ printed) × StatesAlike to dest s t new other leaf last
OutcomesAlike to dest s t (Faults fault) (Commits again other last) = ⊥
OutcomesAlike to dest s t (Commits printed new leaf) (Faults other) = ⊥

chosen_same : (b : Bool) (v w p q : ℤ) → w ≡ v → (b ≡ false → q ≡ p) → (if b then w else q) ≡ (if b then v else p)
chosen_same true v w p q e h = e
chosen_same false v w p q e h = h refl

-- a name that gets the same word in both
named_alike : (to dest : ℕ) (v w : ℤ) (s t : State) → w ≡ v → t.cells ≡ s.cells → t.input ≡ s.input
    → StatesAlike to (Some dest) s t (set_name dest v s) (set_name dest w t) to to
named_alike to dest v w s t e cells input = record {
  leads = refl;
  leaves = refl;
  cells = cells;
  input = input;
  names = λ x h. chosen_same (nat_eq dest x) v w (s.names x) (t.names x) e h;
}

-- elements of which one was set
abbrev cells_set : ℕ → ℕ → ℤ → (ℕ → ℕ → ℤ) → ℕ → ℕ → ℤ
cells_set array place z cells a i = if nat_eq array a && nat_eq place i then z else cells a i

-- a store at the same place of the same word
stored_alike : (to array : ℕ) (place : Option ℕ) (v w : ℤ) (s t : State) → w ≡ v → t.cells ≡ s.cells → t.input ≡ s.input
    → OutcomesAlike to None s t (stores_alone array place v to s) (stores_alone array place w to t)
stored_alike to array None v w s t e cells input = refl
stored_alike to array (Some place) v w s t e cells input = (
  refl,
  record {
    leads = refl;
    leaves = refl;
    cells = ap (cells_set array place w) cells ∙ ap (λ (z : ℤ). cells_set array place z s.cells) e;
    input = input;
    names = λ x h. h refl;
  },
)

-- a read of the same input
read_alike : (to dest : ℕ) (input : List ℤ) (s t : State) → t.cells ≡ s.cells
    → OutcomesAlike to (Some dest) s t (reads_alone dest input to s) (reads_alone dest input to t)
read_alike to dest [] s t cells = refl
read_alike to dest (word ∷ words) s t cells = (
  refl,
  record {
    leads = refl;
    leaves = refl;
    cells = cells;
    input = refl;
    names = λ x h. chosen_same (nat_eq dest x) word word (s.names x) (t.names x) refl h;
  },
)

-- what an item does depends on its operands, the elements and the input alone
pub does_alike : (lengths : List ℕ) (item : Item) (to : ℕ) (s t : State)
    → Same s.names t.names (operands_of item) → t.cells ≡ s.cells → t.input ≡ s.input
    → OutcomesAlike to (dest_of item) s t (does_alone lengths item to s) (does_alone lengths item to t)
does_alike lengths (Bin op dest left right) to s t same cells input = (
  refl,
  named_alike to dest (word_apply op (operand_value s.names left) (operand_value s.names right))
      (word_apply op (operand_value t.names left) (operand_value t.names right)) s t
      (ap (λ (z : ℤ). word_apply op z (operand_value t.names right)) same.0
      ∙ ap (λ (z : ℤ). word_apply op (operand_value s.names left) z) same.1.0) cells input,
)
does_alike lengths (Copy dest from) to s t same cells input =
    (refl, named_alike to dest (operand_value s.names from) (operand_value t.names from) s t same.0 cells input)
does_alike lengths (Load dest array index) to s t same cells input = (
  refl,
  named_alike to dest
      (element_at (s.cells array) (place_in (slice_index lengths array) (operand_value s.names index)))
      (element_at (t.cells array) (place_in (slice_index lengths array) (operand_value t.names index))) s t
      (ap (λ (c : ℕ → ℕ → ℤ). element_at (c array) (place_in (slice_index lengths array) (operand_value t.names index))) cells
      ∙ ap (λ (z : ℤ). element_at (s.cells array) (place_in (slice_index lengths array) z)) same.0) cells input,
)
does_alike lengths (Store array index value) to s t same cells input =
    subst (λ (z : ℤ). OutcomesAlike to None s t
    (stores_alone array (place_in (slice_index lengths array) (operand_value s.names index)) (operand_value s.names value) to s)
    (stores_alone array (place_in (slice_index lengths array) z) (operand_value t.names value) to t)) (sym same.0)
    (stored_alike to array (place_in (slice_index lengths array) (operand_value s.names index))
    (operand_value s.names value) (operand_value t.names value) s t same.1.0 cells input)
does_alike lengths (Print value) to s t same cells input =
    (ap (λ (z : ℤ). z ∷ []) same.0, record { leads = refl; leaves = refl; cells = cells; input = input; names = λ x h. h refl })
does_alike lengths (Read dest) to s t same cells input =
    subst (λ (i : List ℤ). OutcomesAlike to (Some dest) s t (reads_alone dest s.input to s) (reads_alone dest i to t)) (sym input)
    (read_alike to dest s.input s t cells)
does_alike lengths (More dest) to s t same cells input = (
  refl,
  named_alike to dest (word_of_test (some_left s.input)) (word_of_test (some_left t.input)) s t
      (ap (λ (i : List ℤ). word_of_test (some_left i)) input) cells input,
)

-- ---- one unit

-- after an item whose outcomes are alike, steps are alike
item_alike : (flow : FlowGraph) (at to : ℕ) (item : Item) (s t : State)
    → slice_get flow.nodes at ≡ Some (Op item to) → ((x : ℕ) → IsLive flow x at → t.names x ≡ s.names x)
    → (one other : RowOutcome ℕ) → OutcomesAlike to (dest_of item) s t one other → StepsAlike flow (step_after_item one) (step_after_item other)
item_alike flow at to item s t there alike (Faults fault) (Faults again) h = (refl, ap Fault h)
item_alike flow at to item s t there alike (Commits printed new leaf) (Commits again other last) h = (
  h.0,
  record {
    same_node = h.1.leaves;
    same_cells = h.1.cells;
    same_input = h.1.input;
    same_names = λ x live. h.1.names x (λ passed. alike x (Read_later there passed h.1.leads live));
  },
)
item_alike flow at to item s t there alike (Faults fault) (Commits again other last) h = absurd h
item_alike flow at to item s t there alike (Commits printed new leaf) (Faults again) h = absurd h

-- the side that a test takes is one to which an edge leads
side_leads : (b : Bool) (on_yes on_no : ℕ) → (on_yes ≡ (if b then on_yes else on_no)) ⊎ (on_no ≡ (if b then on_yes else on_no))
side_leads true on_yes on_no = inl refl
side_leads false on_yes on_no = inr refl

-- one unit of a node, from two states that are alike there
node_alike : (flow : FlowGraph) (at : ℕ) (s t : State) (node : Option FlowNode) → slice_get flow.nodes at ≡ node
    → t.cells ≡ s.cells → t.input ≡ s.input → ((x : ℕ) → IsLive flow x at → t.names x ≡ s.names x)
    → StepsAlike flow (run_node flow.arrays s node) (run_node flow.arrays t node)
node_alike flow at s t (Some (Op item to)) there cells input alike =
    let same = operands_same s.names t.names (operands_of item) (λ x e. alike x (Read_here there e)) in
    item_alike flow at to item s t there alike (item_step flow.arrays item to s) (item_step flow.arrays item to t)
    (subst (λ (o : RowOutcome ℕ). OutcomesAlike to (dest_of item) s t o (item_step flow.arrays item to t)) (sym (item_step-is flow.arrays item to s))
    (subst (λ (o : RowOutcome ℕ). OutcomesAlike to (dest_of item) s t (does_alone flow.arrays item to s) o) (sym (item_step-is flow.arrays item to t))
    (does_alike flow.arrays item to s t same cells input)))
node_alike flow at s t (Some (Test on on_yes on_no turn)) there cells input alike =
    let same = operand_same s.names t.names on (λ x e. alike x (Read_here there e)) in (
      refl,
      record {
        same_node = ap (λ (z : ℤ). if holds z then on_yes else on_no) same;
        same_cells = cells;
        same_input = input;
        same_names = λ x live. alike x (Read_later there refl (side_leads (holds (operand_value s.names on)) on_yes on_no) live);
      },
    )
node_alike flow at s t (Some Stop) there cells input alike = (refl, refl)
node_alike flow at s t (Some (Trap kind line)) there cells input alike = (refl, refl)
node_alike flow at s t None there cells input alike = (refl, refl)

-- one unit from two states that are alike
pub step_alike : (flow : FlowGraph) (s t : FlowState) → AlikeWhereLive flow s t → StepsAlike flow (flow_step flow s) (flow_step flow t)
step_alike flow s t alike =
    subst (λ (at : ℕ). StepsAlike flow (flow_step flow s) (run_node flow.arrays t.state (slice_get flow.nodes at))) (sym alike.same_node)
    (node_alike flow s.node s.state t.state (slice_get flow.nodes s.node) refl alike.same_cells alike.same_input alike.same_names)

-- ---- runs

seen_same : (flow : FlowGraph) (rest : FlowState → Seen) → ((s t : FlowState) → AlikeWhereLive flow s t → rest t ≡ rest s)
    → (one other : Step FlowState) → StepsAlike flow one other → seen_of other rest ≡ seen_of one rest
seen_same flow rest h (Goes printed s) (Goes again t) alike =
    ap (λ (p : List ℤ). after_printing p (rest t)) alike.0 ∙ ap (λ (x : Seen). after_printing printed x) (h s t alike.1)
seen_same flow rest h (Stops printed end) (Stops again last) alike =
    ap (λ (p : List ℤ). seen_of {S = FlowState} (Stops p last) rest) alike.0 ∙ ap (λ (e : End). seen_of {S = FlowState} (Stops printed e) rest) alike.1
seen_same flow rest h (Goes printed s) (Stops again last) alike = absurd alike
seen_same flow rest h (Stops printed end) (Goes again t) alike = absurd alike

-- from two states that are alike, runs show the same
pub run_same : (flow : FlowGraph) (n : ℕ) (s t : FlowState) → AlikeWhereLive flow s t → run_from (flow_step flow) n t ≡ run_from (flow_step flow) n s
run_same flow zero s t alike = refl
run_same flow (suc n) s t alike =
    seen_same flow (run_from (flow_step flow) n) (λ x y h. run_same flow n x y h) (flow_step flow s) (flow_step flow t) (step_alike flow s t alike)

-- ---- writes of dead variables

-- a write of a variable that is not live after it leaves the state alike
pub dead_write : (flow : FlowGraph) (at variable : ℕ) (value : ℤ) (s : State) → (IsLive flow variable at → ⊥)
    → AlikeWhereLive flow (record { node = at; state = s }) (record { node = at; state = set_name variable value s })
dead_write flow at variable value s dead = record {
  same_node = refl;
  same_cells = refl;
  same_input = refl;
  same_names = λ x live. unwritten (nat_eq variable x) x live refl;
}
  where
    unwritten : (b : Bool) (x : ℕ) → IsLive flow x at → nat_eq variable x ≡ b → (if b then value else s.names x) ≡ s.names x
    unwritten true x live e = absurd (dead (subst (λ (y : ℕ). IsLive flow y at) (sym (eqb-true variable x e)) live))
    unwritten false x live e = refl
