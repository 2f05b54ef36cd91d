-- Trails: the nodes that lead to a node by no other way, and what they tell of variables and elements.
use Rattle.std.specs.Prelude.{◌≡◌, ◌≢◌, ◌⊎◌, ℕ, zero, suc, ◌+◌, pos, List, [], ◌∷◌, ◌++◌, Option, Some, None, slice_get, slice_set}
use Rattle.pc_word.specs.declared.item.Item.{Item}
use Rattle.pc_word.specs.declared.item.Item.TheVariants.{Bin, Copy, Load, Store, Print, Read, More}
use Rattle.pc_word.specs.declared.item.Operand.{Operand}
use Rattle.pc_word.specs.declared.item.Operand.TheVariants.{Name, Lit}
use Rattle.pc_flow.specs.declared.node.FlowNode.{FlowNode}
use Rattle.pc_flow.specs.declared.node.FlowNode.TheVariants.{Op, Test, Stop, Trap}
use Rattle.pc_flow.specs.FlowGraph.{FlowGraph, HasEdge, variables}
use Rattle.pc_flow.specs.Reachable.{IsReachableNode}
use Rattle.pc_linear.specs.Form.{Form}
use Rattle.pc_linear.specs.Combine.{constant_form, variable_form, combine}
use Rattle.pc_forward.specs.declared.access.Access.{Access}
use Rattle.pc_forward.specs.declared.access.AccessKind.TheVariants as kind
use Rattle.pc_forward.specs.declared.trail.Trail.{Trail}

-- ---- ways

-- a node has exactly one edge to this one: two edges of one test to it are two
abbrev pub HasOneEdge : FlowNode → ℕ → Type 0
HasOneEdge (Op item to) next = to ≡ next
HasOneEdge (Test on on_yes on_no turn) next = ((on_yes ≡ next) × (on_no ≢ next)) ⊎ ((on_no ≡ next) × (on_yes ≢ next))
HasOneEdge Stop next = ⊥
HasOneEdge (Trap kind line) next = ⊥

-- one edge of a node is the only way to another one, which is not the entry: no other edge from a node that can be reached leads there
pub record IsOnlyWay (flow : FlowGraph) (from at : ℕ) : Type 0 where
  pub reached : IsReachableNode flow from
  pub node : FlowNode
  pub there : slice_get flow.nodes from ≡ Some node
  pub edge : HasOneEdge node at
  pub not_entry : at ≢ flow.entry
  pub only : (other : ℕ) (also : FlowNode) → IsReachableNode flow other → slice_get flow.nodes other ≡ Some also → HasEdge also at → other ≡ from

-- ---- forms

-- so many form variables, from a number on
abbrev pub own_forms : ℕ → ℕ → List Form
own_forms first zero = []
own_forms first (suc many) = variable_form first ∷ own_forms (first + 1) many

-- where a trail begins, each variable is a form variable of its own
abbrev pub first_trail : Trail
first_trail = record { forms = own_forms 0 variables; next = variables; accesses = [] }

abbrev pub form_or_zero : Option Form → Form
form_or_zero (Some form) = form
form_or_zero None = constant_form (pos 0)

-- the form of an operand, by the forms of variables
abbrev pub operand_form : List Form → Operand → Form
operand_form forms (Name x) = form_or_zero (slice_get forms x)
operand_form forms (Lit value) = constant_form value

-- a variable gets a form
abbrev pub given : ℕ → Form → Trail → Trail
given dest form trail = record trail { forms = slice_set trail.forms dest form }

-- a variable becomes a new form variable
abbrev pub renewed : ℕ → Trail → Trail
renewed dest trail = record trail { forms = slice_set trail.forms dest (variable_form trail.next); next = trail.next + 1 }

-- a variable gets the form that was combined, and else becomes a new form variable
abbrev pub combined : ℕ → Option Form → Trail → Trail
combined dest (Some form) trail = given dest form trail
combined dest None trail = renewed dest trail

-- an element is loaded or stored
abbrev pub accessed : Access → Trail → Trail
accessed access trail = record trail { accesses = trail.accesses ++ access ∷ [] }

-- behind an item: an operator's result has the form that `combine` gives, a copy its operand's; every other write is of a new form
-- variable. A load gave its variable the value that it loaded.
abbrev pub behind_item : Item → Trail → Trail
behind_item (Bin op dest left right) trail =
    combined dest (combine op (operand_form trail.forms left) (operand_form trail.forms right)) trail
behind_item (Copy dest from) trail = given dest (operand_form trail.forms from) trail
behind_item (Load dest array index) trail =
    accessed (record { kind = kind.Load; array = array; index = operand_form trail.forms index; value = variable_form trail.next }) (renewed dest trail)
behind_item (Store array index value) trail =
    accessed (record { kind = kind.Store; array = array; index = operand_form trail.forms index; value = operand_form trail.forms value }) trail
behind_item (Print value) trail = trail
behind_item (Read dest) trail = renewed dest trail
behind_item (More dest) trail = renewed dest trail

-- behind a node
abbrev pub behind : FlowNode → Trail → Trail
behind (Op item to) trail = behind_item item trail
behind node trail = trail

-- What the trail to a node tells there: of these nodes, where ways lead as in this graph. The first node of a trail is one to which no
-- way is the only one.
pub data Along (flow : FlowGraph) (nodes : List FlowNode) : (at : ℕ) → (trail : Trail) → Type 0 where
  Begins : {at : ℕ} → ((from : ℕ) → IsOnlyWay flow from at → ⊥) → Along flow nodes at first_trail
  Goes_on : {from at : ℕ} {node : FlowNode} {trail : Trail} →
      IsOnlyWay flow from at →
      slice_get nodes from ≡ Some node →
      Along flow nodes from trail →
      Along flow nodes at (behind node trail)
