-- What is known at a node: for each variable the item that it stands for, if any.
use Rattle.std.specs.Prelude.{◌≡◌, ◌&&◌, ℕ, Bool, false, not, if◌then◌else◌, nat_eq, List, [], ◌∷◌, map, replicate, Option, Some, None, slice_get, slice_set}
use Rattle.std.specs.Ordering.{int_eq}
use Rattle.pc_word.specs.declared.item.Item.{Item}
use Rattle.pc_word.specs.declared.item.Item.TheVariants.{Bin, Copy, Load, Store, Print, Read, More}
use Rattle.pc_word.specs.declared.item.OpCode.{OpCode}
use Rattle.pc_word.specs.declared.item.Operand.{Operand}
use Rattle.pc_word.specs.declared.item.Operand.TheVariants.{Name, Lit}
use Rattle.pc_word.specs.Naming.{map_operands}
use Rattle.pc_word.specs.Items.{dest_of, reads_name, op_number}
use Rattle.pc_flow.specs.declared.node.FlowNode.{FlowNode}
use Rattle.pc_flow.specs.declared.node.FlowNode.TheVariants.{Op, Test, Stop, Trap}
use Rattle.pc_flow.specs.FlowGraph.{FlowGraph, variables}
use Rattle.pc_scalar.specs.declared.rule.Rule.{Rule}
use Rattle.pc_scalar.specs.declared.rule.Rule.TheVariants.{CopiedNames, KnownValues}
use Rattle.pc_scalar.specs.Chain.{touches, FollowsAlone}

-- ---- what items leave known

-- what is known of a variable, where another was written
abbrev pub kept : ℕ → Option Item → Option Item
kept name None = None
kept name (Some item) = if touches item name then None else Some item

-- whether an item computes or copies a value that its own write leaves as it is
abbrev pub stays_true : Item → Bool
stays_true (Bin op dest left right) = not (reads_name left dest) && not (reads_name right dest)
stays_true (Copy dest from) = not (reads_name from dest)
stays_true (Load dest array index) = false
stays_true (Store array index value) = false
stays_true (Print value) = false
stays_true (Read dest) = false
stays_true (More dest) = false

-- what is known with an item that writes a variable
abbrev pub learnt : Item → ℕ → List (Option Item) → List (Option Item)
learnt item dest known = if stays_true item then slice_set known dest (Some item) else known

-- what is known after an item, by the variable that it writes
abbrev pub after_write : Item → Option ℕ → List (Option Item) → List (Option Item)
after_write item None known = known
after_write item (Some dest) known = learnt item dest (map (kept dest) known)

abbrev pub after : Item → List (Option Item) → List (Option Item)
after item known = after_write item (dest_of item) known

-- nothing is known
abbrev pub none_known : List (Option Item)
none_known = replicate variables None

-- ---- copies

-- the operand that stands for a variable: what it was copied from, and else the variable
abbrev pub source : Option (Option Item) → ℕ → Operand
source (Some (Some (Copy dest from))) name = from
source known name = Name name

abbrev pub copied : List (Option Item) → Operand → Operand
copied known (Name name) = source (slice_get known name) name
copied known (Lit value) = Lit value

-- ---- values

-- whether two operands are the same
abbrev pub same_operand : Operand → Operand → Bool
same_operand (Name one) (Name other) = nat_eq one other
same_operand (Lit one) (Lit other) = int_eq one other
same_operand (Name one) (Lit other) = false
same_operand (Lit one) (Name other) = false

-- whether an item computes this
abbrev pub computes : OpCode → Operand → Operand → Item → Bool
computes op left right (Bin other dest first second) = nat_eq (op_number op) (op_number other) && (same_operand left first && same_operand right second)
computes op left right item = false

-- the first variable that stands for this
abbrev pub holder : OpCode → Operand → Operand → List (Option Item) → Option ℕ
holder op left right [] = None
holder op left right (None ∷ known) = holder op left right known
holder op left right (Some item ∷ known) = if computes op left right item then dest_of item else holder op left right known

-- the item that copies a value, where a variable stands for it
abbrev pub reused : Option ℕ → Item → ℕ → Item
reused (Some name) item dest = Copy dest (Name name)
reused None item dest = item

abbrev pub valued_item : List (Option Item) → Item → Item
valued_item known (Bin op dest left right) = reused (holder op left right known) (Bin op dest left right) dest
valued_item known item = item

-- ---- nodes

abbrev pub rewritten_item : Rule → List (Option Item) → Item → Item
rewritten_item CopiedNames known item = map_operands (copied known) item
rewritten_item KnownValues known item = valued_item known item

abbrev pub rewritten_operand : Rule → List (Option Item) → Operand → Operand
rewritten_operand CopiedNames known operand = copied known operand
rewritten_operand KnownValues known operand = operand

abbrev pub rewritten : Rule → List (Option Item) → FlowNode → FlowNode
rewritten rule known (Op item to) = Op (rewritten_item rule known item) to
rewritten rule known (Test on on_yes on_no turn) = Test (rewritten_operand rule known on) on_yes on_no turn
rewritten rule known Stop = Stop
rewritten rule known (Trap kind line) = Trap kind line

-- what is known at a node, by the chain that leads there
pub data KnownAt (flow : FlowGraph) (rule : Rule) : (at : ℕ) → (known : List (Option Item)) → Type 0 where
  At_head : {at : ℕ} → ((from : ℕ) → FollowsAlone flow from at → ⊥) → KnownAt flow rule at none_known
  Behind_item : {from at : ℕ} {known : List (Option Item)} {item : Item} →
      FollowsAlone flow from at →
      slice_get flow.nodes from ≡ Some (Op item at) →
      KnownAt flow rule from known →
      KnownAt flow rule at (after (rewritten_item rule known item) known)
