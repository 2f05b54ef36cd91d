-- Operands that are the same, and nodes that differ by them.
use Rattle.std.proofs.Common.{◌≡◌, ℕ, Bool, true, false, not, List, Option, Some, None, refl, sym, ◌∙◌, ap, eq-eqb, eqb-true}
use Rattle.std.proofs.lemmas.Bool.Decides.{Decides-int_eq}
use Rattle.pc_word.specs.declared.item.Item.{Item}
use Rattle.pc_word.specs.declared.item.Item.TheVariants.{Bin, Copy, Load, Store, Print, Read, More}
use Rattle.pc_word.specs.declared.item.OpCode.{OpCode}
use Rattle.pc_word.specs.declared.item.Operand.{Operand}
use Rattle.pc_word.specs.declared.item.Operand.TheVariants.{Name, Lit}
use Rattle.pc_word.proofs.Truth.{and_true, and_made}
use Rattle.pc_flow.specs.declared.node.FlowNode.{FlowNode}
use Rattle.pc_flow.specs.declared.node.FlowNode.TheVariants.{Op, Test, Stop, Trap}
use Rattle.pc_scalar.specs.declared.rule.Rule.{Rule}
use Rattle.pc_scalar.specs.declared.rule.Rule.TheVariants.{CopiedNames, KnownValues}
use Rattle.pc_scalar.specs.models.Known.{same_operand, copied, holder, reused, rewritten_item, rewritten_operand, rewritten}
use Rattle.pc_scalar.specs.models.Counted.{first_operand, second_operand, same_if_any, same_operands, differs_from}

-- an operand is the same as itself
pub same_self : (operand : Operand) → same_operand operand operand ≡ true
same_self (Name name) = eq-eqb name name refl
same_self (Lit value) = (Decides-int_eq value value).1 refl

-- operands that are the same are one
same_is : (one other : Operand) → same_operand one other ≡ true → one ≡ other
same_is (Name one) (Name other) e = ap Name (eqb-true one other e)
same_is (Lit one) (Lit other) e = ap Lit ((Decides-int_eq one other).0 e)
same_is (Name one) (Lit other) e = absurd (cc)
same_is (Lit one) (Name other) e = absurd (cc)

same_if_any_self : (operand : Option Operand) → same_if_any operand operand ≡ true
same_if_any_self (Some operand) = same_self operand
same_if_any_self None = refl

same_operands_self : (item : Item) → same_operands item item ≡ true
same_operands_self item =
    and_made (same_if_any (first_operand item) (first_operand item)) (same_if_any (second_operand item) (second_operand item)) (same_if_any_self (first_operand item))
    (same_if_any_self (second_operand item))

-- a node does not differ from itself
pub differs_not : (node : FlowNode) → differs_from node node ≡ false
differs_not (Op item to) = ap not (same_operands_self item)
differs_not (Test on on_yes on_no turn) = ap not (same_self on)
differs_not Stop = refl
differs_not (Trap kind line) = refl

-- ---- a rewritten node that does not differ is the node

not_false : (b : Bool) → not b ≡ false → b ≡ true
not_false true e = refl
not_false false e = cc

reused_same : (known : Option ℕ) (op : OpCode) (dest : ℕ) (left right : Operand) → same_operands (Bin op dest left right) (reused known (Bin op dest left right) dest) ≡ true
    → reused known (Bin op dest left right) dest ≡ Bin op dest left right
reused_same None op dest left right e = refl
reused_same (Some name) op dest left right e = let parts = and_true (same_operand left (Name name)) false e in absurd (let none = parts.1 in cc)

item_same : (rule : Rule) (known : List (Option Item)) (item : Item) → same_operands item (rewritten_item rule known item) ≡ true → rewritten_item rule known item ≡ item
item_same CopiedNames known (Bin op dest left right) e =
    let parts = and_true (same_operand left (copied known left)) (same_operand right (copied known right)) e in
    ap (λ o. Bin op dest o (copied known right)) (sym (same_is left (copied known left) parts.0)) ∙ ap (Bin op dest left) (sym (same_is right (copied known right) parts.1))
item_same CopiedNames known (Copy dest from) e = ap (Copy dest) (sym (same_is from (copied known from) (and_true (same_operand from (copied known from)) true e).0))
item_same CopiedNames known (Load dest array index) e =
    ap (Load dest array) (sym (same_is index (copied known index) (and_true (same_operand index (copied known index)) true e).0))
item_same CopiedNames known (Store array index value) e =
    let parts = and_true (same_operand index (copied known index)) (same_operand value (copied known value)) e in
    ap (λ o. Store array o (copied known value)) (sym (same_is index (copied known index) parts.0)) ∙ ap (Store array index) (sym (same_is value (copied known value) parts.1))
item_same CopiedNames known (Print value) e = ap Print (sym (same_is value (copied known value) (and_true (same_operand value (copied known value)) true e).0))
item_same CopiedNames known (Read dest) e = refl
item_same CopiedNames known (More dest) e = refl
item_same KnownValues known (Bin op dest left right) e = reused_same (holder op left right known) op dest left right e
item_same KnownValues known (Copy dest from) e = refl
item_same KnownValues known (Load dest array index) e = refl
item_same KnownValues known (Store array index value) e = refl
item_same KnownValues known (Print value) e = refl
item_same KnownValues known (Read dest) e = refl
item_same KnownValues known (More dest) e = refl

pub rewritten_same : (rule : Rule) (known : List (Option Item)) (node : FlowNode) → differs_from node (rewritten rule known node) ≡ false → rewritten rule known node ≡ node
rewritten_same rule known (Op item to) e =
    ap (λ i. Op i to) (item_same rule known item (not_false (same_operands item (rewritten_item rule known item)) e))
rewritten_same rule known (Test on on_yes on_no turn) e =
    ap (λ o. Test o on_yes on_no turn) (sym (same_is on (rewritten_operand rule known on) (not_false (same_operand on (rewritten_operand rule known on)) e)))
rewritten_same rule known Stop e = refl
rewritten_same rule known (Trap kind line) e = refl
