-- The nodes that differ where they are rewritten by what is known there: they are those that are counted.
use Rattle.std.proofs.Common.{◌≡◌, ◌≢◌, inl, inr, ℕ, zero, suc, false, List, length, replicate, Option, None, refl, sym, ◌∙◌, ap, subst}
use Rattle.std.specs.Prelude.{slice_get}
use Rattle.pc_word.specs.Naming.{map_operands}
use Rattle.pc_word.specs.declared.item.Item.{Item}
use Rattle.pc_word.specs.declared.item.Item.TheVariants.{Bin, Copy, Load, Store, Print, Read, More}
use Rattle.pc_word.specs.declared.item.OpCode.{OpCode}
use Rattle.pc_word.specs.declared.item.Operand.{Operand}
use Rattle.pc_word.specs.declared.item.Operand.TheVariants.{Name, Lit}
use Rattle.pc_flow.specs.declared.node.FlowNode.{FlowNode}
use Rattle.pc_flow.specs.declared.node.FlowNode.TheVariants.{Op, Test, Stop, Trap}
use Rattle.pc_flow.specs.FlowGraph.{FlowGraph, variables}
use Rattle.pc_flow.specs.Reachable.{IsReachableNode, Entry, Behind}
use Rattle.pc_scalar.specs.declared.plan.Plan.{Plan}
use Rattle.pc_scalar.specs.declared.rule.Rule.{Rule}
use Rattle.pc_scalar.specs.declared.rule.Rule.TheVariants.{CopiedNames, KnownValues}
use Rattle.pc_scalar.specs.LoopTests.{IsEdge}
use Rattle.pc_scalar.specs.Tally.{AreMany, without_edges, IsChangedNode, IsWorkedOn}
use Rattle.pc_scalar.specs.models.Counted.{Differ, differs_from, TellByOperands}
use Rattle.pc_scalar.specs.models.Plan.{planned}
use Rattle.pc_scalar.specs.models.Known.{source, copied, holder, reused, valued_item, rewritten_item, rewritten_operand, rewritten, none_known, KnownAt, At_head, Behind_item}
use Rattle.pc_scalar.specs.models.Rewriting.{Written, Rewrites, IsRewriting}
use Rattle.pc_scalar.proofs.Operands.{rewritten_same}
use Rattle.pc_scalar.proofs.Rewritten.{changed_edge}
use Rattle.pc_scalar.proofs.Tallies.{many_same}

-- ---- where nothing is known, a node stays as it is

none_source : (n at name : ℕ) → source (slice_get (replicate n (let none : Option Item = None in none)) at) name ≡ Name name
none_source zero at name = refl
none_source (suc n) zero name = refl
none_source (suc n) (suc at) name = none_source n at name

none_copied : (operand : Operand) → copied none_known operand ≡ operand
none_copied (Name name) = none_source variables name name
none_copied (Lit value) = refl

none_copied_item : (item : Item) → map_operands (copied none_known) item ≡ item
none_copied_item (Bin op dest left right) = ap (λ o. Bin op dest o (copied none_known right)) (none_copied left) ∙ ap (Bin op dest left) (none_copied right)
none_copied_item (Copy dest from) = ap (Copy dest) (none_copied from)
none_copied_item (Load dest array index) = ap (Load dest array) (none_copied index)
none_copied_item (Store array index value) = ap (λ o. Store array o (copied none_known value)) (none_copied index) ∙ ap (Store array index) (none_copied value)
none_copied_item (Print value) = ap Print (none_copied value)
none_copied_item (Read dest) = refl
none_copied_item (More dest) = refl

none_holder : (n : ℕ) (op : OpCode) (left right : Operand) → holder op left right (replicate n None) ≡ None
none_holder zero op left right = refl
none_holder (suc n) op left right = none_holder n op left right

none_valued_item : (item : Item) → valued_item none_known item ≡ item
none_valued_item (Bin op dest left right) = ap (λ h. reused h (Bin op dest left right) dest) (none_holder variables op left right)
none_valued_item (Copy dest from) = refl
none_valued_item (Load dest array index) = refl
none_valued_item (Store array index value) = refl
none_valued_item (Print value) = refl
none_valued_item (Read dest) = refl
none_valued_item (More dest) = refl

none_item : (rule : Rule) (item : Item) → rewritten_item rule none_known item ≡ item
none_item CopiedNames item = none_copied_item item
none_item KnownValues item = none_valued_item item

none_operand : (rule : Rule) (operand : Operand) → rewritten_operand rule none_known operand ≡ operand
none_operand CopiedNames operand = none_copied operand
none_operand KnownValues operand = refl

none_rewritten : (rule : Rule) (node : FlowNode) → rewritten rule none_known node ≡ node
none_rewritten rule (Op item to) = ap (λ i. Op i to) (none_item rule item)
none_rewritten rule (Test on on_yes on_no turn) = ap (λ o. Test o on_yes on_no turn) (none_operand rule on)
none_rewritten rule Stop = refl
none_rewritten rule (Trap kind line) = refl

-- so a node that differs can be reached
differing_reached : (flow : FlowGraph) (rule : Rule) (at : ℕ) (known : List (Option Item)) (node : FlowNode) → KnownAt flow rule at known → rewritten rule known node ≢ node
    → IsReachableNode flow at
differing_reached flow rule _ _ node (At_head alone) other = absurd (other (none_rewritten rule node))
differing_reached flow rule _ _ node (Behind_item f there before) other = Behind f.reached there refl

-- ---- which nodes differ tells by their operands

pub rewrites_tell : (flow : FlowGraph) (rule : Rule) (nodes : List FlowNode) → Rewrites flow rule nodes → TellByOperands flow.nodes nodes
rewrites_tell flow rule nodes is = record {
  as_many = is.as_many;
  each = λ at node other was stands alike. elim (is.each at node was) [
    | inl same ↦ let e : other ≡ node = (cc) in e
    | inr w ↦
        let there = w.there in
        let made = w.stands in
        let before : w.node ≡ node = (cc) in
        let after : rewritten rule w.known w.node ≡ other = (cc) in
        let kept = subst (λ (n : FlowNode). differs_from n (rewritten rule w.known w.node) ≡ false) (sym before) (subst (λ (n : FlowNode). differs_from node n ≡ false) (sym after) alike) in
        sym after ∙ rewritten_same rule w.known w.node kept ∙ before
  ];
}

-- ---- a node differs not only by its edges

same_item : (rule : Rule) (known : List (Option Item)) (node : FlowNode) → without_edges (rewritten rule known node) ≡ without_edges node → rewritten rule known node ≡ node
same_item rule known (Op item to) e = let same : rewritten_item rule known item ≡ item = (cc) in ap (λ i. Op i to) same
same_item rule known (Test on on_yes on_no turn) e = let same : rewritten_operand rule known on ≡ on = (cc) in ap (λ o. Test o on_yes on_no turn) same
same_item rule known Stop e = refl
same_item rule known (Trap kind line) e = refl

module _ (flow : FlowGraph) (rule : Rule) (plan : Plan) (is : IsRewriting flow rule plan) where
  abbrev new : FlowGraph
  new = planned plan flow

  -- no node is skipped
  none_skipped : (at : ℕ) → IsReachableNode flow at → at ≢ new.entry → ((from : ℕ) → IsReachableNode flow from → IsEdge new from at → ⊥) → ⊥
  none_skipped _ Entry not_entry led_past = not_entry (sym is.entry)
  none_skipped _ (Behind {from = from} {to = at} {node = node} reached there edge) not_entry led_past =
      let it = changed_edge flow rule plan is from at node there edge in
      led_past from reached (record { node = it.0; there = it.1; edge = it.2 })

  module _ (at : ℕ) (h : Differ flow.nodes plan.nodes at) where
    was_written : Written flow rule plan.nodes at
    was_written = elim (is.rewrites.each at h.before h.was) [
      | inl same ↦ let stands = h.stands in let e : h.after ≡ h.before = (cc) in absurd (h.other e)
      | inr w ↦ w
    ]

    differing_changed : IsChangedNode flow new at
    differing_changed =
        let w = was_written in
        let there = w.there in
        let was = h.was in
        let made = w.stands in
        let stands = h.stands in
        let before : w.node ≡ h.before = (cc) in
        let after : rewritten rule w.known w.node ≡ h.after = (cc) in
        let other : rewritten rule w.known w.node ≢ w.node = λ e. h.other (sym after ∙ e ∙ before) in
        record {
          reached = differing_reached flow rule at w.known w.node w.known_at other;
          before = h.before;
          after = h.after;
          was = h.was;
          stands = h.stands;
          other = λ e. other (same_item rule w.known w.node (ap without_edges after ∙ e ∙ sym (ap without_edges before)));
        }

  worked_differing : (at : ℕ) → IsWorkedOn flow new at → Differ flow.nodes plan.nodes at
  worked_differing at (inl h) = record { before = h.before; after = h.after; was = h.was; stands = h.stands; other = λ e. h.other (ap without_edges e) }
  worked_differing at (inr h) = absurd (none_skipped at h.reached h.not_entry h.led_past)

  -- as many nodes were changed or skipped as differ
  pub rewriting_counts : AreMany (IsWorkedOn flow new) (length flow.nodes) plan.changed
  rewriting_counts = many_same (Differ flow.nodes plan.nodes) (IsWorkedOn flow new) (λ at h. inl (differing_changed at h)) worked_differing (length flow.nodes) plan.changed is.changed
