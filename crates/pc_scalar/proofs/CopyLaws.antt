-- After copies were propagated, none is named that stands.
use Rattle.std.proofs.Common.{◌≡◌, ◌≢◌, inl, inr, ℕ, Bool, true, false, not, ◌||◌, List, length, Option, Some, None, refl, sym, ◌∙◌, ap, eq-eqb, eqb-true, true≢false}
use Rattle.std.specs.Prelude.{nat_eq, slice_get}
use Rattle.std.specs.List.{list_any}
use Rattle.pc_word.specs.Naming.{map_operands}
use Rattle.pc_word.specs.declared.item.Item.{Item}
use Rattle.pc_word.specs.declared.item.Item.TheVariants.{Bin, Copy, Load, Store, Print, Read, More}
use Rattle.pc_word.specs.declared.item.Operand.{Operand}
use Rattle.pc_word.specs.declared.item.Operand.TheVariants.{Name, Lit}
use Rattle.pc_word.specs.Items.{operands_of, dest_of, reads_name}
use Rattle.pc_word.proofs.Truth.{or_false, or_true}
use Rattle.pc_flow.specs.declared.node.FlowNode.{FlowNode}
use Rattle.pc_flow.specs.declared.node.FlowNode.TheVariants.{Op, Test, Stop, Trap}
use Rattle.pc_flow.specs.FlowGraph.{FlowGraph, variables}
use Rattle.pc_live.specs.Live.{node_reads}
use Rattle.pc_pass.specs.Pass.{Keeps}
use Rattle.pc_scalar.specs.declared.plan.Plan.{Plan}
use Rattle.pc_scalar.specs.declared.rule.Rule.TheVariants.{CopiedNames}
use Rattle.pc_scalar.specs.Copied.{NamesNoCopy}
use Rattle.pc_scalar.specs.LoopTests.{KeepsLoopTests}
use Rattle.pc_scalar.specs.Tally.{AreMany, IsWorkedOn}
use Rattle.pc_scalar.specs.models.Plan.{Fits, planned}
use Rattle.pc_scalar.specs.models.Known.{after, stays_true, source, copied, rewritten, KnownAt, At_head, Behind_item}
use Rattle.pc_scalar.specs.models.Rewriting.{IsRewriting}
use Rattle.pc_scalar.proofs.Knowing.{FromAfter, Was_known, Is_new, after_from}
use Rattle.pc_scalar.proofs.Rewritten.{none_there, rewriting_keeps, rewriting_keeps_tests, reached_before}
use Rattle.pc_scalar.proofs.Differing.{rewriting_counts}
use Rattle.pc_scalar.proofs.Standing.{rewriting_fits, stands_known, stands_small}

-- what a known copy was copied from is no known copy
pub record Resolved (known : List (Option Item)) : Type 0 where
  pub none : (x dest name other : ℕ) (from : Operand) → slice_get known x ≡ Some (Some (Copy dest (Name name))) → slice_get known name ≡ Some (Some (Copy other from)) → ⊥

module _ (known : List (Option Item)) (resolved : Resolved known) where
  final_source : (v : ℕ) (fact : Option (Option Item)) (name other : ℕ) (from : Operand) → slice_get known v ≡ fact → source fact v ≡ Name name
      → slice_get known name ≡ Some (Some (Copy other from)) → ⊥
  final_source v (Some (Some (Copy dest origin))) name other from e is there =
      resolved.none v dest name other from (e ∙ ap (λ (o : Operand). Some (Some (Copy dest o))) is) there
  final_source v None name other from e is there = let same : v ≡ name = (cc) in let both = ap (slice_get known) same in absurd (cc)
  final_source v (Some None) name other from e is there = let same : v ≡ name = (cc) in let both = ap (slice_get known) same in absurd (cc)
  final_source v (Some (Some (Bin op dest left right))) name other from e is there = let same : v ≡ name = (cc) in let both = ap (slice_get known) same in absurd (cc)
  final_source v (Some (Some (Load dest array index))) name other from e is there = let same : v ≡ name = (cc) in let both = ap (slice_get known) same in absurd (cc)
  final_source v (Some (Some (Store array index value))) name other from e is there = let same : v ≡ name = (cc) in let both = ap (slice_get known) same in absurd (cc)
  final_source v (Some (Some (Print value))) name other from e is there = let same : v ≡ name = (cc) in let both = ap (slice_get known) same in absurd (cc)
  final_source v (Some (Some (Read dest))) name other from e is there = let same : v ≡ name = (cc) in let both = ap (slice_get known) same in absurd (cc)
  final_source v (Some (Some (More dest))) name other from e is there = let same : v ≡ name = (cc) in let both = ap (slice_get known) same in absurd (cc)

  -- an operand that was put in is no known copy
  copied_final : (operand : Operand) (name other : ℕ) (from : Operand) → copied known operand ≡ Name name → slice_get known name ≡ Some (Some (Copy other from)) → ⊥
  copied_final (Name v) name other from is there = final_source v (slice_get known v) name other from refl is there
  copied_final (Lit value) name other from is there = cc

  -- an item that became a copy copies such an operand
  copied_copy : (item : Item) (dest name : ℕ) → map_operands (copied known) item ≡ Copy dest (Name name) → (operand : Operand) × (copied known operand ≡ Name name)
  copied_copy (Copy d from) dest name e = let same : copied known from ≡ Name name = (cc) in (from, same)
  copied_copy (Bin op d left right) dest name e = absurd (cc)
  copied_copy (Load d array index) dest name e = absurd (cc)
  copied_copy (Store array index value) dest name e = absurd (cc)
  copied_copy (Print value) dest name e = absurd (cc)
  copied_copy (Read d) dest name e = absurd (cc)
  copied_copy (More d) dest name e = absurd (cc)

  resolved_both : (item : Item) (x dest name other : ℕ) (from : Operand) → FromAfter (map_operands (copied known) item) known x (Copy dest (Name name))
      → FromAfter (map_operands (copied known) item) known name (Copy other from) → ⊥
  resolved_both item x dest name other from (Was_known there apart) (Was_known also more) = resolved.none x dest name other from there also
  resolved_both item x dest name other from (Was_known there apart) (Is_new written lasts same) =
      let touched = (or_false (nat_eq dest name) (nat_eq name name || false) (apart name written)).1 in
      true≢false (sym (eq-eqb name name refl) ∙ (or_false (nat_eq name name) false touched).0)
  resolved_both item x dest name other from (Is_new written lasts same) (Was_known also more) =
      let operand = copied_copy item dest name (sym same) in
      copied_final operand.0 name other from operand.1 also
  resolved_both item x dest name other from (Is_new written lasts same) (Is_new again still also) =
      let is_dest : Some dest ≡ Some name = ap dest_of same ∙ again in
      let dest_is : dest ≡ name = (cc) in
      let stays : not (nat_eq name dest) ≡ true = ap stays_true same ∙ lasts in
      true≢false (sym stays ∙ ap not (eq-eqb name dest (sym dest_is)))

  -- so it stays after one item more
  pub after_resolved : (item : Item) → Resolved (after (map_operands (copied known) item) known)
  after_resolved item = record {
    none = λ x dest name other from e h.
        resolved_both item x dest name other from (after_from (map_operands (copied known) item) known x (Copy dest (Name name)) e)
        (after_from (map_operands (copied known) item) known name (Copy other from) h);
  }

known_resolved : (flow : FlowGraph) (at : ℕ) (known : List (Option Item)) → KnownAt flow CopiedNames at known → Resolved known
known_resolved flow _ _ (At_head alone) = record { none = λ x dest name other from e h. none_there variables x (Copy dest (Name name)) e }
known_resolved flow _ _ (Behind_item {from = from} {known = known} {item = item} f there before) = after_resolved known (known_resolved flow from known before) item

-- ---- what a rewritten node names

is_name : (operand : Operand) (x : ℕ) → reads_name operand x ≡ true → operand ≡ Name x
is_name (Name name) x e = ap Name (eqb-true name x e)
is_name (Lit value) x e = absurd (cc)

-- some operand was put in that is this name
abbrev NamesBy : List (Option Item) → ℕ → Type 0
NamesBy known x = (operand : Operand) × (copied known operand ≡ Name x)

one_read : (known : List (Option Item)) (operand : Operand) (x : ℕ) → (reads_name (copied known operand) x || false) ≡ true → NamesBy known x
one_read known operand x e = elim (or_true (reads_name (copied known operand) x) false e) [
  | inl h ↦ (operand, is_name (copied known operand) x h)
  | inr h ↦ absurd (cc)
]

two_read : (known : List (Option Item)) (one other : Operand) (x : ℕ) → (reads_name (copied known one) x || (reads_name (copied known other) x || false)) ≡ true → NamesBy known x
two_read known one other x e = elim (or_true (reads_name (copied known one) x) (reads_name (copied known other) x || false) e) [
  | inl h ↦ (one, is_name (copied known one) x h)
  | inr h ↦ one_read known other x h
]

item_names : (known : List (Option Item)) (item : Item) (x : ℕ) → list_any (λ operand. reads_name operand x) (operands_of (map_operands (copied known) item)) ≡ true → NamesBy known x
item_names known (Bin op dest left right) x e = two_read known left right x e
item_names known (Copy dest from) x e = one_read known from x e
item_names known (Load dest array index) x e = one_read known index x e
item_names known (Store array index value) x e = two_read known index value x e
item_names known (Print value) x e = one_read known value x e
item_names known (Read dest) x e = absurd (cc)
item_names known (More dest) x e = absurd (cc)

node_names : (known : List (Option Item)) (node : FlowNode) (x : ℕ) → node_reads (rewritten CopiedNames known node) x ≡ true → NamesBy known x
node_names known (Op item to) x e = item_names known item x e
node_names known (Test on on_yes on_no turn) x e = (on, is_name (copied known on) x e)
node_names known Stop x e = absurd (cc)
node_names known (Trap kind line) x e = absurd (cc)

-- a copy of another operand lasts
copy_lasts : (name : ℕ) (from : Operand) → from ≢ Name name → stays_true (Copy name from) ≡ true
copy_lasts name from other = opposite (reads_name from name) refl
  where
    opposite : (b : Bool) → reads_name from name ≡ b → not b ≡ true
    opposite true e = absurd (other (is_name from name e))
    opposite false e = refl

pub copying_copies : (flow : FlowGraph) (plan : Plan) → IsRewriting flow CopiedNames plan → NamesNoCopy (planned plan flow)
copying_copies flow plan is = record {
  none = λ at name node from reached there reads other stands.
      let before = reached_before flow CopiedNames plan is at reached in
      let w = is.written at before in
      let made = w.stands in
      let same : node ≡ rewritten CopiedNames w.known w.node = (cc) in
      let named = node_names w.known w.node name (sym (ap (λ (n : FlowNode). node_reads n name) same) ∙ reads) in
      let small = stands_small flow CopiedNames plan is (Copy name from) name at refl stands in
      let is_known = stands_known flow CopiedNames plan is (Copy name from) name at (copy_lasts name from other) refl small stands w.known w.known_at in
      copied_final w.known (known_resolved flow at w.known w.known_at) named.0 name name from named.1 is_known;
}

pub copying_fits : (flow : FlowGraph) (plan : Plan) → IsRewriting flow CopiedNames plan → Fits flow plan
copying_fits flow plan is = rewriting_fits flow CopiedNames plan is

pub copying_keeps : (flow : FlowGraph) (plan : Plan) → IsRewriting flow CopiedNames plan → Keeps flow (planned plan flow)
copying_keeps flow plan is = rewriting_keeps flow CopiedNames plan is

pub copying_keeps_tests : (flow : FlowGraph) (plan : Plan) → IsRewriting flow CopiedNames plan → KeepsLoopTests flow (planned plan flow)
copying_keeps_tests flow plan is = rewriting_keeps_tests flow CopiedNames plan is

pub copying_counts : (flow : FlowGraph) (plan : Plan) → IsRewriting flow CopiedNames plan → AreMany (IsWorkedOn flow (planned plan flow)) (length flow.nodes) plan.changed
copying_counts flow plan is = rewriting_counts flow CopiedNames plan is

pub ruleset copy_laws = (copying_fits, copying_keeps, copying_copies, copying_keeps_tests, copying_counts)
