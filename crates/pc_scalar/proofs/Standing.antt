-- What stands at a node of the rewritten graph is known there, and what is known there fits.
use Rattle.std.proofs.Common.{◌≡◌, ◌≢◌, inl, inr, ℕ, ◌<◌, Bool, true, false, List, length, map, Option, Some, None, refl, sym, ◌∙◌, ap, subst, arith, eq-eqb, true≢false}
use Rattle.std.specs.Prelude.{IfSome, if◌then◌else◌, nat_eq, slice_get, slice_set}
use Rattle.std.specs.List.{AllByRecursion, list_any}
use Rattle.std.proofs.lemmas.List.{length-map}
use Rattle.pc_word.specs.Naming.{map_operands}
use Rattle.pc_word.specs.declared.item.Item.{Item}
use Rattle.pc_word.specs.declared.item.Item.TheVariants.{Bin, Copy, Load, Store, Print, Read, More}
use Rattle.pc_word.specs.declared.item.OpCode.{OpCode}
use Rattle.pc_word.specs.declared.item.Operand.{Operand}
use Rattle.pc_word.specs.declared.item.Operand.TheVariants.{Name, Lit}
use Rattle.pc_word.specs.Items.{operands_of, dest_of, reads_name}
use Rattle.pc_word.specs.Commit.{writes}
use Rattle.pc_word.proofs.Truth.{or_false}
use Rattle.pc_flow.specs.declared.node.FlowNode.{FlowNode}
use Rattle.pc_flow.specs.declared.node.FlowNode.TheVariants.{Op, Test, Stop, Trap}
use Rattle.pc_flow.specs.FlowGraph.{FlowGraph, IsVariable, ItemFits, IsFlow, NodeFits, KeepsTurn, tested_loop, variables}
use Rattle.pc_flow.specs.Reachable.{IsReachableNode}
use Rattle.pc_scalar.specs.declared.plan.Plan.{Plan}
use Rattle.pc_scalar.specs.declared.rule.Rule.{Rule}
use Rattle.pc_scalar.specs.declared.rule.Rule.TheVariants.{CopiedNames, KnownValues}
use Rattle.pc_scalar.specs.Chain.{FollowsAlone, Stands, Just_done, Still, touched_by}
use Rattle.pc_scalar.specs.models.Plan.{Fits, planned}
use Rattle.pc_scalar.specs.models.Known.{kept, after_write, after, stays_true, source, copied, holder}
use Rattle.pc_scalar.specs.models.Known.{reused, valued_item, rewritten_item, rewritten_operand, rewritten, KnownAt, At_head, Behind_item}
use Rattle.pc_scalar.specs.models.Rewriting.{Written, IsRewriting}
use Rattle.pc_scalar.proofs.Chains.{keeps_turn}
use Rattle.pc_scalar.proofs.Rewrites.{known_once, known_length, of_item}
use Rattle.pc_scalar.proofs.Knowing.{Was_known, Is_new, after_from, holder_found}
use Rattle.pc_scalar.proofs.Rewritten.{none_there, rewritten_turn, reached_before, reached_after, changed_edge}
use Rattle.pc_word.proofs.Places.{map_at, set_there, set_elsewhere}

-- ---- what is known fits

-- the operands and the destination of each item that is known are there
pub record KnownFits (known : List (Option Item)) : Type 0 where
  pub reads : (x : ℕ) (item : Item) → slice_get known x ≡ Some (Some item) → AllByRecursion IsVariable (operands_of item)
  pub writes : (x : ℕ) (item : Item) → slice_get known x ≡ Some (Some item) → IfSome (dest_of item) (λ name. name < variables)

module _ (known : List (Option Item)) (fits : KnownFits known) where
  source_fits : (name : ℕ) (fact : Option (Option Item)) → slice_get known name ≡ fact → name < variables → IsVariable (source fact name)
  source_fits name None e small = small
  source_fits name (Some None) e small = small
  source_fits name (Some (Some (Copy dest from))) e small = (fits.reads name (Copy dest from) e).0
  source_fits name (Some (Some (Bin op dest left right))) e small = small
  source_fits name (Some (Some (Load dest array index))) e small = small
  source_fits name (Some (Some (Store array index value))) e small = small
  source_fits name (Some (Some (Print value))) e small = small
  source_fits name (Some (Some (Read dest))) e small = small
  source_fits name (Some (Some (More dest))) e small = small

  copied_fits : (operand : Operand) → IsVariable operand → IsVariable (copied known operand)
  copied_fits (Name name) small = source_fits name (slice_get known name) refl small
  copied_fits (Lit value) small = tt

  copied_item_fits : (arrays : ℕ) (item : Item) → ItemFits arrays item → ItemFits arrays (map_operands (copied known) item)
  copied_item_fits arrays (Bin op dest left right) h = record { reads = (copied_fits left h.reads.0, (copied_fits right h.reads.1.0, tt)); writes = h.writes; array = tt }
  copied_item_fits arrays (Copy dest from) h = record { reads = (copied_fits from h.reads.0, tt); writes = h.writes; array = tt }
  copied_item_fits arrays (Load dest array index) h = record { reads = (copied_fits index h.reads.0, tt); writes = h.writes; array = h.array }
  copied_item_fits arrays (Store array index value) h = record { reads = (copied_fits index h.reads.0, (copied_fits value h.reads.1.0, tt)); writes = tt; array = h.array }
  copied_item_fits arrays (Print value) h = record { reads = (copied_fits value h.reads.0, tt); writes = tt; array = tt }
  copied_item_fits arrays (Read dest) h = record { reads = tt; writes = h.writes; array = tt }
  copied_item_fits arrays (More dest) h = record { reads = tt; writes = h.writes; array = tt }

  reused_fits : (arrays : ℕ) (op : OpCode) (dest : ℕ) (left right : Operand) (found : Option ℕ) → holder op left right known ≡ found → ItemFits arrays (Bin op dest left right)
      → ItemFits arrays (reused found (Bin op dest left right) dest)
  reused_fits arrays op dest left right None e h = h
  reused_fits arrays op dest left right (Some name) e h =
      let it = holder_found op left right known name e in
      record {
        reads = (subst (λ (o : Option ℕ). IfSome o (λ n. n < variables)) it.dest (fits.writes it.at it.item it.there), tt);
        writes = h.writes;
        array = tt;
      }

  valued_item_fits : (arrays : ℕ) (item : Item) → ItemFits arrays item → ItemFits arrays (valued_item known item)
  valued_item_fits arrays (Bin op dest left right) h = reused_fits arrays op dest left right (holder op left right known) refl h
  valued_item_fits arrays (Copy dest from) h = h
  valued_item_fits arrays (Load dest array index) h = h
  valued_item_fits arrays (Store array index value) h = h
  valued_item_fits arrays (Print value) h = h
  valued_item_fits arrays (Read dest) h = h
  valued_item_fits arrays (More dest) h = h

  rewritten_item_fits : (rule : Rule) (arrays : ℕ) (item : Item) → ItemFits arrays item → ItemFits arrays (rewritten_item rule known item)
  rewritten_item_fits CopiedNames arrays item h = copied_item_fits arrays item h
  rewritten_item_fits KnownValues arrays item h = valued_item_fits arrays item h

  rewritten_operand_fits : (rule : Rule) (operand : Operand) → IsVariable operand → IsVariable (rewritten_operand rule known operand)
  rewritten_operand_fits CopiedNames operand h = copied_fits operand h
  rewritten_operand_fits KnownValues operand h = h

  rewritten_fits : (flow : FlowGraph) (rule : Rule) (at : ℕ) (node : FlowNode) → NodeFits flow at node → NodeFits flow at (rewritten rule known node)
  rewritten_fits flow rule at (Op item to) h = (rewritten_item_fits rule (length flow.arrays) item h.0, h.1)
  rewritten_fits flow rule at (Test on on_yes on_no turn) h = (rewritten_operand_fits rule on h.0, h.1)
  rewritten_fits flow rule at Stop h = h
  rewritten_fits flow rule at (Trap kind line) h = h

after_fits : (arrays : ℕ) (item : Item) (known : List (Option Item)) → KnownFits known → ItemFits arrays item → KnownFits (after item known)
after_fits arrays item known fits h = record {
  reads = λ x fact e. elim (after_from item known x fact e) [
    | Was_known there apart ↦ fits.reads x fact there
    | Is_new dest lasts same ↦ subst (λ (i : Item). AllByRecursion IsVariable (operands_of i)) (sym same) h.reads
  ];
  writes = λ x fact e. elim (after_from item known x fact e) [
    | Was_known there apart ↦ fits.writes x fact there
    | Is_new dest lasts same ↦ subst (λ (i : Item). IfSome (dest_of i) (λ n. n < variables)) (sym same) h.writes
  ];
}

known_fits : (flow : FlowGraph) (rule : Rule) (at : ℕ) (known : List (Option Item)) → IsFlow flow → KnownAt flow rule at known → KnownFits known
known_fits flow rule _ _ is (At_head none) =
    record { reads = λ x item e. absurd (none_there variables x item e); writes = λ x item e. absurd (none_there variables x item e) }
known_fits flow rule _ _ is (Behind_item {from = from} {at = at} {known = known} {item = item} f there before) =
    let fits = known_fits flow rule from known is before in
    after_fits (length flow.arrays) (rewritten_item rule known item) known fits
    (rewritten_item_fits known fits rule (length flow.arrays) item (is.nodes_fit from (Op item at) there).0)

module _ (flow : FlowGraph) (rule : Rule) (plan : Plan) (is : IsRewriting flow rule plan) where
  abbrev new : FlowGraph
  new = planned plan flow

  changed_fits : (at : ℕ) (old other : FlowNode) → slice_get flow.nodes at ≡ Some old → slice_get plan.nodes at ≡ Some other → NodeFits flow at other × KeepsTurn old other
  changed_fits at old other there stands = elim (is.rewrites.each at old there) [
    | inl same ↦
        let is_same : old ≡ other = (cc) in (
          subst (NodeFits flow at) is_same (is.is_flow.nodes_fit at old there),
          subst (KeepsTurn old) is_same (keeps_turn old old refl),
        )
    | inr w ↦
        let made = w.stands in
        let is_other : rewritten rule w.known w.node ≡ other = (cc) in
        let is_old : w.node ≡ old = (let a = w.there in cc) in
        let fits = known_fits flow rule at w.known is.is_flow w.known_at in (
          subst (NodeFits flow at) is_other (rewritten_fits w.known fits flow rule at w.node (is.is_flow.nodes_fit at w.node w.there)),
          subst (KeepsTurn old) is_other (keeps_turn old (rewritten rule w.known w.node) (rewritten_turn rule w.known w.node ∙ ap tested_loop is_old)),
        )
  ]

  -- the plan fits
  pub rewriting_fits : Fits flow plan
  rewriting_fits = record {
    nodes = record { as_many = is.rewrites.as_many; each = changed_fits };
    entry = rw is.entry is.is_flow.begins;
  }

  -- ---- what stands is known

  -- the item of which a rewritten one was made
  written_item : (from at : ℕ) (item : Item) (w : Written flow rule plan.nodes from) → slice_get new.nodes from ≡ Some (Op item at)
      → (old : Item) × (slice_get flow.nodes from ≡ Some (Op old at)) × (rewritten_item rule w.known old ≡ item)
  written_item from at item w there =
      let made = w.stands in
      let same : Op item at ≡ rewritten rule w.known w.node = (cc) in
      let of = of_item flow rule w.known from at item w.node w.there same in
      (of.old, of.there, of.is)

  -- what follows alone did so before
  follows_before : (from at : ℕ) → FollowsAlone new from at → FollowsAlone flow from at
  follows_before from at f =
      let reached = reached_before flow rule plan is from f.reached in
      let w = is.written from reached in
      let item = written_item from at f.item w f.there in
      record {
        reached = reached;
        item = item.0;
        there = item.1;
        not_entry = λ e. f.not_entry (e ∙ sym is.entry);
        only = λ other node h there edge.
            let it = changed_edge flow rule plan is other at node there edge in
            f.only other it.0 (reached_after flow rule plan is other h) it.1 it.2;
      }

  -- an item that lasts is known after it
  learnt_there : (item : Item) (d : ℕ) (known : List (Option Item)) → stays_true item ≡ true → dest_of item ≡ Some d → d < length known
      → slice_get (after item known) d ≡ Some (Some item)
  learnt_there item d known lasts dest low =
      let open_write : after item known ≡ after_write item (Some d) known = ap (λ (o : Option ℕ). after_write item o known) dest in
      let open_learn : after_write item (Some d) known ≡ slice_set (map (kept d) known) d (Some item) =
      ap (λ (b : Bool). if b then slice_set (map (kept d) known) d (Some item) else map (kept d) known) lasts in
      ap (λ (l : List (Option Item)). slice_get l d) (open_write ∙ open_learn)
      ∙ set_there (map (kept d) known) d (Some item) (omega (arith, low, length-map known (kept d)))

  still_learnt : (b : Bool) (other item : Item) (x d : ℕ) (known : List (Option Item)) → d ≢ x → slice_get (map (kept d) known) x ≡ Some (Some item)
      → slice_get (if b then slice_set (map (kept d) known) d (Some other) else map (kept d) known) x ≡ Some (Some item)
  still_learnt true other item x d known apart e = set_elsewhere (map (kept d) known) d x (Some other) apart ∙ e
  still_learnt false other item x d known apart e = e

  -- and is known while nothing touches it
  still_there : (other item : Item) (o : Option ℕ) (x : ℕ) (known : List (Option Item)) → dest_of item ≡ Some x → slice_get known x ≡ Some (Some item)
      → touched_by item o ≡ false → slice_get (after_write other o known) x ≡ Some (Some item)
  still_there other item None x known dest e apart = e
  still_there other item (Some d) x known dest e apart =
      let own = (or_false (writes (dest_of item) d) (list_any (λ operand. reads_name operand d) (operands_of item)) apart).0 in
      let names_apart : nat_eq x d ≡ false = sym (ap (λ (o : Option ℕ). writes o d) dest) ∙ own in
      let is_kept : kept d (Some item) ≡ Some item = ap (λ (b : Bool). if b then None else Some item) apart in
      still_learnt (stays_true other) other item x d known (λ same. true≢false (sym (eq-eqb x d (sym same)) ∙ names_apart))
      (map_at (kept d) known x (Some item) e ∙ ap (λ (f : Option Item). Some f) is_kept)

  -- what stands at a node is known there
  pub stands_known : (item : Item) (x at : ℕ) → stays_true item ≡ true → dest_of item ≡ Some x → x < variables → Stands new item at
      → (known : List (Option Item)) → KnownAt flow rule at known → slice_get known x ≡ Some (Some item)
  stands_known item x _ lasts dest small (Just_done {from = from} {at = at} there f) known known_at =
      let g = follows_before from at f in
      let w = is.written from g.reached in
      let old = written_item from at item w there in
      let is_known = known_once flow rule at (after (rewritten_item rule w.known old.0) w.known) known (Behind_item g old.1 w.known_at) known_at in
      let low : x < length w.known = subst (λ (n : ℕ). x < n) (sym (known_length flow rule from w.known w.known_at)) small in
      subst (λ (l : List (Option Item)). slice_get l x ≡ Some (Some item)) is_known
      (subst (λ (i : Item). slice_get (after i w.known) x ≡ Some (Some item)) (sym old.2) (learnt_there item x w.known lasts dest low))
  stands_known item x _ lasts dest small (Still {from = from} {at = at} {other = other} before there f apart) known known_at =
      let g = follows_before from at f in
      let w = is.written from g.reached in
      let old = written_item from at other w there in
      let is_known = known_once flow rule at (after (rewritten_item rule w.known old.0) w.known) known (Behind_item g old.1 w.known_at) known_at in
      let was = stands_known item x from lasts dest small before w.known w.known_at in
      subst (λ (l : List (Option Item)). slice_get l x ≡ Some (Some item)) is_known
      (subst (λ (i : Item). slice_get (after i w.known) x ≡ Some (Some item)) (sym old.2) (still_there other item (dest_of other) x w.known dest was apart))

  -- a node that can be reached fits
  pub new_fits : (at : ℕ) (node : FlowNode) → IsReachableNode flow at → slice_get new.nodes at ≡ Some node → NodeFits flow at node
  new_fits at node reached there = let w = is.written at reached in (changed_fits at w.node node w.there there).0

  -- what stands writes a variable
  pub stands_small : (item : Item) (x at : ℕ) → dest_of item ≡ Some x → Stands new item at → x < variables
  stands_small item x _ dest (Just_done {from = from} {at = at} there f) =
      let fits = (new_fits from (Op item at) (reached_before flow rule plan is from f.reached) there).0.writes in
      subst (λ (o : Option ℕ). IfSome o (λ n. n < variables)) dest fits
  stands_small item x _ dest (Still {from = from} {at = at} before there f apart) = stands_small item x from dest before
