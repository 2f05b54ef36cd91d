-- An item that is found rises out of its node.
use Rattle.std.proofs.Common.{◌≡◌, ℕ, Bool, true, false, [], Option, Some, None, refl, ◌∙◌, ap, subst}
use Rattle.std.specs.Prelude.{◌-◌, if◌then◌else◌, nat_eq, nat_lt}
use Rattle.pc_word.specs.declared.item.Item.{Item}
use Rattle.pc_word.specs.declared.item.Operand.{Operand}
use Rattle.pc_word.specs.Items.{dest_of}
use Rattle.pc_word.specs.Commit.{writes}
use Rattle.pc_linear.specs.Form.{Form}
use Rattle.pc_window.specs.Tree.{Tree, Pending, Undecided, Unfinished}
use Rattle.pc_window.specs.Names.{IsNew, and_dest, Scoped, Unwritten}
use Rattle.pc_window.specs.Conflict.{NoConflict}
use Rattle.pc_window.specs.Jump.{Rises, Root, Past_item, Past_yes, Past_no}
use Rattle.pc_window.specs.Rename.{mapped}
use Rattle.pc_window.proofs.Readiness.{alike, dest_named, clear_alike as conflict_alike, not_written_named}
use Rattle.pc_moveop.specs.NodeTree.{NodeTree, Item_node, Test_node, Leads_to, Leads_out, whole_tree, node_front, node_size}
use Rattle.pc_moveop.specs.Climbing.{Passed_item, Passed_test, Mover, passing, mover_in, crosses_test}
use Rattle.pc_moveop.specs.Taking.{nodes_mapped, node_without, leaf_to}
use Rattle.pc_moveop.proofs.Legal.{ClearItem, ClearWay}
use Rattle.pc_window.proofs.Rising.{new_to_either}
use Rattle.pc_window.proofs.Readiness.{not_written_known}
use Rattle.pc_word.specs.Naming.{map_operands, renamed, with_dest}

-- ---- renaming and leaves

pub tree_mapped : (f : Operand → Operand) (t : NodeTree) → mapped f (whole_tree t) ≡ whole_tree (nodes_mapped f t)
tree_mapped f (Item_node t o x rest) = ap (Pending t o (map_operands f x)) (tree_mapped f rest)
tree_mapped f (Test_node t o on p q) = λ i. Undecided t o (f on) (tree_mapped f p i) (tree_mapped f q i)
tree_mapped f (Leads_to below) = tree_mapped f below
tree_mapped f (Leads_out out) = refl

pub leaf_front : (t : NodeTree) → node_front (leaf_to t) ≡ Unfinished (whole_tree t)
leaf_front (Item_node t o x rest) = refl
leaf_front (Test_node t o on p q) = refl
leaf_front (Leads_to below) = refl
leaf_front (Leads_out out) = refl

clear_item : (forms : ℕ → Form) (x y : Item) → ClearItem forms x false y → NoConflict forms y x
clear_item forms x y h = record { no_dependence = h.order; one_effect = h.one_effect }

-- ---- with its own name, where it passes no test

module _ (forms : ℕ → Form) where
  abbrev pub RisesKept : (ℕ → Bool) → Tree → (Option ℕ → Tree) → Option Mover → Type 0
  RisesKept known from left None = Unit {0}
  RisesKept known from left (Some m) = ClearWay forms m.item m.way → crosses_test m ≡ false → Scoped known from
      → Rises forms m.tag m.origin m.item m.item false from (left (dest_of m.item)) × IsNew known (dest_of m.item)

  kept_past_item : (known : ℕ → Bool) (t o : ℕ) (y : Item) (rest : Tree) (left : Option ℕ → Tree) (found : Option Mover) → RisesKept (and_dest known y) rest left found
      → RisesKept known (Pending t o y rest) (λ d. Pending t o y (left d)) (passing (Passed_item false o y) found)
  kept_past_item known t o y rest left None h = tt
  kept_past_item known t o y rest left (Some m) h = λ clear crosses scoped. (
      let k = h clear.1 crosses scoped.2 in
      let new = new_to_either known y (dest_of m.item) k.1 in
      (Past_item t o y false rest (left (dest_of m.item)) (clear_item forms m.item y clear.0) new.1 k.0, new.0)
      )

  kept_past_test : (known : ℕ → Bool) (from : Tree) (left : Option ℕ → Tree) (found : Option Mover) → RisesKept known from left (passing Passed_test found)
  kept_past_test known from left None = tt
  kept_past_test known from left (Some m) = λ clear crosses scoped. absurd (let e : true ≡ false = crosses in cc)

  pub rises_kept : (known : ℕ → Bool) (place : ℕ) (t : NodeTree) → RisesKept known (whole_tree t) (λ d. whole_tree (node_without d place t)) (mover_in place t)
  rises_kept known place (Item_node t o y rest) =
      elim (nat_eq place 0) as (λ b. RisesKept known (Pending t o y (whole_tree rest))
      (λ d. whole_tree (if b then nodes_mapped (renamed (dest_of y) d) rest else Item_node t o y (node_without d (place - 1) rest)))
      (if b then Some (record { tag = t; origin = o; item = y; way = [] }) else passing (Passed_item false o y) (mover_in (place - 1) rest))) [
        | true ↦ λ clear crosses scoped. (
          subst (λ (u : Tree). Rises forms t o y y false (Pending t o y (whole_tree rest)) u) (tree_mapped (renamed (dest_of y) (dest_of y)) rest)
              (Root (whole_tree rest) (not_written_known y (whole_tree rest) known scoped.2)),
          scoped.1,
        )
        | false ↦ kept_past_item known t o y (whole_tree rest) (λ d. whole_tree (node_without d (place - 1) rest)) (mover_in (place - 1) rest) (rises_kept (and_dest known y) (place - 1) rest)
      ]
  rises_kept known place (Test_node t o on p q) =
      elim (nat_eq place 0) as (λ b. RisesKept known (Undecided t o on (whole_tree p) (whole_tree q)) (λ d. whole_tree (node_without d place (Test_node t o on p q)))
      (if b then None else (if nat_lt (place - 1) (node_size p) then passing Passed_test (mover_in (place - 1) p) else passing Passed_test (mover_in (place - 1 - node_size p) q)))) [
        | true ↦ tt
        | false ↦ (elim (nat_lt (place - 1) (node_size p)) as (λ b. RisesKept known (Undecided t o on (whole_tree p) (whole_tree q)) (λ d. whole_tree (node_without d place (Test_node t o on p q)))
            (if b then passing Passed_test (mover_in (place - 1) p) else passing Passed_test (mover_in (place - 1 - node_size p) q))) [
              | true ↦ kept_past_test known (Undecided t o on (whole_tree p) (whole_tree q)) (λ d. whole_tree (node_without d place (Test_node t o on p q))) (mover_in (place - 1) p)
              | false ↦ kept_past_test known (Undecided t o on (whole_tree p) (whole_tree q)) (λ d. whole_tree (node_without d place (Test_node t o on p q))) (mover_in (place - 1 - node_size p) q)
            ])
      ]
  rises_kept known place (Leads_to below) = tt
  rises_kept known place (Leads_out out) = tt

-- ---- with a name that is written nowhere

module _ (forms : ℕ → Form) (n : ℕ) where
  abbrev pub RisesNamed : Tree → (Option ℕ → Tree) → Option Mover → Type 0
  RisesNamed from left None = Unit {0}
  RisesNamed from left (Some m) = ClearWay forms m.item m.way → Unwritten n from
      → Rises forms m.tag m.origin m.item (with_dest n m.item) (crosses_test m) from (left (dest_of (with_dest n m.item)))

  named_past_item : (t o : ℕ) (y : Item) (rest : Tree) (left : Option ℕ → Tree) (found : Option Mover) → RisesNamed rest left found
      → RisesNamed (Pending t o y rest) (λ d. Pending t o y (left d)) (passing (Passed_item false o y) found)
  named_past_item t o y rest left None h = tt
  named_past_item t o y rest left (Some m) h = λ clear free.
      Past_item t o y (crosses_test m) rest (left (dest_of (with_dest n m.item)))
      (conflict_alike forms y m.item (with_dest n m.item) (alike n m.item) (clear_item forms m.item y clear.0))
      (dest_named n m.item (IsNew (writes (dest_of y))) free.0 tt) (h clear.1 free.1)

  named_past_yes : (t o : ℕ) (on : Operand) (p q : Tree) (left : Option ℕ → Tree) (found : Option Mover) → RisesNamed p left found
      → RisesNamed (Undecided t o on p q) (λ d. Undecided t o on (left d) q) (passing Passed_test found)
  named_past_yes t o on p q left None h = tt
  named_past_yes t o on p q left (Some m) h = λ clear free.
      Past_yes t o on (crosses_test m) p q (left (dest_of (with_dest n m.item))) ((alike n m.item).quiet ∙ clear.0) (not_written_named n m.item q free.1) (h clear.1 free.0)

  named_past_no : (t o : ℕ) (on : Operand) (p q : Tree) (left : Option ℕ → Tree) (found : Option Mover) → RisesNamed q left found
      → RisesNamed (Undecided t o on p q) (λ d. Undecided t o on p (left d)) (passing Passed_test found)
  named_past_no t o on p q left None h = tt
  named_past_no t o on p q left (Some m) h = λ clear free.
      Past_no t o on (crosses_test m) p q (left (dest_of (with_dest n m.item))) ((alike n m.item).quiet ∙ clear.0) (not_written_named n m.item p free.0) (h clear.1 free.1)

  pub rises_named : (place : ℕ) (t : NodeTree) → RisesNamed (whole_tree t) (λ d. whole_tree (node_without d place t)) (mover_in place t)
  rises_named place (Item_node t o y rest) =
      elim (nat_eq place 0) as (λ b. RisesNamed (Pending t o y (whole_tree rest))
      (λ d. whole_tree (if b then nodes_mapped (renamed (dest_of y) d) rest else Item_node t o y (node_without d (place - 1) rest)))
      (if b then Some (record { tag = t; origin = o; item = y; way = [] }) else passing (Passed_item false o y) (mover_in (place - 1) rest))) [
        | true ↦ λ clear free.
            subst (λ (u : Tree). Rises forms t o y (with_dest n y) false (Pending t o y (whole_tree rest)) u) (tree_mapped (renamed (dest_of y) (dest_of (with_dest n y))) rest)
            (Root (whole_tree rest) (not_written_named n y (whole_tree rest) free.1))
        | false ↦ named_past_item t o y (whole_tree rest) (λ d. whole_tree (node_without d (place - 1) rest)) (mover_in (place - 1) rest) (rises_named (place - 1) rest)
      ]
  rises_named place (Test_node t o on p q) =
      elim (nat_eq place 0) as (λ b. RisesNamed (Undecided t o on (whole_tree p) (whole_tree q))
      (λ d. whole_tree (if b then Test_node t o on p q else
      (if nat_lt (place - 1) (node_size p) then Test_node t o on (node_without d (place - 1) p) q else Test_node t o on p (node_without d (place - 1 - node_size p) q))))
      (if b then None else (if nat_lt (place - 1) (node_size p) then passing Passed_test (mover_in (place - 1) p) else passing Passed_test (mover_in (place - 1 - node_size p) q)))) [
        | true ↦ tt
        | false ↦ (elim (nat_lt (place - 1) (node_size p)) as (λ b. RisesNamed (Undecided t o on (whole_tree p) (whole_tree q))
            (λ d. whole_tree (if b then Test_node t o on (node_without d (place - 1) p) q else Test_node t o on p (node_without d (place - 1 - node_size p) q)))
            (if b then passing Passed_test (mover_in (place - 1) p) else passing Passed_test (mover_in (place - 1 - node_size p) q))) [
              | true ↦ named_past_yes t o on (whole_tree p) (whole_tree q) (λ d. whole_tree (node_without d (place - 1) p)) (mover_in (place - 1) p) (rises_named (place - 1) p)
              | false ↦ named_past_no t o on (whole_tree p) (whole_tree q) (λ d. whole_tree (node_without d (place - 1 - node_size p) q))
                  (mover_in (place - 1 - node_size p) q) (rises_named (place - 1 - node_size p) q)
            ])
      ]
  rises_named place (Leads_to below) = tt
  rises_named place (Leads_out out) = tt
