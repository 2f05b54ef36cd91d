-- A front behind which a node changes.
use Rattle.std.proofs.Common.{◌≡◌, ℕ, suc, ◌+◌, Bool, true, false, refl, ap, arith}
use Rattle.std.specs.Prelude.{◌-◌, if◌then◌else◌, nat_eq, nat_lt}
use Rattle.pc_word.specs.declared.item.Item.{Item}
use Rattle.pc_word.specs.declared.item.Limits.{Limits}
use Rattle.pc_word.specs.declared.item.Operand.{Operand}
use Rattle.pc_word.specs.Items.{is_memory}
use Rattle.pc_linear.specs.Form.{Form}
use Rattle.pc_window.specs.Names.{ReadsKnown}
use Rattle.pc_window.specs.Conflict.{touch_of, MayFollow}
use Rattle.pc_window.specs.Tree.{Tree, Front, Issued, Split, Unfinished}
use Rattle.pc_window.specs.Filled.{AllItems, Independent, item_count, memory_count, test_count, WithinLimits}
use Rattle.pc_window.proofs.Fronts.{SameKnownForms, touch_known, store_dependence_same}
use Rattle.pc_moveop.specs.NodeTree.{NodeTree, Item_node, Test_node, Leads_to, Leads_out, whole_tree, node_front, leaf_count, child_changed}

-- ---- items stay

-- two fronts of the same items and tests, with other trees behind their leaves
pub data SameItems : Front → Front → Type 0 where
  Same_item : (t o : ℕ) (x : Item) (rest rest' : Front) → SameItems rest rest' → SameItems (Issued t o x rest) (Issued t o x rest')
  Same_test : (t o : ℕ) (on : Operand) (p q p' q' : Front) → SameItems p p' → SameItems q q' → SameItems (Split t o on p q) (Split t o on p' q')
  Same_leaf : (rest rest' : Tree) → SameItems (Unfinished rest) (Unfinished rest')

pub same_front : (t : NodeTree) → SameItems (node_front t) (node_front t)
same_front (Item_node t o x rest) = Same_item t o x _ _ (same_front rest)
same_front (Test_node t o on p q) = Same_test t o on _ _ _ _ (same_front p) (same_front q)
same_front (Leads_to below) = Same_leaf _ _
same_front (Leads_out out) = Same_leaf _ _

pub front_changed : (leaf : ℕ) (f : NodeTree → NodeTree) (t : NodeTree) → SameItems (node_front t) (node_front (child_changed leaf f t))
front_changed leaf f (Item_node t o x rest) = Same_item t o x _ _ (front_changed leaf f rest)
front_changed leaf f (Test_node t o on p q) =
    elim (nat_lt leaf (leaf_count p)) as (λ b. SameItems (Split t o on (node_front p) (node_front q))
    (node_front (if b then Test_node t o on (child_changed leaf f p) q else Test_node t o on p (child_changed (leaf - leaf_count p) f q)))) [
      | true ↦ Same_test t o on _ _ _ _ (front_changed leaf f p) (same_front q)
      | false ↦ Same_test t o on _ _ _ _ (same_front p) (front_changed (leaf - leaf_count p) f q)
    ]
front_changed leaf f (Leads_to below) =
    elim (nat_eq leaf 0) as (λ b. SameItems (Unfinished (whole_tree below)) (node_front (if b then Leads_to (f below) else Leads_to below))) [
      | true ↦ Same_leaf _ _
      | false ↦ Same_leaf _ _
    ]
front_changed leaf f (Leads_out out) = Same_leaf _ _

items_same : (from to : Front) → SameItems from to → item_count to ≡ item_count from
items_same from to (Same_item t o x rest rest' s) = ap suc (items_same rest rest' s)
items_same from to (Same_test t o on p q p' q' s r) = λ i. items_same p p' s i + items_same q q' r i
items_same from to (Same_leaf rest rest') = refl

memory_same : (from to : Front) → SameItems from to → memory_count to ≡ memory_count from
memory_same from to (Same_item t o x rest rest' s) = ap (λ (n : ℕ). (if is_memory x then 1 else 0) + n) (memory_same rest rest' s)
memory_same from to (Same_test t o on p q p' q' s r) = λ i. memory_same p p' s i + memory_same q q' r i
memory_same from to (Same_leaf rest rest') = refl

tests_same : (from to : Front) → SameItems from to → test_count to ≡ test_count from
tests_same from to (Same_item t o x rest rest' s) = tests_same rest rest' s
tests_same from to (Same_test t o on p q p' q' s r) = λ i. suc (tests_same p p' s i + tests_same q q' r i)
tests_same from to (Same_leaf rest rest') = refl

-- such fronts have the same counts
pub same_counts : (limits : Limits) (from to : Front) → SameItems from to → WithinLimits limits from → WithinLimits limits to
same_counts limits from to same h = record {
  items = let a = h.items in let b = items_same from to same in omega arith;
  memory = let a = h.memory in let b = memory_same from to same in omega arith;
  tests = let a = h.tests in let b = tests_same from to same in omega arith;
}

-- and none hangs on itself where the other does not
module _ (known : ℕ → Bool) (forms forms' : ℕ → Form) (same : SameKnownForms known forms forms') where
  same_follow : (y : Item) → ReadsKnown known y → (from to : Front) → SameItems from to
      → Independent forms known from → AllItems (MayFollow forms y) from → AllItems (MayFollow forms' y) to
  same_follow y reads from to (Same_item t o x rest rest' s) free h = (
    record {
      no_store_dependence = store_dependence_same known forms forms' same (touch_of y) (touch_of x) (touch_known known y reads) (touch_known known x free.0) h.0.no_store_dependence;
      one_effect = h.0.one_effect;
    },
    same_follow y reads rest rest' s free.2 h.1,
  )
  same_follow y reads from to (Same_test t o on p q p' q' s r) free h = (same_follow y reads p p' s free.1 h.0, same_follow y reads q q' r free.2 h.1)
  same_follow y reads from to (Same_leaf rest rest') free h = tt

  pub same_independent : (from to : Front) → SameItems from to → Independent forms known from → Independent forms' known to
  same_independent from to (Same_item t o x rest rest' s) free = (free.0, same_follow x free.0 rest rest' s free.2 free.1, same_independent rest rest' s free.2)
  same_independent from to (Same_test t o on p q p' q' s r) free = (free.0, same_independent p p' s free.1, same_independent q q' r free.2)
  same_independent from to (Same_leaf rest rest') free = tt
