-- A front that is emptied: the tree stays, and the next front is one that may be.
use Rattle.std.proofs.Common.{◌≡◌, ℕ, ◌≤◌, Bool, List, [], ◌∷◌, true, false, refl, sym, ◌∙◌, ap, subst, arith}
use Rattle.std.specs.Prelude.{◌-◌, if◌then◌else◌, nat_eq, nat_lt}
use Rattle.pc_word.specs.declared.item.Limits.{Limits}
use Rattle.pc_linear.specs.Form.{Form}
use Rattle.pc_window.specs.Tree.{Tree, Pending, Undecided, Front, Issued, Split, Unfinished, front_of}
use Rattle.pc_window.specs.Names.{Scoped}
use Rattle.pc_window.specs.Filled.{Independent, WithinLimits}
use Rattle.pc_window.specs.Steps.{Positive}
use Rattle.pc_window.proofs.Proper.{within_one, independent_one}
use Rattle.pc_moveop.specs.NodeTree.{NodeTree, Item_node, Test_node, Leads_to, Leads_out, whole_tree, node_front, node_size}
use Rattle.pc_unify.specs.Deleting.{node_deleted, item_deleted, in_own_nodes, as_front, first_node, front_left, without_item}
use Rattle.pc_unify.specs.models.Emptied.{left_size, emptied_size}

-- ---- the tree stays

own_tree : (t : NodeTree) → whole_tree (in_own_nodes t) ≡ whole_tree t
own_tree (Item_node tag origin item rest) = ap (Pending tag origin item) (own_tree rest)
own_tree (Test_node tag origin on p q) = λ i. Undecided tag origin on (own_tree p i) (own_tree q i)
own_tree (Leads_to below) = refl
own_tree (Leads_out out) = refl

as_front_tree : (t : NodeTree) → whole_tree (as_front t) ≡ whole_tree t
as_front_tree (Item_node tag origin item rest) = ap (Pending tag origin item) (own_tree rest)
as_front_tree (Test_node tag origin on p q) = λ i. Undecided tag origin on (own_tree p i) (own_tree q i)
as_front_tree (Leads_to below) = refl
as_front_tree (Leads_out out) = refl

first_tree : (t : NodeTree) → whole_tree (first_node t) ≡ whole_tree t
first_tree (Item_node tag origin item rest) = refl
first_tree (Test_node tag origin on p q) = refl
first_tree (Leads_to below) = first_tree below
first_tree (Leads_out out) = refl

left_tree : (t : NodeTree) → whole_tree (front_left t) ≡ whole_tree t
left_tree (Item_node tag origin item rest) = refl
left_tree (Test_node tag origin on p q) = refl
left_tree (Leads_to below) = as_front_tree (first_node below) ∙ first_tree below
left_tree (Leads_out out) = refl

pub without_tree : (path : List ℕ) (place : ℕ) (t : NodeTree) → whole_tree (without_item path place t) ≡ whole_tree (item_deleted path place t)
without_tree [] place t = left_tree (node_deleted place t)
without_tree (leaf ∷ path) place t = refl

-- ---- the next front

-- what stands below an item or a test is a leaf
own_leaf : (t : NodeTree) → node_front (in_own_nodes t) ≡ Unfinished (whole_tree t)
own_leaf (Item_node tag origin item rest) = ap (λ (r : Tree). Unfinished (Pending tag origin item r)) (own_tree rest)
own_leaf (Test_node tag origin on p q) = λ i. Unfinished (Undecided tag origin on (own_tree p i) (own_tree q i))
own_leaf (Leads_to below) = refl
own_leaf (Leads_out out) = refl

-- a front that does not hang on itself, and keeps its limits
abbrev MayBeFront : (ℕ → Form) → (ℕ → Bool) → Limits → Front → Type 0
MayBeFront forms known limits front = Independent forms known front × WithinLimits limits front

module _ (forms : ℕ → Form) (known : ℕ → Bool) (limits : Limits) (room : Positive limits) where
  one_alone : (tree : Tree) → Scoped known tree → MayBeFront forms known limits (front_of tree)
  one_alone tree scoped = (independent_one forms known tree scoped, within_one limits tree room)

  nothing : (tree : Tree) → MayBeFront forms known limits (Unfinished tree)
  nothing tree = (tt, record { items = omega arith; memory = omega arith; tests = omega arith })

  as_front_kept : (t : NodeTree) → Scoped known (whole_tree t) → MayBeFront forms known limits (node_front (as_front t))
  as_front_kept (Item_node tag origin item rest) scoped =
      subst (λ (f : Front). MayBeFront forms known limits (Issued tag origin item f)) (sym (own_leaf rest)) (one_alone (whole_tree (Item_node tag origin item rest)) scoped)
  as_front_kept (Test_node tag origin on p q) scoped =
      subst (λ (f : Front). MayBeFront forms known limits (Split tag origin on f (node_front (in_own_nodes q)))) (sym (own_leaf p))
      (subst (λ (f : Front). MayBeFront forms known limits (Split tag origin on (Unfinished (whole_tree p)) f)) (sym (own_leaf q))
      (one_alone (whole_tree (Test_node tag origin on p q)) scoped))
  as_front_kept (Leads_to below) scoped = nothing (whole_tree below)
  as_front_kept (Leads_out out) scoped = nothing out

  left_kept : (t : NodeTree) → Scoped known (whole_tree t) → MayBeFront forms known limits (node_front t) → MayBeFront forms known limits (node_front (front_left t))
  left_kept (Item_node tag origin item rest) scoped may = may
  left_kept (Test_node tag origin on p q) scoped may = may
  left_kept (Leads_to below) scoped may = as_front_kept (first_node below) (subst (Scoped known) (sym (first_tree below)) scoped)
  left_kept (Leads_out out) scoped may = may

  pub without_kept : (path : List ℕ) (place : ℕ) (t : NodeTree) → Scoped known (whole_tree (item_deleted path place t))
      → MayBeFront forms known limits (node_front (item_deleted path place t)) → MayBeFront forms known limits (node_front (without_item path place t))
  without_kept [] place t scoped may = left_kept (node_deleted place t) scoped may
  without_kept (leaf ∷ path) place t scoped may = may

-- ---- the boxes that are taken are enough

pub enough : (place : ℕ) (t : NodeTree) → left_size (node_deleted place t) ≤ emptied_size t
enough place (Item_node tag origin item rest) = by_place (nat_eq place 0)
  where
    by_place : (b : Bool) → left_size (if b then rest else Item_node tag origin item (node_deleted (place - 1) rest)) ≤ left_size rest
    by_place true = omega arith
    by_place false = omega arith
enough place (Test_node tag origin on p q) = by_place (nat_eq place 0) (nat_lt (place - 1) (node_size p))
  where
    by_place : (b on_yes : Bool) → left_size (if b then Test_node tag origin on p q else if on_yes then Test_node tag origin on (node_deleted (place - 1) p) q
        else Test_node tag origin on p (node_deleted (place - 1 - node_size p) q)) ≤ 0
    by_place true on_yes = omega arith
    by_place false true = omega arith
    by_place false false = omega arith
enough place (Leads_to below) = omega arith
enough place (Leads_out out) = omega arith
