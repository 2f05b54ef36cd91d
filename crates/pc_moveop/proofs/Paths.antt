-- Nodes at the ends of paths, and nodes in their places.
use Rattle.std.proofs.Common.{◌≡◌, ℕ, suc, ◌+◌, ◌≤◌, true, false, List, [], ◌∷◌, Option, Some, None, refl, sym, ap, subst, arith}
use Rattle.std.specs.Prelude.{◌-◌, if◌then◌else◌, nat_eq, nat_lt}
use Rattle.pc_window.specs.declared.tree.WindowTree.{WindowTree}
use Rattle.pc_window.specs.declared.tree.WindowTree.TheVariants as stored
use Rattle.pc_window.specs.Tree.{Pending, Undecided, Issued, Split, Unfinished, whole, tree_size}
use Rattle.pc_window.specs.StoredWindow.{tree_in, front_in}
use Rattle.pc_moveop.specs.NodeTree.{NodeTree, Item_node, Test_node, Leads_to, Leads_out, nodes_in, whole_tree, node_front, leaf_count, child_at, led_on, node_at, child_changed, with_node}

-- ---- the same tree

pub tree_same : (t : WindowTree) → whole_tree (nodes_in t) ≡ tree_in t
tree_same (stored.Step' tag origin item p rest) = ap (Pending tag origin item) (tree_same rest)
tree_same (stored.Test' tag origin on p a q b) = λ i. Undecided tag origin on (tree_same a i) (tree_same b i)
tree_same (stored.Node' p below) = tree_same below
tree_same (stored.Exit region tag homes) = refl
tree_same stored.Stop = refl
tree_same (stored.Trap kind line) = refl

pub front_same : (t : WindowTree) → node_front (nodes_in t) ≡ front_in t
front_same (stored.Step' tag origin item p rest) = ap (Issued tag origin item) (front_same rest)
front_same (stored.Test' tag origin on p a q b) = λ i. Split tag origin on (front_same a i) (front_same b i)
front_same (stored.Node' p below) = ap Unfinished (tree_same below)
front_same (stored.Exit region tag homes) = refl
front_same stored.Stop = refl
front_same (stored.Trap kind line) = refl

pub whole_front : (t : NodeTree) → whole (node_front t) ≡ whole_tree t
whole_front (Item_node tag origin item rest) = ap (Pending tag origin item) (whole_front rest)
whole_front (Test_node tag origin on p q) = λ i. Undecided tag origin on (whole_front p i) (whole_front q i)
whole_front (Leads_to below) = refl
whole_front (Leads_out out) = refl

-- ---- below a leaf

pub count_kept : (leaf : ℕ) (f : NodeTree → NodeTree) (t : NodeTree) → leaf_count (child_changed leaf f t) ≡ leaf_count t
count_kept leaf f (Item_node tag origin x rest) = count_kept leaf f rest
count_kept leaf f (Test_node tag origin on p q) =
    elim (nat_lt leaf (leaf_count p)) as (λ b. leaf_count
    (if b then Test_node tag origin on (child_changed leaf f p) q else Test_node tag origin on p (child_changed (leaf - leaf_count p) f q)) ≡ leaf_count p + leaf_count q) [
      | true ↦ ap (λ (n : ℕ). n + leaf_count q) (count_kept leaf f p)
      | false ↦ ap (λ (n : ℕ). leaf_count p + n) (count_kept (leaf - leaf_count p) f q)
    ]
count_kept leaf f (Leads_to below) = elim (nat_eq leaf 0) as (λ b. leaf_count (if b then Leads_to (f below) else Leads_to below) ≡ 1) [ true ↦ refl | false ↦ refl ]
count_kept leaf f (Leads_out out) = refl

-- one change after another
child_again : (leaf : ℕ) (f g h : NodeTree → NodeTree) → ((n : NodeTree) → g (f n) ≡ h n) → (t : NodeTree) → child_changed leaf g (child_changed leaf f t) ≡ child_changed leaf h t
child_again leaf f g h same (Item_node tag origin x rest) = ap (Item_node tag origin x) (child_again leaf f g h same rest)
child_again leaf f g h same (Test_node tag origin on p q) =
    elim (nat_lt leaf (leaf_count p)) as (λ b. nat_lt leaf (leaf_count p) ≡ b
    → child_changed leaf g (if b then Test_node tag origin on (child_changed leaf f p) q else Test_node tag origin on p (child_changed (leaf - leaf_count p) f q))
    ≡ (if b then Test_node tag origin on (child_changed leaf h p) q else Test_node tag origin on p (child_changed (leaf - leaf_count p) h q))) [
      | true ↦ λ e. rw (count_kept leaf f p, e) (ap (λ (n : NodeTree). Test_node tag origin on n q) (child_again leaf f g h same p))
      | false ↦ λ e. rw e (ap (Test_node tag origin on p) (child_again (leaf - leaf_count p) f g h same q))
    ] refl
child_again leaf f g h same (Leads_to below) =
    elim (nat_eq leaf 0) as (λ b. nat_eq leaf 0 ≡ b → child_changed leaf g (if b then Leads_to (f below) else Leads_to below) ≡ (if b then Leads_to (h below) else Leads_to below)) [
      | true ↦ λ e. rw e (ap Leads_to (same below))
      | false ↦ λ e. rw e refl
    ] refl
child_again leaf f g h same (Leads_out out) = refl

-- what a changed leaf leads to
child_put : (leaf : ℕ) (f : NodeTree → NodeTree) (next : NodeTree → Option NodeTree) (n a : NodeTree) → ((c : NodeTree) → next c ≡ Some n → next (f c) ≡ Some a)
    → (t : NodeTree) → led_on (child_at leaf t) next ≡ Some n → led_on (child_at leaf (child_changed leaf f t)) next ≡ Some a
child_put leaf f next n a puts (Item_node tag origin x rest) at = child_put leaf f next n a puts rest at
child_put leaf f next n a puts (Test_node tag origin on p q) at =
    elim (nat_lt leaf (leaf_count p)) as (λ b. nat_lt leaf (leaf_count p) ≡ b → led_on (if b then child_at leaf p else child_at (leaf - leaf_count p) q) next ≡ Some n
    → led_on (child_at leaf (if b then Test_node tag origin on (child_changed leaf f p) q else Test_node tag origin on p (child_changed (leaf - leaf_count p) f q))) next ≡ Some a) [
      | true ↦ λ e h. rw (count_kept leaf f p, e) (child_put leaf f next n a puts p h)
      | false ↦ λ e h. rw e (child_put (leaf - leaf_count p) f next n a puts q h)
    ] refl at
child_put leaf f next n a puts (Leads_to below) at =
    elim (nat_eq leaf 0) as (λ b. nat_eq leaf 0 ≡ b → led_on (if b then Some below else None) next ≡ Some n
    → led_on (child_at leaf (if b then Leads_to (f below) else Leads_to below)) next ≡ Some a) [
      | true ↦ λ e h. rw e (puts below h)
      | false ↦ λ e h. absurd (cc)
    ] refl at
child_put leaf f next n a puts (Leads_out out) at = absurd (cc)

-- it is no greater than the whole
child_size : (leaf : ℕ) (next : NodeTree → Option NodeTree) (n : NodeTree) → ((c : NodeTree) → next c ≡ Some n → tree_size (whole_tree n) ≤ tree_size (whole_tree c))
    → (t : NodeTree) → led_on (child_at leaf t) next ≡ Some n → tree_size (whole_tree n) ≤ tree_size (whole_tree t)
child_size leaf next n fits (Item_node tag origin x rest) at = let h = child_size leaf next n fits rest at in omega arith
child_size leaf next n fits (Test_node tag origin on p q) at =
    elim (nat_lt leaf (leaf_count p)) as (λ b. led_on (if b then child_at leaf p else child_at (leaf - leaf_count p) q) next ≡ Some n
    → tree_size (whole_tree n) ≤ suc (tree_size (whole_tree p) + tree_size (whole_tree q))) [
      | true ↦ λ h. (let k = child_size leaf next n fits p h in omega arith)
      | false ↦ λ h. (let k = child_size (leaf - leaf_count p) next n fits q h in omega arith)
    ] at
child_size leaf next n fits (Leads_to below) at =
    elim (nat_eq leaf 0) as (λ b. led_on (if b then Some below else None) next ≡ Some n → tree_size (whole_tree n) ≤ tree_size (whole_tree below)) [
      | true ↦ λ h. fits below h
      | false ↦ λ h. absurd (cc)
    ] at
child_size leaf next n fits (Leads_out out) at = absurd (cc)

-- and a change makes the whole greater by no more than itself
child_grows : (leaf m : ℕ) (f : NodeTree → NodeTree) → ((c : NodeTree) → tree_size (whole_tree (f c)) ≤ tree_size (whole_tree c) + m)
    → (t : NodeTree) → tree_size (whole_tree (child_changed leaf f t)) ≤ tree_size (whole_tree t) + m
child_grows leaf m f grows (Item_node tag origin x rest) = let h = child_grows leaf m f grows rest in omega arith
child_grows leaf m f grows (Test_node tag origin on p q) =
    elim (nat_lt leaf (leaf_count p)) as
    (λ b. tree_size (whole_tree (if b then Test_node tag origin on (child_changed leaf f p) q else Test_node tag origin on p (child_changed (leaf - leaf_count p) f q)))
    ≤ suc (tree_size (whole_tree p) + tree_size (whole_tree q)) + m) [
      | true ↦ (let h = child_grows leaf m f grows p in omega arith)
      | false ↦ (let h = child_grows (leaf - leaf_count p) m f grows q in omega arith)
    ]
child_grows leaf m f grows (Leads_to below) =
    elim (nat_eq leaf 0) as (λ b. tree_size (whole_tree (if b then Leads_to (f below) else Leads_to below)) ≤ tree_size (whole_tree below) + m) [
      | true ↦ grows below
      | false ↦ omega arith
    ]
child_grows leaf m f grows (Leads_out out) = omega arith

-- ---- at the end of a path

pub put_again : (path : List ℕ) (a b t : NodeTree) → with_node path b (with_node path a t) ≡ with_node path b t
put_again [] a b t = refl
put_again (leaf ∷ path) a b t = child_again leaf (with_node path a) (with_node path b) (with_node path b) (put_again path a b) t

pub node_put : (path : List ℕ) (n a t : NodeTree) → node_at path t ≡ Some n → node_at path (with_node path a t) ≡ Some a
node_put [] n a t at = refl
node_put (leaf ∷ path) n a t at = child_put leaf (with_node path a) (node_at path) n a (λ c h. node_put path n a c h) t at

pub node_size_at : (path : List ℕ) (n t : NodeTree) → node_at path t ≡ Some n → tree_size (whole_tree n) ≤ tree_size (whole_tree t)
node_size_at [] n t at = let same : t ≡ n = cc in subst (λ (u : NodeTree). tree_size (whole_tree n) ≤ tree_size (whole_tree u)) (sym same) (omega arith)
node_size_at (leaf ∷ path) n t at = child_size leaf (node_at path) n (λ c h. node_size_at path n c h) t at

pub put_grows : (path : List ℕ) (a t : NodeTree) → tree_size (whole_tree (with_node path a t)) ≤ tree_size (whole_tree t) + tree_size (whole_tree a)
put_grows [] a t = omega arith
put_grows (leaf ∷ path) a t = child_grows leaf (tree_size (whole_tree a)) (with_node path a) (λ c. put_grows path a c) t
