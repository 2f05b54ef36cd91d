-- A move changes neither how many items and tests there are, nor that no node is empty.
use Rattle.std.proofs.Common.{◌≡◌, ℕ, suc, ◌+◌, true, false, List, [], ◌∷◌, Option, Some, None, length, refl, sym, ◌∙◌, ap, subst, arith}
use Rattle.std.specs.Prelude.{◌-◌, if◌then◌else◌, nat_eq, nat_lt}
use Rattle.pc_word.specs.declared.item.Operand.{Operand}
use Rattle.pc_word.specs.Items.{dest_of}
use Rattle.pc_window.specs.declared.window.Window.{Window as StoredWindow}
use Rattle.pc_window.specs.StoredWindow.{tree_in}
use Rattle.pc_window.specs.Tree.{tree_size}
use Rattle.pc_moveop.specs.NodeTree.{NodeTree, Item_node, Test_node, Leads_to, Leads_out, nodes_in, whole_tree, node_size}
use Rattle.pc_moveop.specs.NodeTree.{leaf_count, child_at, led_on, node_at, child_changed, with_node, HasRoot, NoEmptyNode}
use Rattle.pc_moveop.specs.Climbing.{Passed, Passed_item, Passed_test, Mover, passing, mover_in, mover_at}
use Rattle.pc_moveop.specs.Taking.{nodes_mapped, node_without, leaf_to, Coming, landed}
use Rattle.pc_moveop.specs.Refusing.{mover_behind}
use Rattle.pc_moveop.specs.Moving.{NodeChanges, coming_of, HasMoved}
use Rattle.pc_moveop.proofs.Paths.{tree_same}
use Rattle.pc_word.specs.Naming.{renamed}
use Rattle.pc_window.proofs.Sizes.{size_mapped}

-- ---- how many items and tests

pub mapped_size : (f : Operand → Operand) (t : NodeTree) → tree_size (whole_tree (nodes_mapped f t)) ≡ tree_size (whole_tree t)
mapped_size f (Item_node t o x rest) = ap suc (mapped_size f rest)
mapped_size f (Test_node t o on p q) = λ i. suc (mapped_size f p i + mapped_size f q i)
mapped_size f (Leads_to below) = mapped_size f below
mapped_size f (Leads_out out) = size_mapped f out

pub leaf_size : (t : NodeTree) → tree_size (whole_tree (leaf_to t)) ≡ tree_size (whole_tree t)
leaf_size (Item_node t o x rest) = refl
leaf_size (Test_node t o on p q) = refl
leaf_size (Leads_to below) = refl
leaf_size (Leads_out out) = refl

-- what is found is one less where it is taken out
abbrev pub OneLess : (Option ℕ → NodeTree) → ℕ → Option Mover → Type 0
OneLess left n None = Unit {0}
OneLess left n (Some m) = (d : Option ℕ) → suc (tree_size (whole_tree (left d))) ≡ n

less_passing : (left left' : Option ℕ → NodeTree) (n n' : ℕ) (what : Passed) (found : Option Mover)
    → ((d : Option ℕ) → suc (tree_size (whole_tree (left d))) ≡ n → suc (tree_size (whole_tree (left' d))) ≡ n') → OneLess left n found → OneLess left' n' (passing what found)
less_passing left left' n n' what None f h = tt
less_passing left left' n n' what (Some m) f h = λ d. f d (h d)

less_in : (place : ℕ) (t : NodeTree) → OneLess (λ d. node_without d place t) (tree_size (whole_tree t)) (mover_in place t)
less_in place (Item_node t o y rest) =
    elim (nat_eq place 0) as (λ b. OneLess (λ d. if b then nodes_mapped (renamed (dest_of y) d) rest else Item_node t o y (node_without d (place - 1) rest)) (suc (tree_size (whole_tree rest)))
    (if b then Some (record { tag = t; origin = o; item = y; way = [] }) else passing (Passed_item false o y) (mover_in (place - 1) rest))) [
      | true ↦ λ d. ap suc (mapped_size (renamed (dest_of y) d) rest)
      | false ↦ less_passing (λ d. node_without d (place - 1) rest) (λ d. Item_node t o y (node_without d (place - 1) rest)) (tree_size (whole_tree rest)) (suc (tree_size (whole_tree rest)))
          (Passed_item false o y) (mover_in (place - 1) rest) (λ d e. ap suc e) (less_in (place - 1) rest)
    ]
less_in place (Test_node t o on p q) =
    elim (nat_eq place 0) as (λ b. OneLess
    (λ d. if b then Test_node t o on p q else
    (if nat_lt (place - 1) (node_size p) then Test_node t o on (node_without d (place - 1) p) q else Test_node t o on p (node_without d (place - 1 - node_size p) q)))
    (suc (tree_size (whole_tree p) + tree_size (whole_tree q)))
    (if b then None else (if nat_lt (place - 1) (node_size p) then passing Passed_test (mover_in (place - 1) p) else passing Passed_test (mover_in (place - 1 - node_size p) q)))) [
      | true ↦ tt
      | false ↦ (elim (nat_lt (place - 1) (node_size p)) as (λ b. OneLess
          (λ d. if b then Test_node t o on (node_without d (place - 1) p) q else Test_node t o on p (node_without d (place - 1 - node_size p) q))
          (suc (tree_size (whole_tree p) + tree_size (whole_tree q)))
          (if b then passing Passed_test (mover_in (place - 1) p) else passing Passed_test (mover_in (place - 1 - node_size p) q))) [
            | true ↦ less_passing (λ d. node_without d (place - 1) p) (λ d. Test_node t o on (node_without d (place - 1) p) q)
                (tree_size (whole_tree p)) (suc (tree_size (whole_tree p) + tree_size (whole_tree q)))
                Passed_test (mover_in (place - 1) p) (λ d e. omega (arith, e)) (less_in (place - 1) p)
            | false ↦ less_passing (λ d. node_without d (place - 1 - node_size p) q) (λ d. Test_node t o on p (node_without d (place - 1 - node_size p) q)) (tree_size (whole_tree q))
                (suc (tree_size (whole_tree p) + tree_size (whole_tree q))) Passed_test (mover_in (place - 1 - node_size p) q) (λ d e. omega (arith, e)) (less_in (place - 1 - node_size p) q)
          ])
    ]
less_in place (Leads_to below) = tt
less_in place (Leads_out out) = tt

-- and as many are there once it has come
abbrev pub AsMany : (Coming → NodeTree) → ℕ → Option Mover → Type 0
AsMany to n None = Unit {0}
AsMany to n (Some m) = (c : Coming) → tree_size (whole_tree (to c)) ≡ n

many_passing : (to to' : Coming → NodeTree) (n n' : ℕ) (what : Passed) (found : Option Mover)
    → ((c : Coming) → tree_size (whole_tree (to c)) ≡ n → tree_size (whole_tree (to' c)) ≡ n') → AsMany to n found → AsMany to' n' (passing what found)
many_passing to to' n n' what None f h = tt
many_passing to to' n n' what (Some m) f h = λ c. f c (h c)

many_side : (to to' : Coming → NodeTree) (n n' : ℕ) (found : Option Mover)
    → ((c : Coming) → tree_size (whole_tree (to c)) ≡ n → tree_size (whole_tree (to' c)) ≡ n') → AsMany to n found → AsMany to' n' found
many_side to to' n n' None f h = tt
many_side to to' n n' (Some m) f h = λ c. f c (h c)

many_here : (place : ℕ) (below : NodeTree) (found : Option Mover) → OneLess (λ d. node_without d place below) (tree_size (whole_tree below)) found
    → AsMany (λ c. Item_node c.tag c.origin c.item (leaf_to (node_without (dest_of c.item) place below))) (tree_size (whole_tree below)) found
many_here place below None h = tt
many_here place below (Some m) h = λ c. ap suc (leaf_size (node_without (dest_of c.item) place below)) ∙ h (dest_of c.item)

many_at : (leaf place : ℕ) (t : NodeTree) → AsMany (λ c. landed c leaf place t) (tree_size (whole_tree t)) (mover_at leaf place t)
many_at leaf place (Item_node t o y rest) =
    many_passing (λ c. landed c leaf place rest) (λ c. Item_node t o y (landed c leaf place rest)) (tree_size (whole_tree rest)) (suc (tree_size (whole_tree rest))) (Passed_item true o y)
    (mover_at leaf place rest) (λ c e. ap suc e) (many_at leaf place rest)
many_at leaf place (Test_node t o on p q) =
    elim (nat_lt leaf (leaf_count p)) as (λ b. AsMany (λ c. if b then Test_node t o on (landed c leaf place p) q else Test_node t o on p (landed c (leaf - leaf_count p) place q))
    (suc (tree_size (whole_tree p) + tree_size (whole_tree q))) (if b then mover_at leaf place p else mover_at (leaf - leaf_count p) place q)) [
      | true ↦ many_side (λ c. landed c leaf place p) (λ c. Test_node t o on (landed c leaf place p) q) (tree_size (whole_tree p)) (suc (tree_size (whole_tree p) + tree_size (whole_tree q)))
          (mover_at leaf place p) (λ c e. omega (arith, e)) (many_at leaf place p)
      | false ↦ many_side (λ c. landed c (leaf - leaf_count p) place q) (λ c. Test_node t o on p (landed c (leaf - leaf_count p) place q)) (tree_size (whole_tree q))
          (suc (tree_size (whole_tree p) + tree_size (whole_tree q))) (mover_at (leaf - leaf_count p) place q) (λ c e. omega (arith, e)) (many_at (leaf - leaf_count p) place q)
    ]
many_at leaf place (Leads_to below) =
    elim (nat_eq leaf 0) as (λ b. AsMany (λ c. if b then Item_node c.tag c.origin c.item (leaf_to (node_without (dest_of c.item) place below)) else Leads_to below) (tree_size (whole_tree below))
    (if b then mover_in place below else None)) [
      | true ↦ many_here place below (mover_in place below) (less_in place below)
      | false ↦ tt
    ]
many_at leaf place (Leads_out out) = tt

-- a change of a node that keeps their number keeps it in the whole
child_many : (leaf : ℕ) (f : NodeTree → NodeTree) (next : NodeTree → Option NodeTree) (n : NodeTree)
    → ((c : NodeTree) → next c ≡ Some n → tree_size (whole_tree (f c)) ≡ tree_size (whole_tree c)) → (t : NodeTree) → led_on (child_at leaf t) next ≡ Some n
    → tree_size (whole_tree (child_changed leaf f t)) ≡ tree_size (whole_tree t)
child_many leaf f next n same (Item_node t o x rest) at = ap suc (child_many leaf f next n same rest at)
child_many leaf f next n same (Test_node t o on p q) at =
    elim (nat_lt leaf (leaf_count p)) as (λ b. led_on (if b then child_at leaf p else child_at (leaf - leaf_count p) q) next ≡ Some n
    → tree_size (whole_tree (if b then Test_node t o on (child_changed leaf f p) q else Test_node t o on p (child_changed (leaf - leaf_count p) f q))) ≡ suc
    (tree_size (whole_tree p) + tree_size (whole_tree q))) [
      | true ↦ λ e. ap (λ (k : ℕ). suc (k + tree_size (whole_tree q))) (child_many leaf f next n same p e)
      | false ↦ λ e. ap (λ (k : ℕ). suc (tree_size (whole_tree p) + k)) (child_many (leaf - leaf_count p) f next n same q e)
    ] at
child_many leaf f next n same (Leads_to below) at =
    elim (nat_eq leaf 0) as (λ b. led_on (if b then Some below else None) next ≡ Some n → tree_size (whole_tree (if b then Leads_to (f below) else Leads_to below)) ≡ tree_size (whole_tree below)) [
      | true ↦ λ e. same below e
      | false ↦ λ e. absurd (cc)
    ] at
child_many leaf f next n same (Leads_out out) at = absurd (cc)

node_many : (path : List ℕ) (n n' t : NodeTree) → node_at path t ≡ Some n
    → tree_size (whole_tree n') ≡ tree_size (whole_tree n) → tree_size (whole_tree (with_node path n' t)) ≡ tree_size (whole_tree t)
node_many [] n n' t at same = let here : n ≡ t = cc in same ∙ ap (λ (u : NodeTree). tree_size (whole_tree u)) here
node_many (leaf ∷ path) n n' t at same = child_many leaf (with_node path n') (node_at path) n (λ c e. node_many path n n' c e same) t at

-- ---- no node is empty

pub mapped_root : (f : Operand → Operand) (t : NodeTree) → HasRoot t → HasRoot (nodes_mapped f t)
mapped_root f (Item_node t o x rest) h = tt
mapped_root f (Test_node t o on p q) h = tt
mapped_root f (Leads_to below) h = h
mapped_root f (Leads_out out) h = h

pub mapped_nodes : (f : Operand → Operand) (t : NodeTree) → NoEmptyNode t → NoEmptyNode (nodes_mapped f t)
mapped_nodes f (Item_node t o x rest) h = mapped_nodes f rest h
mapped_nodes f (Test_node t o on p q) h = (mapped_nodes f p h.0, mapped_nodes f q h.1)
mapped_nodes f (Leads_to below) h = (mapped_root f below h.0, mapped_nodes f below h.1)
mapped_nodes f (Leads_out out) h = tt

pub leaf_nodes : (t : NodeTree) → NoEmptyNode t → NoEmptyNode (leaf_to t)
leaf_nodes (Item_node t o x rest) h = (tt, h)
leaf_nodes (Test_node t o on p q) h = (tt, h)
leaf_nodes (Leads_to below) h = h
leaf_nodes (Leads_out out) h = h

without_nodes : (d : Option ℕ) (place : ℕ) (t : NodeTree) → NoEmptyNode t → NoEmptyNode (node_without d place t)
without_nodes d place (Item_node t o y rest) h =
    elim (nat_eq place 0) as (λ b. NoEmptyNode (if b then nodes_mapped (renamed (dest_of y) d) rest else Item_node t o y (node_without d (place - 1) rest))) [
      | true ↦ mapped_nodes (renamed (dest_of y) d) rest h
      | false ↦ without_nodes d (place - 1) rest h
    ]
without_nodes d place (Test_node t o on p q) h =
    elim (nat_eq place 0) as (λ b. NoEmptyNode (if b then Test_node t o on p q else (if nat_lt (place - 1) (node_size p) then Test_node t o on (node_without d (place - 1) p) q
    else Test_node t o on p (node_without d (place - 1 - node_size p) q)))) [
      | true ↦ h
      | false ↦ (elim (nat_lt (place - 1) (node_size p)) as (λ b. NoEmptyNode (if b then Test_node t o on (node_without d (place - 1) p) q
          else Test_node t o on p (node_without d (place - 1 - node_size p) q))) [
            | true ↦ (without_nodes d (place - 1) p h.0, h.1)
            | false ↦ (h.0, without_nodes d (place - 1 - node_size p) q h.1)
          ])
    ]
without_nodes d place (Leads_to below) h = h
without_nodes d place (Leads_out out) h = h

landed_nodes : (c : Coming) (leaf place : ℕ) (t : NodeTree) → NoEmptyNode t → NoEmptyNode (landed c leaf place t)
landed_nodes c leaf place (Item_node t o y rest) h = landed_nodes c leaf place rest h
landed_nodes c leaf place (Test_node t o on p q) h =
    elim (nat_lt leaf (leaf_count p)) as (λ b. NoEmptyNode (if b then Test_node t o on (landed c leaf place p) q else Test_node t o on p (landed c (leaf - leaf_count p) place q))) [
      | true ↦ (landed_nodes c leaf place p h.0, h.1)
      | false ↦ (h.0, landed_nodes c (leaf - leaf_count p) place q h.1)
    ]
landed_nodes c leaf place (Leads_to below) h =
    elim (nat_eq leaf 0) as (λ b. NoEmptyNode (if b then Item_node c.tag c.origin c.item (leaf_to (node_without (dest_of c.item) place below)) else Leads_to below)) [
      | true ↦ leaf_nodes (node_without (dest_of c.item) place below) (without_nodes (dest_of c.item) place below h.1)
      | false ↦ h
    ]
landed_nodes c leaf place (Leads_out out) h = h

landed_root : (c : Coming) (leaf place : ℕ) (t : NodeTree) → HasRoot t → HasRoot (landed c leaf place t)
landed_root c leaf place (Item_node t o y rest) h = tt
landed_root c leaf place (Test_node t o on p q) h = elim (nat_lt leaf (leaf_count p)) as (λ b. HasRoot (if b then Test_node t o on (landed c leaf place p) q
    else Test_node t o on p (landed c (leaf - leaf_count p) place q))) [ true ↦ tt | false ↦ tt ]
landed_root c leaf place (Leads_to below) h = absurd h
landed_root c leaf place (Leads_out out) h = absurd h

-- a change of a node that keeps it keeps it in the whole
pub record KeepsNodes (n n' : NodeTree) : Type 0 where
  pub nodes : NoEmptyNode n → NoEmptyNode n'
  pub root : HasRoot n → HasRoot n'

child_root : (leaf : ℕ) (f : NodeTree → NodeTree) (t : NodeTree) → HasRoot t → HasRoot (child_changed leaf f t)
child_root leaf f (Item_node t o y rest) h = tt
child_root leaf f (Test_node t o on p q) h = elim (nat_lt leaf (leaf_count p)) as (λ b. HasRoot (if b then Test_node t o on (child_changed leaf f p) q
    else Test_node t o on p (child_changed (leaf - leaf_count p) f q))) [ true ↦ tt | false ↦ tt ]
child_root leaf f (Leads_to below) h = absurd h
child_root leaf f (Leads_out out) h = absurd h

child_nodes : (leaf : ℕ) (f : NodeTree → NodeTree) (next : NodeTree → Option NodeTree) (n : NodeTree) → ((c : NodeTree) → next c ≡ Some n → KeepsNodes c (f c))
    → (t : NodeTree) → led_on (child_at leaf t) next ≡ Some n → NoEmptyNode t → NoEmptyNode (child_changed leaf f t)
child_nodes leaf f next n keeps (Item_node t o x rest) at h = child_nodes leaf f next n keeps rest at h
child_nodes leaf f next n keeps (Test_node t o on p q) at h =
    elim (nat_lt leaf (leaf_count p)) as (λ b. led_on (if b then child_at leaf p else child_at (leaf - leaf_count p) q) next ≡ Some n
    → NoEmptyNode (if b then Test_node t o on (child_changed leaf f p) q else Test_node t o on p (child_changed (leaf - leaf_count p) f q))) [
      | true ↦ λ e. (child_nodes leaf f next n keeps p e h.0, h.1)
      | false ↦ λ e. (h.0, child_nodes (leaf - leaf_count p) f next n keeps q e h.1)
    ] at
child_nodes leaf f next n keeps (Leads_to below) at h =
    elim (nat_eq leaf 0) as (λ b. led_on (if b then Some below else None) next ≡ Some n → NoEmptyNode (if b then Leads_to (f below) else Leads_to below)) [
      | true ↦ λ e. (let k = keeps below e in (k.root h.0, k.nodes h.1))
      | false ↦ λ e. h
    ] at
child_nodes leaf f next n keeps (Leads_out out) at h = h

node_nodes : (path : List ℕ) (n n' t : NodeTree) → node_at path t ≡ Some n → KeepsNodes n n' → KeepsNodes t (with_node path n' t)
node_nodes [] n n' t at keeps = let here : n ≡ t = cc in subst (λ (u : NodeTree). KeepsNodes u n') here keeps
node_nodes (leaf ∷ path) n n' t at keeps = record {
  nodes = child_nodes leaf (with_node path n') (node_at path) n (λ c e. node_nodes path n n' c e keeps) t at;
  root = child_root leaf (with_node path n') t;
}

-- so where a node changes so, no node of the window is empty afterwards
pub changed_nodes : (before after : NodeTree) (path : List ℕ) (change : NodeTree → NodeTree) → (changes : NodeChanges before after path change) → KeepsNodes changes.node (change changes.node)
    → NoEmptyNode before → NoEmptyNode after
changed_nodes before after path change changes keeps h = subst NoEmptyNode (sym changes.tree) ((node_nodes path changes.node (change changes.node) before changes.at keeps).nodes h)

-- ---- a move of an item

pub moved_size : (w v : StoredWindow) (parent : List ℕ) (leaf place : ℕ) → HasMoved w v parent leaf place → tree_size (tree_in v.tree) ≡ tree_size (tree_in w.tree)
moved_size w v parent leaf place h =
    let n = h.changes.node in
    let found : mover_at leaf place n ≡ Some h.mover = sym (ap (mover_behind leaf place) h.changes.at) ∙ h.is_mover in
    let many = (subst (AsMany (λ c. landed c leaf place n) (tree_size (whole_tree n))) found (many_at leaf place n)) (coming_of (length w.names.forms) h.mover) in
    ap tree_size (sym (tree_same v.tree)) ∙ ap (λ (u : NodeTree). tree_size (whole_tree u)) h.changes.tree
    ∙ node_many parent n _ (nodes_in w.tree) h.changes.at many ∙ ap tree_size (tree_same w.tree)

pub moved_nodes : (w v : StoredWindow) (parent : List ℕ) (leaf place : ℕ) → HasMoved w v parent leaf place → NoEmptyNode (nodes_in w.tree) → NoEmptyNode (nodes_in v.tree)
moved_nodes w v parent leaf place h = changed_nodes (nodes_in w.tree) (nodes_in v.tree) parent (landed (coming_of (length w.names.forms) h.mover) leaf place) h.changes
    (record { nodes = landed_nodes (coming_of (length w.names.forms) h.mover) leaf place h.changes.node; root = landed_root (coming_of (length w.names.forms) h.mover) leaf place h.changes.node })
