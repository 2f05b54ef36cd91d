-- A deletion is a move that keeps a window proper, its walk and its forms.
use Rattle.std.proofs.Common.{◌≡◌, ℕ, ◌≤◌, Bool, true, false, List, [], ◌∷◌, Option, Some, None, length, refl, sym, ◌∙◌, ap, subst, arith}
use Rattle.std.specs.Prelude.{◌-◌, if◌then◌else◌, nat_eq, nat_lt}
use Rattle.pc_word.specs.declared.item.Item.{Item}
use Rattle.pc_word.specs.declared.item.Item.TheVariants.{Bin, Copy, Load, Store, Print, Read, More}
use Rattle.pc_word.specs.declared.item.Limits.{Limits}
use Rattle.pc_word.specs.declared.item.Operand.{Operand}
use Rattle.pc_word.specs.Items.{dest_of}
use Rattle.pc_linear.specs.Form.{Form}
use Rattle.pc_window.specs.declared.names.NameTable.{NameTable}
use Rattle.pc_window.specs.declared.window.Window.{Window as StoredWindow}
use Rattle.pc_window.specs.StoredWindow.{tree_in, forms_in, supply_in, window_in}
use Rattle.pc_window.specs.Tree.{Tree, Front, Issued, Split, Unfinished, whole}
use Rattle.pc_window.specs.Names.{and_dest, Scoped, uses}
use Rattle.pc_window.specs.Opening.{TreeBelow}
use Rattle.pc_window.specs.WindowRun.{Window}
use Rattle.pc_window.specs.Filled.{AllItems, Independent, item_count, memory_count, test_count, WithinLimits}
use Rattle.pc_window.specs.Conflict.{MayFollow}
use Rattle.pc_window.specs.Move.{is_deletable, IsUnused, Moves, Deletes, Below, On_yes_side, On_no_side}
use Rattle.pc_window.specs.Steps.{IsProper}
use Rattle.pc_window.proofs.Moving.{scoped_moved}
use Rattle.pc_window.proofs.Parameters.{scoped_parameters, independent_parameters}
use Rattle.pc_moveop.specs.declared.error.MoveError.TheVariants.{Depends}
use Rattle.pc_moveop.specs.NodeTree.{NodeTree, Item_node, Test_node, Leads_to, Leads_out, nodes_in, whole_tree, node_front, node_size, leaf_count, child_at, led_on, node_at}
use Rattle.pc_moveop.specs.Taking.{leaf_to}
use Rattle.pc_window.specs.Kept.{KeepsWalk}
use Rattle.pc_moveop.proofs.Fronts.{SameItems, Same_item, Same_test, Same_leaf, same_counts, same_independent, same_front}
use Rattle.pc_moveop.proofs.Moved.{node_window, walk_kept}
use Rattle.pc_moveop.proofs.Paths.{tree_same, whole_front}
use Rattle.pc_moveop.proofs.Rising.{leaf_front}
use Rattle.pc_moveop.proofs.Windows.{Keeps, stored_window}
use Rattle.pc_unify.specs.Deleting.{standing_at, used_below, refusal_of_item, refusal_of_standing, refusal_in_node, node_deleted, child_closed, item_deleted, without_item, IsDeleted}
use Rattle.pc_unify.proofs.NextFront.{without_tree, without_kept}

leaf_tree : (t : NodeTree) → whole_tree (leaf_to t) ≡ whole_tree t
leaf_tree (Item_node t o x rest) = refl
leaf_tree (Test_node t o on p q) = refl
leaf_tree (Leads_to below) = refl
leaf_tree (Leads_out out) = refl

-- ---- it is a move

unused : (name : ℕ) (rest : Tree) → used_below name rest ≡ None → uses rest name ≡ false
unused name rest e = by_test (uses rest name) e
  where
    by_test : (b : Bool) → (if b then Some (Depends name) else None) ≡ None → b ≡ false
    by_test true e = absurd (cc)
    by_test false e = refl

can_go : (x : Item) (rest : Tree) → refusal_of_item x rest ≡ None → (is_deletable x ≡ true) × IsUnused (dest_of x) rest
can_go (Bin op d l r) rest e = (refl, unused d rest e)
can_go (Copy d from) rest e = absurd (cc)
can_go (Load d a index) rest e = (refl, unused d rest e)
can_go (Store a index v) rest e = absurd (cc)
can_go (Print v) rest e = absurd (cc)
can_go (Read d) rest e = absurd (cc)
can_go (More d) rest e = (refl, unused d rest e)

module _ (forms : ℕ → Form) where
  abbrev pub Goes : (ℕ → Bool) → NodeTree → NodeTree → Type 0
  Goes known t u = Moves forms forms None known (whole_tree t) (whole_tree u)

  node_goes : (known : ℕ → Bool) (place : ℕ) (t : NodeTree) → refusal_of_standing (standing_at place t) ≡ None → Goes known t (node_deleted place t)
  node_goes known place (Item_node t o x rest) e =
      elim (nat_eq place 0) as (λ b. refusal_of_standing (if b then Some (record { item = x; rest = rest }) else standing_at (place - 1) rest) ≡ None
      → Goes known (Item_node t o x rest) (if b then rest else Item_node t o x (node_deleted (place - 1) rest))) [
        | true ↦ λ h. (let k = can_go x (whole_tree rest) h in Deletes known t o x (whole_tree rest) k.0 k.1 refl refl)
        | false ↦ λ h. Below known t o x (whole_tree rest) (whole_tree (node_deleted (place - 1) rest)) tt (node_goes (and_dest known x) (place - 1) rest h)
      ] e
  node_goes known place (Test_node t o on p q) e =
      elim (nat_eq place 0) as (λ b. refusal_of_standing
      (if b then None else (if nat_lt (place - 1) (node_size p) then standing_at (place - 1) p else standing_at (place - 1 - node_size p) q)) ≡ None
      → Goes known (Test_node t o on p q) (if b then Test_node t o on p q
      else (if nat_lt (place - 1) (node_size p) then Test_node t o on (node_deleted (place - 1) p) q else Test_node t o on p (node_deleted (place - 1 - node_size p) q)))) [
        | true ↦ λ h. absurd (cc)
        | false ↦ (elim (nat_lt (place - 1) (node_size p)) as (λ b. refusal_of_standing (if b then standing_at (place - 1) p else standing_at (place - 1 - node_size p) q) ≡ None
            → Goes known (Test_node t o on p q) (if b then Test_node t o on (node_deleted (place - 1) p) q else Test_node t o on p (node_deleted (place - 1 - node_size p) q))) [
              | true ↦ λ h. On_yes_side known t o on (whole_tree p) (whole_tree q) (whole_tree (node_deleted (place - 1) p)) tt (node_goes known (place - 1) p h)
              | false ↦ λ h. On_no_side known t o on (whole_tree p) (whole_tree q) (whole_tree (node_deleted (place - 1 - node_size p) q)) tt (node_goes known (place - 1 - node_size p) q h)
            ])
      ] e
  node_goes known place (Leads_to below) e = absurd (cc)
  node_goes known place (Leads_out out) e = absurd (cc)

  child_goes : (leaf : ℕ) (f : NodeTree → NodeTree) (next : NodeTree → Option NodeTree) (n : NodeTree) → ((c : NodeTree) (known : ℕ → Bool) → next c ≡ Some n → Goes known c (f c))
      → (t : NodeTree) (known : ℕ → Bool) → led_on (child_at leaf t) next ≡ Some n → Goes known t (child_closed leaf f t)
  child_goes leaf f next n goes (Item_node t o x rest) known at =
      Below known t o x (whole_tree rest) (whole_tree (child_closed leaf f rest)) tt (child_goes leaf f next n goes rest (and_dest known x) at)
  child_goes leaf f next n goes (Test_node t o on p q) known at =
      elim (nat_lt leaf (leaf_count p)) as (λ b. led_on (if b then child_at leaf p else child_at (leaf - leaf_count p) q) next ≡ Some n
      → Goes known (Test_node t o on p q) (if b then Test_node t o on (child_closed leaf f p) q else Test_node t o on p (child_closed (leaf - leaf_count p) f q))) [
        | true ↦ λ e. On_yes_side known t o on (whole_tree p) (whole_tree q) (whole_tree (child_closed leaf f p)) tt (child_goes leaf f next n goes p known e)
        | false ↦ λ e. On_no_side known t o on (whole_tree p) (whole_tree q) (whole_tree (child_closed (leaf - leaf_count p) f q)) tt (child_goes (leaf - leaf_count p) f next n goes q known e)
      ] at
  child_goes leaf f next n goes (Leads_to below) known at =
      elim (nat_eq leaf 0) as (λ b. led_on (if b then Some below else None) next ≡ Some n → Goes known (Leads_to below) (if b then leaf_to (f below) else Leads_to below)) [
        | true ↦ λ e. subst (λ (u : Tree). Moves forms forms None known (whole_tree below) u) (sym (leaf_tree (f below))) (goes below known e)
        | false ↦ λ e. absurd (cc)
      ] at
  child_goes leaf f next n goes (Leads_out out) known at = absurd (cc)

  path_goes : (path : List ℕ) (place : ℕ) (n t : NodeTree) (known : ℕ → Bool) → node_at path t ≡ Some n
      → refusal_of_standing (standing_at place n) ≡ None → Goes known t (item_deleted path place t)
  path_goes [] place n t known at e =
      let here : n ≡ t = cc in
      subst (λ (u : NodeTree). Goes known u (node_deleted place u)) here (node_goes known place n e)
  path_goes (leaf ∷ path) place n t known at e = child_goes leaf (item_deleted path place) (node_at path) n (λ c known' h. path_goes path place n c known' h e) t known at

-- ---- names stay below

node_below : (m place : ℕ) (t : NodeTree) → TreeBelow m (whole_tree t) → TreeBelow m (whole_tree (node_deleted place t))
node_below m place (Item_node t o x rest) h =
    elim (nat_eq place 0) as (λ b. TreeBelow m (whole_tree (if b then rest else Item_node t o x (node_deleted (place - 1) rest)))) [ true ↦ h.1 | false ↦ (h.0, node_below m (place - 1) rest h.1) ]
node_below m place (Test_node t o on p q) h =
    elim (nat_eq place 0) as (λ b. TreeBelow m (whole_tree (if b then Test_node t o on p q
    else (if nat_lt (place - 1) (node_size p) then Test_node t o on (node_deleted (place - 1) p) q else Test_node t o on p (node_deleted (place - 1 - node_size p) q))))) [
      | true ↦ h
      | false ↦ (elim (nat_lt (place - 1) (node_size p)) as
          (λ b. TreeBelow m (whole_tree (if b then Test_node t o on (node_deleted (place - 1) p) q else Test_node t o on p (node_deleted (place - 1 - node_size p) q)))) [
            | true ↦ (h.0, node_below m (place - 1) p h.1, h.2)
            | false ↦ (h.0, h.1, node_below m (place - 1 - node_size p) q h.2)
          ])
    ]
node_below m place (Leads_to below) h = h
node_below m place (Leads_out out) h = h

child_below : (m leaf : ℕ) (f : NodeTree → NodeTree) → ((c : NodeTree) → TreeBelow m (whole_tree c) → TreeBelow m (whole_tree (f c))) → (t : NodeTree) → TreeBelow m (whole_tree t)
    → TreeBelow m (whole_tree (child_closed leaf f t))
child_below m leaf f keeps (Item_node t o x rest) h = (h.0, child_below m leaf f keeps rest h.1)
child_below m leaf f keeps (Test_node t o on p q) h =
    elim (nat_lt leaf (leaf_count p)) as (λ b. TreeBelow m (whole_tree (if b then Test_node t o on (child_closed leaf f p) q else Test_node t o on p (child_closed (leaf - leaf_count p) f q)))) [
      | true ↦ (h.0, child_below m leaf f keeps p h.1, h.2)
      | false ↦ (h.0, h.1, child_below m (leaf - leaf_count p) f keeps q h.2)
    ]
child_below m leaf f keeps (Leads_to below) h =
    elim (nat_eq leaf 0) as (λ b. TreeBelow m (whole_tree (if b then leaf_to (f below) else Leads_to below))) [
      | true ↦ subst (TreeBelow m) (sym (leaf_tree (f below))) (keeps below h)
      | false ↦ h
    ]
child_below m leaf f keeps (Leads_out out) h = h

path_below : (m : ℕ) (path : List ℕ) (place : ℕ) (t : NodeTree) → TreeBelow m (whole_tree t) → TreeBelow m (whole_tree (item_deleted path place t))
path_below m [] place t h = node_below m place t h
path_below m (leaf ∷ path) place t h = child_below m leaf (item_deleted path place) (λ c k. path_below m path place c k) t h

-- ---- the front

all_deleted : (P : Item → Type 0) (place : ℕ) (t : NodeTree) → AllItems P (node_front t) → AllItems P (node_front (node_deleted place t))
all_deleted P place (Item_node t o x rest) h =
    elim (nat_eq place 0) as (λ b. AllItems P (node_front (if b then rest else Item_node t o x (node_deleted (place - 1) rest))))
    [ true ↦ h.1 | false ↦ (h.0, all_deleted P (place - 1) rest h.1) ]
all_deleted P place (Test_node t o on p q) h =
    elim (nat_eq place 0) as (λ b. AllItems P (node_front (if b then Test_node t o on p q
    else (if nat_lt (place - 1) (node_size p) then Test_node t o on (node_deleted (place - 1) p) q else Test_node t o on p (node_deleted (place - 1 - node_size p) q))))) [
      | true ↦ h
      | false ↦ (elim (nat_lt (place - 1) (node_size p)) as
          (λ b. AllItems P (node_front (if b then Test_node t o on (node_deleted (place - 1) p) q else Test_node t o on p (node_deleted (place - 1 - node_size p) q)))) [
            | true ↦ (all_deleted P (place - 1) p h.0, h.1)
            | false ↦ (h.0, all_deleted P (place - 1 - node_size p) q h.1)
          ])
    ]
all_deleted P place (Leads_to below) h = h
all_deleted P place (Leads_out out) h = h

free_deleted : (forms : ℕ → Form) (known : ℕ → Bool) (place : ℕ) (t : NodeTree) → Independent forms known (node_front t) → Independent forms known (node_front (node_deleted place t))
free_deleted forms known place (Item_node t o x rest) h =
    elim (nat_eq place 0) as (λ b. Independent forms known (node_front (if b then rest else Item_node t o x (node_deleted (place - 1) rest)))) [
      | true ↦ h.2
      | false ↦ (h.0, all_deleted (MayFollow forms x) (place - 1) rest h.1, free_deleted forms known (place - 1) rest h.2)
    ]
free_deleted forms known place (Test_node t o on p q) h =
    elim (nat_eq place 0) as (λ b. Independent forms known (node_front (if b then Test_node t o on p q
    else (if nat_lt (place - 1) (node_size p) then Test_node t o on (node_deleted (place - 1) p) q else Test_node t o on p (node_deleted (place - 1 - node_size p) q))))) [
      | true ↦ h
      | false ↦ (elim (nat_lt (place - 1) (node_size p)) as (λ b. Independent forms known (node_front (if b then Test_node t o on (node_deleted (place - 1) p) q
          else Test_node t o on p (node_deleted (place - 1 - node_size p) q)))) [
            | true ↦ (h.0, free_deleted forms known (place - 1) p h.1, h.2)
            | false ↦ (h.0, h.1, free_deleted forms known (place - 1 - node_size p) q h.2)
          ])
    ]
free_deleted forms known place (Leads_to below) h = h
free_deleted forms known place (Leads_out out) h = h

-- a front has no more of each kind than another
record NoMore (from to : Front) : Type 0 where
  items : item_count to ≤ item_count from
  memory : memory_count to ≤ memory_count from
  tests : test_count to ≤ test_count from

as_many : (f : Front) → NoMore f f
as_many f = record { items = omega arith; memory = omega arith; tests = omega arith }

more_item : (t o : ℕ) (x : Item) (from to : Front) → NoMore from to → NoMore (Issued t o x from) (Issued t o x to)
more_item t o x from to h = let a = h.items in let b = h.memory in let c = h.tests in record { items = omega arith; memory = omega arith; tests = omega arith }

one_less : (t o : ℕ) (x : Item) (rest : Front) → NoMore (Issued t o x rest) rest
one_less t o x rest = record { items = omega arith; memory = omega arith; tests = omega arith }

more_sides : (t o : ℕ) (on : Operand) (p q p' q' : Front) → NoMore p p' → NoMore q q' → NoMore (Split t o on p q) (Split t o on p' q')
more_sides t o on p q p' q' h k =
    let a = h.items in let b = h.memory in let c = h.tests in let d = k.items in let e = k.memory in let f = k.tests in
    record { items = omega arith; memory = omega arith; tests = omega arith }

no_more : (place : ℕ) (t : NodeTree) → NoMore (node_front t) (node_front (node_deleted place t))
no_more place (Item_node t o x rest) =
    elim (nat_eq place 0) as (λ b. NoMore (Issued t o x (node_front rest)) (node_front (if b then rest else Item_node t o x (node_deleted (place - 1) rest)))) [
      | true ↦ one_less t o x (node_front rest)
      | false ↦ more_item t o x (node_front rest) (node_front (node_deleted (place - 1) rest)) (no_more (place - 1) rest)
    ]
no_more place (Test_node t o on p q) =
    elim (nat_eq place 0) as (λ b. NoMore (Split t o on (node_front p) (node_front q)) (node_front (if b then Test_node t o on p q
    else (if nat_lt (place - 1) (node_size p) then Test_node t o on (node_deleted (place - 1) p) q else Test_node t o on p (node_deleted (place - 1 - node_size p) q))))) [
      | true ↦ as_many (Split t o on (node_front p) (node_front q))
      | false ↦ (elim (nat_lt (place - 1) (node_size p)) as (λ b. NoMore (Split t o on (node_front p) (node_front q)) (node_front (if b then Test_node t o on (node_deleted (place - 1) p) q
          else Test_node t o on p (node_deleted (place - 1 - node_size p) q)))) [
            | true ↦ more_sides t o on (node_front p) (node_front q) (node_front (node_deleted (place - 1) p)) (node_front q) (no_more (place - 1) p) (as_many (node_front q))
            | false ↦ more_sides t o on (node_front p) (node_front q) (node_front p)
                (node_front (node_deleted (place - 1 - node_size p) q)) (as_many (node_front p)) (no_more (place - 1 - node_size p) q)
          ])
    ]
no_more place (Leads_to below) = as_many (Unfinished (whole_tree below))
no_more place (Leads_out out) = as_many (Unfinished out)

front_closed : (leaf : ℕ) (f : NodeTree → NodeTree) (t : NodeTree) → SameItems (node_front t) (node_front (child_closed leaf f t))
front_closed leaf f (Item_node t o x rest) = Same_item t o x _ _ (front_closed leaf f rest)
front_closed leaf f (Test_node t o on p q) =
    elim (nat_lt leaf (leaf_count p)) as (λ b. SameItems (Split t o on (node_front p) (node_front q))
    (node_front (if b then Test_node t o on (child_closed leaf f p) q else Test_node t o on p (child_closed (leaf - leaf_count p) f q)))) [
      | true ↦ Same_test t o on _ _ _ _ (front_closed leaf f p) (same_front q)
      | false ↦ Same_test t o on _ _ _ _ (same_front p) (front_closed (leaf - leaf_count p) f q)
    ]
front_closed leaf f (Leads_to below) =
    elim (nat_eq leaf 0) as (λ b. SameItems (Unfinished (whole_tree below)) (node_front (if b then leaf_to (f below) else Leads_to below))) [
      | true ↦ subst (λ (g : Front). SameItems (Unfinished (whole_tree below)) g) (sym (leaf_front (f below))) (Same_leaf _ _)
      | false ↦ Same_leaf _ _
    ]
front_closed leaf f (Leads_out out) = Same_leaf _ _

front_kept : (forms : ℕ → Form) (known : ℕ → Bool) (limits : Limits) (path : List ℕ) (place : ℕ) (t : NodeTree)
    → Independent forms known (node_front t) → WithinLimits limits (node_front t)
    → Independent forms known (node_front (item_deleted path place t)) × WithinLimits limits (node_front (item_deleted path place t))
front_kept forms known limits [] place t free within =
    let m = no_more place t in
    let a = m.items in let b = m.memory in let c = m.tests in let d = within.items in let e = within.memory in let f = within.tests in
    (free_deleted forms known place t free, record { items = omega arith; memory = omega arith; tests = omega arith })
front_kept forms known limits (leaf ∷ path) place t free within =
    let same = front_closed leaf (item_deleted path place) t in (
      same_independent known forms forms (λ x is. refl) (node_front t) (node_front (item_deleted (leaf ∷ path) place t)) same free,
      same_counts limits (node_front t) (node_front (item_deleted (leaf ∷ path) place t)) same within,
    )

-- ---- the window

pub deletion_keeps : (w v : StoredWindow) (path : List ℕ) (place : ℕ) → IsDeleted w v path place
    → refusal_in_node place (node_at path (nodes_in w.tree)) ≡ None → IsProper (window_in w) → Keeps w v
deletion_keeps w v path place deleted legal proper = by_node (node_at path (nodes_in w.tree)) refl legal
  where
    t : NodeTree
    t = nodes_in w.tree

    forms : ℕ → Form
    forms = forms_in w.names.forms

    by_node : (n : Option NodeTree) → node_at path (nodes_in w.tree) ≡ n → refusal_in_node place n ≡ None → Keeps w v
    by_node None at e = absurd (cc)
    by_node (Some n) at e =
        let old = node_window t (supply_in w.names) w.limits w.inside in
        let known = uses (whole (node_front t)) in
        let d = item_deleted path place t in
        let u = without_item path place t in
        let kept : IsProper old = subst (λ (x : Window). IsProper x) (sym (stored_window w)) proper in
        let scoped : Scoped known (whole_tree t) = subst (Scoped known) (whole_front t) kept.window.scoped in
        let there : whole_tree d ≡ whole_tree u = sym (without_tree path place t) in
        let moves : Moves forms forms None known (whole_tree t) (whole_tree u) =
        subst (λ (x : Tree). Moves forms forms None known (whole_tree t) x) there (path_goes forms path place n t known at e) in
        let scoped_tree : Scoped known (whole_tree u) = scoped_moved forms forms None known (whole_tree t) (whole_tree u) moves scoped in
        let scoped' : Scoped known (whole (node_front u)) = subst (Scoped known) (sym (whole_front u)) scoped_tree in
        let front = without_kept forms known w.limits kept.room path place t (subst (Scoped known) (sym there) scoped_tree)
        (front_kept forms known w.limits path place t kept.window.independent kept.window.within) in
        let new : IsProper (node_window u (supply_in w.names) w.limits w.inside) = record {
          window = record {
            scoped = scoped_parameters (whole (node_front u)) known scoped';
            independent = independent_parameters forms known (node_front u) scoped' front.0;
            within = front.1;
          };
          room = kept.room;
          names_below = subst (TreeBelow (length w.names.forms)) (sym (whole_front u))
              (subst (TreeBelow (length w.names.forms)) there
              (path_below (length w.names.forms) path place t (subst (TreeBelow (length w.names.forms)) (whole_front t) kept.names_below)));
          forms_below = kept.forms_below;
        } in
        let walk : KeepsWalk forms (whole_tree t) forms (whole_tree u) = walk_kept forms forms None (whole_tree t) (whole_tree u)
        (subst (λ (x : Tree). Moves forms forms None (uses x) (whole_tree t) (whole_tree u)) (whole_front t) moves) tt
        (subst (λ (x : Tree). Scoped (uses x) (whole_tree t)) (whole_front t) scoped) in
        let to : whole_tree u ≡ tree_in v.tree = ap whole_tree (sym deleted.tree) ∙ tree_same v.tree in
        record {
          proper = subst (λ (x : Window). IsProper x)
              ((λ i. node_window (sym deleted.tree i) (supply_in (sym deleted.names i)) (sym deleted.bounds.limits i) (sym deleted.bounds.inside i)) ∙ stored_window v) new;
          walk = subst (λ (names : NameTable). KeepsWalk forms (tree_in w.tree) (forms_in names.forms) (tree_in v.tree)) (sym deleted.names)
              (subst (λ (x : Tree). KeepsWalk forms x forms (tree_in v.tree)) (tree_same w.tree) (subst (λ (x : Tree). KeepsWalk forms (whole_tree t) forms x) to walk));
        }
