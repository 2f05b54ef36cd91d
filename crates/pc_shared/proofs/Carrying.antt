-- Trees that carry over from one store to another: where each node carries over, each tree does.
use Rattle.std.proofs.Common.{◌≡◌, ℕ, zero, suc, ◌+◌, Bool, List, Option, Some, None, is_some}
use Rattle.std.proofs.Common.{refl, ap, sym, subst, ◌∙◌, arith}
use Rattle.std.specs.Prelude.{IfSome}
use Rattle.pc_window.specs.declared.home.Home.{Home}
use Rattle.pc_arena.specs.Held.{value_at, Holds}
use Rattle.pc_shared.specs.declared.node.SharedNode.{SharedNode}
use Rattle.pc_shared.specs.declared.node.SharedNode.TheVariants as shared
use Rattle.pc_shared.specs.declared.store.Store.{Store}
use Rattle.pc_shared.specs.NodeTree.{NodeTree, Doing, Asking, Leading, Leaving}
use Rattle.pc_shared.specs.Links.{link_of}
use Rattle.pc_shared.specs.Unfolding.{listed_homes, node_tree, tree_at, NodeStands, Stands, Carries, KeepsTrees}
use Rattle.pc_shared.proofs.Standing.{link_below, node_is}

-- homes that are there stay as they are
abbrev pub HomesStay : Store → Store → Type 0
HomesStay old new = (id : ℕ) → Holds old.homes id → value_at new.homes id ≡ value_at old.homes id

module _ (old new : Store) (homes_stay : HomesStay old new) (A B : ℕ → Type 0) (f g : ℕ → NodeTree) where
  -- a node whose links all carry over
  pub node_carries : (node : Option SharedNode) → ((id : ℕ) → A id → B id × (f id ≡ g id)) → NodeStands old node A → NodeStands new node B
      × (node_tree new node f ≡ node_tree old node g)
  node_carries None all stands = absurd stands
  node_carries (Some (shared.Step tag origin item rest)) all stands = let r = all rest stands in (r.0, ap (Doing tag origin item) r.1)
  node_carries (Some (shared.Test tag origin on on_yes on_no)) all stands =
      let y = all on_yes stands.0 in
      let n = all on_no stands.1 in
      ((y.0, n.0), ap (λ (t : NodeTree). Asking tag origin on t (f on_no)) y.1 ∙ ap (Asking tag origin on (g on_yes)) n.1)
  node_carries (Some (shared.Node below)) all stands = let r = all below stands in (r.0, ap Leading r.1)
  node_carries (Some (shared.Exit region tag listed)) all stands =
      let same = homes_stay listed stands in
      (ap is_some same ∙ stands, ap (λ (l : Option (List Home)). Leaving region tag (listed_homes l)) same)
  node_carries (Some shared.Stop) all stands = (tt, refl)
  node_carries (Some (shared.Trap kind line)) all stands = (tt, refl)

module _ (old new : Store) (homes_stay : HomesStay old new) where
  -- a number that is to carry over has the same node
  pub carries_on : (most deep x y : ℕ) → value_at new.nodes y ≡ value_at old.nodes x → ((id : ℕ) → Carries old most id new deep id)
      → Carries old (suc most) x new (suc deep) y
  carries_on most deep x y is all = λ stands.
      node_is new deep y (value_at old.nodes x) (tree_at (suc most) old x) is
      (node_carries old new homes_stay (Stands most old) (Stands deep new) (tree_at deep new) (tree_at most old)
      (value_at old.nodes x) all stands)

-- ---- one store

homes_as_they_are : (store : Store) → HomesStay store store
homes_as_they_are store = λ id there. refl

one_deeper : (store : Store) (most id : ℕ) → Carries store most id store (suc most) id
one_deeper store zero id = λ stands. absurd stands
one_deeper store (suc most) id = carries_on store store (homes_as_they_are store) most (suc most) id id refl (one_deeper store most)

-- a tree that is no deeper than so many nodes is no deeper than more
pub deeper : (store : Store) (more most id : ℕ) → Carries store most id store (more + most) id
deeper store zero most id = λ stands. let same : most ≡ zero + most = omega arith in
    (subst (λ (d : ℕ). Stands d store id) same stands, sym (ap (λ (d : ℕ). tree_at d store id) same))
deeper store (suc more) most id = λ stands.
    let same : suc (more + most) ≡ suc more + most = omega arith in
    let below = deeper store more most id stands in
    let r = one_deeper store (more + most) id below.0 in
    (subst (λ (d : ℕ). Stands d store id) same r.0, sym (ap (λ (d : ℕ). tree_at d store id) same) ∙ r.1 ∙ below.1)

-- ---- all trees

pub keeps_itself : (store : Store) → KeepsTrees store store
keeps_itself store = record { same = λ most id stands. (stands, refl) }

pub keeps_both : (a b c : Store) → KeepsTrees a b → KeepsTrees b c → KeepsTrees a c
keeps_both a b c one two = record {
  same = λ most id stands.
      let first = one.same most id stands in
      let second = two.same most id first.0 in
      (second.0, second.1 ∙ first.1);
}

-- ---- what a node names

-- what a node that stands names on a side stands too
pub child_stands : (most : ℕ) (store : Store) (id : ℕ) (side : Bool) (node : SharedNode) (found : Option ℕ) → Stands most store id
    → value_at store.nodes id ≡ Some node → found ≡ link_of (Some node) side
    → IfSome found (λ child. Stands most store child)
child_stands zero store id side node found stands is link = absurd stands
child_stands (suc most) store id side node None stands is link = tt
child_stands (suc most) store id side node (Some child) stands is link =
    let at_id = ap (λ (n : Option SharedNode). link_of n side) is ∙ sym link in
    (one_deeper store most child (link_below store (value_at store.nodes id) side child (Stands most store) at_id stands)).0
