-- A copy in the place of a shared node changes no tree.
use Rattle.std.proofs.Common.{Bool, IsSome, None, Option, Some, ap, false, inl, inr, refl, subst, suc, sym, true, zero, ℕ, ◌∙◌, ◌≡◌}
use Rattle.std.proofs.lemmas.Bool.{cases_eq}
use Rattle.std.specs.FinMap.{get, insert}
use Rattle.pc_arena.specs.Held.{Held, value_at, Holds}
use Rattle.pc_shared.specs.declared.node.SharedNode.{SharedNode}
use Rattle.pc_shared.specs.declared.node.SharedNode.TheVariants as shared
use Rattle.pc_shared.specs.declared.store.Store.{Store}
use Rattle.pc_shared.specs.NodeTree.{NodeTree, Doing, Asking, Leading}
use Rattle.pc_shared.specs.Links.{link_of, relinked}
use Rattle.pc_shared.specs.Unfolding.{node_tree, tree_at, NodeStands, Stands, Carries, KeepsTrees}
use Rattle.pc_shared.specs.Owning.{Owns}
use Rattle.pc_shared.proofs.Standing.{stands_there, link_below, node_is}
use Rattle.pc_shared.proofs.Carrying.{HomesStay, carries_on}
use Rattle.pc_shared.proofs.Growing.{there_differs, get_other, get_same}

same_link : (a b : ℕ) → Some a ≡ Some b → a ≡ b
same_link a b e = cc

-- a node of which one link leads to the copy
module _ (old new : Store) (A B : ℕ → Type 0) (f g : ℕ → NodeTree) where
  relinked_carries : (node : Option SharedNode) (side : Bool) (child copy : ℕ) → link_of node side ≡ Some child
      → ((id : ℕ) → A id → B id × (f id ≡ g id)) → (A child → B copy × (f copy ≡ g child))
      → NodeStands old node A → NodeStands new (relinked node side copy) B
      × (node_tree new (relinked node side copy) f ≡ node_tree old node g)
  relinked_carries None side child copy is all one stands = absurd stands
  relinked_carries (Some (shared.Step tag origin item rest)) side child copy is all one stands =
      let same = same_link rest child is in
      let r = one (subst A same stands) in
      (r.0, ap (Doing tag origin item) (r.1 ∙ ap g (sym same)))
  relinked_carries (Some (shared.Test tag origin on on_yes on_no)) true child copy is all one stands =
      let same = same_link on_yes child is in
      let y = one (subst A same stands.0) in
      let n = all on_no stands.1 in (
        (y.0, n.0),
        ap (λ (t : NodeTree). Asking tag origin on t (f on_no)) (y.1 ∙ ap g (sym same))
            ∙ ap (Asking tag origin on (g on_yes)) n.1,
      )
  relinked_carries (Some (shared.Test tag origin on on_yes on_no)) false child copy is all one stands =
      let same = same_link on_no child is in
      let y = all on_yes stands.0 in
      let n = one (subst A same stands.1) in (
        (y.0, n.0),
        ap (λ (t : NodeTree). Asking tag origin on t (f copy)) y.1
            ∙ ap (Asking tag origin on (g on_yes)) (n.1 ∙ ap g (sym same)),
      )
  relinked_carries (Some (shared.Node below)) side child copy is all one stands =
      let same = same_link below child is in
      let r = one (subst A same stands) in
      (r.0, ap Leading (r.1 ∙ ap g (sym same)))
  relinked_carries (Some (shared.Exit region tag listed)) side child copy is all one stands = absurd (cc)
  relinked_carries (Some shared.Stop) side child copy is all one stands = absurd (cc)
  relinked_carries (Some (shared.Trap kind line)) side child copy is all one stands = absurd (cc)

-- ---- at each depth

module _ (old new : Store) (parent : ℕ) (side : Bool) (child copy : ℕ) (owns : Owns old new parent side child copy) where
  homes_stay : HomesStay old new
  homes_stay id there = ap (λ h. value_at h id) owns.same_homes

  module _ (most : ℕ) (all : (id : ℕ) → Carries old most id new most id) (one : Carries old most child new most copy) where
    parent_carries : Carries old (suc most) parent new (suc most) parent
    parent_carries stands =
        node_is new most parent (relinked (value_at old.nodes parent) side copy) (tree_at (suc most) old parent) owns.linked
        (relinked_carries old new (Stands most old) (Stands most new) (tree_at most new) (tree_at most old)
        (value_at old.nodes parent) side child copy owns.was all one stands)

    id_carries : (id : ℕ) → Carries old (suc most) id new (suc most) id
    id_carries id = λ stands.
        elim (cases_eq id parent) [
          | inl same ↦ subst (λ (p : ℕ). Carries old (suc most) p new (suc most) p) (sym same) parent_carries stands
          | inr differs ↦
              let apart = there_differs old.nodes.values id copy (stands_there (suc most) old id stands) owns.vacant in
              carries_on old new homes_stay most most id id (owns.others id apart differs) all stands
        ]

  all_carry : (most : ℕ) → ((id : ℕ) → Carries old most id new most id) × Carries old most child new most copy
  all_carry zero = (λ id stands. absurd stands, λ stands. absurd stands)
  all_carry (suc most) =
      let below = all_carry most in
      (id_carries most below.0 below.1, carries_on old new homes_stay most most child copy owns.copied below.0)

  -- owning keeps all trees
  pub owns_keeps : KeepsTrees old new
  owns_keeps = record { same = λ most. (all_carry most).0 }

-- ---- as the code goes

-- what a node that stands names is there
pub child_there : (store : Store) (most parent : ℕ) (side : Bool) (child : ℕ) (node : SharedNode) (mid : Held SharedNode)
    → mid.values ≡ store.nodes.values → Stands most store parent → value_at mid parent ≡ Some node → link_of (Some node) side ≡ Some child
    → Holds mid child
child_there store zero parent side child node mid same stands is link = absurd stands
child_there store (suc most) parent side child node mid same stands is link =
    let at_old : value_at store.nodes parent ≡ Some node = ap (λ m. get m parent) (sym same) ∙ is in
    let at_side = ap (λ n. link_of n side) at_old ∙ link in
    let below = link_below store (value_at store.nodes parent) side child (Stands most store) at_side stands in
    subst (λ m. IsSome (get m child)) (sym same) (stands_there most store child below)

pub parent_there : (mid put : Held SharedNode) (parent copy : ℕ) (node found : SharedNode) → value_at mid parent ≡ Some node
    → value_at mid copy ≡ None → put.values ≡ insert mid.values copy found → Holds put parent
parent_there mid put parent copy node found is vacant made =
    let there : Holds mid parent = subst IsSome (sym is) refl in
    let apart = there_differs mid.values parent copy there vacant in
    subst (λ m. IsSome (get m parent)) (sym made) (subst IsSome (sym (get_other mid.values copy parent found apart)) there)

pub own_done : (old new : Store) (mid put : Held SharedNode) (parent : ℕ) (side : Bool) (child copy : ℕ) (node found renewed : SharedNode)
    → mid.values ≡ old.nodes.values → value_at mid parent ≡ Some node → link_of (Some node) side ≡ Some child
    → value_at mid child ≡ Some found → value_at mid copy ≡ None → put.values ≡ insert mid.values copy found
    → relinked (Some node) side copy ≡ Some renewed → new.nodes.values ≡ insert put.values parent renewed → new.homes ≡ old.homes
    → Owns old new parent side child copy
own_done old new mid put parent side child copy node found renewed same is link there vacant made linked done homes_same =
    let in_mid : (id : ℕ) → get mid.values id ≡ get old.nodes.values id = λ id. ap (λ m. get m id) same in
    let at_old : value_at old.nodes parent ≡ Some node = sym (in_mid parent) ∙ is in
    let apart = there_differs mid.values parent copy (subst IsSome (sym is) refl) vacant in
    let whole : new.nodes.values ≡ insert (insert mid.values copy found) parent renewed = done ∙ ap (λ m. insert m parent renewed) made in
    record {
      was = ap (λ n. link_of n side) at_old ∙ link;
      vacant = sym (in_mid copy) ∙ vacant;
      copied = ap (λ m. get m copy) whole ∙ get_other (insert mid.values copy found) parent copy renewed (λ e. apart (sym e))
          ∙ get_same mid.values copy found ∙ sym there ∙ in_mid child;
      linked = ap (λ m. get m parent) whole ∙ get_same (insert mid.values copy found) parent renewed ∙ sym linked
          ∙ sym (ap (λ n. relinked n side copy) at_old);
      others = λ id a b. ap (λ m. get m id) whole ∙ get_other (insert mid.values copy found) parent id renewed b
          ∙ get_other mid.values copy id found a ∙ in_mid id;
      same_homes = homes_same;
    }

-- the child is the one that the node names
pub own_any : (old new : Store) (parent : ℕ) (side : Bool) (child other copy : ℕ) → Owns old new parent side child copy
    → link_of (value_at old.nodes parent) side ≡ Some other → Owns old new parent side other copy
own_any old new parent side child other copy owns is =
    subst (λ k. Owns old new parent side k copy) (same_link child other (sym owns.was ∙ is)) owns
