-- A copy that was just made is seen where the node that names it is seen, and nowhere else.
use Rattle.std.proofs.Common.{◌≡◌, ◌≢◌, inl, inr, ℕ, zero, suc, ◌+◌, ◌≤◌, Bool, true, false, cond, nat_eq, Option, Some, None}
use Rattle.std.proofs.Common.{refl, ap, sym, subst, ◌∙◌, arith}
use Rattle.std.proofs.lemmas.Bool.{cases_eq}
use Rattle.std.proofs.lemmas.Bool.Decides.{nat_tests}
use Rattle.pc_arena.specs.Held.{value_at}
use Rattle.pc_shared.specs.declared.node.SharedNode.{SharedNode}
use Rattle.pc_shared.specs.declared.node.SharedNode.TheVariants as shared
use Rattle.pc_shared.specs.declared.store.Store.{Store}
use Rattle.pc_shared.specs.NodeTree.{NodeTree, count_places}
use Rattle.pc_shared.specs.Links.{link_of, relinked}
use Rattle.pc_shared.specs.Unfolding.{node_tree, tree_at, NodeStands, Stands}
use Rattle.pc_shared.specs.Owning.{Owns}
use Rattle.pc_shared.specs.Places.{seen_below, places_of}
use Rattle.pc_shared.proofs.Standing.{stands_there, link_below}
use Rattle.pc_shared.proofs.Carrying.{deeper}
use Rattle.pc_shared.proofs.Growing.{there_differs}

here : (id target : ℕ) → id ≡ target → cond {A = ℕ} (nat_eq id target) 1 0 ≡ 1
here id target same = grind (arith, nat_tests)

elsewhere : (id target : ℕ) → id ≢ target → cond {A = ℕ} (nat_eq id target) 1 0 ≡ 0
elsewhere id target differs = grind (arith, nat_tests)

-- ---- what stands is not seen below itself, since its tree would have more places than it has

-- however deep one looks, the tree is the same
same_tree : (store : Store) (a b id : ℕ) → Stands a store id → Stands b store id → tree_at a store id ≡ tree_at b store id
same_tree store a b id s t =
    let x = deeper store b a id s in
    let y = deeper store a b id t in
    let both : b + a ≡ a + b = omega arith in
    sym x.1 ∙ ap (λ (d : ℕ). tree_at d store id) both ∙ y.1

module _ (store : Store) (size : ℕ) where
  -- a node below which something of this size is seen is larger
  larger : (node : Option SharedNode) (A : ℕ → Type 0) (seen : ℕ → ℕ) (tree : ℕ → NodeTree)
      → ((id : ℕ) → A id → 1 ≤ seen id → size ≤ count_places (tree id))
      → NodeStands store node A → 1 ≤ seen_below node seen → suc size ≤ count_places (node_tree store node tree)
  larger None A seen tree all stands some = absurd stands
  larger (Some (shared.Step tag origin item rest)) A seen tree all stands some = let r = all rest stands some in omega (arith, r)
  larger (Some (shared.Test tag origin on on_yes on_no)) A seen tree all stands some = on_a_side (seen on_yes) refl
    where
      on_a_side : (n : ℕ) → seen on_yes ≡ n → suc size ≤ suc (count_places (tree on_yes) + count_places (tree on_no))
      on_a_side zero e = let r = all on_no stands.1 (omega (arith, e, some)) in omega (arith, r)
      on_a_side (suc n) e = let r = all on_yes stands.0 (omega (arith, e)) in omega (arith, r)
  larger (Some (shared.Node below)) A seen tree all stands some = let r = all below stands some in omega (arith, r)
  larger (Some (shared.Exit region tag listed)) A seen tree all stands some = absurd (omega (arith, some))
  larger (Some shared.Stop) A seen tree all stands some = absurd (omega (arith, some))
  larger (Some (shared.Trap kind line)) A seen tree all stands some = absurd (omega (arith, some))

module _ (store : Store) (target deep : ℕ) (there : Stands deep store target) where
  as_large : (most id : ℕ) → Stands most store id → 1 ≤ places_of most store target id
      → count_places (tree_at deep store target) ≤ count_places (tree_at most store id)
  as_large zero id stands some = absurd stands
  as_large (suc most) id stands some =
      elim (cases_eq id target) [
        | inl same ↦
            let is = same_tree store deep (suc most) target there (subst (Stands (suc most) store) same stands) in
            let sizes = ap count_places (is ∙ sym (ap (tree_at (suc most) store) same)) in
            omega (arith, sizes)
        | inr differs ↦
            let none = elsewhere id target differs in
            let r = larger store (count_places (tree_at deep store target)) (value_at store.nodes id) (Stands most store)
            (places_of most store target) (tree_at most store) (as_large most) stands (omega (arith, none, some)) in
            omega (arith, r)
      ]

not_below_itself : (store : Store) (most id : ℕ) → Stands (suc most) store id
    → seen_below (value_at store.nodes id) (places_of most store id) ≡ 0
not_below_itself store most id stands = by_count (seen_below (value_at store.nodes id) (places_of most store id)) refl
  where
    by_count : (n : ℕ) → seen_below (value_at store.nodes id) (places_of most store id) ≡ n → n ≡ 0
    by_count zero e = refl
    by_count (suc n) e =
        let r = larger store (count_places (tree_at (suc most) store id)) (value_at store.nodes id) (Stands most store)
        (places_of most store id) (tree_at most store) (as_large store id (suc most) stands most) stands (omega (arith, e)) in
        absurd (omega (arith, r))

-- ---- the copy

seen_same : (store : Store) (node : Option SharedNode) (A : ℕ → Type 0) (s t : ℕ → ℕ) → ((id : ℕ) → A id → s id ≡ t id)
    → NodeStands store node A → seen_below node s ≡ seen_below node t
seen_same store None A s t all stands = absurd stands
seen_same store (Some (shared.Step tag origin item rest)) A s t all stands = all rest stands
seen_same store (Some (shared.Test tag origin on on_yes on_no)) A s t all stands =
    let y = all on_yes stands.0 in
    let n = all on_no stands.1 in
    omega (arith, y, n)
seen_same store (Some (shared.Node below)) A s t all stands = all below stands
seen_same store (Some (shared.Exit region tag listed)) A s t all stands = refl
seen_same store (Some shared.Stop) A s t all stands = refl
seen_same store (Some (shared.Trap kind line)) A s t all stands = refl

same_link : (a b : ℕ) → Some a ≡ Some b → a ≡ b
same_link a b e = cc

-- below a node that names the copy on a side, and nothing else in which it is seen
seen_relinked : (store : Store) (node : Option SharedNode) (side : Bool) (child copy : ℕ) (A : ℕ → Type 0) (s t : ℕ → ℕ)
    → link_of node side ≡ Some child
    → ((id : ℕ) → A id → s id ≡ t id) → NodeStands store node A → seen_below node t ≡ 0 → s copy ≡ 1
    → seen_below (relinked node side copy) s ≡ 1
seen_relinked store None side child copy A s t is all stands none one = absurd stands
seen_relinked store (Some (shared.Step tag origin item rest)) side child copy A s t is all stands none one = one
seen_relinked store (Some (shared.Test tag origin on on_yes on_no)) true child copy A s t is all stands none one =
    let n = all on_no stands.1 in omega (arith, n, none, one)
seen_relinked store (Some (shared.Test tag origin on on_yes on_no)) false child copy A s t is all stands none one =
    let y = all on_yes stands.0 in omega (arith, y, none, one)
seen_relinked store (Some (shared.Node below)) side child copy A s t is all stands none one = one
seen_relinked store (Some (shared.Exit region tag listed)) side child copy A s t is all stands none one = absurd (cc)
seen_relinked store (Some shared.Stop) side child copy A s t is all stands none one = absurd (cc)
seen_relinked store (Some (shared.Trap kind line)) side child copy A s t is all stands none one = absurd (cc)

child_unseen : (node : Option SharedNode) (side : Bool) (child : ℕ) (t : ℕ → ℕ) → link_of node side ≡ Some child → seen_below node t ≡ 0
    → t child ≡ 0
child_unseen None side child t is none = absurd (cc)
child_unseen (Some (shared.Step tag origin item rest)) side child t is none =
    let same = ap t (same_link rest child is) in omega (arith, same, none)
child_unseen (Some (shared.Test tag origin on on_yes on_no)) true child t is none =
    let same = ap t (same_link on_yes child is) in omega (arith, same, none)
child_unseen (Some (shared.Test tag origin on on_yes on_no)) false child t is none =
    let same = ap t (same_link on_no child is) in omega (arith, same, none)
child_unseen (Some (shared.Node below)) side child t is none =
    let same = ap t (same_link below child is) in omega (arith, same, none)
child_unseen (Some (shared.Exit region tag listed)) side child t is none = absurd (cc)
child_unseen (Some shared.Stop) side child t is none = absurd (cc)
child_unseen (Some (shared.Trap kind line)) side child t is none = absurd (cc)

module _ (old new : Store) (parent : ℕ) (side : Bool) (child copy : ℕ) (owns : Owns old new parent side child copy) where
  -- the copy is seen as often as its parent was
  abbrev AsOften : ℕ → Type 0
  AsOften most = (id : ℕ) → Stands most old id → places_of most new copy id ≡ places_of most old parent id

  -- the copy is seen once in its own tree
  abbrev CopyOnce : ℕ → Type 0
  CopyOnce most = Stands most old child → places_of most old parent child ≡ 0 → places_of most new copy copy ≡ 1

  once_more : (most : ℕ) → AsOften most → CopyOnce (suc most)
  once_more most all stands none =
      let same = seen_same old (value_at old.nodes child) (Stands most old) (places_of most new copy) (places_of most old parent)
      all stands in
      let moved = ap (λ n. seen_below n (places_of most new copy)) owns.copied in
      let one = here copy copy refl in
      omega (arith, one, same, moved, none)

  module _ (most : ℕ) (all : AsOften most) (once : CopyOnce most) where
    -- what is to be said of a number
    abbrev AtNumber : ℕ → Type 0
    AtNumber id = Stands (suc most) old id → cond {A = ℕ} (nat_eq id copy) 1 0 ≡ 0
        → places_of (suc most) new copy id ≡ places_of (suc most) old parent id

    at_parent : AtNumber parent
    at_parent stands apart =
        let none = not_below_itself old most parent stands in
        let child_stands = link_below old (value_at old.nodes parent) side child (Stands most old) owns.was stands in
        let one_copy = once child_stands (child_unseen (value_at old.nodes parent) side child (places_of most old parent) owns.was none) in
        let moved = ap (λ n. seen_below n (places_of most new copy)) owns.linked in
        let one = seen_relinked old (value_at old.nodes parent) side child copy (Stands most old) (places_of most new copy)
        (places_of most old parent) owns.was all stands none one_copy in
        let itself = here parent parent refl in
        omega (arith, apart, none, moved, one, itself)

    at_each : AsOften (suc most)
    at_each id stands =
        let differs_from_copy = there_differs old.nodes.values id copy (stands_there (suc most) old id stands) owns.vacant in
        let apart = elsewhere id copy differs_from_copy in
        elim (cases_eq id parent) [
          | inl same ↦ subst AtNumber (sym same) at_parent stands apart
          | inr differs ↦
              let moved = ap (λ n. seen_below n (places_of most new copy)) (owns.others id differs_from_copy differs) in
              let kept = seen_same old (value_at old.nodes id) (Stands most old) (places_of most new copy) (places_of most old parent)
              all stands in
              let none = elsewhere id parent differs in
              omega (arith, apart, moved, kept, none)
        ]

  as_often : (most : ℕ) → AsOften most × CopyOnce most
  as_often zero = (λ id stands. absurd stands, λ stands none. absurd stands)
  as_often (suc most) =
      let below = as_often most in
      (at_each most below.0 below.1, once_more most below.0)

  -- a copy is seen as often as the node that names it was
  pub seen_as_parent : (most id : ℕ) → Stands most old id → places_of most new copy id ≡ places_of most old parent id
  seen_as_parent most = (as_often most).0
