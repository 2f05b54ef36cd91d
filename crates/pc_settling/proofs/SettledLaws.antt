-- Where what is left agrees with a leaf once it is settled, it does as it was left.
use Rattle.std.proofs.Common.{◌≡◌, List, Some, refl, sym, ap, subst}
use Rattle.pc_word.specs.declared.item.Item.TheVariants.{Bin, Copy, Load, Store, Print, Read, More}
use Rattle.pc_word.specs.declared.item.Limits.{Limits}
use Rattle.pc_table.specs.Table.{Table}
use Rattle.pc_machine.specs.declared.tree.Leaf.{Leaf}
use Rattle.pc_machine.specs.declared.tree.Leaf.TheVariants.{Stop, Trap}
use Rattle.pc_window.specs.Tree.{Tree, Pending, Undecided, Exit, Stop_exit, Trap_exit, whole}
use Rattle.pc_window.specs.Rebasing.{rebased}
use Rattle.pc_window.specs.Tidying.{tidied, IsTidy}
use Rattle.pc_window.proofs.Tidying.{tidied_is_tidy}
use Rattle.pc_window.specs.WindowRun.{Window, supply_of}
use Rattle.pc_window.specs.Steps.{window_of, with_tree, Rebases, IsProper}
use Rattle.pc_window.proofs.CutRows.{whole_front_of}
use Rattle.pc_window.proofs.Proper.{tidies_proper, rebases_proper}
use Rattle.pc_certified.specs.Facts.{Fact}
use Rattle.pc_certified.specs.Claims.{Claim}
use Rattle.pc_certified.specs.Changes.{rebases, tidies}
use Rattle.pc_certified.specs.LeafAgrees.{LeafAgrees, leaf_ends, leaf_traps, leaf_changes, leaf_copies, LeafAgreesInRegion, region_changes, region_copies}
use Rattle.pc_settling.specs.Settled.{facts_after_copy, below_copies, facts_after_copies, rebased_with, settled}
use Rattle.pc_settling.specs.Arrives.{end_of}
use Rattle.pc_settling.specs.Laws.{HasNoCopyAtRoot, SettledIsDone, SettledAgrees, SettledAgreesInRegion, EndsAgree}
use Rattle.pc_settling.proofs.FactLists.{listed_after_copy_hold}
use Rattle.pc_settling.proofs.SettledWindows.{below_proper}

-- a window with a tree, rebased
rebases_with : (w : Window) (tree : Tree) → Rebases (with_tree w tree) (rebased_with w tree)
rebases_with w tree = sym (ap (λ (t : Tree). window_of t (rebased t (supply_of w)) w.limits w.inside) (whole_front_of tree))

-- ---- nothing is left to settle

below_tidy : (tree : Tree) → IsTidy tree → IsTidy (below_copies tree)
below_tidy (Pending tag origin (Copy name from) rest) h = below_tidy rest h.1
below_tidy (Pending tag origin (Bin op dest left right) rest) h = h
below_tidy (Pending tag origin (Load dest array index) rest) h = h
below_tidy (Pending tag origin (Store array index value) rest) h = h
below_tidy (Pending tag origin (Print value) rest) h = h
below_tidy (Pending tag origin (Read dest) rest) h = h
below_tidy (Pending tag origin (More dest) rest) h = h
below_tidy (Undecided tag origin on on_yes on_no) h = h
below_tidy (Exit region tag homes) h = h
below_tidy Stop_exit h = h
below_tidy (Trap_exit kind line) h = h

below_none : (tree : Tree) → HasNoCopyAtRoot (below_copies tree)
below_none (Pending tag origin (Copy name from) rest) = below_none rest
below_none (Pending tag origin (Bin op dest left right) rest) = tt
below_none (Pending tag origin (Load dest array index) rest) = tt
below_none (Pending tag origin (Store array index value) rest) = tt
below_none (Pending tag origin (Print value) rest) = tt
below_none (Pending tag origin (Read dest) rest) = tt
below_none (Pending tag origin (More dest) rest) = tt
below_none (Undecided tag origin on on_yes on_no) = tt
below_none (Exit region tag homes) = tt
below_none Stop_exit = tt
below_none (Trap_exit kind line) = tt

pub settled_is_done : SettledIsDone
settled_is_done w facts =
    let tree = tidied (whole w.front) in
    subst (λ (t : Tree). IsTidy t × HasNoCopyAtRoot t) (sym (whole_front_of (below_copies tree))) (below_tidy tree (tidied_is_tidy (whole w.front)), below_none tree)

-- ---- what is left, as it was and settled

-- what is settled is proper
pub settled_proper : (w : Window) (facts : List Fact) → IsProper w → IsProper (settled w facts).window
settled_proper w facts p =
    let tree = tidied (whole w.front) in
    let tidy = with_tree w tree in
    let below = below_proper tidy (tidies_proper w tidy refl p) in
    rebases_proper (with_tree w (below_copies tree)) (rebased_with w (below_copies tree)) (rebases_with w (below_copies tree)) (
    subst (λ (t : Tree). IsProper (with_tree w (below_copies t))) (whole_front_of tree) below
    )

module _ (table : Table) (limits : Limits) (claims : List Claim) (claim : Claim) (leaf : Leaf) (w : Window) where
  abbrev Agrees : List Fact → Window → Type 0
  Agrees held v = LeafAgrees table limits claims claim held leaf v

  -- Copies at the root of a tree go one by one
  pub copies_agree : (tree : Tree) (held : List Fact) → Agrees (facts_after_copies tree held) (with_tree w (below_copies tree)) → Agrees held (with_tree w tree)
  copies_agree (Pending tag origin (Copy name from) rest) held h =
      leaf_copies tag origin name from rest refl (listed_after_copy_hold held name from) (copies_agree rest (facts_after_copy held name from) h)
  copies_agree (Pending tag origin (Bin op dest left right) rest) held h = h
  copies_agree (Pending tag origin (Load dest array index) rest) held h = h
  copies_agree (Pending tag origin (Store array index value) rest) held h = h
  copies_agree (Pending tag origin (Print value) rest) held h = h
  copies_agree (Pending tag origin (Read dest) rest) held h = h
  copies_agree (Pending tag origin (More dest) rest) held h = h
  copies_agree (Undecided tag origin on on_yes on_no) held h = h
  copies_agree (Exit region tag homes) held h = h
  copies_agree Stop_exit held h = h
  copies_agree (Trap_exit kind line) held h = h

  pub settled_agrees : (facts : List Fact) → Agrees (settled w facts).facts (settled w facts).window → Agrees facts w
  settled_agrees facts h =
      let tree = tidied (whole w.front) in
      leaf_changes (tidies refl) (copies_agree tree facts (leaf_changes (rebases (rebases_with w (below_copies tree))) h))

  -- a window that is an end agrees with the leaf that ends so
  pub ends_agree : (v : Window) (held : List Fact) (tree : Tree) → whole v.front ≡ tree → end_of tree ≡ Some leaf → Agrees held v
  ends_agree v held Stop_exit is end = let same : Stop ≡ leaf = cc in subst (λ (l : Leaf). LeafAgrees table limits claims claim held l v) same (leaf_ends is)
  ends_agree v held (Trap_exit kind line) is end =
      let same : Trap kind line ≡ leaf = cc in subst (λ (l : Leaf). LeafAgrees table limits claims claim held l v) same (leaf_traps is)
  ends_agree v held (Pending tag origin item rest) is end = absurd (cc)
  ends_agree v held (Undecided tag origin on on_yes on_no) is end = absurd (cc)
  ends_agree v held (Exit region tag homes) is end = absurd (cc)

module _ (table : Table) (limits : Limits) (claims : List Claim) (leaf : Leaf) (w : Window) where
  abbrev AgreesInRegion : List Fact → Window → Type 0
  AgreesInRegion held v = LeafAgreesInRegion table limits claims held leaf v

  pub copies_agree_in_region : (tree : Tree) (held : List Fact) → AgreesInRegion (facts_after_copies tree held) (with_tree w (below_copies tree))
      → AgreesInRegion held (with_tree w tree)
  copies_agree_in_region (Pending tag origin (Copy name from) rest) held h =
      region_copies tag origin name from rest refl (listed_after_copy_hold held name from) (copies_agree_in_region rest (facts_after_copy held name from) h)
  copies_agree_in_region (Pending tag origin (Bin op dest left right) rest) held h = h
  copies_agree_in_region (Pending tag origin (Load dest array index) rest) held h = h
  copies_agree_in_region (Pending tag origin (Store array index value) rest) held h = h
  copies_agree_in_region (Pending tag origin (Print value) rest) held h = h
  copies_agree_in_region (Pending tag origin (Read dest) rest) held h = h
  copies_agree_in_region (Pending tag origin (More dest) rest) held h = h
  copies_agree_in_region (Undecided tag origin on on_yes on_no) held h = h
  copies_agree_in_region (Exit region tag homes) held h = h
  copies_agree_in_region Stop_exit held h = h
  copies_agree_in_region (Trap_exit kind line) held h = h

  pub settled_agrees_in_region : (facts : List Fact) → AgreesInRegion (settled w facts).facts (settled w facts).window → AgreesInRegion facts w
  settled_agrees_in_region facts h =
      let tree = tidied (whole w.front) in
      region_changes (tidies refl) (copies_agree_in_region tree facts (region_changes (rebases (rebases_with w (below_copies tree))) h))

pub settled_agrees_law : SettledAgrees
settled_agrees_law table limits claims claim leaf w facts h = settled_agrees table limits claims claim leaf w facts h

pub settled_agrees_in_region_law : SettledAgreesInRegion
settled_agrees_in_region_law table limits claims leaf w facts h = settled_agrees_in_region table limits claims leaf w facts h

pub ends_agree_law : EndsAgree
ends_agree_law table limits claims claim leaf w facts h =
    settled_agrees table limits claims claim leaf w facts (
    ends_agree table limits claims claim leaf w (settled w facts).window (settled w facts).facts (whole (settled w facts).window.front) refl h
    )
