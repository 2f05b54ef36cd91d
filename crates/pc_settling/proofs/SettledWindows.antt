-- Windows that are settled: what goes from a tree, and that they stay proper.
use Rattle.std.proofs.Common.{◌≡◌, ℕ, ◌≤◌, Bool, List, Option, true, sym, ◌∙◌, ap, subst, arith}
use Rattle.pc_word.specs.declared.item.Item.TheVariants.{Bin, Copy, Load, Store, Print, Read, More}
use Rattle.pc_word.specs.declared.item.Limits.{Limits}
use Rattle.pc_window.specs.declared.tree.WindowTree.{WindowTree}
use Rattle.pc_window.specs.declared.names.NameTable.{NameTable}
use Rattle.pc_window.specs.declared.window.Window.{Window as StoredWindow}
use Rattle.pc_window.specs.Tree.{Tree, Pending, Undecided, Exit, Stop_exit, Trap_exit, whole, tree_size}
use Rattle.pc_window.specs.Names.{uses, and_dest, Scoped}
use Rattle.pc_window.specs.Opening.{TreeBelow}
use Rattle.pc_window.specs.Rebasing.{rebased}
use Rattle.pc_window.specs.Tidying.{tidied}
use Rattle.pc_window.specs.WindowRun.{Window, supply_of}
use Rattle.pc_window.specs.Steps.{window_of, Tidies, Rebases, IsProper}
use Rattle.pc_window.specs.StoredWindow.{tree_in, front_in, supply_in, window_in, InNodes}
use Rattle.pc_window.proofs.CutRows.{whole_front_of}
use Rattle.pc_window.proofs.Proper.{becomes_proper}
use Rattle.pc_window.proofs.WindowsStored.{single_window, whole_in}
use Rattle.pc_matching.specs.declared.fact.Fact as stored_fact
use Rattle.pc_matching.specs.Facts.{facts_of}
use Rattle.pc_settling.specs.Settled.{below_copies, facts_after_copies, settled}
use Rattle.pc_settling.specs.Stored.{remaining_in, most_size, IsLeft}

-- ---- below the Copies at the root

pub below_scoped : (tree : Tree) (known : ℕ → Bool) → Scoped known tree → (more : ℕ → Bool) × Scoped more (below_copies tree)
below_scoped (Pending tag origin (Copy name from) rest) known h = below_scoped rest (and_dest known (Copy name from)) h.2
below_scoped (Pending tag origin (Bin op dest left right) rest) known h = (known, h)
below_scoped (Pending tag origin (Load dest array index) rest) known h = (known, h)
below_scoped (Pending tag origin (Store array index value) rest) known h = (known, h)
below_scoped (Pending tag origin (Print value) rest) known h = (known, h)
below_scoped (Pending tag origin (Read dest) rest) known h = (known, h)
below_scoped (Pending tag origin (More dest) rest) known h = (known, h)
below_scoped (Undecided tag origin on on_yes on_no) known h = (known, h)
below_scoped (Exit region tag homes) known h = (known, h)
below_scoped Stop_exit known h = (known, h)
below_scoped (Trap_exit kind line) known h = (known, h)

pub below_names : (n : ℕ) (tree : Tree) → TreeBelow n tree → TreeBelow n (below_copies tree)
below_names n (Pending tag origin (Copy name from) rest) h = below_names n rest h.1
below_names n (Pending tag origin (Bin op dest left right) rest) h = h
below_names n (Pending tag origin (Load dest array index) rest) h = h
below_names n (Pending tag origin (Store array index value) rest) h = h
below_names n (Pending tag origin (Print value) rest) h = h
below_names n (Pending tag origin (Read dest) rest) h = h
below_names n (Pending tag origin (More dest) rest) h = h
below_names n (Undecided tag origin on on_yes on_no) h = h
below_names n (Exit region tag homes) h = h
below_names n Stop_exit h = h
below_names n (Trap_exit kind line) h = h

pub below_size : (tree : Tree) → tree_size (below_copies tree) ≤ tree_size tree
below_size (Pending tag origin (Copy name from) rest) = let h = below_size rest in omega (arith, h)
below_size (Pending tag origin (Bin op dest left right) rest) = omega arith
below_size (Pending tag origin (Load dest array index) rest) = omega arith
below_size (Pending tag origin (Store array index value) rest) = omega arith
below_size (Pending tag origin (Print value) rest) = omega arith
below_size (Pending tag origin (Read dest) rest) = omega arith
below_size (Pending tag origin (More dest) rest) = omega arith
below_size (Undecided tag origin on on_yes on_no) = omega arith
below_size (Exit region tag homes) = omega arith
below_size Stop_exit = omega arith
below_size (Trap_exit kind line) = omega arith

-- a proper window without them is proper
pub below_proper : (w : Window) → IsProper w → IsProper (window_of (below_copies (whole w.front)) (supply_of w) w.limits w.inside)
below_proper w p =
    let scoped = below_scoped (whole w.front) (uses (whole w.front)) p.window.scoped in
    becomes_proper (below_copies (whole w.front)) (supply_of w) w.limits w.inside scoped.0 (below_names w.next (whole w.front) p.names_below) p.forms_below p.room scoped.1

module _ (tree later : WindowTree) (names : NameTable) (limits : Limits) (inside : Option ℕ) where
  abbrev with_tree_in : WindowTree → StoredWindow
  with_tree_in it = record { tree = it; names = names; limits = limits; inside = inside }

  pub copies_proper : IsProper (window_in (with_tree_in tree)) → InNodes true later → tree_in later ≡ below_copies (tree_in tree)
      → IsProper (window_in (with_tree_in later))
  copies_proper p nodes is =
      let same : tree_in later ≡ below_copies (whole (front_in tree)) = is ∙ ap below_copies (sym (whole_in tree)) in
      subst IsProper (sym (single_window later names limits inside (record { tree = below_copies (whole (front_in tree)); names = supply_in names })
      (ap (λ (t : Tree). record { tree = t; names = supply_in names }) same) nodes)) (below_proper (window_in (with_tree_in tree)) p)

-- ---- all of it

-- a tidied window's tree
tidied_tree : (w t : StoredWindow) → Tidies (window_in w) (window_in t) → tree_in t.tree ≡ tidied (whole (window_in w).front)
tidied_tree w t tidies =
    sym (whole_in t.tree) ∙ ap (λ (u : Window). whole u.front) tidies ∙ whole_front_of (tidied (whole (window_in w).front))

module _ (w t : StoredWindow) (tidies : Tidies (window_in w) (window_in t)) (l later : StoredWindow)
    (tree : tree_in l.tree ≡ below_copies (tree_in t.tree)) (rebases : Rebases (window_in l) (window_in later)) where
  below_tree : whole (front_in l.tree) ≡ below_copies (tidied (whole (window_in w).front))
  below_tree = whole_in l.tree ∙ tree ∙ ap below_copies (tidied_tree w t tidies)

  -- what is settled is as the definition has it
  pub is_settled : (given facts : List stored_fact.Fact) → l.names ≡ t.names → l.limits ≡ t.limits → l.inside ≡ t.inside
      → facts_of facts ≡ facts_after_copies (tree_in t.tree) (facts_of given)
      → remaining_in (record { window = later; facts = facts }) ≡ settled (window_in w) (facts_of given)
  is_settled given facts names limits inside after =
      let supply : supply_in l.names ≡ supply_of (window_in w) = ap supply_in names ∙ ap supply_of tidies in
      let limits_are : l.limits ≡ w.limits = limits ∙ ap (λ (u : Window). u.limits) tidies in
      let inside_is : l.inside ≡ w.inside = inside ∙ ap (λ (u : Window). u.inside) tidies in
      let window = rebases ∙ (λ i. window_of (below_tree i) (rebased (below_tree i) (supply i)) (limits_are i) (inside_is i)) in
      let facts_are = after ∙ ap (λ (u : Tree). facts_after_copies u (facts_of given)) (tidied_tree w t tidies) in
      λ i. record { window = window i; facts = facts_are i }

  -- and it is not too large
  pub settled_left : tree_size (tree_in w.tree) ≤ most_size → tree_size (tree_in t.tree) ≤ tree_size (tree_in w.tree)
      → IsProper (window_in later) → InNodes true later.tree → IsLeft later
  settled_left size smaller proper nodes =
      let same : tree_in later.tree ≡ below_copies (tree_in t.tree) =
      sym (whole_in later.tree) ∙ ap (λ (u : Window). whole u.front) rebases ∙ whole_front_of (whole (front_in l.tree)) ∙ whole_in l.tree ∙ tree in
      let sizes : tree_size (tree_in later.tree) ≡ tree_size (below_copies (tree_in t.tree)) = ap tree_size same in
      let less = below_size (tree_in t.tree) in
      record { proper = proper; nodes = nodes; size = omega (arith, size, smaller, sizes, less) }

pub ruleset windows = (copies_proper, is_settled, settled_left)
