-- Windows in memory, renumbered.
use Rattle.std.proofs.Common.{◌≡◌, ℕ, ◌≤◌, List, Option, length, map, refl, sym, ◌∙◌, ap, subst}
use Rattle.std.specs.Prelude.{true}
use Rattle.pc_window.specs.declared.tree.WindowTree.{WindowTree}
use Rattle.pc_window.specs.declared.names.NameTable.{NameTable}
use Rattle.pc_window.specs.declared.window.Window.{Window as StoredWindow}
use Rattle.pc_window.specs.Tree.{Tree, whole, front_of, tree_size}
use Rattle.pc_window.specs.Names.{Scoped, uses}
use Rattle.pc_window.specs.Opening.{Grafted, TreeBelow, FormsBelow}
use Rattle.pc_window.specs.Rebasing.{all_names}
use Rattle.pc_window.specs.Steps.{IsProper}
use Rattle.pc_window.specs.WindowRun.{Window}
use Rattle.pc_window.specs.StoredWindow.{InNodes, window_in, tree_in, front_in, forms_in, supply_in}
use Rattle.pc_window.proofs.WindowsStored.{single_window, whole_in}
use Rattle.pc_canon.specs.Canonical.{place_of, parameter_pairs}
use Rattle.pc_canon.specs.Shift.{ShiftedBy}
use Rattle.pc_renumber.specs.Renumbering.{renumbered_tree, renumbered_supply, renumbered, Renumbers}
use Rattle.pc_renumber.specs.models.Numbering.{number_in, AreNumbers}
use Rattle.pc_renumber.proofs.Listing.{names_there}
use Rattle.pc_renumber.proofs.Numbers.{by_places}
use Rattle.pc_renumber.proofs.Renumbered.{IsSingle, renumbered_proper, renumbered_size, renumbered_names, renumbered_variables, renumbered_shifts}

-- ---- what a proper window in memory keeps

module _ (w : StoredWindow) (proper : IsProper (window_in w)) where
  pub names_below : TreeBelow (length w.names.forms) (tree_in w.tree)
  names_below = subst (TreeBelow (length w.names.forms)) (whole_in w.tree) proper.names_below

  pub forms_below : FormsBelow (supply_in w.names)
  forms_below = record { form = proper.forms_below.form }

  pub scoped : Scoped (uses (tree_in w.tree)) (tree_in w.tree)
  scoped = subst (λ (t : Tree). Scoped (uses t) t) (whole_in w.tree) proper.window.scoped

  -- a tree and names that are renumbered are a window renumbered
  pub is_renumbered : (tree : WindowTree) (names : NameTable) (all : List ℕ) (numbers : List (Option ℕ)) → all ≡ all_names (tree_in w.tree)
      → AreNumbers numbers all → supply_in names ≡ renumbered_supply (map (forms_in w.names.forms) all) w.names.next_variable
      → tree_in tree ≡ renumbered_tree (number_in numbers) (tree_in w.tree) → InNodes true tree
      → Renumbers (window_in w) (window_in (record { tree = tree; names = names; limits = w.limits; inside = w.inside }))
  unfolding renumbered
  is_renumbered tree names all numbers all_are are table tree_is nodes =
      single_window tree names w.limits w.inside (record {
        tree = renumbered_tree (place_of (all_names (whole (front_in w.tree)))) (whole (front_in w.tree));
        names = renumbered_supply (map (forms_in w.names.forms) (all_names (whole (front_in w.tree)))) w.names.next_variable;
      }) (λ i. record {
        tree = (tree_is ∙ places ∙ ap (λ (t : Tree). renumbered_tree (place_of (all_names t)) t) (sym (whole_in w.tree))) i;
        names = (table ∙ ap (λ (xs : List ℕ). renumbered_supply (map (forms_in w.names.forms) xs) w.names.next_variable)
            (all_are ∙ ap all_names (sym (whole_in w.tree)))) i;
      }) nodes
    where
      places : renumbered_tree (number_in numbers) (tree_in w.tree) ≡ renumbered_tree (place_of (all_names (tree_in w.tree))) (tree_in w.tree)
      places = by_places numbers (all_names (tree_in w.tree)) (subst (AreNumbers numbers) all_are are) (tree_in w.tree) (names_there (tree_in w.tree) scoped)

-- ---- what a window keeps that is renumbered in memory

-- a window whose items and tests are nodes of their own has its first item or test as its front
single_in : (w : StoredWindow) → InNodes true w.tree → IsSingle (window_in w)
single_in w nodes =
    let it : Grafted = record { tree = tree_in w.tree; names = supply_in w.names } in
    ap (λ (u : Window). u.front) (single_window w.tree w.names w.limits w.inside it refl nodes) ∙ ap front_of (sym (whole_in w.tree))

module _ (w v : StoredWindow) (is : Renumbers (window_in w) (window_in v)) (proper : IsProper (window_in w)) where
  pub stays_proper : InNodes true w.tree → IsProper (window_in v)
  stays_proper nodes = subst IsProper (sym is) (renumbered_proper (window_in w) proper (single_in w nodes))

  pub stays_same : InNodes true w.tree → ShiftedBy (parameter_pairs (window_in w) (window_in v)) (window_in w) (window_in v)
  stays_same nodes =
      subst (λ (u : Window). ShiftedBy (parameter_pairs (window_in w) u) (window_in w) u) (sym is)
      (renumbered_shifts (window_in w) proper (single_in w nodes))

  pub fewer_names : length v.names.forms ≤ length w.names.forms
  fewer_names = subst (λ (n : ℕ). n ≤ length w.names.forms) (sym (ap (λ (u : Window). u.next) is)) (renumbered_names (window_in w) proper)

  pub fewer_variables : v.names.next_variable ≤ w.names.next_variable
  fewer_variables =
      subst (λ (n : ℕ). n ≤ w.names.next_variable) (sym (ap (λ (u : Window). u.next_variable) is)) (renumbered_variables (window_in w) proper)

  pub as_large : tree_size (tree_in v.tree) ≡ tree_size (tree_in w.tree)
  as_large =
      ap tree_size (sym (whole_in v.tree)) ∙ ap (λ (u : Window). tree_size (whole u.front)) is ∙ renumbered_size (window_in w)
      ∙ ap tree_size (whole_in w.tree)

pub ruleset parts = (names_below, forms_below, scoped)

pub ruleset windows = (names_below, fewer_names, fewer_variables, as_large)
