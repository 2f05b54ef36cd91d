-- Windows in memory, rebased.
use Rattle.std.proofs.Common.{◌≡◌, ℕ, ◌<◌, List, [], ◌∷◌, ◌++◌, length, sym, ◌∙◌, ap, subst, arith}
use Rattle.std.specs.Prelude.{Option, Bool, true, ◌||◌, nat_eq}
use Rattle.std.specs.List.{AllByRecursion}
use Rattle.pc_word.proofs.Lists.{all_imply}
use Rattle.pc_word.specs.declared.item.Limits.{Limits}
use Rattle.pc_window.specs.declared.tree.WindowTree.{WindowTree}
use Rattle.pc_window.specs.declared.names.NameTable.{NameTable}
use Rattle.pc_window.specs.declared.window.Window.{Window as StoredWindow}
use Rattle.pc_window.specs.Tree.{Tree, whole}
use Rattle.pc_table.specs.Table.{Table}
use Rattle.pc_window.specs.Kept.{WindowKeeps}
use Rattle.pc_window.specs.Names.{parameters_of, first_uses, definitions_of}
use Rattle.pc_window.specs.Opening.{Supply, TreeBelow, FormsBelow}
use Rattle.pc_window.specs.Rebasing.{is_in, all_names, first_turns, after_first, rebased}
use Rattle.pc_window.specs.Steps.{IsProper, Rebases}
use Rattle.pc_window.specs.StoredWindow.{InNodes, window_in, tree_in, front_in, supply_in}
use Rattle.pc_window.proofs.Rebasing.{rebased-kept}
use Rattle.pc_window.proofs.Proper.{rebases_proper}
use Rattle.pc_window.proofs.Settling.{rebases_keep}
use Rattle.pc_window.proofs.WindowsStored.{single_window, whole_in}
use Rattle.pc_rebase.specs.models.Turning.{unturned}
use Rattle.pc_window.proofs.Listed.{or_true, parameters-below, all_names-below}

-- a window in memory, by its parts
abbrev pub with_parts : WindowTree → NameTable → Limits → Option ℕ → StoredWindow
with_parts tree names limits inside = record { tree = tree; names = names; limits = limits; inside = inside }

-- each of some names is among these and others
each_among : (xs ys : List ℕ) → AllByRecursion (λ (name : ℕ). is_in name (xs ++ ys) ≡ true) xs
each_among [] ys = tt
each_among (x ∷ xs) ys =
    (ap (λ (b : Bool). b || is_in x (xs ++ ys)) itself, all_imply (λ (name : ℕ). is_in name (xs ++ ys) ≡ true) (λ (name : ℕ). is_in name (x ∷ (xs ++ ys)) ≡ true) xs more (each_among xs ys))
  where
    itself : nat_eq x x ≡ true
    itself = grind arith

    more : (name : ℕ) → is_in name (xs ++ ys) ≡ true → (nat_eq name x || is_in name (xs ++ ys)) ≡ true
    more name there = ap (λ (b : Bool). nat_eq name x || b) there ∙ or_true (nat_eq name x)

module _ (tree : WindowTree) (names : NameTable) (limits : Limits) (inside : Option ℕ) (proper : IsProper (window_in (with_parts tree names limits inside))) where
  pub names_below : TreeBelow (length names.forms) (tree_in tree)
  names_below = subst (λ (t : Tree). TreeBelow (length names.forms) t) (whole_in tree) proper.names_below

  pub forms_below : FormsBelow (supply_in names)
  forms_below = record { form = proper.forms_below.form }

  pub parameters_there : (parameters : List ℕ) → parameters ≡ parameters_of (tree_in tree) → AllByRecursion (λ (name : ℕ). name < length names.forms) parameters
  parameters_there parameters is =
      subst (λ (list : List ℕ). AllByRecursion (λ (name : ℕ). name < length names.forms) list) (sym is) (parameters-below (length names.forms) (tree_in tree) names_below)

  pub all_there : (all : List ℕ) → all ≡ all_names (tree_in tree) → AllByRecursion (λ (name : ℕ). name < length names.forms) all
  all_there all is =
      subst (λ (list : List ℕ). AllByRecursion (λ (name : ℕ). name < length names.forms) list) (sym is) (all_names-below (length names.forms) (tree_in tree) names_below)

  pub among_there : (parameters all : List ℕ) → parameters ≡ parameters_of (tree_in tree) → all ≡ all_names (tree_in tree) → AllByRecursion (λ (name : ℕ). is_in name all ≡ true) parameters
  among_there parameters all parameters_are all_are =
      subst (λ (list : List ℕ). AllByRecursion (λ (name : ℕ). is_in name list ≡ true) parameters) (sym all_are)
      (subst (λ (list : List ℕ). AllByRecursion (λ (name : ℕ). is_in name (all_names (tree_in tree)) ≡ true) list) (sym parameters_are)
      (each_among (parameters_of (tree_in tree)) (first_uses (definitions_of (tree_in tree)))))

  module _ (later : NameTable) (parameters all : List ℕ) (parameters_are : parameters ≡ parameters_of (tree_in tree)) (all_are : all ≡ all_names (tree_in tree))
      (made : supply_in later ≡ after_first all (first_turns all parameters (unturned (supply_in names)))) where
    names_are : supply_in later ≡ rebased (tree_in tree) (supply_in names)
    names_are = made ∙ (λ i. after_first (all_are i) (first_turns (all_are i) (parameters_are i) (unturned (supply_in names))))

    pub is_rebased : InNodes true tree → Rebases (window_in (with_parts tree names limits inside)) (window_in (with_parts tree later limits inside))
    is_rebased single =
        single_window tree later limits inside (record { tree = whole (front_in tree); names = rebased (whole (front_in tree)) (supply_in names) })
        (λ i. record { tree = sym (whole_in tree) i; names = (names_are ∙ ap (λ (t : Tree). rebased t (supply_in names)) (sym (whole_in tree))) i }) single

    pub stays_proper : InNodes true tree → IsProper (window_in (with_parts tree later limits inside))
    stays_proper single = rebases_proper _ _ (is_rebased single) proper

    pub keeps : InNodes true tree → (table : Table) → WindowKeeps table (window_in (with_parts tree names limits inside)) (window_in (with_parts tree later limits inside))
    keeps single table = rebases_keep table _ _ (is_rebased single) proper

    pub as_many : length later.forms ≡ length names.forms
    as_many = ap (λ (s : Supply). s.next) names_are ∙ (rebased-kept (tree_in tree) (supply_in names) forms_below names_below).0

pub ruleset windows = (forms_below, is_rebased, stays_proper, keeps, as_many)
