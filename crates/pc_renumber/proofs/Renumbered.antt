-- What a window keeps that is renumbered.
use Rattle.std.proofs.Common.{◌≡◌, ℕ, zero, suc, ◌+◌, ◌<◌, ◌≤◌, List, [], ◌∷◌, length, map, refl, sym, ◌∙◌, ap, subst}
use Rattle.std.specs.Prelude.{Bool, true, nat_eq, slice_index_or, option_map}
use Rattle.std.specs.List.{AllByRecursion}
use Rattle.std.proofs.lemmas.List.{length-map}
use Rattle.std.proofs.lemmas.Map.Steps.{length-le_from_distinct_below}
use Rattle.std.proofs.lemmas.Option.{get_or_from_slice_get, slice_get-map}
use Rattle.pc_word.specs.declared.item.Item.{Item}
use Rattle.pc_word.specs.declared.item.Item.TheVariants.{Bin, Copy, Load, Store, Print, Read, More}
use Rattle.pc_word.proofs.Lists.{all_at, all_imply, map_of_all}
use Rattle.pc_linear.specs.Form.{Form, in_variables}
use Rattle.pc_table.specs.Table.{Table}
use Rattle.pc_window.specs.declared.home.Home.{Home}
use Rattle.pc_window.specs.Tree.{Tree, Pending, Undecided, Exit, Stop_exit, Trap_exit, Front, whole, front_of, tree_size}
use Rattle.pc_window.specs.Names.{Scoped, uses}
use Rattle.pc_window.specs.Opening.{FormBelow, FormsBelow, TreeBelow}
use Rattle.pc_window.specs.Rebasing.{is_in, all_names}
use Rattle.pc_window.specs.There.{ArrayIsThere, PartsAreThere}
use Rattle.pc_window.specs.StoredWindow.{forms_in, form_or_none}
use Rattle.pc_window.specs.WindowRun.{Window}
use Rattle.pc_window.specs.Steps.{IsProper}
use Rattle.pc_window.proofs.Grafts.{nat_eq-same}
use Rattle.pc_window.proofs.Proper.{becomes_proper}
use Rattle.pc_window.proofs.Listed.{all_names-below}
use Rattle.pc_canon.specs.Shift.{OneToOne, FormsAlike, Maps, TreesAlike, SameFront, ShiftedBy, Shifted}
use Rattle.pc_canon.specs.Canonical.{place_of, placed_homes, parameter_pairs}
use Rattle.pc_canon.proofs.Membership.{has_is, Distinct, distinct_to}
use Rattle.pc_canon.proofs.FormsTell.{forms_tell}
use Rattle.pc_canon.proofs.FormsKept.{forms_kept}
use Rattle.pc_renumber.specs.Renumbering.{stands_in_any, how_many_below, new_variable, renumbered_tree, forms_of_names}
use Rattle.pc_renumber.specs.Renumbering.{renumbered_supply, renumbered}
use Rattle.pc_renumber.proofs.NamesOfTrees.{OfTree}
use Rattle.pc_renumber.proofs.Listing.{all_distinct, names_there}
use Rattle.pc_renumber.proofs.Places.{at_place, mapped_at_place, places_apart, place_below, distinct_mapped}
use Rattle.pc_renumber.proofs.NewVariables.{Among, at_most, variable_pairs, one_to_one, form_alike, terms_below, each_stands}
use Rattle.pc_renumber.proofs.AlikeTrees.{with_new, new_ones, new_others, each_new, tree_below, scoped_alike, list_corresponds, trees_alike}
use Rattle.pc_word.specs.Naming.{map_names}
use Rattle.pc_word.proofs.Truth.{or_first, or_second}
use Rattle.pc_window.proofs.CutRows.{whole_front_of}
use Rattle.pc_canon.proofs.WrittenKeys.{each_below}

-- ---- the front

-- its front is its first item or test, if there is one
abbrev pub IsSingle : Window → Type 0
IsSingle w = w.front ≡ front_of (whole w.front)

same_front : (f : ℕ → ℕ) (tree : Tree) → SameFront (front_of tree) (front_of (renumbered_tree f tree))
same_front f (Pending tag origin item rest) = tt
same_front f (Undecided tag origin on one other) = (tt, tt)
same_front f (Exit region tag homes) = tt
same_front f Stop_exit = tt
same_front f (Trap_exit kind line) = tt

pub renumbered_single : (w : Window) → IsSingle w → IsSingle (renumbered w)
unfolding renumbered
renumbered_single w single = ap front_of (sym (whole_front_of (renumbered_tree (place_of (all_names (whole w.front))) (whole w.front))))

pub renumbered_limits : (w : Window) → (renumbered w).limits ≡ w.limits
unfolding renumbered
renumbered_limits w = refl

-- ---- the size, and what is there

same_size : (f : ℕ → ℕ) (tree : Tree) → tree_size (renumbered_tree f tree) ≡ tree_size tree
same_size f (Pending tag origin item rest) = ap suc (same_size f rest)
same_size f (Undecided tag origin on one other) = λ i. suc (same_size f one i + same_size f other i)
same_size f (Exit region tag homes) = refl
same_size f Stop_exit = refl
same_size f (Trap_exit kind line) = refl

pub renumbered_size : (w : Window) → tree_size (whole (renumbered w).front) ≡ tree_size (whole w.front)
unfolding renumbered
renumbered_size w =
    let f = place_of (all_names (whole w.front)) in
    ap tree_size (whole_front_of (renumbered_tree f (whole w.front))) ∙ same_size f (whole w.front)

same_array : (f : ℕ → ℕ) (table : Table) (item : Item) → ArrayIsThere table item → ArrayIsThere table (map_names f item)
same_array f table (Bin op dest left right) h = h
same_array f table (Copy dest from) h = h
same_array f table (Load dest array index) h = h
same_array f table (Store array index value) h = h
same_array f table (Print value) h = h
same_array f table (Read dest) h = h
same_array f table (More dest) h = h

same_variables : (f : ℕ → ℕ) (homes : List Home) → map (λ home. home.variable) (placed_homes f homes) ≡ map (λ home. home.variable) homes
same_variables f [] = refl
same_variables f (home ∷ homes) = ap (λ (list : List ℕ). home.variable ∷ list) (same_variables f homes)

same_parts : (f : ℕ → ℕ) (table : Table) (most : ℕ) (tree : Tree) → PartsAreThere table most tree → PartsAreThere table most (renumbered_tree f tree)
same_parts f table most (Pending tag origin item rest) h = (h.0, same_array f table item h.1, same_parts f table most rest h.2)
same_parts f table most (Undecided tag origin on one other) h = (h.0, same_parts f table most one h.1, same_parts f table most other h.2)
same_parts f table most (Exit region tag homes) h = (h.0, record { leads = h.1.leads; live = same_variables f homes ∙ h.1.live })
same_parts f table most Stop_exit h = tt
same_parts f table most (Trap_exit kind line) h = tt

pub renumbered_parts : (table : Table) (most : ℕ) (w : Window) → PartsAreThere table most (whole w.front) → PartsAreThere table most (whole (renumbered w).front)
unfolding renumbered
renumbered_parts table most w parts =
    let f = place_of (all_names (whole w.front)) in
    subst (PartsAreThere table most) (sym (whole_front_of (renumbered_tree f (whole w.front)))) (same_parts f table most (whole w.front) parts)

-- ---- names and forms

self_there : (xs : List ℕ) → AllByRecursion (λ x. is_in x xs ≡ true) xs
self_there [] = tt
self_there (x ∷ xs) = (
  or_first (nat_eq x x) (is_in x xs) (nat_eq-same x),
  all_imply (λ y. is_in y xs ≡ true) (λ y. is_in y (x ∷ xs) ≡ true) xs (λ y e. or_second (nat_eq y x) (is_in y xs) e) (self_there xs),
)

-- each form of a list by name is below a number where those that are listed are
pub forms_listed : (m : ℕ) (fs : List Form) → AllByRecursion (FormBelow m) fs → (x : ℕ) → FormBelow m (forms_in fs x)
forms_listed m [] h x = tt
forms_listed m (f ∷ fs) h zero = h.0
forms_listed m (f ∷ fs) h (suc x) = forms_listed m fs h.1 x

forms_fewer : (among : ℕ → Bool) (n : ℕ) (fs : List Form) → AllByRecursion (λ (f : Form). Among among f.terms) fs → AllByRecursion (FormBelow n) fs
    → AllByRecursion (λ (f : Form). FormBelow (how_many_below among n) (in_variables (how_many_below among) f)) fs
forms_fewer among n [] h below = tt
forms_fewer among n (f ∷ fs) h below = (terms_below among n f.terms h.0 below.0, forms_fewer among n fs h.1 below.1)

of_each : (P : ℕ → Type 0) → ((x : ℕ) → P x) → (xs : List ℕ) → AllByRecursion P xs
of_each P h [] = tt
of_each P h (x ∷ xs) = (h x, of_each P h xs)

module _ (w : Window) (proper : IsProper w) where
  abbrev tree : Tree
  tree = whole w.front

  abbrev all : List ℕ
  all = all_names tree

  abbrev IsThere : ℕ → Type 0
  IsThere x = is_in x all ≡ true

  abbrev stands : ℕ → Bool
  stands = stands_in_any (forms_of_names w)

  there : OfTree IsThere tree
  there = names_there tree proper.window.scoped

  -- the form of a new name is that of the old one with its new variables
  form_there : (x : ℕ) → IsThere x → forms_in (map (in_variables (new_variable (forms_of_names w))) (forms_of_names w)) (place_of all x)
      ≡ in_variables (how_many_below stands) (w.forms x)
  form_there x h =
      let g = in_variables (new_variable (forms_of_names w)) in
      ap form_or_none (slice_get-map g (forms_of_names w) (place_of all x) ∙ ap (option_map g) (mapped_at_place all w.forms x h))

  forms_alike : (x : ℕ) → IsThere x → FormsAlike (variable_pairs stands w.next_variable) (w.forms x)
      (forms_in (map (in_variables (new_variable (forms_of_names w))) (forms_of_names w)) (place_of all x))
  forms_alike x h =
      let stand = all_at (λ (f : Form). Among stands f.terms) (forms_of_names w) (place_of all x) (w.forms x)
      (each_stands (forms_of_names w)) (mapped_at_place all w.forms x h) in
      subst (FormsAlike (variable_pairs stands w.next_variable) (w.forms x)) (sym (form_there x h))
      (form_alike stands w.next_variable (w.forms x) stand (proper.forms_below.form x))

  new_forms_below : FormsBelow (renumbered_supply (forms_of_names w) w.next_variable)
  new_forms_below = record {
    form = forms_listed (how_many_below stands w.next_variable) (map (in_variables (how_many_below stands)) (forms_of_names w))
        (map_of_all (FormBelow (how_many_below stands w.next_variable)) (in_variables (how_many_below stands)) (forms_of_names w)
        (forms_fewer stands w.next_variable (forms_of_names w) (each_stands (forms_of_names w))
        (map_of_all (FormBelow w.next_variable) w.forms all (of_each (λ x. FormBelow w.next_variable (w.forms x)) proper.forms_below.form all))));
  }

  new_names_below : TreeBelow (length (forms_of_names w)) (renumbered_tree (place_of all) tree)
  new_names_below =
      tree_below (place_of all) (length (forms_of_names w)) IsThere
      (λ x h. subst (λ (n : ℕ). place_of all x < n) (sym (length-map all w.forms)) (place_below all x h)) tree there

  -- whether the name at a place is a parameter
  abbrev new_known : ℕ → Bool
  new_known n = uses tree (slice_index_or all n 0)

  new_scoped : Scoped new_known (renumbered_tree (place_of all) tree)
  new_scoped =
      scoped_alike (place_of all) IsThere (places_apart all) (uses tree) new_known tree
      (λ x h. ap (uses tree) (get_or_from_slice_get all (place_of all x) x 0 (at_place all x h))) there proper.window.scoped

  -- no more names and form variables than before
  pub renumbered_names : (renumbered w).next ≤ w.next
  unfolding renumbered
  renumbered_names =
      subst (λ (n : ℕ). n ≤ w.next) (sym (length-map all w.forms))
      (length-le_from_distinct_below all w.next (distinct_to all (all_distinct tree proper.window.scoped))
      (each_below w.next all (all_names-below w.next tree proper.names_below)))

  pub renumbered_variables : (renumbered w).next_variable ≤ w.next_variable
  unfolding renumbered
  renumbered_variables = at_most stands w.next_variable

  pub renumbered_proper : IsSingle w → IsProper (renumbered w)
  unfolding renumbered
  renumbered_proper single =
      becomes_proper (renumbered_tree (place_of all) tree) (renumbered_supply (forms_of_names w) w.next_variable) w.limits w.inside new_known
      new_names_below new_forms_below proper.room new_scoped

  abbrev maps : Maps
  maps = record { variables = variable_pairs stands w.next_variable; shift = 0; other_shift = 0 }

  params_one_to_one : OneToOne (with_new (place_of all) all)
  params_one_to_one = record {
    ones_differ = distinct_to _ (subst Distinct (sym (new_ones (place_of all) all)) (all_distinct tree proper.window.scoped));
    others_differ = distinct_to _ (subst Distinct (sym (new_others (place_of all) all))
        (distinct_mapped (place_of all) IsThere (places_apart all) all (self_there all) (all_distinct tree proper.window.scoped)));
  }

  is_shifted : IsSingle w → Shifted w (renumbered w)
  unfolding renumbered
  is_shifted single = (
    with_new (place_of all) all,
    (
      maps,
      record {
        variables_one_to_one = one_to_one stands w.next_variable;
        params_one_to_one = params_one_to_one;
        params_alike = each_new (place_of all) IsThere (λ x y. FormsAlike maps.variables (w.forms x) ((renumbered w).forms y)) forms_alike all (self_there all);
        fronts = subst (λ (front : Front). SameFront front (front_of (renumbered_tree (place_of all) tree))) (sym single) (same_front (place_of all) tree);
        trees = subst (TreesAlike maps w.forms (renumbered w).forms (with_new (place_of all) all) tree) (sym (whole_front_of (renumbered_tree (place_of all) tree)))
            (trees_alike (place_of all) IsThere (places_apart all) maps w.forms (renumbered w).forms refl forms_alike (with_new (place_of all) all)
            (λ x h. list_corresponds (place_of all) IsThere (places_apart all) all (self_there all) x h (has_is all x ∙ h)) tree there);
        limits = refl;
        inside = refl;
      },
    ),
  )

  -- it is equal to the one before up to a shift, and its parameters correspond in the order of first use
  pub renumbered_shifts : IsSingle w → ShiftedBy (parameter_pairs w (renumbered w)) w (renumbered w)
  renumbered_shifts single = forms_tell w (renumbered w) (forms_kept w (renumbered w) (is_shifted single))
