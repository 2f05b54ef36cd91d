-- Windows that are equal up to a shift are unwound and tidied to windows that are so too.
use Rattle.std.proofs.Common.{◌≡◌, ℕ, suc, ◌<◌, List, [], ◌∷◌, length, Option, Some, refl, sym, ◌∙◌, ap, subst}
use Rattle.std.specs.Prelude.{Bool, true, false, not, ◌&&◌, if◌then◌else◌, nat_eq, map, slice_get}
use Rattle.std.proofs.lemmas.Bool.{eqb-true}
use Rattle.std.specs.List.{AllByRecursion}
use Rattle.pc_word.specs.declared.item.Limits.{Limits}
use Rattle.pc_word.proofs.Lists.{all_imply}
use Rattle.pc_linear.specs.Form.{Form}
use Rattle.pc_table.specs.Table.{Table}
use Rattle.pc_window.specs.Names.{uses, parameters_of}
use Rattle.pc_window.specs.Opening.{Supply, Grafted, TreeBelow}
use Rattle.pc_window.specs.Steps.{IsProper, UnwindsTo, Tidies, window_of, with_tree, grafted_of}
use Rattle.pc_window.specs.Tidying.{tidied}
use Rattle.pc_window.specs.Tree.{Tree, whole, front_of}
use Rattle.pc_window.specs.Unwinding.{Unwinds}
use Rattle.pc_window.specs.WindowRun.{Window, supply_of}
use Rattle.pc_window.proofs.CutRows.{whole_front_of}
use Rattle.pc_window.proofs.Proper.{proper_sound}
use Rattle.pc_window.proofs.Unwinding.{used_below}
use Rattle.pc_canon.specs.Canonical.{place_of, side_by_side, parameter_pairs}
use Rattle.pc_canon.specs.Key.{key_of}
use Rattle.pc_canon.specs.Pairs.{Pair, corresponds}
use Rattle.pc_canon.specs.Shift.{OneToOne, EachPair, FormsAlike, Maps, TreesAlike, both_then, both_either, both_exit, both_stop, both_trap, SameFront, AlikeBy, ShiftedBy, Shifted}
use Rattle.pc_canon.proofs.Alike.{EachAlike, no_more, one_more}
use Rattle.pc_canon.proofs.FormsKept.{Corr, uses_alike, first_uses_alike, forms_kept}
use Rattle.pc_canon.proofs.FormsTell.{forms_tell}
use Rattle.pc_canon.proofs.Keys.{keys_pair}
use Rattle.pc_canon.proofs.ParameterLists.{parameters_used}
use Rattle.pc_shifts.specs.Alike.{HasNormalForms, with_variables, StillShifted, UnwindsToo, SettlesToo}
use Rattle.pc_shifts.specs.Supplies.{SuppliesAlike}
use Rattle.pc_shifts.proofs.Supplies.{SuppliesGrow}
use Rattle.pc_shifts.proofs.LaterTrees.{tree_later}
use Rattle.pc_shifts.proofs.TidiedTrees.{tidied_alike}
use Rattle.pc_shifts.proofs.UnwoundTrees.{NamesMatch, names_later}
use Rattle.pc_shifts.proofs.UnwindingSteps.{size_alike, UnwoundAlike, unwinds_alike}
use Rattle.pc_shifts.proofs.Within.{within, within_known, within_once, within_forms}

-- ---- windows of alike trees

front_alike : {maps : Maps} {f g : ℕ → Form} {pairs : List Pair} {t u : Tree} → TreesAlike maps f g pairs t u → SameFront (front_of t) (front_of u)
front_alike (both_then tags items dests below) = tt
front_alike (both_either tags test yes_side no_side) = (tt, tt)
front_alike (both_exit tags h) = tt
front_alike both_stop = tt
front_alike both_trap = tt

-- trees that are alike become windows that are
becomes_alike : (maps : Maps) (pairs : List Pair) (t u : Tree) (names names' : Supply) (limits limits' : Limits) (inside inside' : Option ℕ) → OneToOne maps.variables → OneToOne pairs
    → EachPair pairs (λ x y. FormsAlike maps.variables (names.forms x) (names'.forms y)) → TreesAlike maps names.forms names'.forms pairs t u
    → limits ≡ limits' → inside ≡ inside' → AlikeBy maps pairs (window_of t names limits inside) (window_of u names' limits' inside')
becomes_alike maps pairs t u names names' limits limits' inside inside' once once' forms trees e k = record {
  variables_one_to_one = once;
  params_one_to_one = once';
  params_alike = forms;
  fronts = front_alike trees;
  trees = subst (λ (z : Tree). TreesAlike maps names.forms names'.forms pairs z (whole (front_of u))) (sym (whole_front_of t))
      (subst (λ (z : Tree). TreesAlike maps names.forms names'.forms pairs t z) (sym (whole_front_of u)) trees);
  limits = e;
  inside = k;
}

-- names at the same places of two lists correspond
side_pairs : (pairs : List Pair) {xs ys : List ℕ} → EachAlike (Corr pairs) xs ys → EachPair (side_by_side xs ys) (λ x y. corresponds pairs x y ≡ true)
side_pairs pairs no_more = tt
side_pairs pairs (one_more h t) = (h, side_pairs pairs t)

as_many : (pairs : List Pair) {xs ys : List ℕ} → EachAlike (Corr pairs) xs ys → length xs ≡ length ys
as_many pairs no_more = refl
as_many pairs (one_more h t) = ap suc (as_many pairs t)

-- and each stands in its list at the place of the other
place_found : (xs ys : List ℕ) (x y : ℕ) → corresponds (side_by_side xs ys) x y ≡ true → slice_get ys (place_of xs x) ≡ Some y
place_found [] ys x y h = absurd (cc)
place_found (a ∷ xs) [] x y h = absurd (cc)
place_found (a ∷ xs) (b ∷ ys) x y h = by_tests (nat_eq a x) (nat_eq b y) (corresponds (side_by_side xs ys) x y) refl h (place_found xs ys x y)
  where
    by_tests : (c c' d : Bool) → nat_eq b y ≡ c' → (if c then c' else (not c' && d)) ≡ true → (d ≡ true → slice_get ys (place_of xs x) ≡ Some y)
        → slice_get (b ∷ ys) (if c then 0 else suc (place_of xs x)) ≡ Some y
    by_tests true true d e k next = ap (λ (z : ℕ). Some z) (eqb-true b y e)
    by_tests true false d e k next = absurd (cc)
    by_tests false true d e k next = absurd (cc)
    by_tests false false d e k next = next k

places_found : (xs ys : List ℕ) {us vs : List ℕ} → EachAlike (Corr (side_by_side xs ys)) us vs
    → map (λ (x : ℕ). slice_get ys (place_of xs x)) us ≡ map (λ (y : ℕ). Some y) vs
places_found xs ys no_more = refl
places_found xs ys (one_more {a} {b} h t) = λ i. place_found xs ys a b h i ∷ places_found xs ys t i

-- ---- windows to begin with

pairs_below : (n n' : ℕ) (xs ys : List ℕ) → AllByRecursion (λ x. x < n) xs → AllByRecursion (λ y. y < n') ys → EachPair (side_by_side xs ys) (λ x y. (x < n) × (y < n'))
pairs_below n n' [] ys h k = tt
pairs_below n n' (x ∷ xs) [] h k = tt
pairs_below n n' (x ∷ xs) (y ∷ ys) h k = ((h.0, k.0), pairs_below n n' xs ys h.1 k.1)

parameters_below : (n : ℕ) (t : Tree) → TreeBelow n t → AllByRecursion (λ x. x < n) (parameters_of t)
parameters_below n t b = all_imply (λ x. uses t x ≡ true) (λ x. x < n) (parameters_of t) (λ x u. used_below n t x b u) (parameters_used t)

module _ (w v : Window) (p : IsProper w) (q : IsProper v) (normal : HasNormalForms w) (normal' : HasNormalForms v) where
  abbrev near : List Pair → List Pair
  near variables = within w.next_variable v.next_variable variables

  near_forms : (variables : List Pair) (x y : ℕ) → FormsAlike variables (w.forms x) (v.forms y) → FormsAlike (near variables) (w.forms x) (v.forms y)
  near_forms variables x y h = within_forms w.next_variable v.next_variable variables (w.forms x) (v.forms y) (p.forms_below.form x) (q.forms_below.form y) h

  both_supplies : (variables : List Pair) → OneToOne variables → SuppliesAlike (near variables) (supply_of w) (supply_of v)
  both_supplies variables once = record {
    once = within_once w.next_variable v.next_variable variables once;
    known = within_known w.next_variable v.next_variable variables;
    below = p.forms_below;
    others_below = q.forms_below;
    normal = normal.form;
    others_normal = normal'.form;
  }

  both_names : (variables pairs : List Pair) → EachPair pairs (λ x y. (x < w.next) × (y < v.next)) → EachPair pairs (λ x y. FormsAlike variables (w.forms x) (v.forms y))
      → NamesMatch (near variables) pairs (supply_of w) (supply_of v)
  both_names variables [] h k = tt
  both_names variables (pair ∷ pairs) h k = ((h.0.0, h.0.1, near_forms variables pair.one pair.other k.0), both_names variables pairs h.1 k.1)

  abbrev pairs_of : List Pair
  pairs_of = parameter_pairs w v

  first_names : (maps : Maps) → AlikeBy maps pairs_of w v → NamesMatch (near maps.variables) pairs_of (supply_of w) (supply_of v)
  first_names maps alike =
      both_names maps.variables pairs_of
      (pairs_below w.next v.next (parameters_of (whole w.front)) (parameters_of (whole v.front)) (parameters_below w.next (whole w.front) p.names_below)
      (parameters_below v.next (whole v.front) q.names_below)) alike.params_alike

  -- unwound side by side
  unwound_both : (table : Table) (number : ℕ) (maps : Maps) → AlikeBy maps pairs_of w v → (k : Grafted) → Unwinds table w.inside number (grafted_of w) k
      → UnwoundAlike (with_variables maps (near maps.variables)) pairs_of table w.inside number (grafted_of w) (grafted_of v) k
  unwound_both table number maps alike k u =
      unwinds_alike table w.inside number (with_variables maps (near maps.variables)) pairs_of (grafted_of w) k (grafted_of v) u
      (both_supplies maps.variables alike.variables_one_to_one) (first_names maps alike) (proper_sound w p) (proper_sound v q)
      (tree_later maps w.forms v.forms (near maps.variables) w.forms v.forms w.next v.next (λ x y lt lt' h. near_forms maps.variables x y h) p.names_below q.names_below alike.trees)

  -- what the two windows become, where their trees are changed so that they stay alike
  still_alike : (maps maps' : Maps) (alike : AlikeBy maps pairs_of w v) (k k' : Grafted) (more : List Pair)
      → SuppliesAlike (near maps.variables) (supply_of w) (supply_of v) → SuppliesGrow (near maps.variables) (supply_of w) (supply_of v) more k.names k'.names
      → (t u : Tree) → TreesAlike (with_variables maps' more) k.names.forms k'.names.forms pairs_of t u
      → StillShifted w v (window_of t k.names w.limits w.inside) (window_of u k'.names v.limits v.inside)
  still_alike maps maps' alike k k' more s grow t u trees =
      let one = window_of t k.names w.limits w.inside in
      let other = window_of u k'.names v.limits v.inside in
      let later = names_later (near maps.variables) more (supply_of w) (supply_of v) k.names k'.names s grow pairs_of (first_names maps alike) in
      let both = becomes_alike (with_variables maps' more) pairs_of t u k.names k'.names w.limits v.limits w.inside v.inside grow.alike.once alike.params_one_to_one
      (only_forms more k.names k'.names pairs_of later) trees alike.limits alike.inside in
      let used : EachAlike (Corr pairs_of) (parameters_of (whole one.front)) (parameters_of (whole other.front)) = first_uses_alike pairs_of (uses_alike both.trees) in
      record {
        shifted = forms_tell one other (forms_kept one other (pairs_of, (with_variables maps' more, both)));
        as_large = size_alike both.trees;
        as_many = as_many pairs_of used;
        parameters = side_pairs pairs_of used;
        places = places_found (parameters_of (whole w.front)) (parameters_of (whole v.front)) used;
        normal = record { form = grow.alike.normal };
        others_normal = record { form = grow.alike.others_normal };
      }
    where
      only_forms : (more : List Pair) (names names' : Supply) (pairs : List Pair) → NamesMatch more pairs names names'
          → EachPair pairs (λ x y. FormsAlike more (names.forms x) (names'.forms y))
      only_forms more names names' [] h = tt
      only_forms more names names' (pair ∷ pairs) h = (h.0.2, only_forms more names names' pairs h.1)

-- ---- the laws

-- windows that are equal up to a shift are so with their parameters in the order of first use
in_order : (w v : Window) → Shifted w v → ShiftedBy (parameter_pairs w v) w v
in_order w v h = forms_tell w v (forms_kept w v h)

pub unwinding_shifts : (table : Table) (number : ℕ) (w v w' : Window) → IsProper w → IsProper v → HasNormalForms w → HasNormalForms v → Shifted w v
    → UnwindsTo table number w w' → UnwindsToo table number w v w'
unwinding_shifts table number w v w' p q n n' h u =
    let by = in_order w v h in
    let both = unwound_both w v p q n n' table number by.0 by.1 u.unwound u.unwinds in
    let unwound = window_of both.other.tree both.other.names v.limits v.inside in
    let still = still_alike w v p q n n' by.0 by.0 by.1 u.unwound both.other both.match.more (both_supplies w v p q n n' by.0.variables by.1.variables_one_to_one) both.match.grow
    u.unwound.tree both.other.tree both.match.trees in
    record {
      unwound = unwound;
      unwinds = record {
        unwound = both.other;
        unwinds = subst (λ (i : Option ℕ). Unwinds table i number (grafted_of v) both.other) by.1.inside both.unwinds;
        is = refl;
      };
      still = subst (λ (z : Window). StillShifted w v z unwound) (sym u.is) still;
    }

pub settling_shifts : (table : Table) (number : ℕ) (w v unwound w' : Window) → IsProper w → IsProper v → HasNormalForms w → HasNormalForms v → Shifted w v
    → UnwindsTo table number w unwound → Tidies unwound w' → SettlesToo table number w v w'
settling_shifts table number w v unwound w' p q n n' h u tidies =
    let by = in_order w v h in
    let both = unwound_both w v p q n n' table number by.0 by.1 u.unwound u.unwinds in
    let maps = with_variables by.0 both.match.more in
    let k = u.unwound in
    let k' = both.other in
    let after = window_of k'.tree k'.names v.limits v.inside in
    let settled = with_tree after (tidied (whole after.front)) in
    let still = still_alike w v p q n n' by.0 by.0 by.1 k k' both.match.more (both_supplies w v p q n n' by.0.variables by.1.variables_one_to_one) both.match.grow
    (tidied k.tree) (tidied k'.tree) (tidied_alike maps k.names.forms k'.names.forms (parameter_pairs w v) k.tree k'.tree both.match.trees) in
    let is : w' ≡ window_of (tidied k.tree) k.names w.limits w.inside =
    tidies ∙ ap (λ (z : Window). with_tree z (tidied (whole z.front))) u.is ∙ ap (λ (t : Tree). window_of (tidied t) k.names w.limits w.inside) (whole_front_of k.tree) in
    let is' : settled ≡ window_of (tidied k'.tree) k'.names v.limits v.inside = ap (λ (t : Tree). window_of (tidied t) k'.names v.limits v.inside) (whole_front_of k'.tree) in
    record {
      unwound = after;
      unwinds = record {
        unwound = k';
        unwinds = subst (λ (i : Option ℕ). Unwinds table i number (grafted_of v) k') by.1.inside both.unwinds;
        is = refl;
      };
      settled = settled;
      tidies = refl;
      still = subst (λ (z : Window). StillShifted w v z settled) (sym is)
          (subst (λ (z : Window). StillShifted w v (window_of (tidied k.tree) k.names w.limits w.inside) z) (sym is') still);
    }

-- a window with the key of one that settled to a member, up to a shift, does so too
pub known_settles : (table : Table) (number : ℕ) (w v unwound w' member : Window) → IsProper w → IsProper v → HasNormalForms w → HasNormalForms v → key_of w ≡ key_of v
    → UnwindsTo table number w unwound → Tidies unwound w' → Shifted w' member
    → (too : SettlesToo table number w v w') × ShiftedBy (parameter_pairs too.settled member) too.settled member
known_settles table number w v unwound w' member p q n n' same u tidies h =
    let too = settling_shifts table number w v unwound w' p q n n' (parameter_pairs w v, keys_pair w v same) u tidies in
    let other = forms_kept w' too.settled (parameter_pairs w' too.settled, too.still.shifted) in
    (too, forms_tell too.settled member (sym other ∙ forms_kept w' member h))
