-- Forms are chosen region by region.
use Rattle.std.proofs.Common.{◌≡◌, ℕ, zero, suc, ◌-◌, ◌<◌, ◌≤◌, Bool, true, false, cond, List, [], ◌∷◌}
use Rattle.std.proofs.Common.{◌++◌, length, Option, Some, None, refl, sym, ◌∙◌, ap, subst, arith}
use Rattle.std.specs.Prelude.{ℤ, nat_eq, slice_get, slice_set, replicate}
use Rattle.std.specs.List.{AllByRecursion}
use Rattle.std.proofs.lemmas.List.{length-replicate}
use Rattle.std.proofs.lemmas.Option.{slice_get_within}
use Rattle.std.proofs.lemmas.Bool.Decides.{nat_tests}
use Rattle.pc_word.specs.declared.item.Limits.{Limits}
use Rattle.pc_word.specs.declared.item.Extent.{Extent}
use Rattle.pc_word.specs.MachineLimits.{most_object}
use Rattle.pc_word.specs.Row.{Row, Then, Either, At_leaf, leaves_of}
use Rattle.pc_word.proofs.Lists.{all_front, all_back, all_imply, set_length}
use Rattle.pc_table.specs.Table.{TableTree, Does, Asks, Next, Stops_here, Traps_here, TableRegion, Table, tree_of, region_tree, table_region}
use Rattle.pc_table.specs.StoredTable.{table_of}
use Rattle.pc_table.specs.declared.table.RegionTable.{RegionTable}
use Rattle.pc_table.specs.TableKeeps.{TableKeeps, TreeIsThere}
use Rattle.pc_automaton.specs.declared.automaton.AutomatonLeaf.{AutomatonLeaf}
use Rattle.pc_automaton.specs.declared.automaton.AutomatonLeaf.TheVariants.{To, Out, Stop, Trap}
use Rattle.pc_automaton.specs.There.{LeafIsThere, StateIsThere}
use Rattle.pc_emit.specs.declared.form.RegionForm.{RegionForm as StoredForm}
use Rattle.pc_emit.specs.declared.form.RegionForm.TheVariants as stored
use Rattle.pc_emit.specs.Emitted.{RegionForm, Plain, ByAutomaton}
use Rattle.pc_emit.specs.Emitting.{form_in, region_forms}
use Rattle.pc_emit.specs.Leading.{form_leads}
use Rattle.pc_emit.specs.Bytes.{plain_bytes, object_bytes}
use Rattle.pc_compile.specs.models.Leaves.{LeavesKeep}
use Rattle.pc_compile.specs.declared.choosing.Progress.{Progress}
use Rattle.pc_compile.specs.declared.giving.Given.{Given}
use Rattle.pc_compile.specs.declared.choice.Choice.{Choice}
use Rattle.pc_compile.specs.declared.choice.Cause.{Cause}
use Rattle.pc_compile.specs.declared.choice.Form.{Form}
use Rattle.pc_compile.specs.Choosing.{with_region_form, bytes_with, choice_of, Gets, Choosing, Begins, Takes, AreChosen}
use Rattle.pc_compile.specs.models.Marked.{IsMarked, Finds, NamesBelow, LeadsBelow}
use Rattle.pc_compile.specs.models.Giving.{form_of, FormLeadsBelow, bytes_of, IsGiven}
use Rattle.pc_compile.specs.models.Progress.{IsChoosing}
use Rattle.pc_compile.proofs.Marks.{no_more_found, found_there}
use Rattle.pc_compile.proofs.Counting.{plain_within, counts_alike}
use Rattle.pc_compile.proofs.Attempts.{form_found}
use Rattle.pc_compile.proofs.Taken.{next_is_free, taken_few}
use Rattle.pc_word.proofs.Places.{set_there, set_elsewhere, same_number, map_length, none_left}

-- ---- what a form leads to is there

names_below : (arrays count : ℕ) (tree : TableTree) → TreeIsThere arrays count tree → NamesBelow count tree
names_below arrays count (Does origin item rest) there = names_below arrays count rest there.1
names_below arrays count (Asks origin on on_yes on_no) there = (names_below arrays count on_yes there.1, names_below arrays count on_no there.2)
names_below arrays count (Next region) there = there
names_below arrays count Stops_here there = tt
names_below arrays count (Traps_here kind line) there = tt

tree_names_below : (table : Table) → TableKeeps table → (region : ℕ) → NamesBelow (length table.regions) (region_tree table region)
tree_names_below table keeps region = by (slice_get table.regions region) refl
  where
    by : (found : Option TableRegion) → slice_get table.regions region ≡ found → NamesBelow (length table.regions) (tree_of found)
    by None e = tt
    by (Some here) e = names_below (length table.arrays) (length table.regions) here.tree (keeps.each region here e).there

leaf_below : (table : Table) (leaf : AutomatonLeaf) → LeafIsThere table leaf → LeadsBelow (length table.regions) leaf
leaf_below table (To state arguments) there = tt
leaf_below table (Out region homes) there = there.leads
leaf_below table Stop there = tt
leaf_below table (Trap kind line) there = tt

leaves_below : (table : Table) (row : Row AutomatonLeaf) → AllByRecursion (LeafIsThere table) (leaves_of row)
    → LeavesKeep (LeadsBelow (length table.regions)) row
leaves_below table (Then item rest) there = leaves_below table rest there
leaves_below table (Either on on_yes on_no) there = (
  leaves_below table on_yes (all_front (LeafIsThere table) (leaves_of on_yes) (leaves_of on_no) there),
  leaves_below table on_no (all_back (LeafIsThere table) (leaves_of on_yes) (leaves_of on_no) there),
)
leaves_below table (At_leaf leaf) there = leaf_below table leaf there.0

pub leads_below : (table : Table) → TableKeeps table → (limits : Limits) (extent : Extent) (region : ℕ) (bytes : RegionForm → ℕ) (form : RegionForm)
    (kind : Form) (causes : List Cause) → Gets table limits extent region bytes form kind causes
    → FormLeadsBelow (length table.regions) (region_tree table region) form
leads_below table keeps limits extent region bytes Plain kind causes gets = tree_names_below table keeps region
leads_below table keeps limits extent region bytes (ByAutomaton states registers) kind causes gets =
    all_imply (StateIsThere table) (λ state. LeavesKeep (LeadsBelow (length table.regions)) state.row) states
    (λ state there. leaves_below table state.row there.leaves)
    (form_found table limits extent region bytes states registers kind causes gets).2.found.there

-- ---- forms in memory

form_in_one : (form : StoredForm) → form_in (Some (Some form)) ≡ Some (form_of form)
form_in_one stored.Plain = refl
form_in_one (stored.ByAutomaton automaton registers) = refl

-- a form that is put among those in memory
pub forms_with : (forms : List (Option StoredForm)) (region : ℕ) (form : StoredForm) → region < length forms
    → region_forms (slice_set forms region (Some form)) ≡ with_region_form (region_forms forms) region (form_of form)
forms_with forms region form lt = λ i other. at_each other i
  where
    by : (other : ℕ) (b : Bool) → nat_eq other region ≡ b
        → region_forms (slice_set forms region (Some form)) other ≡ cond b (Some (form_of form)) (region_forms forms other)
    by other true e =
        ap (λ (n : ℕ). form_in (slice_get (slice_set forms region (Some form)) n)) (same_number other region e)
        ∙ ap form_in (set_there forms region (Some form) lt) ∙ form_in_one form
    by other false e = ap form_in (set_elsewhere forms region other (Some form) (λ same. differ other e same))
      where
        differ : (other : ℕ) → nat_eq other region ≡ false → region ≡ other → ⊥
        differ other e same = grind (arith, nat_tests)

    at_each : (other : ℕ) → region_forms (slice_set forms region (Some form)) other ≡ with_region_form (region_forms forms) region (form_of form) other
    at_each other = by other (nat_eq other region) refl

none_in : (count region : ℕ) → form_in (slice_get (replicate count None) region) ≡ None
none_in zero region = refl
none_in (suc count) zero = refl
none_in (suc count) (suc region) = none_in count region

pub no_forms_in : (count : ℕ) → region_forms (replicate count None) ≡ (λ region. None)
no_forms_in count = λ i region. none_in count region i

-- ---- region 0 is found

pub progress_begins : (table : Table) (initial : List (List ℤ)) (limits : Limits) (extent : Extent) (it : Progress) → it.found.order ≡ 0 ∷ [] → length it.found.marks ≡ length table.regions
    → it.chosen.choices ≡ [] → it.chosen.forms ≡ replicate (length table.regions) None → it.chosen.bytes ≡ object_bytes table initial (λ region. None)
    → object_bytes table initial (λ region. None) ≤ most_object → IsChoosing table initial limits extent it
progress_begins table initial limits extent it order marks choices forms bytes small =
    let none : region_forms it.chosen.forms ≡ (λ region. None) = ap region_forms forms ∙ no_forms_in (length table.regions) in
    record {
      choosing =
          subst (λ (f : ℕ → Option RegionForm). Choosing table initial limits extent it.found.order it.chosen.choices f) (sym none)
          (subst (λ (c : List Choice). Choosing table initial limits extent it.found.order c (λ region. None)) (sym choices)
          (subst (λ (o : List ℕ). Choosing table initial limits extent o [] (λ region. None)) (sym order) Begins));
      counted = bytes ∙ ap (λ (f : ℕ → Option RegionForm). object_bytes table initial f) (sym none);
      short = subst (λ (n : ℕ). n ≤ most_object) (sym bytes) small;
      forms = let nothing : Option StoredForm = None in ap length forms ∙ length-replicate (length table.regions) nothing;
      marks = marks;
    }

-- ---- a region is taken

module _ (table : Table) (initial : List (List ℤ)) (limits : Limits) (extent : Extent) (old : Progress) (is : IsChoosing table initial limits extent old) (region : ℕ)
    (next : slice_get old.found.order (length old.chosen.choices) ≡ Some region) (there : region < length table.regions) where
  free : region_forms old.chosen.forms region ≡ None
  free = next_is_free table initial limits extent old.found.order old.chosen.choices (region_forms old.chosen.forms) is.choosing region next

  next_is_counted : plain_bytes (region_tree table region) ≤ old.chosen.bytes
  next_is_counted =
      let within = plain_within table initial (region_forms old.chosen.forms) region there free in let counted = is.counted in omega (arith, within, counted)

  counts : bytes_of table region (old.chosen.bytes - plain_bytes (region_tree table region)) ≡ bytes_with table initial (region_forms old.chosen.forms) region
  counts =
      ap (λ (n : ℕ). bytes_of table region (n - plain_bytes (region_tree table region))) is.counted
      ∙ counts_alike table initial (region_forms old.chosen.forms) region there free

  module _ (new : Progress) (given : Given) (gives : IsGiven table limits extent region (old.chosen.bytes - plain_bytes (region_tree table region)) given)
      (finds : Finds (form_leads (region_tree table region) (form_of given.form)) old.found new.found) (bytes : new.chosen.bytes ≡ given.bytes)
      (choices : new.chosen.choices ≡ old.chosen.choices ++ choice_of region given.kind given.causes ∷ [])
      (forms : new.chosen.forms ≡ slice_set old.chosen.forms region (Some given.form)) where
    forms_now : region_forms new.chosen.forms ≡ with_region_form (region_forms old.chosen.forms) region (form_of given.form)
    forms_now =
        let few = is.forms in
        ap region_forms forms ∙ forms_with old.chosen.forms region given.form (omega (arith, few, there))

    chosen_now : Choosing table initial limits extent new.found.order new.chosen.choices (region_forms new.chosen.forms)
    chosen_now =
        let gets = subst (λ (b : RegionForm → ℕ). Gets table limits extent region b (form_of given.form) given.kind given.causes) counts gives.gets in
        let takes = Takes is.choosing next gets in
        let found = subst (λ (f : List ℕ). Choosing table initial limits extent f (old.chosen.choices ++ choice_of region given.kind given.causes ∷ [])
        (with_region_form (region_forms old.chosen.forms) region (form_of given.form))) (sym finds.order) takes in
        let chosen = subst (λ (c : List Choice). Choosing table initial limits extent new.found.order c (with_region_form (region_forms old.chosen.forms) region (form_of given.form)))
        (sym choices) found in
        subst (λ (f : ℕ → Option RegionForm). Choosing table initial limits extent new.found.order new.chosen.choices f) (sym forms_now) chosen

    pub takes_next : IsChoosing table initial limits extent new
    takes_next = record {
      choosing = chosen_now;
      counted = bytes ∙ gives.counted ∙ ap (λ (b : RegionForm → ℕ). b (form_of given.form)) counts
          ∙ ap (λ (f : ℕ → Option RegionForm). object_bytes table initial f) (sym forms_now);
      short = let short = gives.short in omega (arith, short, bytes);
      forms = ap length forms ∙ set_length old.chosen.forms region (Some given.form) ∙ is.forms;
      marks = finds.as_many ∙ is.marks;
    }

-- ---- regions that are found

-- a region that was found is there
pub next_there : (table : RegionTable) (initial : List (List ℤ)) (limits : Limits) (extent : Extent) (it : Progress)
    → IsChoosing (table_of table) initial limits extent it → IsMarked it.found → (at region : ℕ) → slice_get it.found.order at ≡ Some region → region < length table.regions
next_there table initial limits extent it is marked at region here =
    let lt = found_there it.found at region marked here in
    let marks = is.marks in
    let regions = map_length table_region table.regions in
    omega (arith, lt, marks, regions)

-- while one is left, fewer were taken than there are
pub taken_fewer : (table : RegionTable) (initial : List (List ℤ)) (limits : Limits) (extent : Extent) (it : Progress)
    → IsChoosing (table_of table) initial limits extent it → IsMarked it.found → (region : ℕ)
    → slice_get it.found.order (length it.chosen.choices) ≡ Some region → length it.chosen.choices < length table.regions
taken_fewer table initial limits extent it is marked region next =
    let lt = slice_get_within it.found.order (length it.chosen.choices) region next in
    let few = no_more_found it.found marked in
    let marks = is.marks in
    let regions = map_length table_region table.regions in
    omega (arith, lt, few, marks, regions)

-- where none is left, forms were chosen
pub all_chosen : (table : Table) (initial : List (List ℤ)) (limits : Limits) (extent : Extent) (it : Progress) → IsChoosing table initial limits extent it
    → slice_get it.found.order (length it.chosen.choices) ≡ None → AreChosen table initial limits extent it.chosen.choices (region_forms it.chosen.forms)
all_chosen table initial limits extent it is none = record {
  found = it.found.order;
  choosing = is.choosing;
  all =
      let few = taken_few table initial limits extent it.found.order it.chosen.choices (region_forms it.chosen.forms) is.choosing in
      let end = none_left it.found.order (length it.chosen.choices) none in
      omega (arith, few, end);
}

-- the region that is taken next is counted as a plain one
pub next_counted : (table : RegionTable) (initial : List (List ℤ)) (limits : Limits) (extent : Extent) (it : Progress)
    → IsChoosing (table_of table) initial limits extent it → (region : ℕ) → slice_get it.found.order (length it.chosen.choices) ≡ Some region → region < length table.regions
    → plain_bytes (region_tree (table_of table) region) ≤ it.chosen.bytes
next_counted table initial limits extent it is region next there =
    let regions = map_length table_region table.regions in
    next_is_counted (table_of table) initial limits extent it is region next (omega (arith, regions, there))
