-- Chosen forms may be emitted.
use Rattle.std.proofs.Common.{◌≡◌, ℕ, zero, suc, ◌<◌, ◌≤◌, ◌⊎◌, inl, inr, Bool, true, false, ◌||◌, cond}
use Rattle.std.proofs.Common.{List, [], ◌∷◌, ◌++◌, length, Option, Some, None, refl, sym, ◌∙◌, ap, subst, arith}
use Rattle.std.specs.Prelude.{ℤ, nat_eq, slice_get}
use Rattle.std.specs.List.{AllByRecursion, list_any, flat_map}
use Rattle.std.proofs.lemmas.List.Folds.{list_any-append}
use Rattle.std.proofs.lemmas.Map.Views.{Contains-from_any}
use Rattle.std.proofs.lemmas.Option.{slice_get_within}
use Rattle.pc_word.specs.declared.item.Limits.{Limits}
use Rattle.pc_word.specs.declared.item.Extent.{Extent}
use Rattle.pc_word.specs.MachineLimits.{most_object}
use Rattle.pc_word.specs.Row.{Row, Then, Either, At_leaf, leaves_of}
use Rattle.pc_word.proofs.Lists.{all_both}
use Rattle.pc_word.proofs.Truth.{decide_le, or_first, or_second}
use Rattle.pc_table.specs.Table.{TableTree, Does, Asks, Next, Stops_here, Traps_here, Table, region_tree}
use Rattle.pc_table.specs.TableKeeps.{TableKeeps}
use Rattle.pc_automaton.specs.declared.automaton.AutomatonLeaf.{AutomatonLeaf}
use Rattle.pc_automaton.specs.declared.automaton.AutomatonLeaf.TheVariants.{To, Out, Stop, Trap}
use Rattle.pc_automaton.specs.Automaton.{AutomatonState}
use Rattle.pc_emit.specs.Emitted.{RegionForm, Plain, ByAutomaton}
use Rattle.pc_emit.specs.Emitting.{HasForm, NamesHaveForms, LeadsToForm}
use Rattle.pc_emit.specs.Leading.{tree_leads, leaf_leads, states_lead, form_leads, IsMet, Met_first, Met_behind}
use Rattle.pc_emit.specs.Bytes.{object_bytes}
use Rattle.pc_compile.specs.models.Leaves.{LeavesKeep}
use Rattle.pc_compile.specs.declared.choice.Choice.{Choice}
use Rattle.pc_compile.specs.declared.choice.Cause.{Cause}
use Rattle.pc_compile.specs.declared.choice.Form.{Form}
use Rattle.pc_compile.specs.Choosing.{with_region_form, bytes_with, with_region, with_regions, choice_of, Gets, Gets_pipelined, Gets_packed, Gets_plain, Choosing, Begins, Takes}
use Rattle.pc_compile.specs.models.Marked.{NamesBelow, LeadsBelow}
use Rattle.pc_compile.specs.models.Giving.{FormLeadsBelow}
use Rattle.pc_compile.proofs.Places.{listed}
use Rattle.pc_compile.proofs.Counting.{with_region_form-same, form_stays, plain_counts}
use Rattle.pc_compile.proofs.Progress.{leads_below}
use Rattle.pc_compile.proofs.Taken.{with_regions_keep, form_among, next_is_free}
use Rattle.pc_word.proofs.Places.{length_more, found_within, same_number, own_number}

-- ---- lists of regions

-- a region stands in a list
abbrev pub IsIn : List ℕ → ℕ → Type 0
IsIn regions region = list_any (nat_eq region) regions ≡ true

in_either : (xs ys : List ℕ) (region : ℕ) → IsIn (xs ++ ys) region → IsIn xs region ⊎ IsIn ys region
in_either xs ys region h = by (list_any (nat_eq region) xs) refl (sym (list_any-append (nat_eq region) xs ys) ∙ h)
  where
    by : (b : Bool) → list_any (nat_eq region) xs ≡ b → (b || list_any (nat_eq region) ys) ≡ true → IsIn xs region ⊎ IsIn ys region
    by true e h = inl e
    by false e h = inr h

in_front : (xs ys : List ℕ) (region : ℕ) → IsIn xs region → IsIn (xs ++ ys) region
in_front xs ys region h = list_any-append (nat_eq region) xs ys ∙ or_first (list_any (nat_eq region) xs) (list_any (nat_eq region) ys) h

in_back : (xs ys : List ℕ) (region : ℕ) → IsIn ys region → IsIn (xs ++ ys) region
in_back xs ys region h = list_any-append (nat_eq region) xs ys ∙ or_second (list_any (nat_eq region) xs) (list_any (nat_eq region) ys) h

in_one : (only region : ℕ) → IsIn (only ∷ []) region → region ≡ only
in_one only region h = by (nat_eq region only) refl h
  where
    by : (b : Bool) → nat_eq region only ≡ b → (b || false) ≡ true → region ≡ only
    by true e h = same_number region only e
    by false e h = absurd (cc)

-- a region that stands in a list has a place in it
pub place_of : (xs : List ℕ) (region : ℕ) → IsIn xs region → (at : ℕ) × (slice_get xs at ≡ Some region)
place_of [] region h = absurd (cc)
place_of (x ∷ xs) region h = by (nat_eq region x) refl h (λ k. place_of xs region k)
  where
    by : (b : Bool) → nat_eq region x ≡ b → (b || list_any (nat_eq region) xs) ≡ true
        → (IsIn xs region → (at : ℕ) × (slice_get xs at ≡ Some region)) → (at : ℕ) × (slice_get (x ∷ xs) at ≡ Some region)
    by true e h rest = (0, ap Some (sym (same_number region x e)))
    by false e h rest = let more = rest h in (suc more.0, more.1)

-- what is found is what was found and what is found now
found_either : (found regions : List ℕ) (region : ℕ) → IsIn (with_regions found regions) region → IsIn found region ⊎ IsIn regions region
found_either found [] region h = inl h
found_either found (first ∷ regions) region h = by (found_either (with_region found first) regions region h)
  where
    one : (b : Bool) → IsIn (cond b found (found ++ first ∷ [])) region → IsIn found region ⊎ IsIn (first ∷ regions) region
    one true k = inl k
    one false k = elim (in_either found (first ∷ []) region k) [
      | inl old ↦ inl old
      | inr new ↦ inr (in_front (first ∷ []) regions region new)
    ]

    by : IsIn (with_region found first) region ⊎ IsIn regions region → IsIn found region ⊎ IsIn (first ∷ regions) region
    by (inl k) = one (list_any (nat_eq first) found) k
    by (inr k) = inr (in_back (first ∷ []) regions region k)

found_still : (found regions : List ℕ) (region : ℕ) → IsIn found region → IsIn (with_regions found regions) region
found_still found regions region h =
    let at = place_of found region h in
    listed (with_regions found regions) at.0 region (with_regions_keep found regions at.0 region at.1)

found_itself : (found : List ℕ) (region : ℕ) → IsIn (with_region found region) region
found_itself found region = by (list_any (nat_eq region) found) refl
  where
    by : (b : Bool) → list_any (nat_eq region) found ≡ b → IsIn (cond b found (found ++ region ∷ [])) region
    by true e = e
    by false e = in_back found (region ∷ []) region (or_first (nat_eq region region) false (own_number region))

found_now : (found regions : List ℕ) (region : ℕ) → IsIn regions region → IsIn (with_regions found regions) region
found_now found [] region h = absurd (cc)
found_now found (first ∷ regions) region h = by (nat_eq region first) refl h (λ k. found_now (with_region found first) regions region k)
  where
    by : (b : Bool) → nat_eq region first ≡ b → (b || list_any (nat_eq region) regions) ≡ true
        → (IsIn regions region → IsIn (with_regions (with_region found first) regions) region) → IsIn (with_regions (with_region found first) regions) region
    by true e h rest =
        found_still (with_region found first) regions region
        (subst (λ (r : ℕ). IsIn (with_region found first) r) (sym (same_number region first e)) (found_itself found first))
    by false e h rest = rest h

-- ---- what a form leads to

-- each region that a tree names is below a number
named_below : (count : ℕ) (tree : TableTree) → NamesBelow count tree → (region : ℕ) → IsIn (tree_leads tree) region → region < count
named_below count (Does origin item rest) below region h = named_below count rest below region h
named_below count (Asks origin on on_yes on_no) below region h =
    by (in_either (tree_leads on_yes) (tree_leads on_no) region h) (named_below count on_yes below.0 region) (named_below count on_no below.1 region)
  where
    by : IsIn (tree_leads on_yes) region ⊎ IsIn (tree_leads on_no) region → (IsIn (tree_leads on_yes) region → region < count)
        → (IsIn (tree_leads on_no) region → region < count) → region < count
    by (inl k) yes_side no_side = yes_side k
    by (inr k) yes_side no_side = no_side k
named_below count (Next next) below region h = subst (λ (r : ℕ). r < count) (sym (in_one next region h)) below
named_below count Stops_here below region h = absurd (cc)
named_below count (Traps_here kind line) below region h = absurd (cc)

-- so is each that the leaves of a row lead out to
leaf_led_below : (count : ℕ) (leaf : AutomatonLeaf) → LeadsBelow count leaf → (region : ℕ) → IsIn (leaf_leads leaf) region → region < count
leaf_led_below count (To state arguments) below region h = absurd (cc)
leaf_led_below count (Out to homes) below region h = subst (λ (r : ℕ). r < count) (sym (in_one to region h)) below
leaf_led_below count Stop below region h = absurd (cc)
leaf_led_below count (Trap kind line) below region h = absurd (cc)

-- what stands in the lists of the elements of a list stands in one of them
in_flat : {X : Type 0} (P : X → Type 0) (f : X → List ℕ) (xs : List X) (region : ℕ) (Q : Type 0) → ((x : X) → P x → IsIn (f x) region → Q)
    → AllByRecursion P xs → IsIn (flat_map f xs) region → Q
in_flat P f [] region Q each all h = absurd (cc)
in_flat P f (x ∷ xs) region Q each all h = by (in_either (f x) (flat_map f xs) region h) (in_flat P f xs region Q each all.1)
  where
    by : IsIn (f x) region ⊎ IsIn (flat_map f xs) region → (IsIn (flat_map f xs) region → Q) → Q
    by (inl k) rest = each x all.0 k
    by (inr k) rest = rest k

leaves_all : (P : AutomatonLeaf → Type 0) (row : Row AutomatonLeaf) → LeavesKeep P row → AllByRecursion P (leaves_of row)
leaves_all P (Then item rest) h = leaves_all P rest h
leaves_all P (Either on on_yes on_no) h = all_both P (leaves_of on_yes) (leaves_of on_no) (leaves_all P on_yes h.0) (leaves_all P on_no h.1)
leaves_all P (At_leaf leaf) h = (h, tt)

-- each region to which a form leads is there
led_below : (count : ℕ) (tree : TableTree) (form : RegionForm) → FormLeadsBelow count tree form → (region : ℕ) → IsIn (form_leads tree form) region
    → region < count
led_below count tree Plain below region h = named_below count tree below region h
led_below count tree (ByAutomaton states registers) below region h =
    in_flat (λ state. LeavesKeep (LeadsBelow count) state.row) (λ state. flat_map leaf_leads (leaves_of state.row)) states region (region < count)
    (λ state fits k. in_flat (LeadsBelow count) leaf_leads (leaves_of state.row) region (region < count) (λ leaf under j. leaf_led_below count leaf under region j)
    (leaves_all (LeadsBelow count) state.row fits) k)
    below h

-- where each region that a tree names has a form, its names have forms
pub names_have : (table : Table) (forms : ℕ → Option RegionForm) (tree : TableTree) → ((region : ℕ) → IsIn (tree_leads tree) region → HasForm table forms region)
    → NamesHaveForms table forms tree
names_have table forms (Does origin item rest) each = names_have table forms rest each
names_have table forms (Asks origin on on_yes on_no) each = (
  names_have table forms on_yes (λ region h. each region (in_front (tree_leads on_yes) (tree_leads on_no) region h)),
  names_have table forms on_no (λ region h. each region (in_back (tree_leads on_yes) (tree_leads on_no) region h)),
)
names_have table forms (Next next) each = each next (or_first (nat_eq next next) false (own_number next))
names_have table forms Stops_here each = tt
names_have table forms (Traps_here kind line) each = tt

-- so it is with leaves
leaf_has : (table : Table) (forms : ℕ → Option RegionForm) (leaf : AutomatonLeaf) → ((region : ℕ) → IsIn (leaf_leads leaf) region → HasForm table forms region)
    → LeadsToForm table forms leaf
leaf_has table forms (To state arguments) each = tt
leaf_has table forms (Out region homes) each = each region (or_first (nat_eq region region) false (own_number region))
leaf_has table forms Stop each = tt
leaf_has table forms (Trap kind line) each = tt

leaves_have : (table : Table) (forms : ℕ → Option RegionForm) (leaves : List AutomatonLeaf)
    → ((region : ℕ) → IsIn (flat_map leaf_leads leaves) region → HasForm table forms region) → AllByRecursion (LeadsToForm table forms) leaves
leaves_have table forms [] each = tt
leaves_have table forms (leaf ∷ leaves) each = (
  leaf_has table forms leaf (λ region h. each region (in_front (leaf_leads leaf) (flat_map leaf_leads leaves) region h)),
  leaves_have table forms leaves (λ region h. each region (in_back (leaf_leads leaf) (flat_map leaf_leads leaves) region h)),
)

pub state_has : (table : Table) (forms : ℕ → Option RegionForm) (states : List AutomatonState)
    → ((region : ℕ) → IsIn (states_lead states) region → HasForm table forms region)
    → (number : ℕ) (state : AutomatonState) → slice_get states number ≡ Some state → AllByRecursion (LeadsToForm table forms) (leaves_of state.row)
state_has table forms [] each number state e = absurd (cc)
state_has table forms (first ∷ states) each zero state e =
    let same : first ≡ state = (cc) in
    subst (λ (s : AutomatonState). AllByRecursion (LeadsToForm table forms) (leaves_of s.row)) same
    (leaves_have table forms (leaves_of first.row) (λ region h. each region (in_front (flat_map leaf_leads (leaves_of first.row)) (states_lead states) region h)))
state_has table forms (first ∷ states) each (suc number) state e =
    state_has table forms states (λ region h. each region (in_back (flat_map leaf_leads (leaves_of first.row)) (states_lead states) region h)) number state e

-- ---- while forms are chosen

module _ (table : Table) (keeps : TableKeeps table) (initial : List (List ℤ)) (limits : Limits) (extent : Extent)
    (small : object_bytes table initial (λ region. None) ≤ most_object) where
  -- what a region's form was given by
  pub record WasGiven (region : ℕ) (form : RegionForm) : Type 0 where
    pub had : ℕ → Option RegionForm
    pub free : had region ≡ None
    pub short : object_bytes table initial had ≤ most_object
    pub kind : Form
    pub causes : List Cause
    pub there : region < length table.regions
    pub gets : Gets table limits extent region (bytes_with table initial had region) form kind causes

  -- what is kept from region to region
  pub record Stands (found : List ℕ) (choices : List Choice) (forms : ℕ → Option RegionForm) : Type 0 where
    pub short : object_bytes table initial forms ≤ most_object
    pub few : length choices ≤ length found
    pub first : slice_get found 0 ≡ Some 0
    pub there : (region : ℕ) → IsIn found region → region < length table.regions
    pub taken : (at region : ℕ) → at < length choices → slice_get found at ≡ Some region → (form : RegionForm) × (forms region ≡ Some form)
    pub given : (region : ℕ) (form : RegionForm) → forms region ≡ Some form → WasGiven region form
    pub behind : (from region : ℕ) (form : RegionForm) → forms from ≡ Some form → IsIn (form_leads (region_tree table from) form) region → IsIn found region
    pub met : (region : ℕ) → IsIn found region → IsMet table forms region

  begins_stands : Stands (0 ∷ []) [] (λ region. None)
  begins_stands = record {
    short = small;
    few = omega arith;
    first = refl;
    there = λ region h. let some = keeps.some_region in let is = in_one 0 region h in omega (arith, some, is);
    taken = λ at region lt e. absurd (omega arith);
    given = λ region form e. absurd (cc);
    behind = λ from region form e h. absurd (cc);
    met = λ region h. subst (λ (r : ℕ). IsMet table (λ other. None) r) (sym (in_one 0 region h)) Met_first;
  }

  -- with one form more, what was met is met still
  met_more : (forms : ℕ → Option RegionForm) (last : ℕ) (chosen : RegionForm) → forms last ≡ None → (region : ℕ) → IsMet table forms region
      → IsMet table (with_region_form forms last chosen) region
  met_more forms last chosen free zero Met_first = Met_first
  met_more forms last chosen free region (Met_behind {from} {region = to} {form} met has leads) =
      Met_behind (met_more forms last chosen free from met) (form_stays forms last from chosen form free has) leads

  -- the bytes stay few enough
  gets_short : (forms : ℕ → Option RegionForm) (region : ℕ) (chosen : RegionForm) (kind : Form) (causes : List Cause) → region < length table.regions
      → forms region ≡ None → object_bytes table initial forms ≤ most_object → Gets table limits extent region (bytes_with table initial forms region) chosen kind causes
      → object_bytes table initial (with_region_form forms region chosen) ≤ most_object
  gets_short forms region chosen kind causes there free short (Gets_pipelined may has few) = few
  gets_short forms region chosen kind causes there free short (Gets_packed passed has few) = few
  gets_short forms region chosen kind causes there free short (Gets_plain passed refused) =
      subst (λ (n : ℕ). n ≤ most_object) (sym (plain_counts table initial forms region there free)) short

  module _ (found : List ℕ) (choices : List Choice) (forms : ℕ → Option RegionForm) (last : ℕ) (chosen : RegionForm) (kind : Form) (causes : List Cause)
      (choosing : Choosing table initial limits extent found choices forms) (next : slice_get found (length choices) ≡ Some last)
      (gets : Gets table limits extent last (bytes_with table initial forms last) chosen kind causes) (stands : Stands found choices forms) where
    -- the region that is taken is there, and has no form yet
    last_there : last < length table.regions
    last_there = stands.there last (listed found (length choices) last next)

    last_free : forms last ≡ None
    last_free = next_is_free table initial limits extent found choices forms choosing last next

    -- regions that are found, and forms, after it
    abbrev leads : List ℕ
    leads = form_leads (region_tree table last) chosen

    abbrev now : List ℕ
    now = with_regions found leads

    abbrev with_it : ℕ → Option RegionForm
    with_it = with_region_form forms last chosen

    there_now : (region : ℕ) → IsIn now region → region < length table.regions
    there_now region h = elim (found_either found leads region h) [
      | inl old ↦ stands.there region old
      | inr new ↦
          led_below (length table.regions) (region_tree table last) chosen
          (leads_below table keeps limits extent last (bytes_with table initial forms last) chosen kind causes gets) region new
    ]

    taken_now : (at region : ℕ) → at < suc (length choices) → slice_get now at ≡ Some region → (form : RegionForm) × (with_it region ≡ Some form)
    taken_now at region lt e = by (decide_le (length choices) at)
      where
        old_at : at < length choices → slice_get found at ≡ Some region
        old_at less =
            let few = stands.few in
            let was = found_within found at (omega (arith, less, few)) in
            let kept = with_regions_keep found leads at was.0 was.1 in
            let same : was.0 ≡ region = (cc) in
            was.1 ∙ ap Some same

        by : (length choices ≤ at) ⊎ (at < length choices) → (form : RegionForm) × (with_it region ≡ Some form)
        by (inl up) =
            let same : at ≡ length choices = omega arith in
            let kept = with_regions_keep found leads (length choices) last next in
            let here : slice_get now (length choices) ≡ Some region = ap (slice_get now) (sym same) ∙ e in
            let is : last ≡ region = (cc) in
            (chosen, subst (λ (r : ℕ). with_it r ≡ Some chosen) is (with_region_form-same forms last chosen))
        by (inr less) =
            let was = stands.taken at region less (old_at less) in (was.0, form_stays forms last region chosen was.0 last_free was.1)

    given_now : (region : ℕ) (form : RegionForm) → with_it region ≡ Some form → WasGiven region form
    given_now region form has = by (form_among table initial limits extent forms last region chosen form has)
      where
        by : ((region ≡ last) × (chosen ≡ form)) ⊎ (forms region ≡ Some form) → WasGiven region form
        by (inl h) =
            subst (λ (f : RegionForm). WasGiven region f) h.1
            (subst (λ (r : ℕ). WasGiven r chosen) (sym h.0) (record {
              had = forms;
              free = last_free;
              short = stands.short;
              kind = kind;
              causes = causes;
              there = last_there;
              gets = gets;
            }))
        by (inr h) = stands.given region form h

    behind_now : (from region : ℕ) (form : RegionForm) → with_it from ≡ Some form → IsIn (form_leads (region_tree table from) form) region → IsIn now region
    behind_now from region form has h = by (form_among table initial limits extent forms last from chosen form has)
      where
        by : ((from ≡ last) × (chosen ≡ form)) ⊎ (forms from ≡ Some form) → IsIn now region
        by (inl k) =
            let here : IsIn (form_leads (region_tree table last) chosen) region =
            subst (λ (f : RegionForm). IsIn (form_leads (region_tree table last) f) region) (sym k.1)
            (subst (λ (r : ℕ). IsIn (form_leads (region_tree table r) form) region) k.0 h) in
            found_now found leads region here
        by (inr k) = found_still found leads region (stands.behind from region form k h)

    met_now : (region : ℕ) → IsIn now region → IsMet table with_it region
    met_now region h = elim (found_either found leads region h) [
      | inl old ↦ met_more forms last chosen last_free region (stands.met region old)
      | inr new ↦
          Met_behind (met_more forms last chosen last_free last (stands.met last (listed found (length choices) last next)))
          (with_region_form-same forms last chosen) (Contains-from_any same_number region leads new)
    ]

    -- so it stands still when the region was taken
    takes_stands : Stands now (choices ++ choice_of last kind causes ∷ []) with_it
    takes_stands =
        let more = length_more choices (choice_of last kind causes) in
        record {
          short = gets_short forms last chosen kind causes last_there last_free stands.short gets;
          few =
              let kept = slice_get_within now (length choices) last (with_regions_keep found leads (length choices) last next) in
              omega (arith, more, kept);
          first = with_regions_keep found leads 0 0 stands.first;
          there = there_now;
          taken = λ at region lt e. taken_now at region (omega (arith, lt, more)) e;
          given = given_now;
          behind = behind_now;
          met = met_now;
        }

  -- what is kept, whatever was chosen
  pub chosen_stands : (found : List ℕ) (choices : List Choice) (forms : ℕ → Option RegionForm) → Choosing table initial limits extent found choices forms
      → Stands found choices forms
  chosen_stands found choices forms Begins = begins_stands
  chosen_stands found choices forms (Takes {found = before} {choices = had} {forms = old} {region = last} {chosen = chosen} {kind = kind} {causes = causes} choosing next gets) =
      takes_stands before had old last chosen kind causes choosing next gets (chosen_stands before had old choosing)
