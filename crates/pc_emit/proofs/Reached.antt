-- Leaves lead to each row of a region from row 0.
use Rattle.std.proofs.Common.{◌≡◌, ◌⊎◌, inl, inr, ℕ, zero, suc, ◌+◌, ◌-◌, ◌<◌, List, [], ◌∷◌, length, Option, Some, refl, sym, ◌∙◌, ap, subst, arith}
use Rattle.std.specs.Prelude.{slice_get, Contains}
use Rattle.std.specs.List.{flat_map}
use Rattle.std.proofs.lemmas.List.Elements.{Contains-append_left, Contains-append_right, Contains-append_cases, Contains-push, Contains-push_cases}
use Rattle.std.proofs.lemmas.Option.{slice_get_within}
use Rattle.pc_word.specs.declared.item.Operand.{Operand}
use Rattle.pc_word.specs.Row.{Row, Then, Either, At_leaf, leaves_of}
use Rattle.pc_word.proofs.Truth.{decide_le}
use Rattle.pc_table.specs.Table.{TableTree, Does, Asks, Next, Stops_here, Traps_here, region_tree}
use Rattle.pc_table.specs.TableKeeps.{units, TableKeeps}
use Rattle.pc_window.specs.declared.home.Home.{Home}
use Rattle.pc_automaton.specs.declared.automaton.AutomatonLeaf.{AutomatonLeaf}
use Rattle.pc_automaton.specs.declared.automaton.AutomatonLeaf.TheVariants.{To, Out, Stop, Trap}
use Rattle.pc_automaton.specs.Automaton.{AutomatonState}
use Rattle.pc_automaton.specs.Reachable.{EachIsReachable}
use Rattle.pc_assign.specs.Assigned.{Registers}
use Rattle.pc_copies.specs.declared.moves.Move.{Move}
use Rattle.pc_copies.specs.Laws.{copy_row}
use Rattle.pc_machine.specs.declared.tree.Leaf.{Leaf}
use Rattle.pc_machine.specs.declared.tree.Leaf.TheVariants as machine
use Rattle.pc_machine.specs.MachineCode.{CodeRow}
use Rattle.pc_machine.specs.Reachable.{IsReachable, Entry, Behind}
use Rattle.pc_emit.specs.Registers.{register_of}
use Rattle.pc_emit.specs.Emitted.{RegionForm, Plain, ByAutomaton, Emission, root_leaf, form_leaf, LeadsToRegion, Passes, passes_none, passes_row}
use Rattle.pc_emit.specs.Emitted.{LeafStands, leads_to_state, leads_to_region, RowStands, item_stands, test_stands, leaf_stands, StateStands}
use Rattle.pc_emit.specs.Emitted.{LeadsBehind, to_item, to_test, to_region, to_end, to_trap, TreeStands, item_row, test_row, no_row, no_end_row, no_trap_row}
use Rattle.pc_emit.specs.Emitted.{BeginsAt, at_first_row, by_leaf_alone, IsEmitted}
use Rattle.pc_emit.specs.Leading.{tree_leads, leaf_leads, states_lead, form_leads, IsMet, Met_first, Met_behind}
use Rattle.pc_emit.specs.models.Making.{RowsReached}
use Rattle.pc_emit.specs.models.Layout.{rows_in}
use Rattle.pc_emit.proofs.PlainRuns.{IsRoot, roots}
use Rattle.pc_emit.proofs.Copying.{one_leaf}
use Rattle.pc_word.specs.Naming.{map_name}

-- the first row of a region in a form
abbrev pub form_row : Emission → ℕ → RegionForm → ℕ
form_row e region Plain = e.places.entry region
form_row e region (ByAutomaton states registers) = e.places.state region 0

-- the only one of a list
only : {X : Type 0} (y x : X) → Contains (y ∷ []) x → y ≡ x
only y x has = elim (Contains-push_cases [] y x has) [ inl none ↦ absurd (omega (arith, none.1)) | inr is ↦ is ]

-- each leaf of a row of names has its leaf of the row of registers
record StandsFor (Related : AutomatonLeaf → Leaf → Type 0) (leaf : AutomatonLeaf) (made : CodeRow) : Type 0 where
  below : Leaf
  there : Contains (leaves_of made) below
  related : Related leaf below

stands_for : {Related : AutomatonLeaf → Leaf → Type 0} {of : ℕ → ℕ} {row : Row AutomatonLeaf} {made : CodeRow} (leaf : AutomatonLeaf) → RowStands Related of row made
    → Contains (leaves_of row) leaf → StandsFor Related leaf made
stands_for {Related} leaf (item_stands item h) has = let rest = stands_for leaf h has in record { below = rest.below; there = rest.there; related = rest.related }
stands_for {Related} {of} leaf (test_stands on {on_yes} {on_no} {yes_below} {no_below} h k) has =
    either (Contains-append_cases (leaves_of on_yes) (leaves_of on_no) leaf has) (stands_for leaf h) (stands_for leaf k)
  where
    either : Contains (leaves_of on_yes) leaf ⊎ Contains (leaves_of on_no) leaf → (Contains (leaves_of on_yes) leaf → StandsFor Related leaf yes_below)
        → (Contains (leaves_of on_no) leaf → StandsFor Related leaf no_below) → StandsFor Related leaf (Either (map_name of on) yes_below no_below)
    either (inl here) one other = let it = one here in record { below = it.below; there = Contains-append_left (leaves_of yes_below) (leaves_of no_below) it.below it.there; related = it.related }
    either (inr here) one other = let it = other here in record { below = it.below; there = Contains-append_right (leaves_of yes_below) (leaves_of no_below) it.below it.there; related = it.related }
stands_for {Related} leaf (leaf_stands {leaf = own} {below} related) has =
    record { below = below; there = Contains-push [] below; related = subst (λ (l : AutomatonLeaf). Related l below) (only own leaf has) related }

module _ (e : Emission) (rows : List CodeRow) (emitted : IsEmitted e rows) (keeps : TableKeeps e.table) where
  -- the row that a leaf leads to, if it leads to one, is reached
  abbrev pub IsLed : Leaf → Type 0
  IsLed leaf = (row : ℕ) → leaf ≡ machine.Goto row → IsReachable rows row

  -- and so is what leads to a region
  abbrev pub RegionLed : ℕ → Type 0
  RegionLed region = (leaf : Leaf) → LeadsToRegion e region leaf → IsLed leaf

  -- one leaf leads to a region
  one_leads : (region : ℕ) (leaf other : Leaf) → LeadsToRegion e region leaf → LeadsToRegion e region other → leaf ≡ other
  one_leads region leaf other h k = h.is ∙ ap (form_leaf e region) (one_form h.has k.has) ∙ sym k.is
    where
      one_form : {it : Option RegionForm} {form more : RegionForm} → it ≡ Some form → it ≡ Some more → form ≡ more
      one_form p q = cc

  led_alike : (region : ℕ) (leaf : Leaf) → LeadsToRegion e region leaf → IsLed leaf → RegionLed region
  led_alike region leaf leads led other too = subst IsLed (one_leads region leaf other leads too) led

  -- a leaf of a row that is reached
  led_by_row : (at : ℕ) (row : CodeRow) (leaf : Leaf) → IsReachable rows at → slice_get rows at ≡ Some row → Contains (leaves_of row) leaf → IsLed leaf
  led_by_row at row leaf reached there has to is = Behind reached there (subst (Contains (leaves_of row)) is has)

  -- through copies
  passes_led : {from to : Leaf} {copies : List (List Move)} → Passes rows from copies to → IsLed from → IsLed to
  passes_led passes_none led = led
  passes_led (passes_row {at} {copies} {more} {next} there rest) led =
      passes_led rest (led_by_row at (copy_row copies next) next (led at refl) there (subst (λ (l : List Leaf). Contains l next) (sym (one_leaf copies next)) (Contains-push [] next)))

  nothing : (row : ℕ) → RowsReached row (row + 0) rows
  nothing row number low high = absurd (omega (arith, low, high))

  one_more : (row count : ℕ) → IsReachable rows row → RowsReached (suc row) (suc row + count) rows → RowsReached row (row + suc count) rows
  one_more row count here rest number low high = elim (decide_le (suc row) number) [
    | inl above ↦ rest number above (omega (arith, high))
    | inr at ↦ let same : row ≡ number = omega (arith, low, at) in subst (IsReachable rows) same here
  ]

  both : (row one other : ℕ) → RowsReached row (row + one) rows → RowsReached (row + one) (row + one + other) rows → RowsReached row (row + (one + other)) rows
  both row one other first second number low high = elim (decide_le (suc number) (row + one)) [
    | inl below ↦ first number low below
    | inr above ↦ second number (omega (arith, above)) (omega (arith, high))
  ]

  -- ---- trees

  -- all rows of a tree are reached, and the regions that it names
  record TreeReached (row : ℕ) (tree : TableTree) : Type 0 where
    own : RowsReached row (row + units tree) rows
    named : (to : ℕ) → Contains (tree_leads tree) to → RegionLed to

  tree_reached : {row : ℕ} {tree : TableTree} (leaf : Leaf) → TreeStands e rows row tree → LeadsBehind e row tree leaf → IsLed leaf → TreeReached row tree
  tree_reached leaf (item_row {row} {origin} {item} {rest} {leaf = next} there leads more) behind led =
      let reached = led row (first behind) in
      let below = tree_reached next more leads (led_by_row row (Then item (At_leaf next)) next reached there (Contains-push [] next)) in
      record { own = one_more row (units rest) reached below.own; named = below.named }
    where
      first : {leaf : Leaf} → LeadsBehind e row (Does origin item rest) leaf → leaf ≡ machine.Goto row
      first to_item = refl
  tree_reached leaf (test_row {row} {origin} {on} {on_yes} {on_no} {yes_leaf} {no_leaf} there leads leads_too more more_too) behind led =
      let reached = led row (first behind) in
      let made : CodeRow = Either on (At_leaf yes_leaf) (At_leaf no_leaf) in
      let one = tree_reached yes_leaf more leads (led_by_row row made yes_leaf reached there (Contains-append_left (yes_leaf ∷ []) (no_leaf ∷ []) yes_leaf (Contains-push [] yes_leaf))) in
      let other = tree_reached no_leaf more_too leads_too (led_by_row row made no_leaf reached there (Contains-append_right (yes_leaf ∷ []) (no_leaf ∷ []) no_leaf (Contains-push [] no_leaf))) in
      record {
        own = one_more row (units on_yes + units on_no) reached (both (suc row) (units on_yes) (units on_no) one.own other.own);
        named = λ to has. elim (Contains-append_cases (tree_leads on_yes) (tree_leads on_no) to has) [ inl here ↦ one.named to here | inr here ↦ other.named to here ];
      }
    where
      first : {leaf : Leaf} → LeadsBehind e row (Asks origin on on_yes on_no) leaf → leaf ≡ machine.Goto row
      first to_test = refl
  tree_reached leaf (no_row {row} {region}) behind led = record {
    own = nothing row;
    named = λ to has. subst RegionLed (only region to has) (led_alike region leaf (region_behind behind) led);
  }
    where
      region_behind : {leaf : Leaf} → LeadsBehind e row (Next region) leaf → LeadsToRegion e region leaf
      region_behind (to_region leads) = leads
  tree_reached leaf (no_end_row {row}) behind led = record { own = nothing row; named = λ to has. absurd (omega (arith, has.1)) }
  tree_reached leaf (no_trap_row {row}) behind led = record { own = nothing row; named = λ to has. absurd (omega (arith, has.1)) }

  -- what leads to the root of a tree
  root_leads : (row : ℕ) (tree : TableTree) → IsRoot tree → LeadsBehind e row tree (root_leaf row tree)
  root_leads row (Does origin item rest) root = to_item
  root_leads row (Asks origin on on_yes on_no) root = to_test
  root_leads row (Next region) root = absurd root
  root_leads row Stops_here root = to_end
  root_leads row (Traps_here kind line) root = to_trap

  -- ---- automata

  module _ (region : ℕ) (states : List AutomatonState) (registers : Registers)
      (stand : (number : ℕ) (state : AutomatonState) → slice_get states number ≡ Some state → StateStands e rows region states registers number state)
      (led_to : EachIsReachable states) where
    -- where a leaf of a state that is reached leads
    leaf_led : (number : ℕ) (state : AutomatonState) (leaf : AutomatonLeaf) → slice_get states number ≡ Some state → IsReachable rows (e.places.state region number)
        → Contains (leaves_of state.row) leaf
        → (below : Leaf) × LeafStands e rows region states registers (register_of (registers.of number)) leaf below × IsLed below
    leaf_led number state leaf there reached has =
        let stands = stand number state there in
        let it = stands_for leaf stands.stands has in
        (it.below, it.related, led_by_row (e.places.state region number) stands.row it.below reached stands.there it.there)

    state_led : (of : ℕ → ℕ) (number : ℕ) (arguments : List Operand) (below : Leaf) → LeafStands e rows region states registers of (To number arguments) below → IsLed below
        → IsReachable rows (e.places.state region number)
    state_led of number arguments below (leads_to_state moves) led = passes_led moves.passes led (e.places.state region number) refl

    region_led : (of : ℕ → ℕ) (to : ℕ) (homes : List Home) (below : Leaf) → LeafStands e rows region states registers of (Out to homes) below → IsLed below → RegionLed to
    region_led of to homes below (leads_to_region {target} leads moves) led = led_alike to target leads (passes_led moves.passes led)

    -- all states are, where the first one is
    below_reached : IsReachable rows (e.places.state region 0) → (most number : ℕ) → number < most → number < length states → IsReachable rows (e.places.state region number)
    below_reached first zero number lt within = absurd (omega (arith, lt))
    below_reached first (suc most) zero lt within = first
    below_reached first (suc most) (suc number) lt within =
        let led = led_to number within in
        let before = below_reached first most led.from (let earlier = led.earlier in omega (arith, earlier, lt)) (slice_get_within states led.from led.state led.there) in
        let leaf = leaf_led led.from led.state (To (suc number) led.arguments) led.there before led.leaf in
        state_led (register_of (registers.of led.from)) (suc number) led.arguments leaf.0 leaf.1 leaf.2

    states_reached : IsReachable rows (e.places.state region 0) → (number : ℕ) → number < length states → IsReachable rows (e.places.state region number)
    states_reached first number within = below_reached first (suc number) number (omega arith) within

    -- and the regions that they lead out to
    out_led : IsReachable rows (e.places.state region 0) → (to : ℕ) → Contains (states_lead states) to → RegionLed to
    out_led first to has = each states 0 (λ at state there. there_too at state there) has
      where
        there_too : (at : ℕ) (state : AutomatonState) → slice_get states at ≡ Some state → slice_get states (0 + at) ≡ Some state
        there_too at state there = let same : 0 + at ≡ at = omega arith in ap (slice_get states) same ∙ there

        of_leaf : (number : ℕ) (state : AutomatonState) → slice_get states number ≡ Some state → (leaf : AutomatonLeaf) → Contains (leaves_of state.row) leaf
            → Contains (leaf_leads leaf) to → RegionLed to
        of_leaf number state there (To next arguments) has names = absurd (omega (arith, names.1))
        of_leaf number state there (Out region homes) has names =
            let reached = states_reached first number (slice_get_within states number state there) in
            let leaf = leaf_led number state (Out region homes) there reached has in
            subst RegionLed (only region to names) (region_led (register_of (registers.of number)) region homes leaf.0 leaf.1 leaf.2)
        of_leaf number state there Stop has names = absurd (omega (arith, names.1))
        of_leaf number state there (Trap kind line) has names = absurd (omega (arith, names.1))

        of_leaves : (number : ℕ) (state : AutomatonState) → slice_get states number ≡ Some state → (leaves : List AutomatonLeaf)
            → ((leaf : AutomatonLeaf) → Contains leaves leaf → Contains (leaves_of state.row) leaf) → Contains (flat_map leaf_leads leaves) to → RegionLed to
        of_leaves number state there [] among names = absurd (omega (arith, names.1))
        of_leaves number state there (leaf ∷ leaves) among names = elim (Contains-append_cases (leaf_leads leaf) (flat_map leaf_leads leaves) to names) [
          | inl here ↦ of_leaf number state there leaf (among leaf (Contains-append_left (leaf ∷ []) leaves leaf (Contains-push [] leaf))) here
          | inr later ↦ of_leaves number state there leaves (λ other has. among other (Contains-append_right (leaf ∷ []) leaves other has)) later
        ]

        each : (left : List AutomatonState) (from : ℕ) → ((at : ℕ) (state : AutomatonState) → slice_get left at ≡ Some state → slice_get states (from + at) ≡ Some state)
            → Contains (flat_map (λ state. flat_map leaf_leads (leaves_of state.row)) left) to → RegionLed to
        each [] from there names = absurd (omega (arith, names.1))
        each (state ∷ left) from there names =
            elim (Contains-append_cases (flat_map leaf_leads (leaves_of state.row)) (flat_map (λ state. flat_map leaf_leads (leaves_of state.row)) left) to names) [
              | inl here ↦ of_leaves (from + 0) state (there 0 state refl) (leaves_of state.row) (λ leaf has. has) here
              | inr later ↦ each left (suc from) (λ at it its. let next : from + suc at ≡ suc from + at = omega arith in ap (slice_get states) (sym next) ∙ there (suc at) it its) later
            ]

  -- ---- regions

  -- the rows of a region are reached, and the regions that it leads to
  pub record RegionReached (region : ℕ) (form : RegionForm) : Type 0 where
    pub own : RowsReached (form_row e region form) (form_row e region form + rows_in (region_tree e.table region) (Some form)) rows
    pub named : (to : ℕ) → Contains (form_leads (region_tree e.table region) form) to → RegionLed to

  module _ (led_to : (region : ℕ) (states : List AutomatonState) (registers : Registers) → e.forms region ≡ Some (ByAutomaton states registers) → EachIsReachable states)
      (in_order : (region number : ℕ) → e.places.state region number ≡ e.places.state region 0 + number) where
    pub region_reached : (region : ℕ) (form : RegionForm) → e.forms region ≡ Some form → RegionLed region → RegionReached region form
    region_reached region Plain has led =
        let root = root_leads (e.places.entry region) (region_tree e.table region) (roots e.table keeps region) in
        let tree = tree_reached (root_leaf (e.places.entry region) (region_tree e.table region)) (emitted.stands region Plain has) root
        (led (root_leaf (e.places.entry region) (region_tree e.table region)) (record { form = Plain; has = has; is = refl })) in
        record { own = tree.own; named = tree.named }
    region_reached region (ByAutomaton states registers) has led =
        let first = led (machine.Goto (e.places.state region 0)) (record { form = ByAutomaton states registers; has = has; is = refl }) (e.places.state region 0) refl in
        let stand = emitted.stands region (ByAutomaton states registers) has in
        let each = states_reached region states registers stand (led_to region states registers has) first in
        record {
          own = λ number low high.
              let at = number - e.places.state region 0 in
              let within : at < length states = omega (arith, low, high) in
              let order = in_order region at in
              let is : e.places.state region at ≡ number = omega (arith, order, low) in
              subst (IsReachable rows) is (each at within);
          named = out_led region states registers stand (led_to region states registers has) first;
        }

    -- region 0 is reachable
    first_led : RegionLed 0
    first_led leaf leads row is = by_leaf emitted.begins (one_leads 0 emitted.first leaf emitted.leads leads ∙ is)
      where
        by_leaf : {first : Leaf} → BeginsAt rows first → first ≡ machine.Goto row → IsReachable rows row
        by_leaf at_first_row e = let same : 0 ≡ row = (cc) in subst (IsReachable rows) same Entry
        by_leaf (by_leaf_alone {leaf = first} there) e = led_by_row 0 (At_leaf first) first Entry there (Contains-push [] first) row e

    -- so is each region that region 0 comes to lead to
    pub met_led : {region : ℕ} → IsMet e.table e.forms region → RegionLed region
    met_led Met_first = first_led
    met_led (Met_behind {from} {region} {form} met has leads) = (region_reached from form has (met_led met)).named region leads
