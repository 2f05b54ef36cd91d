-- All rows of regions are reached, and keep the limits.
use Rattle.std.proofs.Common.{◌≡◌, inl, inr, ℕ, zero, suc, ◌+◌, ◌-◌, ◌<◌, ◌≤◌, List, [], ◌∷◌, length, Option, Some, None, refl, sym, ◌∙◌, ap, subst, arith}
use Rattle.std.specs.Prelude.{slice_get, slice_index}
use Rattle.std.proofs.lemmas.List.{length-map}
use Rattle.std.proofs.lemmas.Option.{slice_get_within}
use Rattle.pc_word.specs.Row.{Then, Either, At_leaf}
use Rattle.pc_word.proofs.Lists.{all_at}
use Rattle.pc_word.proofs.Truth.{decide_le}
use Rattle.pc_table.specs.Table.{TableTree, Does, Asks, Next, Stops_here, Traps_here, TableRegion, tree_of, table_region, region_tree}
use Rattle.pc_table.specs.TableKeeps.{TreeIsThere, units}
use Rattle.pc_window.specs.Unwinding.{or_zero}
use Rattle.pc_automaton.specs.declared.automaton.AutomatonLeaf.{AutomatonLeaf}
use Rattle.pc_automaton.specs.Automaton.{AutomatonState, IsStateAmong, LeafLeads, Takes}
use Rattle.pc_automaton.specs.There.{StateIsThere}
use Rattle.pc_automaton.specs.Reachable.{EachIsReachable}
use Rattle.pc_automaton.specs.RowFits.{RowFits}
use Rattle.pc_assign.specs.Assigned.{Registers}
use Rattle.pc_copies.specs.declared.moves.Move.{Move}
use Rattle.pc_machine.specs.declared.tree.Leaf.{Leaf}
use Rattle.pc_machine.specs.declared.tree.Leaf.TheVariants.{Stop}
use Rattle.pc_machine.specs.MachineCode.{CodeRow}
use Rattle.pc_machine.specs.WellFormed.{IsLeaf, IsRow}
use Rattle.pc_machine.specs.Reachable.{IsReachable, Entry}
use Rattle.pc_emit.specs.Registers.{register_of}
use Rattle.pc_emit.specs.Emitted.{RegionForm, Plain, ByAutomaton, LeadsToRegion, Passes, passes_none, passes_row}
use Rattle.pc_emit.specs.Emitted.{LeafStands, StateStands, leads_to_state, leads_to_region, ends_here, traps_here}
use Rattle.pc_emit.specs.Emitted.{LeadsBehind, to_item, to_test, to_region, to_end, to_trap, TreeStands, item_row, test_row, no_row, no_end_row, no_trap_row}
use Rattle.pc_emit.specs.Emitted.{root_leaf, form_leaf, BeginsAt, by_leaf_alone, IsEmitted}
use Rattle.pc_emit.specs.Emitting.{AreEnough, CanHave, CanPack}
use Rattle.pc_emit.specs.declared.plan.Plan.{Plan}
use Rattle.pc_emit.specs.models.Layout.{rows_in, leaf_alone, front_rows, table_in, forms_at, emission_in, rows_end, IsPlan}
use Rattle.pc_emit.proofs.Entries.{region_target}
use Rattle.pc_emit.proofs.Passings.{within_more}
use Rattle.pc_emit.proofs.PackedRuns.{with_leaves}
use Rattle.pc_emit.proofs.Undisturbing.{stays_undisturbed}
use Rattle.pc_emit.proofs.Reached.{RegionReached, region_reached, met_led}
use Rattle.pc_emit.proofs.Fits.{state_fits}
use Rattle.pc_emit.proofs.RegionFits.{item_row_fits, test_row_fits, leaf_row_fits}

-- there is an element at each place of a list
there_is : {X : Type 0} (xs : List X) (at : ℕ) → at < length xs → (x : X) × (slice_get xs at ≡ Some x)
there_is [] at lt = absurd (omega (arith, lt))
there_is (x ∷ xs) zero lt = (x, refl)
there_is (x ∷ xs) (suc at) lt = there_is xs at (omega (arith, lt))

one_row : {it : Option CodeRow} {row other : CodeRow} → it ≡ Some row → it ≡ Some other → row ≡ other
one_row e f = cc

module _ (plan : Plan) (is : IsPlan plan) (rows : List CodeRow) (emitted : IsEmitted (emission_in plan) rows) where
  -- the row at which a region begins, and how many it has
  abbrev entry : ℕ → ℕ
  entry region = slice_index plan.entries.now region

  abbrev count : ℕ → RegionForm → ℕ
  count region form = rows_in (region_tree (table_in plan) region) (Some form)

  -- what is so of the row in front and of each row of a region is so of each before the end
  each_row : (P : ℕ → Type 0) → ((number : ℕ) → number < entry 0 → P number)
      → ((region : ℕ) (form : RegionForm) → forms_at plan region ≡ Some form → (number : ℕ) → entry region ≤ number → number < entry region + count region form → P number)
      → (number : ℕ) → number < rows_end plan → P number
  each_row P front own number lt =
      below (length plan.table.now.regions) (let many = length-map plan.table.now.regions table_region in omega (arith, many)) number lt
    where
      of_region : (region : ℕ) (it : Option RegionForm) → forms_at plan region ≡ it → (number : ℕ) → entry region ≤ number
          → number < entry region + rows_in (region_tree (table_in plan) region) it → P number
      of_region region None e number low high = absurd (omega (arith, low, high))
      of_region region (Some form) e number low high = own region form e number low high

      below : (regions : ℕ) → regions ≤ length (table_in plan).regions → (number : ℕ) → number < entry regions → P number
      below zero le number lt = front number lt
      below (suc regions) le number lt = elim (decide_le (suc number) (entry regions)) [
        | inl before ↦ below regions (omega (arith, le)) number before
        | inr behind ↦
            let next = is.entries.next regions (omega (arith, le)) in
            of_region regions (forms_at plan regions) refl number (omega (arith, behind)) (omega (arith, lt, next))
      ]

  -- a row in front is row 0
  front_is_first : (number : ℕ) → number < entry 0 → number ≡ 0
  front_is_first number lt =
      let first = is.entries.first in
      let one = at_most_one (region_tree (table_in plan) 0) (forms_at plan 0) in
      omega (arith, lt, first, one)
    where
      one_alone : (tree : TableTree) → length (leaf_alone tree) ≤ 1
      one_alone (Does origin item rest) = omega arith
      one_alone (Asks origin on on_yes on_no) = omega arith
      one_alone (Next region) = omega arith
      one_alone Stops_here = omega arith
      one_alone (Traps_here kind line) = omega arith

      at_most_one : (tree : TableTree) (form : Option RegionForm) → length (front_rows tree form) ≤ 1
      at_most_one tree None = omega arith
      at_most_one tree (Some Plain) = one_alone tree
      at_most_one tree (Some (ByAutomaton states registers)) = omega arith

  -- ---- reached

  led_to : (region : ℕ) (states : List AutomatonState) (registers : Registers) → forms_at plan region ≡ Some (ByAutomaton states registers) → EachIsReachable states
  led_to region states registers has =
      let can : CanHave (table_in plan) plan.limits (forms_at plan) (region_tree (table_in plan) region) (ByAutomaton states registers) = is.forms.each region (ByAutomaton states registers) has in
      can.led

  in_order : (region number : ℕ) → entry region + number ≡ (entry region + 0) + number
  in_order region number = omega arith

  pub all_reached : (number : ℕ) → number < rows_end plan → IsReachable rows number
  all_reached = each_row (λ number. IsReachable rows number)
      (λ number lt. subst (IsReachable rows) (sym (front_is_first number lt)) Entry)
      (λ region form has number low high. own form
      (region_reached (emission_in plan) rows emitted is.kept led_to in_order region form has (met_led (emission_in plan) rows emitted is.kept led_to in_order (is.forms.met region form has)))
      number low high)
    where
      own : {region : ℕ} (form : RegionForm) → RegionReached (emission_in plan) rows emitted is.kept region form → (number : ℕ) → entry region ≤ number
          → number < entry region + count region form → IsReachable rows number
      own Plain reached number low high = reached.own number low high
      own (ByAutomaton states registers) reached number low high = reached.own number (omega (arith, low)) (omega (arith, high))

  -- ---- within limits

  -- a row that keeps the limits with so many registers, if there is one
  abbrev Fits : ℕ → ℕ → Type 0
  Fits many number = (row : CodeRow) → slice_get rows number ≡ Some row → IsRow plan.limits many (length plan.table.now.arrays) (length rows) row

  row_fits : (many number : ℕ) (made : CodeRow) → slice_get rows number ≡ Some made → IsRow plan.limits many (length plan.table.now.arrays) (length rows) made → Fits many number
  row_fits many number made there fits row also = subst (IsRow plan.limits many (length plan.table.now.arrays) (length rows)) (one_row there also) fits

  module _ (many : ℕ) (enough : AreEnough many (forms_at plan)) (within : rows_end plan ≤ length rows) where
    region_leaf_fits : (region : ℕ) (leaf : Leaf) → LeadsToRegion (emission_in plan) region leaf → IsLeaf (length rows) leaf
    region_leaf_fits region leaf leads = within_more (rows_end plan) (length rows) leaf within (region_target plan is region leaf leads).within

    -- ---- plain regions

    behind_fits : {row : ℕ} {tree : TableTree} {leaf : Leaf} → LeadsBehind (emission_in plan) row tree leaf → TreeStands (emission_in plan) rows row tree → IsLeaf (length rows) leaf
    behind_fits (to_item {origin} {item} {rest}) stands = first stands
      where
        first : {row : ℕ} → TreeStands (emission_in plan) rows row (Does origin item rest) → row < length rows
        first (item_row {row} {leaf} there leads more) = slice_get_within rows row (Then item (At_leaf leaf)) there
    behind_fits (to_test {origin} {on} {on_yes} {on_no}) stands = first stands
      where
        first : {row : ℕ} → TreeStands (emission_in plan) rows row (Asks origin on on_yes on_no) → row < length rows
        first (test_row {row} {yes_leaf} {no_leaf} there leads leads_too more more_too) = slice_get_within rows row (Either on (At_leaf yes_leaf) (At_leaf no_leaf)) there
    behind_fits (to_region {region} {leaf} leads) stands = region_leaf_fits region leaf leads
    behind_fits to_end stands = tt
    behind_fits to_trap stands = tt

    -- this many rows from one on keep the limits
    abbrev AllFit : ℕ → ℕ → Type 0
    AllFit row count = (number : ℕ) → row ≤ number → number < row + count → Fits many number

    tree_fits : {row : ℕ} {tree : TableTree} (regions : ℕ) → TreeStands (emission_in plan) rows row tree → TreeIsThere (length plan.table.now.arrays) regions tree → AllFit row (units tree)
    tree_fits regions (item_row {row} {origin} {item} {rest} {leaf} there leads more) its number low high = elim (decide_le (suc row) number) [
      | inl above ↦ tree_fits regions more its.1 number above (omega (arith, high))
      | inr at ↦
          let same : row ≡ number = omega (arith, low, at) in
          subst (Fits many) same
          (row_fits many row (Then item (At_leaf leaf)) there
          (item_row_fits many enough.variables plan.limits is.limits (length plan.table.now.arrays) (length rows) item leaf its.0 (behind_fits leads more)))
    ]
    tree_fits regions (test_row {row} {origin} {on} {on_yes} {on_no} {yes_leaf} {no_leaf} there leads leads_too more more_too) its number low high = elim (decide_le (suc row) number) [
      | inl above ↦ elim (decide_le (suc number) (suc row + units on_yes)) [
        | inl first ↦ tree_fits regions more its.1 number above first
        | inr second ↦ tree_fits regions more_too its.2 number (omega (arith, second)) (omega (arith, high))
      ]
      | inr at ↦
          let same : row ≡ number = omega (arith, low, at) in
          subst (Fits many) same
          (row_fits many row (Either on (At_leaf yes_leaf) (At_leaf no_leaf)) there
          (test_row_fits many enough.variables plan.limits is.limits (length plan.table.now.arrays) (length rows) on yes_leaf no_leaf its.0 (behind_fits leads more) (behind_fits leads_too more_too)))
    ]
    tree_fits regions (no_row {row}) its number low high = absurd (omega (arith, low, high))
    tree_fits regions (no_end_row {row}) its number low high = absurd (omega (arith, low, high))
    tree_fits regions (no_trap_row {row}) its number low high = absurd (omega (arith, low, high))

    tree_there : (region : ℕ) → TreeIsThere (length plan.table.now.arrays) (length (table_in plan).regions) (region_tree (table_in plan) region)
    tree_there region = found (slice_get (table_in plan).regions region) refl
      where
        found : (it : Option TableRegion) → slice_get (table_in plan).regions region ≡ it → TreeIsThere (length plan.table.now.arrays) (length (table_in plan).regions) (tree_of it)
        found None e = tt
        found (Some it) e = (is.kept.each region it e).there

    -- ---- packed regions

    passes_fit : {from to : Leaf} {copies : List (List Move)} → Passes rows from copies to → IsLeaf (length rows) to → IsLeaf (length rows) from
    passes_fit passes_none fits = fits
    passes_fit (passes_row {at} {copies} {more} {next} there rest) fits = slice_get_within rows at _ there

    module _ (region : ℕ) (states : List AutomatonState) (registers : Registers) (has : forms_at plan region ≡ Some (ByAutomaton states registers)) where
      can : CanPack (table_in plan) plan.limits (forms_at plan) states registers
      can = can_pack (is.forms.each region (ByAutomaton states registers) has)
        where
          can_pack : CanHave (table_in plan) plan.limits (forms_at plan) (region_tree (table_in plan) region) (ByAutomaton states registers)
              → CanPack (table_in plan) plan.limits (forms_at plan) states registers
          can_pack h = h

      below : (number name : ℕ) → register_of (registers.of number) name < many
      below number name = found (registers.of number name) refl
        where
          found : (it : Option ℕ) → registers.of number name ≡ it → or_zero it < many
          found None e = let room = enough.variables in omega (arith, room)
          found (Some register) e =
              let low = can.below number name register e in
              let left = enough.left region states registers has in
              omega (arith, low, left)

      stand : (number : ℕ) (state : AutomatonState) → slice_get states number ≡ Some state → StateStands (emission_in plan) rows region states registers number state
      stand = emitted.stands region (ByAutomaton states registers) has

      -- a state that a leaf leads to has a row
      state_within : (number count : ℕ) → Takes (slice_get states number) count → entry region + number < length rows
      state_within number count takes = found (slice_get states number) refl takes
        where
          found : (it : Option AutomatonState) → slice_get states number ≡ it → Takes it count → entry region + number < length rows
          found None e takes = absurd takes
          found (Some state) e takes = let stands = stand number state e in slice_get_within rows (entry region + number) stands.row stands.there

      leaf_fits : (of : ℕ → ℕ) (leaf : AutomatonLeaf) (made : Leaf) → LeafLeads states leaf × LeafStands (emission_in plan) rows region states registers of leaf made
          → IsLeaf (length rows) made
      leaf_fits of leaf made (leads, stands) = by_leaf stands leads
        where
          by_leaf : {leaf : AutomatonLeaf} {made : Leaf} → LeafStands (emission_in plan) rows region states registers of leaf made → LeafLeads states leaf → IsLeaf (length rows) made
          by_leaf (leads_to_state {number} {arguments} moves) leads = passes_fit moves.passes (state_within number (length arguments) leads)
          by_leaf (leads_to_region {to} {target} leads_out moves) leads = passes_fit moves.passes (region_leaf_fits to target leads_out)
          by_leaf ends_here leads = tt
          by_leaf traps_here leads = tt

      packed_fits : (number : ℕ) (state : AutomatonState) → slice_get states number ≡ Some state → Fits many (entry region + number)
      packed_fits number state there =
          let stands = stand number state there in
          let of = register_of (registers.of number) in
          let among = all_at (IsStateAmong states) states number state can.automaton.each there in
          row_fits many (entry region + number) stands.row stands.there
          (state_fits of many (below number) plan.limits (table_in plan) (length rows) state.parameters state.row stands.row
          (with_leaves (LeafLeads states) among.lead stands.stands) (all_at (λ state. RowFits plan.limits state.row) states number state can.fit there)
          (all_at (StateIsThere (table_in plan)) states number state can.there there).items (stays_undisturbed registers.scratch (registers.of number) state (can.apart number state there))
          (leaf_fits of))

      packed_all_fit : (number : ℕ) → entry region ≤ number → number < entry region + length states → Fits many number
      packed_all_fit number low high =
          let at = number - entry region in
          let state = there_is states at (omega (arith, low, high)) in
          let same : entry region + at ≡ number = omega (arith, low) in
          subst (Fits many) same (packed_fits at state.0 state.1)

    -- ---- all

    -- the row in front is a leaf alone
    front_fits : (number : ℕ) → number < entry 0 → Fits many number
    front_fits number lt = by_form (forms_at plan 0) refl (let first = is.entries.first in omega (arith, lt, first))
      where
        alone : BeginsAt rows Stop → slice_get rows 0 ≡ Some (At_leaf Stop)
        alone (by_leaf_alone there) = there

        ends : forms_at plan 0 ≡ Some Plain → region_tree (table_in plan) 0 ≡ Stops_here → emitted.first ≡ Stop
        ends e is_end =
            let plain : emitted.leads.form ≡ Plain = one_form emitted.leads.has e in
            emitted.leads.is ∙ ap (form_leaf (emission_in plan) 0) plain ∙ ap (root_leaf (entry 0)) is_end
          where
            one_form : {it : Option RegionForm} {form other : RegionForm} → it ≡ Some form → it ≡ Some other → form ≡ other
            one_form p q = cc

        by_tree : (tree : TableTree) → region_tree (table_in plan) 0 ≡ tree → forms_at plan 0 ≡ Some Plain → number < length (leaf_alone tree) → Fits many number
        by_tree (Does origin item rest) t e lt = absurd (omega (arith, lt))
        by_tree (Asks origin on on_yes on_no) t e lt = absurd (omega (arith, lt))
        by_tree (Next region) t e lt = absurd (omega (arith, lt))
        by_tree Stops_here t e lt =
            let at : 0 ≡ number = omega (arith, lt) in
            subst (Fits many) at
            (row_fits many 0 (At_leaf Stop) (alone (subst (BeginsAt rows) (ends e t) emitted.begins))
            (leaf_row_fits many enough.variables plan.limits is.limits (length plan.table.now.arrays) (length rows) Stop tt))
        by_tree (Traps_here kind line) t e lt = absurd (is.forms.traps 0 line kind t e)

        by_form : (it : Option RegionForm) → forms_at plan 0 ≡ it → number < length (front_rows (region_tree (table_in plan) 0) it) → Fits many number
        by_form None e lt = absurd (omega (arith, lt))
        by_form (Some Plain) e lt = by_tree (region_tree (table_in plan) 0) refl e lt
        by_form (Some (ByAutomaton states registers)) e lt = absurd (omega (arith, lt))

    pub all_fit : (number : ℕ) → number < rows_end plan → Fits many number
    all_fit = each_row (Fits many) front_fits own
      where
        own : (region : ℕ) (form : RegionForm) → forms_at plan region ≡ Some form → (number : ℕ) → entry region ≤ number → number < entry region + count region form → Fits many number
        own region Plain has number low high = tree_fits (length (table_in plan).regions) (emitted.stands region Plain has) (tree_there region) number low high
        own region (ByAutomaton states registers) has number low high = packed_all_fit region states registers has number low high
