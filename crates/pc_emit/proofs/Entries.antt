-- Where regions begin and end.
use Rattle.std.proofs.Common.{◌≡◌, ℕ, zero, suc, ◌+◌, ◌-◌, ◌<◌, ◌≤◌, List, length, Option, Some, None, refl, sym, ◌∙◌, ap, subst, arith}
use Rattle.std.specs.Prelude.{slice_get, slice_index}
use Rattle.std.proofs.lemmas.List.{length-map}
use Rattle.std.proofs.lemmas.Option.{slice_get_within}
use Rattle.pc_table.specs.Table.{TableTree, Does, Asks, Next, Stops_here, Traps_here, Table, table_region, region_tree}
use Rattle.pc_table.specs.TableKeeps.{units}
use Rattle.pc_machine.specs.declared.tree.Leaf.{Leaf}
use Rattle.pc_emit.specs.declared.form.RegionForm.{RegionForm as StoredForm}
use Rattle.pc_emit.specs.Emitted.{RegionForm, Plain, ByAutomaton, root_leaf, form_leaf, LeadsToRegion}
use Rattle.pc_emit.specs.Emitting.{form_in, CanHave}
use Rattle.pc_emit.specs.declared.plan.Plan.{Plan}
use Rattle.pc_emit.specs.models.Layout.{rows_in, AreEntries, table_in, forms_at, emission_in, rows_end, IsPlan}
use Rattle.pc_emit.specs.models.Making.{CopiesMayLeadTo}
use Rattle.pc_emit.proofs.PlainRuns.{IsRoot, roots}

-- ---- entries

module _ (table : Table) (forms : ℕ → Option RegionForm) (entries : List ℕ) (are : AreEntries table forms entries) where
  -- later regions begin later
  rises : (region more : ℕ) → region + more ≤ length table.regions → slice_index entries region ≤ slice_index entries (region + more)
  rises region zero within = let same : region + 0 ≡ region = omega arith in let at = ap (slice_index entries) same in omega (arith, at)
  rises region (suc more) within =
      let next : region + suc more ≡ suc (region + more) = omega arith in
      let at = ap (slice_index entries) next in
      let rest = rises region more (omega (arith, within)) in
      let one = are.next (region + more) (omega (arith, within)) in
      omega (arith, at, rest, one)

  -- a region ends where the last one ends, or before
  pub ends_within : (region : ℕ) → region < length table.regions
      → slice_index entries region + rows_in (region_tree table region) (forms region) ≤ slice_index entries (length table.regions)
  ends_within region within = by_gap (length table.regions) refl
    where
      gap : (total : ℕ) → region < total → (more : ℕ) × (total ≡ suc region + more)
      gap zero lt = absurd (omega (arith, lt))
      gap (suc total) lt = (total - region, omega (arith, lt))

      by_gap : (total : ℕ) → total ≡ length table.regions → slice_index entries region + rows_in (region_tree table region) (forms region) ≤ slice_index entries (length table.regions)
      by_gap total is =
          let more = gap (length table.regions) within in
          let one = are.next region within in
          let rest = rises (suc region) more.0 (let e = more.1 in omega (arith, e)) in
          let at = ap (slice_index entries) more.1 in
          omega (arith, one, rest, at)

-- ---- targets

module _ (plan : Plan) (is : IsPlan plan) where
  -- a region that has a form is one of the table
  pub form_within : (region : ℕ) (form : RegionForm) → forms_at plan region ≡ Some form → region < length (table_in plan).regions
  form_within region form has = found (slice_get plan.forms.now region) refl
    where
      none_given : None ≡ Some form → ⊥
      none_given bad = cc

      found : (it : Option (Option StoredForm)) → slice_get plan.forms.now region ≡ it → region < length (table_in plan).regions
      found None e = absurd (none_given (sym (ap form_in e) ∙ has))
      found (Some it) e =
          let within = slice_get_within plan.forms.now region it e in
          let count = is.count in
          let many = length-map plan.table.now.regions table_region in
          omega (arith, within, count, many)

  -- the rows of a region end where those of all end, or before
  pub region_within : (region : ℕ) (form : RegionForm) → forms_at plan region ≡ Some form
      → slice_index plan.entries.now region + rows_in (region_tree (table_in plan) region) (Some form) ≤ rows_end plan
  region_within region form has =
      let within = ends_within (table_in plan) (forms_at plan) plan.entries.now is.entries region (form_within region form has) in
      let rows = ap (rows_in (region_tree (table_in plan) region)) has in
      let end = ap (slice_index plan.entries.now) (length-map plan.table.now.regions table_region) in
      omega (arith, within, rows, end)

  -- what leads to a region may stand after copies
  pub region_target : (region : ℕ) (leaf : Leaf) → LeadsToRegion (emission_in plan) region leaf → CopiesMayLeadTo plan leaf
  region_target region leaf leads = subst (CopiesMayLeadTo plan) (sym leads.is) (by_form leads.form leads.has)
    where
      entry : ℕ
      entry = slice_index plan.entries.now region

      by_tree : (tree : TableTree) → region_tree (table_in plan) region ≡ tree → IsRoot tree → forms_at plan region ≡ Some Plain → entry + units tree ≤ rows_end plan
          → CopiesMayLeadTo plan (root_leaf entry tree)
      by_tree (Does origin item rest) e root has within = record { within = omega (arith, within); short = omega arith }
      by_tree (Asks origin on on_yes on_no) e root has within = record { within = omega (arith, within); short = omega arith }
      by_tree (Next next) e root has within = absurd root
      by_tree Stops_here e root has within = record { within = tt; short = omega arith }
      by_tree (Traps_here kind line) e root has within = absurd (is.forms.traps region line kind e has)

      by_form : (form : RegionForm) → forms_at plan region ≡ Some form → CopiesMayLeadTo plan (form_leaf (emission_in plan) region form)
      by_form Plain has = by_tree (region_tree (table_in plan) region) refl (roots (table_in plan) is.kept region) has (region_within region Plain has)
      by_form (ByAutomaton states registers) has = record {
        within =
            let within = region_within region (ByAutomaton states registers) has in
            let can : CanHave (table_in plan) plan.limits (forms_at plan) (region_tree (table_in plan) region) (ByAutomaton states registers) =
            is.forms.each region (ByAutomaton states registers) has in
            let some = can.automaton.some in
            omega (arith, within, some);
        short = omega arith;
      }
