-- Chosen forms are such as may be emitted.
use Rattle.std.proofs.Common.{◌≡◌, ℕ, ◌<◌, ◌≤◌, List, Option, Some, None, refl, sym, ◌∙◌, subst, arith}
use Rattle.std.specs.Prelude.{ℤ, Bool, true, false, slice_get}
use Rattle.std.proofs.lemmas.Option.{slice_get_within}
use Rattle.pc_word.specs.declared.item.Limits.{Limits}
use Rattle.pc_word.specs.declared.item.Extent.{Extent}
use Rattle.pc_word.specs.MachineLimits.{most_object, most_rows}
use Rattle.pc_table.specs.Table.{Table, region_tree}
use Rattle.pc_table.specs.TableKeeps.{TableKeeps}
use Rattle.pc_automaton.specs.Automaton.{AutomatonState}
use Rattle.pc_assign.specs.Pressure.{IsScratch, Last_of_few, Last_of_most}
use Rattle.pc_machine.specs.Registers.{most_registers}
use Rattle.pc_assign.specs.Assigned.{Registers, state_names}
use Rattle.pc_assign.specs.Apart.{IsApart, HasAllowed}
use Rattle.pc_assign.proofs.Apartness.{live_apart, variables_stay, all_in, past}
use Rattle.pc_window.specs.Rebasing.{is_in}
use Rattle.pc_emit.specs.Emitted.{RegionForm, Plain, ByAutomaton}
use Rattle.pc_emit.specs.Emitting.{HasForm, CanPack, CanHave, AreForms}
use Rattle.pc_emit.specs.PackedForm.{IsPackedForm, IsRegionForm}
use Rattle.pc_emit.specs.Leading.{states_lead, form_leads}
use Rattle.pc_emit.specs.Bytes.{object_bytes}
use Rattle.pc_compile.specs.declared.choice.Choice.{Choice}
use Rattle.pc_compile.specs.Choosing.{bytes_with, packs, HasRegisters, AreChosen}
use Rattle.pc_pattern.specs.Searches.{Rules}
use Rattle.pc_pattern.specs.Pattern.{rules_for}
use Rattle.pc_pattern.proofs.Traps.{traps_have_one_state}
use Rattle.pc_compile.proofs.Places.{listed}
use Rattle.pc_compile.proofs.Taken.{taken_of_form}
use Rattle.pc_compile.proofs.BareTraps.{trap_not_plain}
use Rattle.pc_compile.proofs.Attempts.{found_begins, form_found}
use Rattle.pc_compile.proofs.Standing.{IsIn, place_of, Stands, chosen_stands, names_have, state_has}
use Rattle.pc_word.proofs.Places.{found_within}

-- ---- packed forms

module _ (rules : Rules) (keeps : TableKeeps rules.table) (region rows : ℕ) (states : List AutomatonState) (registers : Registers)
    (has : HasRegisters rules region rows states registers) where
  apart : (number : ℕ) (state : AutomatonState) → slice_get states number ≡ Some state → IsApart registers.scratch (registers.of number) state
  apart number state here =
      live_apart states registers has.found.automaton (found_begins rules keeps region rows states has.found) has.assigned number state here

  -- all registers are below the one that is left
  below : (number name register : ℕ) → registers.of number name ≡ Some register → register < registers.scratch
  below number name register is = by (slice_get states number) refl
    where
      in_state : (state : AutomatonState) → slice_get states number ≡ Some state → (b : Bool) → is_in name (state_names state) ≡ b → register < registers.scratch
      in_state state here true listed =
          let one = all_in (HasAllowed registers.scratch (registers.of number)) (state_names state) name (apart number state here).allowed listed in
          let both : Some register ≡ Some one.register = sym is ∙ one.has in
          let same : register ≡ one.register = (cc) in
          subst (λ (r : ℕ). r < registers.scratch) (sym same) one.below
      in_state state here false listed =
          let none : registers.of number name ≡ None = (has.assigned.rule.each number state here).others name listed in absurd (cc)

      by : (found : Option AutomatonState) → slice_get states number ≡ found → register < registers.scratch
      by (Some state) here = in_state state here (is_in name (state_names state)) refl
      by None out =
          let none : registers.of number name ≡ None = has.assigned.rule.none number name (past states number out) in absurd (cc)

  -- variables are below it, and it is one of the most registers
  scratch_fits : (scratch : ℕ) → IsScratch states scratch → (96 ≤ scratch) × (scratch < most_registers)
  scratch_fits scratch (Last_of_few is low) = (omega (arith, is), omega (arith, is))
  scratch_fits scratch (Last_of_most is high) = (omega (arith, is), omega (arith, is))

  -- it is a form that the region may have
  pub is_packed_form : IsPackedForm rules.table region states registers
  is_packed_form =
      let some = has.found.automaton.some in
      let first = found_within states 0 (omega (arith, some)) in
      record {
        automaton = has.found.automaton;
        first = first.0;
        is_first = first.1;
        runs = has.found.runs.alike;
        live = has.found.live first.0 first.1;
        variables = variables_stay states registers has.assigned first.0 first.1;
        apart = apart;
        there = has.found.there;
      }

  -- and may be emitted
  pub can_pack : (forms : ℕ → Option RegionForm) → ((to : ℕ) → IsIn (states_lead states) to → HasForm rules.table forms to)
      → CanPack rules.table rules.limits forms states registers
  can_pack forms each = record {
    automaton = has.found.automaton;
    apart = apart;
    below = below;
    variables = (scratch_fits registers.scratch has.assigned.left).0;
    most = (scratch_fits registers.scratch has.assigned.left).1;
    there = has.found.there;
    out = state_has rules.table forms states each;
    fit = has.found.fits;
    led = has.found.led;
  }

-- ---- the whole

module _ (table : Table) (keeps : TableKeeps table) (initial : List (List ℤ)) (limits : Limits) (extent : Extent)
    (small : object_bytes table initial (λ region. None) ≤ most_object) (choices : List Choice) (forms : ℕ → Option RegionForm)
    (chosen : AreChosen table initial limits extent choices forms) where
  stands : Stands table keeps initial limits extent small chosen.found choices forms
  stands = chosen_stands table keeps initial limits extent small chosen.found choices forms chosen.choosing

  -- each region that was found has a form
  has_form : (region : ℕ) → IsIn chosen.found region → HasForm table forms region
  has_form region h =
      let at = place_of chosen.found region h in
      let within = slice_get_within chosen.found at.0 region at.1 in
      let all = chosen.all in
      let form = stands.taken at.0 region (omega (arith, within, all)) at.1 in
      record { there = stands.there region h; form = form.0; has = form.1 }

  -- so has each to which a form leads
  leads_have : (from : ℕ) (form : RegionForm) → forms from ≡ Some form → (region : ℕ) → IsIn (form_leads (region_tree table from) form) region
      → HasForm table forms region
  leads_have from form has region h = has_form region (stands.behind from region form has h)

  pub form_can : (region : ℕ) (form : RegionForm) → forms region ≡ Some form → CanHave table limits forms (region_tree table region) form
  form_can region Plain has = names_have table forms (region_tree table region) (leads_have region Plain has)
  form_can region (ByAutomaton states registers) has =
      let given = stands.given region (ByAutomaton states registers) has in
      let found = form_found table limits extent region (bytes_with table initial given.had region) states registers given.kind given.causes given.gets in
      can_pack (rules_for table limits found.0) keeps region found.1 states registers found.2 forms (leads_have region (ByAutomaton states registers) has)

  pub form_is : (region : ℕ) (form : RegionForm) → forms region ≡ Some form → IsRegionForm table region form
  form_is region Plain has = tt
  form_is region (ByAutomaton states registers) has =
      let given = stands.given region (ByAutomaton states registers) has in
      let found = form_found table limits extent region (bytes_with table initial given.had region) states registers given.kind given.causes given.gets in
      is_packed_form (rules_for table limits found.0) keeps region found.1 states registers found.2

  pub are_forms : AreForms table limits forms
  are_forms = record {
    first = has_form 0 (listed chosen.found 0 0 stands.first);
    each = form_can;
    met = λ region form has.
        let taken = taken_of_form table initial limits extent chosen.found choices forms chosen.choosing region form has in
        stands.met region (listed chosen.found taken.place region taken.there);
    traps = λ region line kind is has.
        let given = stands.given region Plain has in
        let one = traps_have_one_state (packs table limits) region line kind is most_rows (omega arith) in
        trap_not_plain table initial limits extent region line kind is one.0 (λ states found. one.1 states found.pattern) given.had given.there given.free given.short
        given.kind given.causes given.gets;
    short = let short = stands.short in omega (arith, short);
  }

  -- and the object is short
  pub chosen_is_short : object_bytes table initial forms ≤ most_object
  chosen_is_short = stands.short
