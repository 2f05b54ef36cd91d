-- What leads to a region, and to what stands after an item or a test.
use Rattle.std.proofs.Common.{◌≡◌, ℕ, zero, suc, ◌+◌, ◌<◌, List, [], ◌∷◌, length, Option, Some, None, sym, ◌∙◌, ap, subst, arith}
use Rattle.std.specs.Prelude.{IsSome, slice_get, slice_index}
use Rattle.std.proofs.lemmas.List.{length-map}
use Rattle.pc_word.specs.declared.item.Item.{Item}
use Rattle.pc_word.specs.declared.item.Operand.{Operand}
use Rattle.pc_word.specs.declared.item.TrapKind.{TrapKind}
use Rattle.pc_table.specs.Table.{TableTree, Does, Asks, Next, Stops_here, Traps_here, tree_of, table_tree, table_region, table_regions, region_tree}
use Rattle.pc_table.specs.StoredTable.{table_of}
use Rattle.pc_table.specs.declared.table.Region.{Region}
use Rattle.pc_table.specs.declared.table.RegionTable.{RegionTable}
use Rattle.pc_machine.specs.declared.tree.Leaf.{Leaf}
use Rattle.pc_machine.specs.declared.tree.Leaf.TheVariants.{Goto, Stop, Trap}
use Rattle.pc_emit.specs.declared.form.RegionForm.{RegionForm as StoredForm}
use Rattle.pc_emit.specs.declared.form.RegionForm.TheVariants as stored
use Rattle.pc_emit.specs.declared.plan.Plan.{Plan}
use Rattle.pc_emit.specs.Emitted.{LeadsToRegion, Plain, LeadsBehind, to_item, to_test, to_region, to_end, to_trap}
use Rattle.pc_emit.specs.Emitting.{form_in, HasForm}
use Rattle.pc_emit.specs.models.Layout.{table_in, forms_at, emission_in, IsPlan, leaf_in}

-- the tree of a region in memory is that of the table
pub tree_is : (table : RegionTable) (number : ℕ) (region : Region) → slice_get table.regions number ≡ Some region → table_tree region.tree ≡ region_tree (table_of table) number
tree_is table number region e = in_list table.regions number e
  where
    in_list : (regions : List Region) (at : ℕ) → slice_get regions at ≡ Some region → table_tree region.tree ≡ tree_of (slice_get (table_regions regions) at)
    in_list [] at e = absurd (cc)
    in_list (other ∷ regions) zero e = let same : region ≡ other = (cc) in ap (λ (r : Region). table_tree r.tree) same
    in_list (other ∷ regions) (suc at) e = in_list regions at e

pub ruleset trees = (tree_is)

module _ (plan : Plan) (region : ℕ) (is : IsPlan plan) (has : HasForm (table_in plan) (forms_at plan) region) where
  -- a region that has a form is there, in the table and in all lists
  pub region_there : region < length plan.table.now.regions
  region_there = let many = length-map plan.table.now.regions table_region in let within = has.there in omega (arith, many, within)

  pub form_there : region < length plan.forms.now
  form_there = let many = is.count in let within = region_there in omega (arith, many, within)

  pub entry_there : region < length plan.entries.now
  entry_there =
      let many = is.entries.as_many in
      let within = has.there in
      omega (arith, many, within)

  -- its form is one
  pub form_is_some : (form : Option StoredForm) → slice_get plan.forms.now region ≡ Some form → IsSome form
  form_is_some None e = absurd (none_given (sym (ap form_in e) ∙ has.has))
    where
      none_given : None ≡ Some has.form → ⊥
      none_given bad = cc
  form_is_some (Some form) e = cc

  -- what leads to it
  pub region_led : (form : Option StoredForm) (leaf : Leaf) → slice_get plan.forms.now region ≡ Some form
      → leaf ≡ leaf_in (slice_index plan.entries.now region) (region_tree (table_in plan) region) form → LeadsToRegion (emission_in plan) region leaf
  region_led None leaf e led = absurd (none_given (sym (ap form_in e) ∙ has.has))
    where
      none_given : None ≡ Some has.form → ⊥
      none_given bad = cc
  region_led (Some stored.Plain) leaf e led = record { form = Plain; has = ap form_in e; is = led }
  region_led (Some (stored.ByAutomaton automaton registers)) leaf e led = record { form = _; has = ap form_in e; is = led ∙ ap Goto (none_more (slice_index plan.entries.now region)) }
    where
      none_more : (n : ℕ) → n ≡ n + 0
      none_more n = omega arith

module _ (plan : Plan) (row : ℕ) (tree : TableTree) (leaf : Leaf) where
  pub behind_item : (origin : ℕ) (item : Item) (rest : TableTree) → tree ≡ Does origin item rest → leaf ≡ Goto row → LeadsBehind (emission_in plan) row tree leaf
  behind_item origin item rest e is =
      subst (λ (t : TableTree). LeadsBehind (emission_in plan) row t leaf) (sym e)
      (subst (λ (l : Leaf). LeadsBehind (emission_in plan) row (Does origin item rest) l) (sym is) to_item)

  pub behind_test : (origin : ℕ) (on : Operand) (on_yes on_no : TableTree) → tree ≡ Asks origin on on_yes on_no → leaf ≡ Goto row
      → LeadsBehind (emission_in plan) row tree leaf
  behind_test origin on on_yes on_no e is =
      subst (λ (t : TableTree). LeadsBehind (emission_in plan) row t leaf) (sym e)
      (subst (λ (l : Leaf). LeadsBehind (emission_in plan) row (Asks origin on on_yes on_no) l) (sym is) to_test)

  pub behind_region : (region : ℕ) → tree ≡ Next region → LeadsToRegion (emission_in plan) region leaf → LeadsBehind (emission_in plan) row tree leaf
  behind_region region e leads = subst (λ (t : TableTree). LeadsBehind (emission_in plan) row t leaf) (sym e) (to_region leads)

  pub behind_end : tree ≡ Stops_here → leaf ≡ Stop → LeadsBehind (emission_in plan) row tree leaf
  behind_end e is =
      subst (λ (t : TableTree). LeadsBehind (emission_in plan) row t leaf) (sym e)
      (subst (λ (l : Leaf). LeadsBehind (emission_in plan) row Stops_here l) (sym is) to_end)

  pub behind_trap : (kind : TrapKind) (line : ℕ) → tree ≡ Traps_here kind line → leaf ≡ Trap kind line → LeadsBehind (emission_in plan) row tree leaf
  behind_trap kind line e is =
      subst (λ (t : TableTree). LeadsBehind (emission_in plan) row t leaf) (sym e)
      (subst (λ (l : Leaf). LeadsBehind (emission_in plan) row (Traps_here kind line) l) (sym is) to_trap)

pub ruleset leads = (
  region_there,
  form_there,
  entry_there,
  form_is_some,
  region_led,
  behind_item,
  behind_test,
  behind_region,
  behind_end,
  behind_trap,
)
