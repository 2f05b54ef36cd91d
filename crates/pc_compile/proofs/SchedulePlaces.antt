-- Where the machine is at the rows of a schedule's place, a step of the schedule is no more cycles than it costs, and leads to where
-- the machine is at the rows of the next place.
use Rattle.std.proofs.Common.{◌≡◌, ℕ, suc, ◌+◌, ◌≤◌, List, [], ◌∷◌, length, Option, Some, None, refl, sym, ◌∙◌, ap, subst, arith}
use Rattle.std.specs.Prelude.{ℤ, Bool, true, false, if◌then◌else◌, nat_eq, slice_get}
use Rattle.std.specs.List.{list_any}
use Rattle.pc_word.specs.declared.item.Item.{Item}
use Rattle.pc_word.specs.declared.item.Limits.{Limits}
use Rattle.pc_word.specs.declared.item.Operand.{Operand}
use Rattle.pc_word.specs.declared.item.MachineFault.{MachineFault}
use Rattle.pc_word.specs.declared.item.End.{End}
use Rattle.pc_word.specs.Word.{holds}
use Rattle.pc_word.specs.State.{State}
use Rattle.pc_word.specs.Items.{operand_value}
use Rattle.pc_word.specs.Commit.{fault_of, prints_of, state_after}
use Rattle.pc_word.specs.Row.{Then, Either, At_leaf, RowOutcome, commit_of, row_step}
use Rattle.pc_word.specs.Run.{Run, Seen, Step, Goes, Stops, after_printing, seen_of, run_from}
use Rattle.pc_table.specs.Table.{TableTree, Does, Asks, region_live}
use Rattle.pc_table.specs.RegionRun.{lead_on}
use Rattle.pc_table.specs.TableKeeps.{TableKeeps, units}
use Rattle.pc_table.specs.Laws.{AlikeAtHead}
use Rattle.pc_window.specs.Tree.{home_state}
use Rattle.pc_window.specs.Unwinding.{or_zero}
use Rattle.pc_automaton.specs.declared.automaton.AutomatonLeaf.{AutomatonLeaf}
use Rattle.pc_automaton.specs.declared.automaton.AutomatonLeaf.TheVariants.{To, Out, Stop, Trap}
use Rattle.pc_automaton.specs.Automaton.{AutomatonState}
use Rattle.pc_automaton.specs.AutomatonRun.{state_parameters}
use Rattle.pc_assign.proofs.Apartness.{all_in}
use Rattle.pc_machine.specs.declared.tree.Leaf.{Leaf}
use Rattle.pc_machine.specs.declared.tree.Leaf.TheVariants as machine
use Rattle.pc_machine.specs.MachineCode.{CodeRow, RowCode, code_without_data}
use Rattle.pc_machine.specs.MachineRun.{after_row, machine_step}
use Rattle.pc_copies.specs.Moves.{after_rows}
use Rattle.pc_assign.specs.Assigned.{Registers}
use Rattle.pc_emit.specs.Registers.{register_of, argument_moves, home_moves}
use Rattle.pc_emit.specs.Emitted.{Emission, RegionForm, Plain, ByAutomaton, root_leaf, form_leaf, leads_to_state, leads_to_region, ends_here, traps_here}
use Rattle.pc_emit.specs.Emitted.{BeginsAt, at_first_row, by_leaf_alone}
use Rattle.pc_emit.specs.Emitted.{LeadsBehind, to_item, to_test, to_region, to_end, to_trap, TreeStands, item_row, test_row, no_row, no_end_row, no_trap_row, IsEmitted}
use Rattle.pc_emit.specs.PackedForm.{IsPackedForm, IsRegionForm}
use Rattle.pc_emit.proofs.Rows.{LeafHolds, OutcomeStands, both_fault, both_commit}
use Rattle.pc_emit.proofs.Passed.{region_passed}
use Rattle.pc_emit.proofs.Leading.{leaf_run, leaf_seen, row_seen, passes_back}
use Rattle.pc_emit.proofs.PackedRuns.{Leads, StandsAt, both_step, next_stands}
use Rattle.pc_emit.proofs.PlainRuns.{IsRoot, roots, test_shown}
use Rattle.pc_compile.specs.ScheduleRun.{SchedulePlace, At_tree, At_state, begins_in, begins_at, behind, schedule_leaf_step, schedule_outcome_step, schedule_state_step, schedule_step}
use Rattle.pc_compile.specs.ScheduleRun.{leaf_cost, outcome_cost, state_cost, step_cost}
use Rattle.pc_compile.proofs.Costs.{passing_few, arguments_many, homes_many}
use Rattle.pc_compile.proofs.Needs.{Agrees, item_alike, behind_item, test_alike, behind_yes, behind_no, agrees_at_head, alike_at_head}
use Rattle.pc_word.proofs.Evaluated.{Alike-fault, Alike-prints}

module _ (e : Emission) (keeps : TableKeeps e.table) (limits : Limits) (rows : List CodeRow) (emitted : IsEmitted e rows)
    (forms : (region : ℕ) (form : RegionForm) → e.forms region ≡ Some form → IsRegionForm e.table region form) where
  abbrev pub code : RowCode
  code = code_without_data limits e.table.arrays rows

  module _ (region : ℕ) (states : List AutomatonState) (registers : Registers) (has : e.forms region ≡ Some (ByAutomaton states registers)) where
    abbrev pub packed : IsPackedForm e.table region states registers
    packed = forms region (ByAutomaton states registers) has

    -- the machine is at the row of a state of a packed region, and registers hold its parameters
    abbrev pub Stands : ℕ → State → State → Type 0
    Stands number s m = StandsAt e keeps limits rows region states registers packed.automaton packed.apart packed.there (emitted.stands region (ByAutomaton states registers) has) number s m

    -- so it is where the region begins, if the variables that are live there have their values
    stands_first : (s m : State) → AlikeAtHead e.table region s m → Stands 0 s m
    stands_first s m alike = record {
      state = packed.first;
      there = packed.is_first;
      holds = record {
        names = λ x there.
            ap (λ (o : Option ℕ). m.names (or_zero o)) (all_in (λ v. registers.of 0 v ≡ Some v) packed.first.parameters x packed.variables there)
            ∙ alike.names x (all_in (λ v. list_any (nat_eq v) (region_live e.table region) ≡ true) packed.first.parameters x packed.live there);
        cells = alike.cells;
        input = alike.input;
      };
    }

  -- the machine, at a leaf that leads on, is at the rows of a schedule's place
  pub data Meets : SchedulePlace → Leaf → State → Type 0 where
    meets_state : {region number : ℕ} {states : List AutomatonState} {registers : Registers} {s m : State} (has : e.forms region ≡ Some (ByAutomaton states registers))
        → Stands region states registers has number s m → Meets (At_state region states number s) (machine.Goto (e.places.state region number)) m
    meets_tree : {row : ℕ} {tree : TableTree} {s m : State} → TreeStands e rows row tree → IsRoot tree → Agrees e.table tree s m
        → Meets (At_tree tree s) (root_leaf row tree) m

  -- what so much may cost that does a step: in so many cycles or fewer the same is printed and the next place is met, or the end
  pub data Pays : Step SchedulePlace → (cost : ℕ) → Run → Type 0 where
    pays_on : {out : List ℤ} {next : SchedulePlace} {target : Leaf} {moved : State} {cost : ℕ} {shown : Run} (cycles : ℕ) → cycles ≤ cost
        → ((k : ℕ) → shown (cycles + k) ≡ after_printing out (leaf_run code target moved k)) → Meets next target moved → Pays (Goes out next) cost shown
    pays_end : {out : List ℤ} {end : End} {cost : ℕ} {shown : Run} (cycles : ℕ) → cycles ≤ cost
        → shown cycles ≡ record { printed = out; end = Some end } → Pays (Stops out end) cost shown

  -- a leaf that leads to a region leads to where it begins
  pub form_meets : (region : ℕ) (form : RegionForm) → e.forms region ≡ Some form → (s m : State) → AlikeAtHead e.table region s m
      → Meets (begins_in e.table region (Some form) s) (form_leaf e region form) m
  form_meets region Plain has s m alike =
      meets_tree (emitted.stands region Plain has) (roots e.table keeps region) (agrees_at_head e.table s m keeps region alike)
  form_meets region (ByAutomaton states registers) has s m alike = meets_state has (stands_first region states registers has s m alike)

  region_meets : (region : ℕ) (form : RegionForm) → e.forms region ≡ Some form → (s m : State) → AlikeAtHead e.table region s m
      → Meets (begins_at e.table e.forms region s) (form_leaf e region form) m
  region_meets region form has s m alike =
      subst (λ (it : Option RegionForm). Meets (begins_in e.table region it s) (form_leaf e region form) m) (sym has) (form_meets region form has s m alike)

  -- ---- packed regions

  module _ (region : ℕ) (states : List AutomatonState) (registers : Registers) (has : e.forms region ≡ Some (ByAutomaton states registers)) where
    abbrev LeadsOn : (ℕ → ℕ) → AutomatonLeaf → Leaf → Type 0
    LeadsOn of leaf below =
        Leads e keeps limits rows region states registers (packed region states registers has).automaton (packed region states registers has).apart
        (packed region states registers has).there (emitted.stands region (ByAutomaton states registers) has) of leaf below

    leaf_pays : (of : ℕ → ℕ) (out : List ℤ) (s m : State) (leaf : AutomatonLeaf) (below : Leaf) → LeadsOn of leaf below → LeafHolds of leaf s m
        → (shown : Run) → ((j : ℕ) → shown (suc j) ≡ after_printing out (leaf_run code below m j))
        → Pays (schedule_leaf_step e.table e.forms region states out s leaf) (leaf_cost e.ops leaf) shown
    leaf_pays of out s m (To number arguments) below (leads, leads_to_state moves) holds shown same =
        pays_on (suc (length moves.copies))
        (passing_few (argument_moves of (register_of (registers.of number)) (state_parameters (slice_get states number)) arguments) e.ops registers.scratch moves.copies moves.arranged
        (length arguments) (arguments_many of (register_of (registers.of number)) (state_parameters (slice_get states number)) arguments))
        (λ k. let one : suc (length moves.copies) + k ≡ suc (length moves.copies + k) = omega arith in
        ap shown one ∙ same (length moves.copies + k) ∙ ap (λ (x : Seen). after_printing out x) (passes_back code moves.passes m k))
        (meets_state has
        (next_stands e keeps limits rows region states registers (packed region states registers has).automaton (packed region states registers has).apart
        (packed region states registers has).there (emitted.stands region (ByAutomaton states registers) has) of s m number arguments below leads.0 holds moves))
    leaf_pays of out s m (Out to homes) below (leads, leads_to_region {target} there moves) holds shown same =
        let u = after_rows e.table.arrays moves.copies m in
        pays_on (suc (length moves.copies))
        (passing_few (home_moves of homes) e.ops registers.scratch moves.copies moves.arranged (length homes) (homes_many of homes))
        (λ k. let one : suc (length moves.copies) + k ≡ suc (length moves.copies + k) = omega arith in
        ap shown one ∙ same (length moves.copies + k) ∙ ap (λ (x : Seen). after_printing out x) (passes_back code moves.passes m k))
        (subst (λ (l : Leaf). Meets (begins_at e.table e.forms to (home_state s homes)) l u) (sym there.is)
        (region_meets to there.form there.has (home_state s homes) u
        (region_passed e.table of s m u registers.scratch to homes leads.1.live holds (moves.arranged.done e.table.arrays m))))
    leaf_pays of out s m Stop below (leads, ends_here) holds shown same = pays_end 1 (omega arith) (same 0 ∙ sym (leaf_seen code out m below 0))
    leaf_pays of out s m (Trap kind line) below (leads, traps_here) holds shown same = pays_end 1 (omega arith) (same 0 ∙ sym (leaf_seen code out m below 0))

    outcome_pays : (of : ℕ → ℕ) (a : RowOutcome AutomatonLeaf) (b : RowOutcome Leaf) → OutcomeStands (LeadsOn of) of a b
        → (shown : Run) → ((j : ℕ) → shown (suc j) ≡ seen_of (after_row b) (run_from (machine_step code) j))
        → Pays (schedule_outcome_step e.table e.forms region states a) (outcome_cost e.ops a) shown
    outcome_pays of a b both_fault shown same = pays_end 1 (omega arith) (same 0)
    outcome_pays of a b (both_commit {printed} {new} {moved} {leaf} {below} leads holds) shown same =
        leaf_pays of printed new moved leaf below leads holds shown (λ j. same j ∙ leaf_seen code printed moved below j)

    state_pays : (number : ℕ) (s m : State) → Stands region states registers has number s m
        → Pays (schedule_step e.table e.forms (At_state region states number s)) (step_cost e.table.arrays e.ops (At_state region states number s))
        (leaf_run code (machine.Goto (e.places.state region number)) m)
    state_pays number s m at =
        let b = both_step e keeps limits rows region states registers (packed region states registers has).automaton (packed region states registers has).apart
        (packed region states registers has).there (emitted.stands region (ByAutomaton states registers) has) number s m at in
        subst (λ (it : Option AutomatonState). Pays (schedule_state_step e.table e.forms region states it s) (state_cost e.table.arrays e.ops it s)
        (leaf_run code (machine.Goto (e.places.state region number)) m)) (sym at.there)
        (outcome_pays (register_of (registers.of number)) (row_step e.table.arrays at.state.row s) (row_step e.table.arrays b.0 m) b.2
        (leaf_run code (machine.Goto (e.places.state region number)) m) (λ j. row_seen code (e.places.state region number) b.0 m j b.1))

  -- ---- plain regions

  -- what stands after an item or a test
  behind_meets : {row : ℕ} {tree : TableTree} {leaf : Leaf} (s m : State) → LeadsBehind e row tree leaf → TreeStands e rows row tree → Agrees e.table tree s m
      → Meets (behind e.table e.forms tree s) leaf m
  behind_meets s m to_item stands agrees = meets_tree stands tt agrees
  behind_meets s m to_test stands agrees = meets_tree stands tt agrees
  behind_meets s m (to_region {region} {leaf} there) stands agrees =
      subst (λ (l : Leaf). Meets (begins_at e.table e.forms region s) l m) (sym there.is)
      (region_meets region there.form there.has s m (alike_at_head e.table s m region agrees))
  behind_meets s m to_end stands agrees = meets_tree stands tt agrees
  behind_meets s m to_trap stands agrees = meets_tree stands tt agrees

  item_pays : (row origin : ℕ) (item : Item) (rest : TableTree) (leaf : Leaf) (s m : State) → slice_get rows row ≡ Some (Then item (At_leaf leaf))
      → LeadsBehind e (suc row) rest leaf → TreeStands e rows (suc row) rest → Agrees e.table (Does origin item rest) s m
      → Pays (schedule_step e.table e.forms (At_tree (Does origin item rest) s)) 1 (leaf_run code (machine.Goto row) m)
  item_pays row origin item rest leaf s m there leads below agrees =
      by_fault (fault_of e.table.arrays s (item ∷ [])) (λ j. row_seen code row (Then item (At_leaf leaf)) m j there
      ∙ ap (λ (f : Option MachineFault). seen_of (after_row (commit_of e.table.arrays m (item ∷ []) leaf f)) (run_from (machine_step code) j))
      (Alike-fault e.table.arrays m item s item (item_alike e.table s m origin item rest agrees)))
    where
      prints : prints_of m (item ∷ []) ≡ prints_of s (item ∷ [])
      prints = Alike-prints m item s item (item_alike e.table s m origin item rest agrees)

      by_fault : (f : Option MachineFault)
          → ((j : ℕ) → leaf_run code (machine.Goto row) m (suc j) ≡ seen_of (after_row (commit_of e.table.arrays m (item ∷ []) leaf f)) (run_from (machine_step code) j))
          → Pays (lead_on (commit_of e.table.arrays s (item ∷ []) rest f) (behind e.table e.forms)) 1 (leaf_run code (machine.Goto row) m)
      by_fault (Some fault) same = pays_end 1 (omega arith) (same 0)
      by_fault None same =
          let new = state_after e.table.arrays m (item ∷ []) in
          pays_on 1 (omega arith)
          (λ k. let one : 1 + k ≡ suc k = omega arith in
          ap (leaf_run code (machine.Goto row) m) one ∙ same k ∙ leaf_seen code (prints_of m (item ∷ [])) new leaf k
          ∙ ap (λ (l : List ℤ). after_printing l (leaf_run code leaf new k)) prints)
          (behind_meets (state_after e.table.arrays s (item ∷ [])) new leads below (behind_item e.table s m origin item rest agrees))

  test_pays : (row origin : ℕ) (on : Operand) (on_yes on_no : TableTree) (yes_leaf no_leaf : Leaf) (s m : State)
      → slice_get rows row ≡ Some (Either on (At_leaf yes_leaf) (At_leaf no_leaf))
      → LeadsBehind e (suc row) on_yes yes_leaf → LeadsBehind e (suc row + units on_yes) on_no no_leaf
      → TreeStands e rows (suc row) on_yes → TreeStands e rows (suc row + units on_yes) on_no → Agrees e.table (Asks origin on on_yes on_no) s m
      → Pays (schedule_step e.table e.forms (At_tree (Asks origin on on_yes on_no) s)) 1 (leaf_run code (machine.Goto row) m)
  test_pays row origin on on_yes on_no yes_leaf no_leaf s m there yes_leads no_leads yes_below no_below agrees =
      by_test (holds (operand_value s.names on)) (λ j. test_shown e keeps limits rows row on yes_leaf no_leaf m j there
      ∙ ap (λ (value : ℤ). leaf_run code (if holds value then yes_leaf else no_leaf) m j) (test_alike e.table s m origin on on_yes on_no agrees))
    where
      by_test : (b : Bool) → ((j : ℕ) → leaf_run code (machine.Goto row) m (suc j) ≡ leaf_run code (if b then yes_leaf else no_leaf) m j)
          → Pays (Goes [] (behind e.table e.forms (if b then on_yes else on_no) s)) 1 (leaf_run code (machine.Goto row) m)
      by_test true same =
          pays_on 1 (omega arith) (λ k. let one : 1 + k ≡ suc k = omega arith in ap (leaf_run code (machine.Goto row) m) one ∙ same k)
          (behind_meets s m yes_leads yes_below (behind_yes e.table s m origin on on_yes on_no agrees))
      by_test false same =
          pays_on 1 (omega arith) (λ k. let one : 1 + k ≡ suc k = omega arith in ap (leaf_run code (machine.Goto row) m) one ∙ same k)
          (behind_meets s m no_leads no_below (behind_no e.table s m origin on on_yes on_no agrees))

  tree_pays : {row : ℕ} {tree : TableTree} (s m : State) → TreeStands e rows row tree → IsRoot tree → Agrees e.table tree s m
      → Pays (schedule_step e.table e.forms (At_tree tree s)) 1 (leaf_run code (root_leaf row tree) m)
  tree_pays s m (item_row {row} {origin} {item} {rest} {leaf} there leads below) root agrees = item_pays row origin item rest leaf s m there leads below agrees
  tree_pays s m (test_row {row} {origin} {on} {on_yes} {on_no} {yes_leaf} {no_leaf} there yes_leads no_leads yes_below no_below) root agrees =
      test_pays row origin on on_yes on_no yes_leaf no_leaf s m there yes_leads no_leads yes_below no_below agrees
  tree_pays s m no_row root agrees = absurd root
  tree_pays s m no_end_row root agrees = pays_end 0 (omega arith) refl
  tree_pays s m no_trap_row root agrees = pays_end 0 (omega arith) refl

  -- ---- all places

  pub pays : {place : SchedulePlace} {leaf : Leaf} {m : State} → Meets place leaf m
      → Pays (schedule_step e.table e.forms place) (step_cost e.table.arrays e.ops place) (leaf_run code leaf m)
  pays (meets_state {region} {number} {states} {registers} {s} {m} has at) = state_pays region states registers has number s m at
  pays (meets_tree {row} {tree} {s} {m} stands root agrees) = tree_pays s m stands root agrees

  -- row 0, where region 0 is plain: it is the first row of its tree, or a leaf alone that leads there
  pub data BeginsPlain (place : SchedulePlace) : Run → Type 0 where
    begins_there : {leaf : Leaf} {m : State} {shown : Run} (cycles : ℕ) → cycles ≤ 1 → ((k : ℕ) → shown (cycles + k) ≡ leaf_run code leaf m k) → Meets place leaf m
        → BeginsPlain place shown

  pub first_begins : (leaf : Leaf) → BeginsAt rows leaf → (place : SchedulePlace) (m : State) → Meets place leaf m → BeginsPlain place (leaf_run code (machine.Goto 0) m)
  first_begins leaf at_first_row place m meets =
      begins_there 0 (omega arith) (λ k. let none : 0 + k ≡ k = omega arith in ap (leaf_run code (machine.Goto 0) m) none) meets
  first_begins leaf (by_leaf_alone there) place m meets =
      begins_there 1 (omega arith)
      (λ k. let one : 1 + k ≡ suc k = omega arith in
      ap (leaf_run code (machine.Goto 0) m) one ∙ row_seen code 0 (At_leaf leaf) m k there ∙ leaf_seen code [] m leaf k) meets
