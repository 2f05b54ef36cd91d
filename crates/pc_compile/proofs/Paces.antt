-- Emitted rows keep pace with the schedule of their forms, and so does a code after its tightening.
use Rattle.std.specs.Prelude.{ℤ}
use Rattle.std.proofs.Common.{◌≡◌, ℕ, zero, suc, ◌+◌, List, Option, Some, refl, sym, subst, arith, zero-add}
use Rattle.pc_word.specs.declared.item.Limits.{Limits}
use Rattle.pc_word.specs.State.{State, start_state}
use Rattle.pc_word.specs.Run.{Run, Seen, Step, Answers, after_printing, seen_of, run_from}
use Rattle.pc_word.proofs.Runs.{Answers-after}
use Rattle.pc_table.specs.Table.{region_tree}
use Rattle.pc_table.specs.TableKeeps.{TableKeeps}
use Rattle.pc_table.specs.Laws.{AlikeAtHead}
use Rattle.pc_window.proofs.Paces.{answer_of_answer}
use Rattle.pc_machine.specs.declared.tree.Leaf.{Leaf}
use Rattle.pc_machine.specs.declared.tree.Leaf.TheVariants.{Goto}
use Rattle.pc_machine.specs.MachineCode.{CodeRow}
use Rattle.pc_machine.specs.MachineRun.{machine_run}
use Rattle.pc_emit.specs.Emitted.{Emission, RegionForm, Plain, ByAutomaton, form_leaf, BeginsAtFirstRow, IsEmitted}
use Rattle.pc_emit.specs.PackedForm.{IsRegionForm}
use Rattle.pc_emit.specs.Laws.{code_with}
use Rattle.pc_emit.proofs.Leading.{leaf_run, leaf_grows}
use Rattle.pc_compile.specs.ScheduleRun.{SchedulePlace, At_tree, At_state, begins_in, schedule_step, schedule_run, step_cost, cost_behind, cost_from, start_cost, schedule_cost}
use Rattle.pc_compile.specs.Laws.{EmittedRowsKeepPace, RecoloredCodesKeepPace, TightenedCodesKeepPace}
use Rattle.pc_compile.proofs.SchedulePlaces.{code, Meets, Pays, pays_on, pays_end, form_meets, pays, BeginsPlain, begins_there, first_begins}

module _ (e : Emission) (keeps : TableKeeps e.table) (limits : Limits) (rows : List CodeRow) (emitted : IsEmitted e rows)
    (forms : (region : ℕ) (form : RegionForm) → e.forms region ≡ Some form → IsRegionForm e.table region form) where
  abbrev schedule : ℕ → SchedulePlace → Seen
  schedule n place = run_from (schedule_step e.table e.forms) n place

  abbrev cost : ℕ → SchedulePlace → ℕ
  cost n place = cost_from (schedule_step e.table e.forms) (step_cost e.table.arrays e.ops) n place

  abbrev shown : Leaf → State → Run
  shown leaf m = leaf_run (code e keeps limits rows emitted forms) leaf m

  -- what the machine has shown after the cycles that so many steps may cost
  abbrev IsInTime : ℕ → SchedulePlace → Leaf → State → Type 0
  IsInTime n place leaf m = Answers (schedule n place) (shown leaf m (cost n place)) (schedule n place).end

  step_in_time : (n : ℕ) (step : Step SchedulePlace) (may : ℕ) (leaf : Leaf) (m : State)
      → ((next : SchedulePlace) (target : Leaf) (moved : State) → Meets e keeps limits rows emitted forms next target moved → IsInTime n next target moved)
      → Pays e keeps limits rows emitted forms step may (shown leaf m)
      → Answers (seen_of step (schedule n)) (shown leaf m (may + cost_behind step (cost n))) (seen_of step (schedule n)).end
  step_in_time n step may leaf m later (pays_on {out} {next} {target} {moved} cycles within same meets) =
      let seen = after_printing out (shown target moved (cost n next)) in
      answer_of_answer (after_printing out (schedule n next)) seen (shown leaf m (may + cost n next))
      (Answers-after out (schedule n next) (shown target moved (cost n next)) (schedule n next).end (later next target moved meets))
      (subst (λ (x : Seen). Answers x (shown leaf m (may + cost n next)) x.end) (same (cost n next))
      (leaf_grows (code e keeps limits rows emitted forms) leaf m (cycles + cost n next) (may + cost n next) (omega (arith, within))))
  step_in_time n step may leaf m later (pays_end cycles within same) =
      subst (λ (x : Seen). Answers x (shown leaf m (may + 0)) x.end) same
      (leaf_grows (code e keeps limits rows emitted forms) leaf m cycles (may + 0) (omega (arith, within)))

  in_time : (n : ℕ) (place : SchedulePlace) (leaf : Leaf) (m : State) → Meets e keeps limits rows emitted forms place leaf m → IsInTime n place leaf m
  in_time zero place leaf m meets = ((shown leaf m 0).printed, refl)
  in_time (suc n) place leaf m meets =
      step_in_time n (schedule_step e.table e.forms place) (step_cost e.table.arrays e.ops place) leaf m (λ next target moved h. in_time n next target moved h)
      (pays e keeps limits rows emitted forms meets)

  -- ---- from row 0

  alike_itself : (s : State) → AlikeAtHead e.table 0 s s
  alike_itself s = record { cells = refl; input = refl; names = λ variable live. refl }

  -- the steps from where the schedule begins, after the cycles before the first of them
  abbrev IsInTimeAfter : (start : ℕ) → ℕ → SchedulePlace → State → Type 0
  IsInTimeAfter start n place m = Answers (schedule n place) (shown (Goto 0) m (start + cost n place)) (schedule n place).end

  begins_in_time : (n : ℕ) (place : SchedulePlace) (m : State) → BeginsPlain e keeps limits rows emitted forms place (shown (Goto 0) m) → IsInTimeAfter 1 n place m
  begins_in_time n place m (begins_there {leaf} {m = moved} cycles within same meets) =
      answer_of_answer (schedule n place) (shown leaf moved (cost n place)) (shown (Goto 0) m (1 + cost n place)) (in_time n place leaf moved meets)
      (subst (λ (x : Seen). Answers x (shown (Goto 0) m (1 + cost n place)) x.end) (same (cost n place))
      (leaf_grows (code e keeps limits rows emitted forms) (Goto 0) m (cycles + cost n place) (1 + cost n place) (omega (arith, within))))

  first_in_time : BeginsAtFirstRow e → (form : RegionForm) → e.forms 0 ≡ Some form → emitted.first ≡ form_leaf e 0 form → (s : State) (n : ℕ)
      → IsInTimeAfter (start_cost (Some form)) n (begins_in e.table 0 (Some form) s) s
  first_in_time at_first Plain has is s n =
      begins_in_time n (At_tree (region_tree e.table 0) s) s
      (first_begins e keeps limits rows emitted forms emitted.first emitted.begins (At_tree (region_tree e.table 0) s) s
      (subst (λ (l : Leaf). Meets e keeps limits rows emitted forms (At_tree (region_tree e.table 0) s) l s) (sym is)
      (form_meets e keeps limits rows emitted forms 0 Plain has s s (alike_itself s))))
  first_in_time at_first (ByAutomaton states registers) has is s n =
      subst (λ (cycles : ℕ). Answers (schedule n (At_state 0 states 0 s)) (shown (Goto 0) s cycles) (schedule n (At_state 0 states 0 s)).end)
      (sym (zero-add (cost n (At_state 0 states 0 s))))
      (subst (λ (row : ℕ). IsInTime n (At_state 0 states 0 s) (Goto row) s) (at_first states registers has)
      (in_time n (At_state 0 states 0 s) (Goto (e.places.state 0 0)) s
      (form_meets e keeps limits rows emitted forms 0 (ByAutomaton states registers) has s s (alike_itself s))))

pub emitted_rows_keep_pace : EmittedRowsKeepPace
emitted_rows_keep_pace e keeps limits registers initial rows same emitted at_first forms input n =
    let first = start_state initial input in
    subst (λ (ops : ℕ). Answers (schedule_run e.table e.forms initial input n)
    (machine_run (code_with limits registers initial e rows) input (schedule_cost e.table e.forms ops initial input n)) (schedule_run e.table e.forms initial input n).end) (sym same)
    (subst (λ (it : Option RegionForm). IsInTimeAfter e keeps limits rows emitted forms (start_cost it) n (begins_in e.table 0 it first) first)
    (sym emitted.leads.has)
    (first_in_time e keeps limits rows emitted forms at_first emitted.leads.form emitted.leads.has emitted.leads.is first n))

-- ---- registers chosen anew

-- runs that show the same after each number of cycles show as much
pub recolored_codes_keep_pace : RecoloredCodesKeepPace
recolored_codes_keep_pace table forms most before after recolored input pace n =
    let seen = schedule_run table forms before.initial input n in
    subst (λ (initial : List (List ℤ)). Answers (schedule_run table forms initial input n)
    (machine_run after input (schedule_cost table forms after.limits.ops initial input n)) (schedule_run table forms initial input n).end) (sym recolored.initial)
    (subst (λ (limits : Limits). Answers seen (machine_run after input (schedule_cost table forms limits.ops before.initial input n)) seen.end) (sym recolored.limits)
    (subst (λ (shown : Seen). Answers seen shown seen.end) (recolored.runs input (schedule_cost table forms before.limits.ops before.initial input n)) (pace n)))

-- ---- tightening

pub tightened_codes_keep_pace : TightenedCodesKeepPace
tightened_codes_keep_pace table forms before after tightened input never pace n =
    let seen = schedule_run table forms before.initial input n in
    let cycles = schedule_cost table forms before.limits.ops before.initial input n in
    subst (λ (initial : List (List ℤ)). Answers (schedule_run table forms initial input n)
    (machine_run after input (schedule_cost table forms after.limits.ops initial input n)) (schedule_run table forms initial input n).end) (sym tightened.initial)
    (subst (λ (limits : Limits). Answers seen (machine_run after input (schedule_cost table forms limits.ops before.initial input n)) seen.end) (sym tightened.limits)
    (answer_of_answer seen (machine_run before input cycles) (machine_run after input cycles) (pace n) ((tightened.runs input never).pace cycles)))
