-- A program's graph, its regions and their rows, put together.
use Rattle.std.proofs.Common.{◌≡◌, inr, ℕ, ◌+◌, ◌≤◌, true, List, [], ◌∷◌, length, sum, Option, None, refl, sym, ◌∙◌, ap, subst, arith}
use Rattle.std.specs.Prelude.{nat_le, max, All, ℤ}
use Rattle.std.specs.List.{AllByRecursion, list_all, flat_map}
use Rattle.std.proofs.lemmas.Bool.Decides.{nat_tests}
use Rattle.std.proofs.lemmas.Option.{slice_get_within}
use Rattle.pc_word.specs.declared.item.Extent.{Extent}
use Rattle.pc_word.specs.declared.item.Limits.{Limits}
use Rattle.pc_word.specs.declared.loop_mark.LoopMark.{LoopMark}
use Rattle.pc_word.specs.MachineLimits.{most_arrays, most_elements, most_length, most_object}
use Rattle.pc_word.specs.Run.{Run, AgreeOnInputs, NeverFaults}
use Rattle.pc_word.specs.Word.{IsWord}
use Rattle.pc_word.specs.SourceLimits.{most_nodes}
use Rattle.pc_word.proofs.Runs.{Agree-equal, AgreeOnInputs-sym, AgreeOnInputs-trans}
use Rattle.pc_word.proofs.Truth.{and_true}
use Rattle.pc_syntax.specs.Source.{ResolvedProgram}
use Rattle.pc_check.specs.Sound.{is_length}
use Rattle.pc_meaning.specs.SourceRun.{source_run}
use Rattle.pc_flow.specs.FlowGraph.{FlowGraph}
use Rattle.pc_flow.specs.FlowRun.{flow_run}
use Rattle.pc_meaning.proofs.SourceRuns.{source_run-faultless}
use Rattle.pc_lower.specs.Lowered.{IsLowered}
use Rattle.pc_lower.specs.SourceLoops.{SourceLoop}
use Rattle.pc_lower.proofs.Bounds.{list-loops_sized}
use Rattle.pc_lower.proofs.LoopMarks.{as_many_marks}
use Rattle.pc_lower.proofs.Numbered.{loops_counted}
use Rattle.pc_machine.specs.MachineCode.{CodeRow, RowCode}
use Rattle.pc_machine.specs.MachineRun.{machine_run}
use Rattle.pc_machine.specs.Registers.{few_registers, most_registers}
use Rattle.pc_machine.specs.WellFormed.{AreArrays, WellFormed}
use Rattle.pc_word.specs.Data.{AreData}
use Rattle.pc_word.specs.Ranges.{IsBetween, AreLimits}
use Rattle.pc_object.specs.declared.object.Note.{Note}
use Rattle.pc_object.specs.ObjectText.{CodeWithNotes, row_text, IsChoice}
use Rattle.pc_pass.specs.Pass.{Keeps}
use Rattle.pc_tighten.specs.Compact.{Compact}
use Rattle.pc_tighten.specs.Removals.{HasNoGotoAlone}
use Rattle.pc_recolor.specs.Recolored.{IsRecolored, IsRecoloredAndTightened}
use Rattle.pc_tighten.specs.Tightened.{EachIsReachable}
use Rattle.pc_table.specs.Table.{Table}
use Rattle.pc_table.specs.TableKeeps.{TableKeeps}
use Rattle.pc_table.specs.RegionRun.{table_run}
use Rattle.pc_regions.specs.Cut.{IsCutOf}
use Rattle.pc_window.proofs.Paces.{NeverFaults-follows}
use Rattle.pc_emit.specs.declared.form.RegionForm.{RegionForm as StoredForm}
use Rattle.pc_emit.specs.Emitted.{RegionForm}
use Rattle.pc_emit.specs.Bytes.{regions_bytes, object_bytes}
use Rattle.pc_emit.specs.Emitting.{region_forms, emission_of, AreEnough, AreEmitted}
use Rattle.pc_emit.proofs.Emissions.{emitted_rows_do}
use Rattle.pc_compile.specs.declared.choice.Choice.{Choice}
use Rattle.pc_compile.specs.Choosing.{AreChosen}
use Rattle.pc_compile.proofs.Emittable.{are_forms, form_is, chosen_is_short}
use Rattle.pc_compile.proofs.Paces.{emitted_rows_keep_pace, recolored_codes_keep_pace, tightened_codes_keep_pace}
use Rattle.pc_compile.specs.Notes.{notes_of}
use Rattle.pc_compile.specs.Compiled.{IsCompiled}
use Rattle.pc_compile.specs.Pace.{KeepsPaceOn}
use Rattle.pc_compile.specs.Registers.{loose_code, fitted}
use Rattle.pc_compile.proofs.FittedCodes.{fitted_form, fitted_compact, few_for_fewer, few_stay_few}
use Rattle.pc_compile.proofs.Counts.{all_units}
use Rattle.pc_compile.specs.models.Counting.{bytes_beside_rows}
use Rattle.pc_compile.specs.models.Made.{IsObjectOf}
use Rattle.pc_compile.proofs.Origins.{few_units, few_regions}
use Rattle.pc_compile.proofs.Short.{plain_is_short, few_notes, known_notes, text_room, no_longer, object_is_short}

-- lengths that were checked are lengths of the machine
lengths_between : (arrays : List ℕ) → list_all is_length arrays ≡ true → AllByRecursion (IsBetween 1 most_length) arrays
lengths_between [] h = tt
lengths_between (size ∷ arrays) h =
    let parts = and_true (is_length size) (list_all is_length arrays) h in
    let bounds = and_true (nat_le 1 size) (nat_le size most_length) parts.0 in
    ((between 1 size bounds.0, between size most_length bounds.1), lengths_between arrays parts.1)
  where
    between : (low high : ℕ) → nat_le low high ≡ true → low ≤ high
    between low high e = grind (arith, nat_tests)

-- the arrays of a checked program are arrays of the machine
pub are_arrays : (arrays : List ℕ) → length arrays ≤ most_arrays → list_all is_length arrays ≡ true → sum arrays ≤ most_elements → AreArrays arrays
are_arrays arrays few sized elements = record { count = few; each = lengths_between arrays sized; elements = elements }

-- the regions of a program's graph have no more items and tests, are no more and have no more loops than a graph may have nodes
module _ (program : ResolvedProgram) (first flow : FlowGraph) (table : Table) (lowered : IsLowered program first) (kept : Keeps first flow)
    (cut : IsCutOf flow table) (fits : AreData program.arrays program.initial) (elements : sum program.arrays ≤ most_elements) where
  few_nodes : length flow.nodes ≤ most_nodes
  few_nodes =
      let as_many = kept.as_many in
      let counted = lowered.counted in
      let few = lowered.few in
      omega (arith, as_many, counted, few)

  few_units_in_all : all_units table.regions ≤ most_nodes
  few_units_in_all = let units = few_units flow table cut in let few = few_nodes in omega (arith, units, few)

  pub few_regions_in_all : length table.regions ≤ most_nodes
  few_regions_in_all = let regions = few_regions flow table cut in let few = few_nodes in omega (arith, regions, few)

  pub few_loops_in_all : length table.loops ≤ most_nodes
  few_loops_in_all =
      let same = ap (λ (l : List LoopMark). length l) (cut.loops ∙ kept.same_loops) in
      let marks = as_many_marks first.loops in
      let loops = ap (λ (l : List SourceLoop). length l) lowered.loops in
      let counted = loops_counted program.body None [] in
      let sized = list-loops_sized program.body in
      let few = lowered.few in
      omega (arith, same, marks, loops, counted, sized, few)

  -- the arrays are the program's, and so are their data
  same_arrays : table.arrays ≡ program.arrays
  same_arrays = cut.arrays ∙ kept.same_arrays ∙ lowered.arrays

  pub same_initial : flow.initial ≡ program.initial
  same_initial = kept.same_initial ∙ lowered.initial

  -- so its object is short with all regions plain
  pub all_plain_is_short : TableKeeps table → object_bytes table flow.initial (λ region. None) ≤ most_object
  all_plain_is_short keeps =
      plain_is_short table flow.initial few_regions_in_all few_units_in_all few_loops_in_all keeps.few_arrays
      (subst (λ (arrays : List ℕ). AreData arrays flow.initial) (sym same_arrays) (subst (λ (words : List (List ℤ)). AreData program.arrays words) (sym same_initial) fits))
      (subst (λ (arrays : List ℕ). sum arrays ≤ most_elements) (sym same_arrays) elements)

-- a run that agrees with a program's never faults
pub never_faults : (program : ResolvedProgram) (runs : List ℤ → Run) → AgreeOnInputs runs (source_run program) → (input : List ℤ) → All IsWord input
    → NeverFaults (runs input)
never_faults program runs agree input words =
    NeverFaults-follows (runs input) (source_run program input) (agree input words).forth (λ n fault. source_run-faultless program input n fault)

-- the object that is made of the cut of a graph, which passes made of the program's, in the forms that were chosen, is the
-- program's
pub is_compiled : (program : ResolvedProgram) (Passed : FlowGraph → FlowGraph → Type 0) (limits : Limits) (extent : Extent) (first flow : FlowGraph) (table : Table)
    (forms : List (Option StoredForm)) (choices : List Choice) (object : CodeWithNotes) → AreLimits limits
    → AreData program.arrays program.initial → sum program.arrays ≤ most_elements
    → IsLowered program first → Passed first flow → Keeps first flow → IsCutOf flow table → TableKeeps table
    → AgreeOnInputs (table_run table flow.initial) (flow_run flow)
    → AreChosen table flow.initial limits extent choices (region_forms forms) → IsObjectOf table flow.initial forms choices limits object
    → IsCompiled program Passed limits extent flow table choices object
is_compiled program Passed limits extent first flow table forms choices object fine fits elements lowered passed kept cut keeps cut_agrees chosen made =
    let emitted = made.emitted in
    let tightened = made.tightened in
    let tight = made.tight in
    let recolored = made.recolored in
    let between = made.between in
    let initial = flow.initial in
    let e = emission_of table forms emitted.entries limits.ops in
    let loose = loose_code limits table initial made.loose in
    let same_arrays = cut.arrays ∙ kept.same_arrays ∙ lowered.arrays in
    let plain = all_plain_is_short program first flow table lowered kept cut fits elements keeps in
    let may = are_forms table keeps initial limits extent plain choices (region_forms forms) chosen in
    let each = form_is table keeps initial limits extent plain choices (region_forms forms) chosen in
    let of_flow = AgreeOnInputs-trans (flow_run flow) (flow_run first) (source_run program) kept.agrees lowered.agree in
    let of_table = AgreeOnInputs-trans (table_run table initial) (flow_run flow) (source_run program) cut_agrees of_flow in
    let never = never_faults program (table_run table initial) of_table in
    let of_rows = emitted_rows_do e keeps limits most_registers initial made.loose emitted.are each never in
    let of_loose = AgreeOnInputs-trans (machine_run loose) (table_run table initial) (source_run program) of_rows of_table in
    let of_between : AgreeOnInputs (machine_run between) (source_run program) =
    AgreeOnInputs-trans (machine_run between) (machine_run loose) (source_run program) (as_before between (fitted loose) recolored.runs) of_loose in
    let never_between = never_faults program (machine_run between) of_between in
    let of_tight : AgreeOnInputs (machine_run between) (machine_run tight) =
    λ input words. (tightened.runs input (never_between input words)).agree in
    let agree : AgreeOnInputs (source_run program) (machine_run tight) =
    AgreeOnInputs-trans (source_run program) (machine_run between) (machine_run tight)
    (AgreeOnInputs-sym (machine_run between) (source_run program) of_between) of_tight in
    let few = few_notes table choices in
    let loops = few_loops_in_all program first flow table lowered kept cut fits elements in
    let as_many = ap (λ (l : List Note). length l) made.notes in
    let counted = regions_bytes (region_forms forms) 0 table.regions in
    let short : length (flat_map row_text tight.rows) ≤ counted =
    within counted (length (flat_map row_text made.loose)) (length (flat_map row_text between.rows)) (length (flat_map row_text tight.rows))
    emitted.short recolored.short (no_longer tight.rows between.rows (tightened.room text_room)) in
    let reachable : EachIsReachable between.rows =
    recolored.reachable (λ i row there. emitted.reached i (slice_get_within made.loose i row there)) in
    let is : fitted tight ≡ object.code = sym made.code in
    let form = subst WellFormed is (fitted_form tight tightened.form) in
    let text_is_short : length (flat_map row_text object.code.rows) ≤ counted =
    subst (λ (code : RowCode). length (flat_map row_text code.rows) ≤ counted) is short in
    let arrays_are : object.code.arrays ≡ table.arrays = sym (ap (λ (code : RowCode). code.arrays) is) ∙ tightened.arrays ∙ recolored.arrays in
    let initial_is : object.code.initial ≡ initial = sym (ap (λ (code : RowCode). code.initial) is) ∙ tightened.initial ∙ recolored.initial in
    record {
      agree = subst (λ (code : RowCode). AgreeOnInputs (source_run program) (machine_run code)) is agree;
      is_object = record {
        code = form;
        choices = subst (AllByRecursion IsChoice) (sym made.notes) (known_notes table choices);
        few_notes = omega (arith, as_many, few, loops);
        few_bytes = object_is_short table initial (region_forms forms) choices object arrays_are initial_is made.notes text_is_short
            (chosen_is_short table keeps initial limits extent plain choices (region_forms forms) chosen);
      };
      limited = sym (ap (λ (code : RowCode). code.limits) is) ∙ tightened.limits ∙ recolored.limits;
      arrays = arrays_are ∙ same_arrays;
      initial = initial_is ∙ kept.same_initial ∙ lowered.initial;
      first = first;
      lowered = lowered;
      passed = passed;
      kept = kept;
      cut = cut;
      table_keeps = keeps;
      forms = forms;
      chosen = chosen;
      loose = made.loose;
      emitted = emitted;
      between = between;
      recolored = recolored;
      tight = tight;
      tightened = tightened;
      code = made.code;
      few = λ enough.
          let fit = few_for_fewer limits (length table.arrays) (length made.loose) made.loose (emitted.fit few_registers enough) in
          sym (ap (λ (code : RowCode). code.registers) is) ∙ few_stay_few tight tightened.form (tightened.registers ∙ recolored.registers ∙ fit);
      reached = subst (λ (code : RowCode). EachIsReachable code.rows) is (tightened.reachable reachable);
      compact = subst Compact is (fitted_compact tight (tightened.compact reachable));
      no_goto_alone = subst (λ (code : RowCode). HasNoGotoAlone code.rows) is tightened.no_goto_alone;
      short = text_is_short;
      pace = λ input words.
          subst (λ (code : RowCode). KeepsPaceOn table (region_forms forms) code input) is
          (tightened_codes_keep_pace table (region_forms forms) between tight tightened input (never_between input words)
          (recolored_codes_keep_pace table (region_forms forms) counted (fitted loose) between recolored input
          (emitted_rows_keep_pace e keeps limits most_registers initial made.loose refl emitted.are emitted.first_row each input)));
      notes = made.notes;
    }
  where
    -- where runs are equal at each number of cycles they agree
    as_before : (after before : RowCode) → ((input : List ℤ) (n : ℕ) → machine_run before input n ≡ machine_run after input n)
        → AgreeOnInputs (machine_run after) (machine_run before)
    as_before after before same = λ input words. Agree-equal (machine_run after input) (machine_run before input) (λ n. sym (same input n))

    within : (counted emitted between tight : ℕ) → emitted ≤ counted → between ≤ max counted emitted → tight ≤ between → tight ≤ counted
    within counted emitted between tight few less shorter = omega (arith, few, less, shorter)

-- ---- the code whose registers are chosen anew

-- a code of these parts, on the most registers
abbrev code_of_parts : Limits → List ℕ → List (List ℤ) → List CodeRow → RowCode
code_of_parts limits arrays initial rows = record { limits = limits; registers = most_registers; arrays = arrays; initial = initial; rows = rows }

-- over these arrays it is that of the rows that were emitted
is_loose : (limits : Limits) (table : Table) (words : List (List ℤ)) (arrays : List ℕ) (initial : List (List ℤ)) (rows : List CodeRow) → arrays ≡ table.arrays
    → initial ≡ words → code_of_parts limits arrays initial rows ≡ loose_code limits table words rows
is_loose limits table words arrays initial rows same begins =
    ap (λ (l : List ℕ). code_of_parts limits l initial rows) same ∙ ap (λ (d : List (List ℤ)). code_of_parts limits table.arrays d rows) begins

-- rows that were emitted may be tightened, on as many registers as they need
pub loose_is_well_formed : (table : Table) (words : List (List ℤ)) (forms : List (Option StoredForm)) (limits : Limits) (arrays : List ℕ) (initial : List (List ℤ))
    (rows : List CodeRow) → AreLimits limits → AreArrays table.arrays → AreData table.arrays words → arrays ≡ table.arrays → initial ≡ words
    → AreEnough most_registers (region_forms forms) → AreEmitted table forms limits rows
    → WellFormed (fitted (code_of_parts limits arrays initial rows))
loose_is_well_formed table words forms limits arrays initial rows fine sized fit same begins enough emitted =
    fitted_form (code_of_parts limits arrays initial rows) (subst (λ (code : RowCode). WellFormed code) (sym (is_loose limits table words arrays initial rows same begins)) (record {
      limits = fine;
      registers = inr refl;
      arrays = sized;
      initial = fit;
      entry = emitted.some;
      rows = emitted.fit most_registers enough;
    }))

-- what is left of the bytes that were counted for an object is counted for the rows of its regions
rows_are_counted : (table : Table) (words : List (List ℤ)) (forms : ℕ → Option RegionForm) (all most : ℕ) → all ≡ object_bytes table words forms
    → most + bytes_beside_rows table words ≡ all → most ≡ regions_bytes forms 0 table.regions
rows_are_counted table words forms all most counted left = omega (arith, counted, left)

-- a code that was recolored and tightened, with as many registers as it needs and these notes, is the object of a table in forms
-- that were chosen
pub made_object : (table : Table) (words : List (List ℤ)) (limits : Limits) (forms given : List (Option StoredForm)) (choices noted : List Choice)
    (arrays : List ℕ) (initial : List (List ℤ)) (rows : List CodeRow) (most all : ℕ) (before tight code : RowCode) (notes : List Note) → arrays ≡ table.arrays → initial ≡ words
    → notes ≡ notes_of table noted → noted ≡ choices → AreEmitted table given limits rows → given ≡ forms
    → all ≡ object_bytes table words (region_forms forms) → most + bytes_beside_rows table words ≡ all
    → before ≡ fitted (code_of_parts limits arrays initial rows) → IsRecoloredAndTightened most before tight → code ≡ fitted tight
    → IsObjectOf table words forms choices limits (record { code = code; notes = notes })
made_object table words limits forms given choices noted arrays initial rows most all before tight code notes same_arrays begins are same emitted same_forms
    counted left fits made is = record {
      loose = rows;
      emitted = subst (λ (l : List (Option StoredForm)). AreEmitted table l limits rows) same_forms emitted;
      between = made.between;
      recolored =
          subst (λ (n : ℕ). IsRecolored n (fitted (loose_code limits table words rows)) made.between) (rows_are_counted table words (region_forms forms) all most counted left)
          (subst (λ (code : RowCode). IsRecolored most code made.between) (fits ∙ ap fitted (is_loose limits table words arrays initial rows same_arrays begins)) made.recolored);
      tight = tight;
      tightened = made.tightened;
      code = is;
      notes = are ∙ ap (λ (l : List Choice). notes_of table l) same;
    }

-- the bytes beside the rows are among those that were counted
pub beside_within : (table : Table) (words : List (List ℤ)) (forms : ℕ → Option RegionForm) (all : ℕ) → all ≡ object_bytes table words forms
    → bytes_beside_rows table words ≤ all
beside_within table words forms all counted = omega (arith, counted)
