use Rattle.std.proofs.Common.{◌≤◌, List, ℤ, None, sym, ◌∙◌, subst}
use Rattle.pc_check.specs.Checks.{resolved_of}
use Rattle.pc_object.specs.ObjectText.{object_of}
use Rattle.pc_machine.specs.WellFormed.{AreArrays}
use Rattle.pc_table.specs.StoredTable.{table_of}
use Rattle.pc_emit.specs.Emitting.{region_forms}
use Rattle.pc_emit.specs.Bytes.{object_bytes}
use Rattle.pc_word.specs.Data.{AreData}
use Rattle.pc_word.specs.MachineLimits.{most_object}
use Rattle.pc_compile.specs.Choosing.{AreChosen}
use Rattle.pc_compile.specs.models.Made.{IsObjectOf}
use Rattle.pc_compile.proofs.Emittable.{are_forms}
use Rattle.pc_compile.proofs.CostBounds.{most_are_enough}
use Rattle.pc_compile.proofs.Compilations.{are_arrays, all_plain_is_short, is_compiled}
use Rattle.pc_compile.proofs.program.compile.Goals as goal

pub choose-requires-clause-small : goal.choose-requires-clause-small
choose-requires-clause-small g c =
    subst (λ (words : List (List ℤ)). object_bytes (table_of c.in_ok-table.table) words (λ region. None) ≤ most_object) (sym c.initial-initial.ensures)
    (all_plain_is_short (resolved_of c.args.checked.now) c.in_ok-flow.flow c.run_list.new.flow (table_of c.in_ok-table.table)
    c.in_ok-flow.ensures.lowered c.run_list.ensures.keeps c.in_ok-table.ensures.cut c.args.checked.now.data_fits c.args.checked.now.few_elements c.in_ok-table.ensures.kept)

pub object_of-requires-clause-arrays : goal.object_of-requires-clause-arrays
object_of-requires-clause-arrays g c =
    let checked = c.args.checked.now in
    subst AreArrays
    (sym (c.in_ok-table.ensures.cut.arrays ∙ c.run_list.ensures.keeps.same_arrays ∙ c.in_ok-flow.ensures.lowered.arrays))
    (are_arrays checked.arrays checked.few_arrays checked.sized checked.few_elements)

pub object_of-requires-clause-forms : goal.object_of-requires-clause-forms
object_of-requires-clause-forms g c =
    are_forms (table_of c.in_ok-table.table) c.in_ok-table.ensures.kept c.initial-initial.result.now c.args.limits c.args.extent
    (subst (λ (words : List (List ℤ)). object_bytes (table_of c.in_ok-table.table) words (λ region. None) ≤ most_object) (sym c.initial-initial.ensures)
    (all_plain_is_short (resolved_of c.args.checked.now) c.in_ok-flow.flow c.run_list.new.flow (table_of c.in_ok-table.table)
    c.in_ok-flow.ensures.lowered c.run_list.ensures.keeps c.in_ok-table.ensures.cut c.args.checked.now.data_fits c.args.checked.now.few_elements c.in_ok-table.ensures.kept))
    c.in_ok-chosen.chosen.choices (region_forms c.in_ok-chosen.chosen.forms) c.in_ok-chosen.ensures.chosen

pub object_of-requires-clause-fit : goal.object_of-requires-clause-fit
object_of-requires-clause-fit g c =
    let checked = c.args.checked.now in
    let keeps = c.run_list.ensures.keeps in
    let lowered = c.in_ok-flow.ensures.lowered in
    subst (λ arrays. AreData arrays c.initial-initial.result.now) (sym (c.in_ok-table.ensures.cut.arrays ∙ keeps.same_arrays ∙ lowered.arrays))
    (subst (λ words. AreData checked.arrays words) (sym (c.initial-initial.ensures ∙ keeps.same_initial ∙ lowered.initial)) checked.data_fits)

pub object_of-requires-clause-enough : goal.object_of-requires-clause-enough
object_of-requires-clause-enough g c =
    most_are_enough (table_of c.in_ok-table.table) c.in_ok-table.ensures.kept c.initial-initial.result.now c.args.limits c.args.extent
    c.in_ok-chosen.chosen.choices (region_forms c.in_ok-chosen.chosen.forms) c.in_ok-chosen.ensures.chosen

pub returns-clause-compiled : goal.returns-clause-compiled
returns-clause-compiled g c =
    is_compiled (resolved_of c.args.checked.now) _ c.args.limits c.args.extent c.in_ok-flow.flow c.run_list.new.flow (table_of c.in_ok-table.table)
    c.in_ok-chosen.chosen.forms c.in_ok-chosen.chosen.choices (object_of c.in_ok-object.object) c.requires.limits c.args.checked.now.data_fits c.args.checked.now.few_elements
    c.in_ok-flow.ensures.lowered c.in_ok-run_list.ensures.chain c.run_list.ensures.keeps c.in_ok-table.ensures.cut
    c.in_ok-table.ensures.kept c.in_ok-table.ensures.agree
    (subst (λ (words : List (List ℤ)). AreChosen (table_of c.in_ok-table.table) words c.args.limits c.args.extent c.in_ok-chosen.chosen.choices
    (region_forms c.in_ok-chosen.chosen.forms)) c.initial-initial.ensures c.in_ok-chosen.ensures.chosen)
    (subst (λ (words : List (List ℤ)). IsObjectOf (table_of c.in_ok-table.table) words c.in_ok-chosen.chosen.forms c.in_ok-chosen.chosen.choices c.args.limits
    (object_of c.in_ok-object.object)) c.initial-initial.ensures c.in_ok-object.ensures.object)
