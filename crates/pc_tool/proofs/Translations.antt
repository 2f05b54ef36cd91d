-- From a source's program to the object that translates the source.
use Rattle.std.proofs.Common.{◌≡◌, ℕ, ◌<◌, List, length, sym, ◌∙◌, ap, subst, get_or}
use Rattle.std.specs.Prelude.{Option}
use Rattle.std.proofs.lemmas.Option.{slice_get-get_or}
use Rattle.pc_word.specs.declared.item.Extent.{Extent}
use Rattle.pc_word.specs.declared.item.Limits.{Limits}
use Rattle.pc_word.specs.Row.{At_leaf}
use Rattle.pc_syntax.specs.Source.{ResolvedProgram}
use Rattle.pc_check.specs.Sizes.{resolved_size}
use Rattle.pc_flow.specs.FlowGraph.{FlowGraph}
use Rattle.pc_table.specs.Table.{Table}
use Rattle.pc_table.specs.StoredTable.{table_of}
use Rattle.pc_compile.specs.declared.choice.Choice.{Choice}
use Rattle.pc_compile.specs.declared.error.CompileError.TheVariants.{Memory}
use Rattle.pc_compile.specs.Compiled.{IsCompiled, IsUncompiled}
use Rattle.pc_machine.specs.declared.tree.Leaf.TheVariants.{Stop}
use Rattle.pc_machine.specs.MachineCode.{CodeRow}
use Rattle.pc_machine.specs.MachineRun.{machine_run}
use Rattle.pc_machine.specs.Reachable.{IsReachable}
use Rattle.pc_tighten.specs.Tightened.{EachIsReachable}
use Rattle.pc_object.specs.Numbers.{HasWords}
use Rattle.pc_object.specs.ObjectText.{CodeWithNotes, object_of, object_text}
use Rattle.pc_outside.specs.Shelf.{Files}
use Rattle.pc_command.specs.Requests.{CompileRequest}
use Rattle.pc_source.specs.Reading.{IsChecked}
use Rattle.pc_source.proofs.CheckedTexts.{agrees, is_source, sized}
use Rattle.pc_tool.specs.declared.translation.Translation.{Translation}
use Rattle.pc_tool.specs.Compilation.{Translates}
use Rattle.pc_tool.specs.models.Translating.{HasProgram, IsTranslation, HasTranslation}

-- rows that are all reachable are so by their numbers
reachable : (rows : List CodeRow) → EachIsReachable rows → (row : ℕ) → row < length rows → IsReachable rows row
reachable rows each row less = each row (get_or rows row (At_leaf Stop)) (slice_get-get_or rows row (At_leaf Stop) less)

-- the object of a text's program translates the text
translates : (Passed : FlowGraph → FlowGraph → Type 0) (limits : Limits) (extent : Extent) (text : List ℕ) (checked : ResolvedProgram) (flow : FlowGraph) (table : Table) (choices : List Choice)
    (object : CodeWithNotes) (h : IsChecked text checked)
    → IsCompiled checked Passed limits extent flow table choices object → HasWords object → Translates limits text h.unit object
translates Passed limits extent text checked flow table choices object h compiled words = record {
  source = is_source text checked h compiled.lowered.few;
  loads = record { is_object = compiled.is_object; has_words = words };
  limited = compiled.limited;
  arrays = compiled.arrays ∙ ap (λ (program : ResolvedProgram). program.arrays) (sym h.is_resolved);
  initial = compiled.initial ∙ ap (λ (program : ResolvedProgram). program.initial) (sym h.is_resolved);
  reached = reachable object.code.rows compiled.reached;
  compact = compiled.compact;
  same = agrees text checked h (machine_run object.code) compiled.agree;
}

-- what was compiled of a source's program is a translation of the source
pub translation_of : (Passed : FlowGraph → FlowGraph → Type 0) (held : Option Files) (request : CompileRequest) (checked : ResolvedProgram) (it : Translation)
    → HasProgram held request.source checked → IsTranslation Passed request.limits request.extent checked it → HasTranslation Passed held request it
translation_of Passed held request checked it of made =
    let object = it.compiled in
    let h = of.is in
    record {
      text = of.text;
      in_source = of.in_source;
      unit = h.unit;
      translates = translates Passed request.limits request.extent of.text checked object.flow (table_of object.table) object.choices (object_of object.object) h made.compiled made.words;
      compiled = subst (λ (program : ResolvedProgram). IsCompiled program Passed request.limits request.extent object.flow (table_of object.table) object.choices (object_of object.object))
          (sym h.is_resolved) made.compiled;
      nodes = made.compiled.kept.as_many ∙ made.compiled.lowered.counted ∙ sized of.text checked h;
      bytes = made.bytes;
    }

-- ---- what was compiled of a program

module _ (Passed : FlowGraph → FlowGraph → Type 0) (limits : Limits) (extent : Extent) (checked : ResolvedProgram) where
  -- with the bytes of its object
  pub is_translation : (it : Translation)
      → IsCompiled checked Passed limits extent it.compiled.flow (table_of it.compiled.table) it.compiled.choices (object_of it.compiled.object)
      → HasWords (object_of it.compiled.object) → it.bytes.items ≡ object_text (object_of it.compiled.object) → IsTranslation Passed limits extent checked it
  is_translation it compiled words bytes = record { compiled = compiled; words = words; bytes = bytes }

  -- the program is not too large, so that memory may have run out behind it
  pub only_lacks : (flow : FlowGraph) (table : Table) (choices : List Choice) (object : CodeWithNotes)
      → IsCompiled checked Passed limits extent flow table choices object → IsUncompiled (resolved_size checked) Memory
  only_lacks flow table choices object compiled = compiled.lowered.few

pub ruleset translations = (is_translation, only_lacks)
