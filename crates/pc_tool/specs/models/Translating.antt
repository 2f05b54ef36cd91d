-- The way from a source to its object, as the private calls see it.
use Rattle.std.specs.Prelude.{◌≡◌, ℕ, List, Option, length}
use Rattle.pc_word.specs.declared.item.Extent.{Extent}
use Rattle.pc_word.specs.declared.item.Limits.{Limits}
use Rattle.pc_syntax.specs.Source.{ResolvedProgram}
use Rattle.pc_syntax.specs.Unit.{TranslationUnit}
use Rattle.pc_calls.specs.Inlining.{inlined_unit}
use Rattle.pc_check.specs.Resolution.{resolved}
use Rattle.pc_check.specs.Sizes.{size}
use Rattle.pc_flow.specs.FlowGraph.{FlowGraph}
use Rattle.pc_table.specs.StoredTable.{table_of}
use Rattle.pc_object.specs.Numbers.{HasWords}
use Rattle.pc_object.specs.ObjectText.{object_of, object_text}
use Rattle.pc_outside.specs.Shelf.{Files}
use Rattle.pc_command.specs.Requests.{CompileRequest, SourcePlace}
use Rattle.pc_compile.specs.Compiled.{IsCompiled}
use Rattle.pc_source.specs.Files.{HasSource}
use Rattle.pc_source.specs.Reading.{IsChecked}
use Rattle.pc_tool.specs.Compilation.{Translates}
use Rattle.pc_tool.specs.declared.translation.Translation.{Translation}

-- the source has a text that is read as this program
pub record HasProgram (held : Option Files) (source : SourcePlace) (checked : ResolvedProgram) : Type 0 where
  pub text : List ℕ
  pub in_source : HasSource held source text
  pub is : IsChecked text checked

-- what was compiled of a program, with the bytes of its object
pub record IsTranslation (Passed : FlowGraph → FlowGraph → Type 0) (limits : Limits) (extent : Extent) (checked : ResolvedProgram) (it : Translation) : Type 0 where
  pub compiled : IsCompiled checked Passed limits extent it.compiled.flow (table_of it.compiled.table) it.compiled.choices (object_of it.compiled.object)
  pub words : HasWords (object_of it.compiled.object)
  pub bytes : it.bytes.items ≡ object_text (object_of it.compiled.object)

-- The source that is asked for has the text of a unit, of which this was compiled: its object translates the text, its graph has the
-- program's size, and the bytes are the object's text.
pub record HasTranslation (Passed : FlowGraph → FlowGraph → Type 0) (held : Option Files) (request : CompileRequest) (it : Translation) : Type 0 where
  pub text : List ℕ
  pub in_source : HasSource held request.source text
  pub unit : TranslationUnit
  pub translates : Translates request.limits text unit (object_of it.compiled.object)
  pub compiled : IsCompiled (resolved (inlined_unit unit)) Passed request.limits request.extent it.compiled.flow (table_of it.compiled.table) it.compiled.choices
      (object_of it.compiled.object)
  pub nodes : length it.compiled.flow.nodes ≡ size (inlined_unit unit)
  pub bytes : it.bytes.items ≡ object_text (object_of it.compiled.object)
