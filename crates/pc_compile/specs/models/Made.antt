-- The object that is made of a region table in forms that were chosen.
use Rattle.std.specs.Prelude.{◌≡◌, ℤ, List, Option}
use Rattle.pc_word.specs.declared.item.Limits.{Limits}
use Rattle.pc_table.specs.Table.{Table}
use Rattle.pc_machine.specs.MachineCode.{CodeRow, RowCode}
use Rattle.pc_object.specs.ObjectText.{CodeWithNotes}
use Rattle.pc_emit.specs.declared.form.RegionForm.{RegionForm}
use Rattle.pc_emit.specs.Bytes.{regions_bytes}
use Rattle.pc_emit.specs.Emitting.{region_forms, AreEmitted}
use Rattle.pc_recolor.specs.Recolored.{IsRecolored}
use Rattle.pc_tighten.specs.Tightened.{IsTightened}
use Rattle.pc_compile.specs.declared.choice.Choice.{Choice}
use Rattle.pc_compile.specs.Registers.{loose_code, fitted}
use Rattle.pc_compile.specs.Notes.{notes_of}

-- The object is made of the rows of the table's regions in their forms, on as many registers as they need: registers are chosen
-- anew over them, within the bytes that were counted for them, and they are tightened. It has as many registers as they need then,
-- and the notes of the choices.
pub record IsObjectOf (table : Table) (initial : List (List ℤ)) (forms : List (Option RegionForm)) (choices : List Choice) (limits : Limits) (object : CodeWithNotes)
    : Type 0 where
  pub loose : List CodeRow
  pub emitted : AreEmitted table forms limits loose
  pub between : RowCode
  pub recolored : IsRecolored (regions_bytes (region_forms forms) 0 table.regions) (fitted (loose_code limits table initial loose)) between
  pub tight : RowCode
  pub tightened : IsTightened between tight
  pub code : object.code ≡ fitted tight
  pub notes : object.notes ≡ notes_of table choices
