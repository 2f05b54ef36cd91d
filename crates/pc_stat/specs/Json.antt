-- What a run cost, as JSON: one object, whose numbers are whole. In the text the members of an object stand in the order of their names.
--
--   cycles             how many cycles the run took
--   end                how it ended, an object: `kind` is "stop", "budget" (it took all the cycles that it might), "trap" (then `trap` has
--                      the kind of the trap and `line` the line of the source), or "fault" (then `fault` has the fault of the machine)
--   items              how many items the cycles did
--   tests              how many tests they passed
--   loads_and_stores   how many of the items were loads and stores
--   prints, reads      how many were prints, and reads
--   copy_cycles        how many cycles did nothing but copies
--   limits             how many `items`, `tests` and `loads_and_stores` a row may have
--   rows               for each row of the code, in order, an object: `cycles`, how many cycles began in it, and `leaves`, how many left it
--                      by each of its leaves, in preorder
use Rattle.std.specs.Prelude.{ℕ, suc, List, [], ◌∷◌, ◌++◌, codes, map, Option, Some, None, slice_index_or}
use Rattle.pc_word.specs.declared.item.End.{End}
use Rattle.pc_word.specs.declared.item.End.TheVariants.{Ended, Trapped, Fault}
use Rattle.pc_word.specs.declared.item.MachineFault.{MachineFault}
use Rattle.pc_word.specs.declared.item.TrapKind.{TrapKind}
use Rattle.pc_machine.specs.MachineCode.{RowCode}
use Rattle.pc_report.specs.FaultLine.{machine_fault_text, trap_text}
use Rattle.pc_count.specs.Counts.{RunProfile}
use Rattle.pc_count.specs.Work.{copy_cycles, work_of}
use Rattle.pc_count.specs.declared.work.Work.{Work}
use Rattle.serde_json.specs.Data.{Data}
use Rattle.pc_json.specs.Json.{Field, count_field, field, json_line, limits_json, list_of, object_of, text_field, whole}

-- ---- the end

-- a trap, with the line of the source
abbrev pub trap_json : TrapKind → ℕ → Data
trap_json kind line =
    object_of (text_field (codes "kind") (codes "trap") ∷ text_field (codes "trap") (trap_text kind) ∷ count_field (codes "line") line ∷ [])

-- a fault of the machine
abbrev pub fault_json : MachineFault → Data
fault_json fault = object_of (text_field (codes "kind") (codes "fault") ∷ text_field (codes "fault") (machine_fault_text fault) ∷ [])

-- how a run ended
abbrev pub last_json : End → Data
last_json Ended = object_of (text_field (codes "kind") (codes "stop") ∷ [])
last_json (Trapped kind line) = trap_json kind line
last_json (Fault fault) = fault_json fault

-- that, or that it took all the cycles that it might
abbrev pub end_json : Option End → Data
end_json (Some end) = last_json end
end_json None = object_of (text_field (codes "kind") (codes "budget") ∷ [])

-- ---- rows

-- counts, in their order
abbrev pub counts_json : List ℕ → Data
counts_json counts = list_of (map whole counts)

-- a row: how many cycles began in it, and how many left it by each of its leaves
abbrev pub row_json : ℕ → List ℕ → Data
row_json cycles leaves = object_of (count_field (codes "cycles") cycles ∷ field (codes "leaves") (counts_json leaves) ∷ [])

-- rows, of which the first has this place in the code, by the counts of the leaves of all
abbrev pub rows_from : List (List ℕ) → ℕ → List ℕ → List Data
rows_from leaves place [] = []
rows_from leaves place (cycles ∷ rest) = row_json cycles (slice_index_or leaves place []) ∷ rows_from leaves (suc place) rest

-- the rows, in their order
abbrev pub rows_json : List ℕ → List (List ℕ) → Data
rows_json rows leaves = list_of (rows_from leaves 0 rows)

-- ---- the run

-- what the cycles did
abbrev pub work_fields : Work → List Field
work_fields work =
    count_field (codes "items") work.items
    ∷ count_field (codes "tests") work.tests
    ∷ count_field (codes "loads_and_stores") work.memory
    ∷ count_field (codes "prints") work.prints
    ∷ count_field (codes "reads") work.reads
    ∷ []

-- what a run of a code cost
abbrev pub run_fields : RowCode → RunProfile → List Field
run_fields code profile =
    count_field (codes "cycles") profile.cycles
    ∷ field (codes "end") (end_json profile.end)
    ∷ (work_fields (work_of code.rows profile.leaves)
    ++ (count_field (codes "copy_cycles") (copy_cycles code.rows profile.rows)
    ∷ field (codes "limits") (limits_json code.limits)
    ∷ field (codes "rows") (rows_json profile.rows profile.leaves)
    ∷ []))

abbrev pub json_of : RowCode → RunProfile → Data
json_of code profile = object_of (run_fields code profile)

-- its text, on a line
abbrev pub json_text : RowCode → RunProfile → List ℕ
json_text code profile = json_line (json_of code profile)
