-- What a run cost has whole numbers alone.
use Rattle.std.proofs.Common.{◌≡◌, refl, ℕ, suc, false, List, [], ◌∷◌, map, Option, Some, None}
use Rattle.std.specs.Prelude.{codes, slice_index_or}
use Rattle.pc_word.specs.declared.item.End.{End}
use Rattle.pc_word.specs.declared.item.End.TheVariants.{Ended, Trapped, Fault}
use Rattle.pc_machine.specs.MachineCode.{RowCode}
use Rattle.pc_report.specs.FaultLine.{machine_fault_text, trap_text}
use Rattle.pc_count.specs.Counts.{RunProfile}
use Rattle.serde_json.specs.View.{items_of}
use Rattle.serde_json.specs.Written.{has_float, items_have_float}
use Rattle.pc_json.specs.Json.{count_field, field, text_field, whole}
use Rattle.pc_json.proofs.Whole.{limits-whole, neither, object-whole}
use Rattle.pc_stat.specs.Json.{counts_json, end_json, json_of, row_json, rows_from, run_fields}

-- ---- the parts

counts-whole : (counts : List ℕ) → items_have_float (items_of (map whole counts)) ≡ false
counts-whole [] = refl
counts-whole (n ∷ counts) = counts-whole counts

row-whole : (cycles : ℕ) (leaves : List ℕ) → has_float (row_json cycles leaves) ≡ false
row-whole cycles leaves =
    object-whole (count_field (codes "cycles") cycles ∷ field (codes "leaves") (counts_json leaves) ∷ [])
    (refl, (counts-whole leaves, tt))

rows-whole : (leaves : List (List ℕ)) (place : ℕ) (rows : List ℕ) → items_have_float (items_of (rows_from leaves place rows)) ≡ false
rows-whole leaves place [] = refl
rows-whole leaves place (cycles ∷ rest) =
    neither (has_float (row_json cycles (slice_index_or leaves place []))) (items_have_float (items_of (rows_from leaves (suc place) rest)))
    (row-whole cycles (slice_index_or leaves place [])) (rows-whole leaves (suc place) rest)

end-whole : (end : Option End) → has_float (end_json end) ≡ false
end-whole (Some Ended) = object-whole (text_field (codes "kind") (codes "stop") ∷ []) (refl, tt)
end-whole (Some (Trapped kind line)) =
    object-whole
    (text_field (codes "kind") (codes "trap") ∷ text_field (codes "trap") (trap_text kind) ∷ count_field (codes "line") line ∷ [])
    (refl, (refl, (refl, tt)))
end-whole (Some (Fault fault)) =
    object-whole (text_field (codes "kind") (codes "fault") ∷ text_field (codes "fault") (machine_fault_text fault) ∷ []) (refl, (refl, tt))
end-whole None = object-whole (text_field (codes "kind") (codes "budget") ∷ []) (refl, tt)

-- ---- the run

pub run-whole : (code : RowCode) (profile : RunProfile) → has_float (json_of code profile) ≡ false
run-whole code profile =
    object-whole (run_fields code profile) (refl, (end-whole profile.end, (refl, (refl, (refl, (refl, (refl, (refl, (limits-whole code.limits, (rows-whole profile.leaves 0 profile.rows, tt))))))))))
