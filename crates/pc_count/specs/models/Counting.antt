-- What the code does to its counters.
use Rattle.std.specs.Prelude.{ℕ, suc, Bool, false, if◌then◌else◌, List, [], Option, Some, None, slice_index_or, slice_set}
use Rattle.pc_word.specs.declared.item.End.{End}
use Rattle.pc_count.specs.Passages.{is_fault}

-- one more in an element of a list
abbrev pub one_more : ℕ → List ℕ → List ℕ
one_more at counts = slice_set counts at (suc (slice_index_or counts at 0))

-- one more at a leaf of a row, unless the cycle faulted
abbrev pub with_leaf : Bool → ℕ → ℕ → List (List ℕ) → List (List ℕ)
with_leaf faulted row leaf leaves = if faulted then leaves else slice_set leaves row (one_more leaf (slice_index_or leaves row []))

-- whether the end, if there is one, is a fault
abbrev pub has_faulted : Option End → Bool
has_faulted None = false
has_faulted (Some end) = is_fault end
