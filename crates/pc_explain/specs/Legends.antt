-- What the parts of a flow graph are in the source that it comes from.
use Rattle.std.specs.Prelude.{ℕ, List, ◌++◌, codes, slice_get, unwrap_or}
use Rattle.std.specs.Fmt.{decimal}
use Rattle.pc_names.specs.Spellings.{ProgramNames, names_in}
use Rattle.pc_explain.specs.declared.legend.Legend.{Legend}

-- the line of each node of the flow graph, and the names of the scalars and arrays
pub record SourceLegend : Type 0 where
  pub lines : List ℕ
  pub names : ProgramNames

-- a legend in memory
abbrev pub legend_in : Legend → SourceLegend
legend_in it = record { lines = it.lines; names = names_in it.names }

-- an array by its name, or by its number where it has none
abbrev pub array_words : SourceLegend → ℕ → List ℕ
array_words legend array = unwrap_or (slice_get legend.names.arrays array) (codes "a" ++ decimal array)

-- a variable of the flow graph by its name, where it is a scalar of the source, or by its number
abbrev pub variable_words : SourceLegend → ℕ → List ℕ
variable_words legend variable = unwrap_or (slice_get legend.names.scalars variable) (codes "v" ++ decimal variable)
