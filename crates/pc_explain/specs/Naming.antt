-- How the names of a state are written.
use Rattle.std.specs.Prelude.{ℕ, List, ◌++◌, codes, Option, Some, None, slice_get}
use Rattle.std.specs.Fmt.{decimal}
use Rattle.std.specs.Option.{option_and_then}
use Rattle.pc_variables.specs.declared.holding.Holding.{Holding}
use Rattle.pc_variables.specs.Holdings.{scalar_of}
use Rattle.pc_explain.specs.declared.naming.StateNaming.{StateNaming}
use Rattle.pc_explain.specs.Legends.{SourceLegend, legend_in}

-- the legend of the source, and which names of the state hold which scalars
pub record Naming : Type 0 where
  pub legend : SourceLegend
  pub holdings : List Holding

-- a naming in memory
abbrev pub naming_in : StateNaming → Naming
naming_in it = record { legend = legend_in it.legend.now; holdings = it.holdings.now }

-- how the source calls the scalar that a name holds, if it holds one
abbrev pub scalar_named : Naming → ℕ → Option (List ℕ)
scalar_named naming name = option_and_then (slice_get naming.legend.names.scalars) (scalar_of naming.holdings name)

-- a name by its number: after the name of the scalar that it holds and a point, as `sum.7`, or after an `n`, as `n7`
abbrev pub numbered : Option (List ℕ) → ℕ → List ℕ
numbered (Some scalar) name = scalar ++ (codes "." ++ decimal name)
numbered None name = codes "n" ++ decimal name

-- a name of a state
unfoldable pub name_words : Naming → ℕ → List ℕ
name_words naming name = numbered (scalar_named naming name) name
