-- Sizes as the code has them, whose numbers stop at the greatest that it has.
use Rattle.std.specs.Prelude.{◌≡◌, ℕ, min, Option, Some, None, if◌then◌else◌, option_map, List, map, reverse, length, slice_get}
use Rattle.std.specs.Option.{option_and_then}
use Rattle.pc_syntax.specs.declared.unit.Function.{Function}
use Rattle.pc_syntax.specs.UnitErasure.{function_of}
use Rattle.pc_syntax.specs.declared.unit.Target.{Target}
use Rattle.pc_calls.specs.Measures as of
use Rattle.pc_calls.specs.Counted as counted
use Rattle.pc_inline.specs.declared.size.Extent.{Extent}
use Rattle.pc_inline.specs.declared.size.Size.{Size}
use Rattle.pc_inline.specs.declared.counting.FunctionSize.{FunctionSize}
use Rattle.pc_inline.specs.models.Finding.{place_among}

-- these are the numbers of statements
abbrev pub IsSize : Size → of.Size → Type 0
IsSize told s = (told.count ≡ min s.count 4294967295) × (told.nodes ≡ min s.nodes 4294967295) × (told.height ≡ min s.height 4294967295)

-- the numbers of expressions and of statements, as they are told
abbrev pub extent_seen : Extent → of.Extent
extent_seen told = record { nodes = told.nodes; high = told.high }

abbrev pub size_seen : Size → of.Size
size_seen told = record { count = told.count; nodes = told.nodes; height = told.height }

-- what is told of a function
abbrev pub function_seen : FunctionSize → counted.FunctionSize
function_seen told = record { parameters = told.parameters; items = size_seen told.items; result = option_map extent_seen told.result }

-- what a table tells of the function of a name
abbrev pub told_of : List Function → List FunctionSize → ℕ → Option FunctionSize
told_of functions sizes symbol = option_and_then (slice_get sizes) (place_among (reverse (map function_of functions)) symbol)

abbrev pub seen : List Function → List FunctionSize → ℕ → Option counted.FunctionSize
seen functions sizes symbol = option_map function_seen (told_of functions sizes symbol)

-- a call's block, and the declaration of its target, where the call declares it
abbrev pub counted_target : Option Target → of.Size → of.Size
counted_target None block = block
counted_target (Some target) block = if target.declared then of.together (of.around of.no_extent of.no_size) block else block

-- sizes that are the same up to the greatest number
abbrev pub Alike : of.Size → of.Size → Type 0
Alike a b = (min a.count 4294967295 ≡ min b.count 4294967295) × (min a.nodes 4294967295 ≡ min b.nodes 4294967295) × (min a.height 4294967295 ≡ min b.height 4294967295)

-- the same of expressions that may be left out
abbrev pub AlikeExtents : Option of.Extent → Option of.Extent → Type 0
AlikeExtents None None = Unit {0}
AlikeExtents (Some e) (Some f) = (min e.nodes 4294967295 ≡ min f.nodes 4294967295) × (min e.high 4294967295 ≡ min f.high 4294967295)
AlikeExtents _ _ = ⊥

-- the same of what is known of a function
abbrev pub Like : Option counted.FunctionSize → Option counted.FunctionSize → Type 0
Like None None = Unit {0}
Like (Some f) (Some g) = (f.parameters ≡ g.parameters) × Alike f.items g.items × AlikeExtents f.result g.result
Like _ _ = ⊥

-- a table tells what is counted of functions
pub record AreSizes (functions : List Function) (sizes : List FunctionSize) : Type 0 where
  pub many : length sizes ≡ length functions
  pub like : (symbol : ℕ) → Like (seen functions sizes symbol) (counted.function_sizes (reverse (map function_of functions)) symbol)
