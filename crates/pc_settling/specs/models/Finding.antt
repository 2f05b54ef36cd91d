-- Facts that are found one after the other.
use Rattle.std.specs.Prelude.{List, ◌++◌, Option, Some, None}
use Rattle.pc_certified.specs.Facts.{Fact}

-- facts behind others, if there are any
abbrev pub behind : List Fact → Option (List Fact) → Option (List Fact)
behind found None = None
behind found (Some facts) = Some (found ++ facts)
