-- Facts on the names of a window, as they lie in memory.
use Rattle.std.specs.Prelude.{List, Option, Some, None}
use Rattle.pc_certified.specs.Facts.{Fact}
use Rattle.pc_matching.specs.declared.fact.Fact as stored
use Rattle.pc_matching.specs.Facts.{facts_of}

-- the facts of a list, if there is one
abbrev pub some_facts_of : Option (List stored.Fact) → Option (List Fact)
some_facts_of None = None
some_facts_of (Some facts) = Some (facts_of facts)
