-- Facts as they are stored.
use Rattle.std.specs.Prelude.{List, map, Option, Some, None}
use Rattle.pc_certified.specs.Facts.{Fact}
use Rattle.pc_matching.specs.declared.fact.Fact as stored

-- the fact that a stored one is
abbrev pub fact_of : stored.Fact → Fact
fact_of fact = record { source = fact.source; operand = fact.operand }

-- the facts of a list
abbrev pub facts_of : List stored.Fact → List Fact
facts_of facts = map fact_of facts

-- the facts of each list
abbrev pub helds_of : List (List stored.Fact) → List (List Fact)
helds_of helds = map facts_of helds

-- the facts of each list, if there are lists
abbrev pub found_of : Option (List (List stored.Fact)) → Option (List (List Fact))
found_of None = None
found_of (Some helds) = Some (helds_of helds)
