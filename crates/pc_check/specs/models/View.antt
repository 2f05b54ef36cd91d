-- The scopes of the check, as the names that they declare.
use Rattle.std.specs.Prelude.{ℕ, List, [], ◌∷◌, map, reverse}
use Rattle.std.specs.declared.hash.FoldHasher.{FoldHasher}
use Rattle.std.specs.declared.hash.BuildHasherDefault.{BuildHasherDefault}
use Rattle.indexmap.specs.IndexMap.{IndexMap}
use Rattle.pc_check.specs.declared.slot.Slot.{Slot}
use Rattle.pc_check.specs.declared.scopes.Scopes.{Scopes}
use Rattle.pc_check.specs.Names.{Scope, Names}

-- the table of a scope
abbrev pub Table : Type 0
Table = IndexMap ℕ Slot (BuildHasherDefault FoldHasher)

-- what a table declares
abbrev pub scope_of : Table → Scope
scope_of table = table.entries

-- the scopes from the innermost outwards, whose tables stand from the outermost inwards
abbrev pub scopes_of : List Table → List Scope
scopes_of tables = reverse (map scope_of tables)

-- the names that the scopes declare
abbrev pub names_of : Scopes → Names
names_of scopes = record {
  innermost = scope_of scopes.innermost;
  outer = scopes_of scopes.outer.items;
  scalars = scopes.scalars;
  lengths = scopes.lengths;
  initial = scopes.initial;
}

-- the names among these scopes
abbrev pub among : List Scope → Names → Names
among [] names = names
among (scope ∷ others) names = record names { innermost = scope; outer = others }

-- the names once the innermost scope is left
abbrev pub outwards : Names → Names
outwards names = among names.outer names
