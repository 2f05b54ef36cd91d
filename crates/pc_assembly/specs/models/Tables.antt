-- Names of rows in memory, as plain data.
use Rattle.std.specs.Prelude.{ℕ, List, map}
use Rattle.std.specs.Borrow.{Bor}
use Rattle.std.specs.declared.hash.FoldHasher.{FoldHasher}
use Rattle.std.specs.declared.hash.BuildHasherDefault.{BuildHasherDefault}
use Rattle.indexmap.specs.IndexMap.{IndexMap}
use Rattle.pc_assembly.specs.Names.{Names}

-- a table of names in memory
abbrev pub NameTable : Type 0
NameTable = IndexMap (Bor (List ℕ)) ℕ (BuildHasherDefault FoldHasher)

-- the names in it
abbrev pub names_in : NameTable → Names
names_in table = map (λ entry. (entry.0.now, entry.1)) table.entries
