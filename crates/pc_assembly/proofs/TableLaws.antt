-- A table of names in memory, and the names that it stands for.
use Rattle.std.proofs.Common.{◌≡◌, ℕ, cond, List, [], ◌∷◌, ◌++◌, Option, None, Some, is_some, false, refl, ap, ◌∙◌}
use Rattle.std.specs.Prelude.{bytes_eq, map}
use Rattle.std.specs.Borrow.{Bor}
use Rattle.std.specs.Map.{lookup}
use Rattle.std.proofs.lemmas.List.{map-append}
use Rattle.indexmap.specs.IndexMap.{insert_entry}
use Rattle.indexmap.proofs.CallerLemmas.{insert_entry-new}
use Rattle.pc_assembly.specs.Names.{row_named, with_name}
use Rattle.pc_assembly.specs.models.Tables.{NameTable, names_in}

-- an entry of a table
abbrev Entry : Type 0
Entry = Bor (List ℕ) × ℕ

-- a name, with its row
abbrev name_in : Entry → List ℕ × ℕ
name_in entry = (entry.0.now, entry.1)

found_in : (entries : List Entry) (name : List ℕ) → lookup (λ key. bytes_eq name key.now) entries ≡ row_named (map name_in entries) name
found_in [] name = refl
found_in (entry ∷ entries) name = ap (λ found. cond (bytes_eq name entry.0.now) (Some entry.1) found) (found_in entries name)

-- what a table has for a name is the name's row
pub row_found : (table : NameTable) (name : List ℕ) → lookup (λ key. bytes_eq name key.now) table.entries ≡ row_named (names_in table) name
row_found table name = found_in table.entries name

-- a name that a table does not have goes last
pub names_with_new : (table : NameTable) (name : Bor (List ℕ)) (row : ℕ) → row_named (names_in table) name.now ≡ None
    → map name_in (insert_entry (λ key other. bytes_eq key.now other.now) table.entries name row) ≡ names_in table ++ (name.now, row) ∷ []
names_with_new table name row absent =
    ap (map name_in) (insert_entry-new (λ key other. bytes_eq key.now other.now) table name row (row_found table name.now ∙ absent))
    ∙ map-append name_in table.entries ((name, row) ∷ [])

none_of : (row : Option ℕ) → is_some row ≡ false → row ≡ None
none_of None h = refl
none_of (Some row) h = cc

-- and is then the last name
pub name_kept : (old new : NameTable) (name : Bor (List ℕ)) (row : ℕ) → is_some (row_named (names_in old) name.now) ≡ false
    → new.entries ≡ insert_entry (λ key other. bytes_eq key.now other.now) old.entries name row
    → names_in new ≡ with_name (names_in old) name.now row
name_kept old new name row absent inserted =
    ap (map name_in) inserted
    ∙ (names_with_new old name row (none_of (row_named (names_in old) name.now) absent) ∙ rw absent refl)
