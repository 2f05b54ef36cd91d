-- Scopes in memory, and the scopes that they stand for.
use Rattle.std.proofs.Common.{◌≡◌, ap, ◌∙◌, sym, refl, ℕ, ◌+◌, ◌<◌, List, [], ◌∷◌, ◌++◌, map, reverse, length, take, get_or, false, Option, Some, None, is_some, nat_eq}
use Rattle.std.proofs.lemmas.List.{take_more, map-append, reverse-append}
use Rattle.indexmap.specs.IndexMap.{insert_entry}
use Rattle.indexmap.proofs.CallerLemmas.{insert_entry-new}
use Rattle.pc_check.specs.declared.slot.Slot.{Slot}
use Rattle.pc_check.specs.Names.{Scope, declared_in}
use Rattle.pc_check.specs.models.View.{Table, scope_of, scopes_of}

-- the table that was opened last is the innermost scope
pub scopes_of-push : (tables : List Table) (table : Table) → scopes_of (tables ++ table ∷ []) ≡ scope_of table ∷ scopes_of tables
scopes_of-push tables table =
    ap (λ (scopes : List Scope). reverse scopes) (map-append scope_of tables (table ∷ []))
    ∙ reverse-append (map scope_of tables) (scope_of table ∷ [])

-- one more table in front of a place is one more scope, inside the others
pub scopes_of-more : (tables : List Table) (i : ℕ) (table : Table) → i < length tables → table ≡ get_or tables i table →
    scopes_of (take (i + 1) tables) ≡ scope_of table ∷ scopes_of (take i tables)
scopes_of-more tables i table below read =
    ap scopes_of (take_more tables i table below) ∙ ap (λ (x : Table). scopes_of (take i tables ++ x ∷ [])) (sym read)
    ∙ scopes_of-push (take i tables) table

-- a name that a table does not have goes last
pub entries_with_new : (table : Table) (symbol : ℕ) (slot : Slot) → is_some (declared_in (scope_of table) symbol) ≡ false →
    insert_entry nat_eq table.entries symbol slot ≡ table.entries ++ (symbol, slot) ∷ []
entries_with_new table symbol slot absent = insert_entry-new nat_eq table symbol slot (none_of (declared_in (scope_of table) symbol) absent)
  where
    none_of : (o : Option Slot) → is_some o ≡ false → o ≡ None
    none_of None is = refl
    none_of (Some s) is = cc
