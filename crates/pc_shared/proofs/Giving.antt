-- Names are given, one after the other.
use Rattle.std.proofs.Common.{◌≡◌, ℕ, List, [], ◌∷◌, length, sym, ap, subst, ◌∙◌}
use Rattle.std.specs.Prelude.{◌++◌, Some, None}
use Rattle.pc_word.specs.declared.item.Item.{Item}
use Rattle.pc_linear.specs.Form.{Form}
use Rattle.pc_window.specs.declared.names.NameTable.{NameTable}
use Rattle.pc_window.specs.StoredWindow.{supply_in}
use Rattle.pc_window.proofs.NamesStored.{one_given}
use Rattle.pc_shared.specs.declared.merging.Definition.{Definition}
use Rattle.pc_shared.specs.declared.merging.Given.{Given}
use Rattle.pc_word.specs.Items.{dest_of}
use Rattle.pc_word.specs.Naming.{map_name, with_dest}
use Rattle.pc_window.specs.declared.home.Home.{Home}
use Rattle.pc_window.specs.Rename.{map_homes}
use Rattle.pc_canon.specs.Pairs.{Pair}
use Rattle.pc_shared.specs.NodeTree.{NodeTree, Doing, Leaving}
use Rattle.pc_shared.specs.Merging.{definition_of}
use Rattle.pc_shared.specs.models.Renaming.{renamed_name, renamed_item}
use Rattle.pc_shared.specs.models.Merges.{Giving, GivesName, Merges, Chooses, its_own, a_new, given_before, given_now}
use Rattle.pc_shared.specs.models.Merges.{merges_item, merges_definition, merges_test, merges_leaf, merges_stub, merges_end, merges_trap}

-- definitions with the same parts are the same
pub same_parts : (a b : Definition) → a.tag ≡ b.tag → a.origin ≡ b.origin → a.item ≡ b.item → a.form ≡ b.form → a ≡ b
same_parts a b t o i f = λ k. record { tag = t k; origin = o k; item = i k; form = f k }

-- the next name, in a table with its form
pub new_chosen : (given : List Given) (above : List ℕ) (old : ℕ) (form : Form) (table : NameTable) (forms : List Form) (name : ℕ) → name ≡ length table.forms
    → forms ≡ table.forms ++ form ∷ []
    → Chooses given above old form (supply_in table) name (supply_in (record { forms = forms; next_variable = table.next_variable }))
new_chosen given above old form table forms name is more =
    subst (λ (n : ℕ). Chooses given above old form (supply_in table) n (supply_in (record { forms = forms; next_variable = table.next_variable }))) (sym is)
    (subst (Chooses given above old form (supply_in table) (length table.forms))
    (sym (one_given table.forms table.next_variable form) ∙ ap (λ (fs : List Form). supply_in (record { forms = fs; next_variable = table.next_variable })) (sym more))
    a_new)

-- ---- trees, with what an item, a name and homes became

pub item_merged : {pairs : List Pair} {g h : Giving} {tag origin : ℕ} {item read : Item} {rest rest' : NodeTree} → read ≡ renamed_item pairs item
    → dest_of item ≡ None → Merges pairs g rest h rest' → Merges pairs g (Doing tag origin item rest) h (Doing tag origin read rest')
item_merged {pairs} {g} {h} {tag} {origin} {item} {read} {rest} {rest'} is none m =
    subst (λ (x : Item). Merges pairs g (Doing tag origin item rest) h (Doing tag origin x rest')) (sym is) (merges_item none m)

pub definition_merged : {pairs : List Pair} {g m h : Giving} {tag origin : ℕ} {item read written : Item} {rest rest' : NodeTree} {old name : ℕ} {definition : Definition}
    → written ≡ with_dest name read → read ≡ renamed_item pairs item → dest_of item ≡ Some old → definition ≡ definition_of g.names.forms tag origin read old
    → GivesName pairs old definition g name m → Merges (record { one = old; other = name } ∷ pairs) m rest h rest'
    → Merges pairs g (Doing tag origin item rest) h (Doing tag origin written rest')
definition_merged {pairs} {g} {m} {h} {tag} {origin} {item} {read} {written} {rest} {rest'} {old} {name} {definition} now is some by gives below =
    let by_item = by ∙ ap (λ (x : Item). definition_of g.names.forms tag origin x old) is in
    subst (λ (x : Item). Merges pairs g (Doing tag origin item rest) h (Doing tag origin x rest')) (sym (now ∙ ap (with_dest name) is))
    (merges_definition some (subst (λ (d : Definition). GivesName pairs old d g name m) by_item gives) below)

pub stub_merged : {pairs : List Pair} {g : Giving} {region tag : ℕ} {homes homes' : List Home} → homes' ≡ map_homes (map_name (renamed_name pairs)) homes
    → Merges pairs g (Leaving region tag homes) g (Leaving region tag homes')
stub_merged {pairs} {g} {region} {tag} {homes} is =
    subst (λ (hs : List Home). Merges pairs g (Leaving region tag homes) g (Leaving region tag hs)) (sym is) merges_stub

pub ruleset choosing = (its_own, new_chosen)

pub ruleset giving = (given_before, given_now)

pub ruleset merging = (item_merged, definition_merged, merges_test, merges_leaf, stub_merged, merges_end, merges_trap)
