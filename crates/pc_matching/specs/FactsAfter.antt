-- The facts that hold after a row's path and a front's path, as a list.
use Rattle.std.specs.Prelude.{ℕ, Bool, ◌&&◌, not, true, false, if◌then◌else◌, List, [], ◌∷◌, ◌++◌, map, filter, Option, Some, None}
use Rattle.std.specs.List.{list_any, flat_map}
use Rattle.pc_word.specs.declared.item.Item.{Item}
use Rattle.pc_word.specs.declared.item.Item.TheVariants.{Copy}
use Rattle.pc_word.specs.declared.item.Operand.{Operand}
use Rattle.pc_word.specs.declared.item.Operand.TheVariants.{Name, Lit}
use Rattle.pc_word.specs.Items.{dest_of}
use Rattle.pc_word.specs.Commit.{writes}
use Rattle.pc_certified.specs.Facts.{Fact}
use Rattle.pc_matching.specs.Matching.{same_operand, items_match}

-- that a source has an operand's value
abbrev pub that : Operand → Operand → Fact
that source operand = record { source = source; operand = operand }

-- ---- what a path writes

-- whether an item of a path writes this name
abbrev pub some_writes : List Item → ℕ → Bool
some_writes items name = list_any (λ item. writes (dest_of item) name) items

-- these items, and one more if it writes a name that none of them writes
abbrev pub with_writer : List Item → Item → Option ℕ → List Item
with_writer items item None = items
with_writer items item (Some name) = if some_writes items name then items else items ++ item ∷ []

-- the first writer of each name that a path writes, after the first writers of what stands above it
abbrev pub writers_below : List Item → List Item → List Item
writers_below above [] = above
writers_below above (item ∷ items) = writers_below (with_writer above item (dest_of item)) items

-- the first writer of each name that a path writes
abbrev pub first_writers : List Item → List Item
first_writers items = writers_below [] items

-- ---- what a value is in

-- an operand, if none of these items writes it
abbrev pub if_unchanged : List Item → Operand → List Operand
if_unchanged writers (Name name) = if some_writes writers name then [] else Name name ∷ []
if_unchanged writers (Lit value) = Lit value ∷ []

-- the name of a Copy of an operand
abbrev pub copy_of : Operand → Item → List Operand
copy_of from (Copy name copied) = if same_operand copied from then Name name ∷ [] else []
copy_of from _ = []

-- the operands that have, after these items, the value that an operand had before them: itself, if it is not written, and its copies
abbrev pub same_after : List Item → Operand → List Operand
same_after writers operand = if_unchanged writers operand ++ flat_map (copy_of operand) writers

-- ---- facts

-- whether one of two operands is a name
abbrev pub some_name : Operand → Operand → Bool
some_name (Lit value) (Lit other) = false
some_name _ _ = true

-- whether a fact says something of a name
abbrev pub is_of_name : Fact → Bool
is_of_name fact = some_name fact.source fact.operand

-- that a literal that is copied has its own value
abbrev pub copied_literal : Item → List Fact
copied_literal (Copy name (Lit value)) = that (Lit value) (Lit value) ∷ []
copied_literal _ = []

-- the facts before two paths: those that are given, and those of literals that the paths copy
abbrev pub facts_before : List Fact → List Item → List Item → List Fact
facts_before facts writers others = filter is_of_name facts ++ (flat_map copied_literal writers ++ flat_map copied_literal others)

-- what follows after two paths from a fact before them
abbrev pub carried : List Item → List Item → Fact → List Fact
carried writers others fact = flat_map (λ source. map (that source) (same_after others fact.operand)) (same_after writers fact.source)

-- that one name has the value of another
abbrev pub same_names : Option ℕ → Option ℕ → List Fact
same_names (Some register) (Some name) = that (Name register) (Name name) ∷ []
same_names _ _ = []

-- whether an item copies an operand
abbrev pub is_copy : Item → Bool
is_copy (Copy name from) = true
is_copy _ = false

-- what follows from two items that match; from copies it follows by what they copy
abbrev pub computed_by : List Fact → Item → Item → List Fact
computed_by facts item other = if not (is_copy item) && items_match facts item other then same_names (dest_of item) (dest_of other) else []

-- what follows from all items that match
abbrev pub computed : List Fact → List Item → List Item → List Fact
computed facts writers others = flat_map (λ item. flat_map (computed_by facts item) others) writers

-- the facts after the first writers of two paths
abbrev pub after_writers : List Fact → List Item → List Item → List Fact
after_writers facts writers others = flat_map (carried writers others) (facts_before facts writers others) ++ computed facts writers others

-- the facts that hold after a row's path and a front's path
abbrev pub facts_after : List Fact → List Item → List Item → List Fact
facts_after facts items others = after_writers facts (first_writers items) (first_writers others)
