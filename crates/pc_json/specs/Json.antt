-- JSON values by their parts, and the line of a value.
use Rattle.std.specs.Prelude.{ℕ, List, [], ◌∷◌, codes, Option, Some, None}
use Rattle.pc_word.specs.declared.item.Limits.{Limits}
use Rattle.pc_word.specs.Line.{line}
use Rattle.serde_json.specs.Data.{Data, Members, array, no_members, null, number, object, put, string, unsigned}
use Rattle.serde_json.specs.View.{items_of}
use Rattle.serde_json.specs.Written.{compact_text}

-- ---- parts

-- a member of an object: its name and its value
pub record Field : Type 0 where
  pub name : List ℕ
  pub value : Data

-- members with more of them
abbrev pub with_fields : Members → List Field → Members
with_fields members [] = members
with_fields members (field ∷ rest) = with_fields (put field.name field.value members) rest

-- the object with these members
abbrev pub object_of : List Field → Data
object_of fields = object (with_fields no_members fields)

-- the list of these values
abbrev pub list_of : List Data → Data
list_of values = array (items_of values)

-- a whole number
abbrev pub whole : ℕ → Data
whole n = number (unsigned n)

-- a whole number, or null where there is none
abbrev pub optional : Option ℕ → Data
optional None = null
optional (Some n) = whole n

-- ---- members

-- a member with this name and value
abbrev pub field : List ℕ → Data → Field
field name value = record { name = name; value = value }

-- a member that is a whole number
abbrev pub count_field : List ℕ → ℕ → Field
count_field name n = field name (whole n)

-- a member that is a text
abbrev pub text_field : List ℕ → List ℕ → Field
text_field name text = field name (string text)

-- ---- limits

-- how many items, tests, and loads and stores a row may have
abbrev pub limits_json : Limits → Data
limits_json limits =
    object_of (count_field (codes "items") limits.ops ∷ count_field (codes "tests") limits.tests ∷ count_field (codes "loads_and_stores") limits.mem ∷ [])

-- ---- the text

-- the text of a value on a line; the members of an object stand in the order of their names
abbrev pub json_line : Data → List ℕ
json_line value = line (compact_text value)
