-- Values whose numbers are whole.
use Rattle.std.proofs.Common.{◌≡◌, refl, ℕ, Bool, true, false, List, [], ◌∷◌, Option, Some, None}
use Rattle.std.specs.Prelude.{◌||◌, codes}
use Rattle.std.specs.List.{AllByRecursion}
use Rattle.std.specs.Cmp.Lexicographic.{slice_cmp}
use Rattle.std.specs.Ordering.{nat_cmp, match_ordering}
use Rattle.std.specs.declared.cmp.Ordering.{Ordering}
use Rattle.std.specs.declared.cmp.Ordering.TheVariants.{Less, Equal, Greater}
use Rattle.pc_word.specs.declared.item.Limits.{Limits}
use Rattle.serde_json.specs.Data.{Data, Members, member, no_members, put}
use Rattle.serde_json.specs.View.{items_of}
use Rattle.serde_json.specs.Written.{has_float, items_have_float, members_have_float}
use Rattle.pc_json.specs.Json.{Field, count_field, limits_json, list_of, object_of, optional, whole, with_fields}

-- ---- of two tests neither holds

pub neither : (a b : Bool) → a ≡ false → b ≡ false → (a || b) ≡ false
neither true b one other = absurd (cc)
neither false b one other = other

not_first : (a b : Bool) → (a || b) ≡ false → a ≡ false
not_first true b none = absurd (cc)
not_first false b none = refl

not_second : (a b : Bool) → (a || b) ≡ false → b ≡ false
not_second true b none = absurd (cc)
not_second false b none = none

-- ---- members

-- wherever a member is put
placed : (o : Ordering) (k l : List ℕ) (d e : Data) (members more : Members) → has_float d ≡ false → has_float e ≡ false → members_have_float members ≡ false
    → members_have_float more ≡ false
    → members_have_float (match_ordering o (member k d (member l e members)) (member l d members) (member l e more)) ≡ false
placed Less k l d e members more whole_d whole_e wholes more_wholes =
    neither (has_float d) (members_have_float (member l e members)) whole_d (neither (has_float e) (members_have_float members) whole_e wholes)
placed Equal k l d e members more whole_d whole_e wholes more_wholes = neither (has_float d) (members_have_float members) whole_d wholes
placed Greater k l d e members more whole_d whole_e wholes more_wholes = neither (has_float e) (members_have_float more) whole_e more_wholes

put-whole : (k : List ℕ) (d : Data) (members : Members) → has_float d ≡ false → members_have_float members ≡ false → members_have_float (put k d members) ≡ false
put-whole k d no_members whole_d wholes = neither (has_float d) false whole_d refl
put-whole k d (member l e members) whole_d wholes =
    let first = not_first (has_float e) (members_have_float members) wholes in
    let others = not_second (has_float e) (members_have_float members) wholes in
    placed (slice_cmp nat_cmp k l) k l d e members (put k d members) whole_d first others (put-whole k d members whole_d others)

-- a member without a float
abbrev pub IsWhole : Field → Type 0
IsWhole field = has_float field.value ≡ false

pub fields-whole : (members : Members) (fields : List Field) → members_have_float members ≡ false → AllByRecursion IsWhole fields
    → members_have_float (with_fields members fields) ≡ false
fields-whole members [] wholes all = wholes
fields-whole members (field ∷ rest) wholes all =
    fields-whole (put field.name field.value members) rest (put-whole field.name field.value members all.0 wholes) all.1

-- ---- values

-- an object whose members have no float
pub object-whole : (fields : List Field) → AllByRecursion IsWhole fields → has_float (object_of fields) ≡ false
object-whole fields all = fields-whole no_members fields refl all

-- a list whose values have no float
pub items-whole : (values : List Data) → AllByRecursion (λ value. has_float value ≡ false) values → items_have_float (items_of values) ≡ false
items-whole [] all = refl
items-whole (value ∷ rest) all = neither (has_float value) (items_have_float (items_of rest)) all.0 (items-whole rest all.1)

pub optional-whole : (n : Option ℕ) → has_float (optional n) ≡ false
optional-whole None = refl
optional-whole (Some n) = refl

pub limits-whole : (limits : Limits) → has_float (limits_json limits) ≡ false
limits-whole limits =
    object-whole
    (count_field (codes "items") limits.ops ∷ count_field (codes "tests") limits.tests ∷ count_field (codes "loads_and_stores") limits.mem ∷ [])
    (refl, (refl, (refl, tt)))
