-- Which words are a command of the checker: the walk of `clap` over plain words and flags in any order.
use Rattle.std.proofs.Common.{◌≡◌, ◌≤◌, ◌∙◌, Bool, cond, true, false, List, [], ◌∷◌, ◌++◌, map, length, refl, sym, ap, fold, suc, inl, inr, arith, append-nil}
use Rattle.std.specs.Prelude.{ℕ, Option, Some, None, ◌⊎◌, bytes_eq, codes, find, is_some, option_and_then, option_map, slice_get, ◌&&◌, ◌||◌}
use Rattle.std.specs.List.{AllByRecursion}
use Rattle.std.proofs.lemmas.Slice.Eq.{bytes_eq-Decides}
use Rattle.clap.specs.Faults.{check_fault, default_fault, defaults_fault, entered_fault, given_default_fault, settle_fault, turn_fault, walk_fault}
use Rattle.clap.specs.Kinds.{Kinds, or_else}
use Rattle.clap.specs.Simple.{Shape, built, entered}
use Rattle.clap.specs.Walk.{Held, Row, Rule, Text, Walk, finished, has_row, idle, is_empty, nothing_held, pushed, settled, walked, with_default, with_values, without}
use Rattle.clap.specs.declared.builder.value_parser.Reading.TheVariants.{AsWritten}
use Rattle.clap.specs.declared.error.kind.ErrorKind.{ErrorKind}
use Rattle.clap.specs.declared.error.kind.ErrorKind.TheVariants as kind
use Rattle.clap.specs.declared.parser.matches.ValueSource.{ValueSource}
use Rattle.clap.specs.declared.parser.matches.ValueSource.TheVariants.{CommandLine, DefaultValue}
use Rattle.clap.proofs.OnLiterals.{clap_on_literals}
use Rattle.pc_command.specs.Matching.{Matches}
use Rattle.pc_command.specs.Arguments.{check_app, flag_in, matches_taken, unless_faulty, word_in}
use Rattle.pc_command.specs.Laws.{CheckWord, CheckWordsAsk, IsCheckWord, IsPlainWord, Make, Plain, Why, check_asked, check_word, make_among, once_more, plain_words, why_among}
use Rattle.pc_command.specs.Requests.{check_command_of, check_request_in}
use Rattle.pc_command.proofs.PlainWords.{at_place, plain_word-turn, plain_word-walked, word_row}
use Rattle.pc_command.proofs.Programs.{argument_tables}

-- the checker, and its arguments, as `clap` builds them
abbrev top : Shape
top = (built check_app).top

abbrev rules : List Rule
rules = top.rules

-- ---- the rows that are held

-- the row of a name
abbrev found : Text → List Row → Option Row
found name rows = find (λ r. bytes_eq r.id name) rows

-- where a search finds nothing there is no row
no_row : (name : Text) (rows : List Row) → found name rows ≡ None → has_row name rows ≡ false
no_row name [] none = refl
no_row name (row ∷ rows) none = by (bytes_eq row.id name) refl none (no_row name rows)
  where
    by : (b : Bool) → bytes_eq row.id name ≡ b → cond b (Some row) (found name rows) ≡ None → (found name rows ≡ None → has_row name rows ≡ false)
        → has_row name (row ∷ rows) ≡ false
    by true e none rest = absurd (cc)
    by false e none rest = rw e (rest none)

-- where it finds one there is
a_row : (name : Text) (rows : List Row) (row : Row) → found name rows ≡ Some row → has_row name rows ≡ true
a_row name [] row some = absurd (cc)
a_row name (first ∷ rows) row some = by (bytes_eq first.id name) refl some (a_row name rows row)
  where
    by : (b : Bool) → bytes_eq first.id name ≡ b → cond b (Some first) (found name rows) ≡ Some row → (found name rows ≡ Some row → has_row name rows ≡ true)
        → has_row name (first ∷ rows) ≡ true
    by true e some rest = rw e refl
    by false e some rest = rw e (rest some)

-- none is taken away then
without-none : (name : Text) (rows : List Row) → found name rows ≡ None → without name rows ≡ rows
without-none name [] none = refl
without-none name (row ∷ rows) none = by (bytes_eq row.id name) refl none (without-none name rows)
  where
    by : (b : Bool) → bytes_eq row.id name ≡ b → cond b (Some row) (found name rows) ≡ None → (found name rows ≡ None → without name rows ≡ rows)
        → without name (row ∷ rows) ≡ row ∷ rows
    by true e none rest = absurd (cc)
    by false e none rest = rw e (ap (λ (r : List Row). row ∷ r) (rest none))

module _ (id : Text) (source : ValueSource) (values : List Text) where
  -- the row of values that are put to an argument
  abbrev values_row : Row
  values_row = record { id = id; values = values; count = None; source = Some source; reading = AsWritten }

  -- the rows then
  abbrev put : List Row → List Row
  put rows = with_values id AsWritten source values rows

  -- have it, where there was none
  put-found : (rows : List Row) → found id rows ≡ None → found id (put rows) ≡ Some values_row
  put-found [] none = rw ((bytes_eq-Decides id id).1 refl) refl
  put-found (row ∷ rows) none = by (bytes_eq row.id id) refl none (put-found rows)
    where
      by : (b : Bool) → bytes_eq row.id id ≡ b → cond b (Some row) (found id rows) ≡ None → (found id rows ≡ None → found id (put rows) ≡ Some values_row)
          → found id (put (row ∷ rows)) ≡ Some values_row
      by true e none rest = absurd (cc)
      by false e none rest = rw (e, e) (rest none)

  -- and all others
  put-others : (name : Text) (rows : List Row) → found id rows ≡ None → bytes_eq id name ≡ false → found name (put rows) ≡ found name rows
  put-others name [] none other = rw other refl
  put-others name (row ∷ rows) none other = by (bytes_eq row.id id) refl none (put-others name rows)
    where
      by : (b : Bool) → bytes_eq row.id id ≡ b → cond b (Some row) (found id rows) ≡ None
          → (found id rows ≡ None → bytes_eq id name ≡ false → found name (put rows) ≡ found name rows)
          → found name (put (row ∷ rows)) ≡ found name (row ∷ rows)
      by true e none rest = absurd (cc)
      by false e none rest = rw e (ap (cond (bytes_eq row.id name) (Some row)) (rest none other))

-- the row of a flag that is on
abbrev flag_row : Text → Bool → Option Row
flag_row name true = Some (word_row name (codes "true"))
flag_row name false = None

-- the rows after these plain words, with these flags on
record Hold (plains : List Text) (make why : Bool) (rows : List Row) : Type 0 where
  source : found (codes "SRC") rows ≡ option_map (word_row (codes "SRC")) (slice_get plains 0)
  object : found (codes "OBJ") rows ≡ option_map (word_row (codes "OBJ")) (slice_get plains 1)
  certificate : found (codes "CERT") rows ≡ option_map (word_row (codes "CERT")) (slice_get plains 2)
  make_row : found (codes "make") rows ≡ flag_row (codes "make") make
  why_row : found (codes "why") rows ≡ flag_row (codes "why") why

-- what is used of an argument that has no row yet
abbrev used_word : Text → Text → List Row → List Row
used_word name word rows = with_values name AsWritten CommandLine (word ∷ []) (without name rows)

-- has the row, and all others stay
used_word-found : (name word : Text) (rows : List Row) → found name rows ≡ None → found name (used_word name word rows) ≡ Some (word_row name word)
used_word-found name word rows none = rw (without-none name rows none) (put-found name CommandLine (word ∷ []) rows none)

used_word-others : (name word other : Text) (rows : List Row) → found name rows ≡ None → bytes_eq name other ≡ false
    → found other (used_word name word rows) ≡ found other rows
used_word-others name word other rows none differ = rw (without-none name rows none) (put-others name CommandLine (word ∷ []) other rows none differ)

-- the first word is the source
source_used : (word : Text) (make why : Bool) (rows : List Row) → Hold [] make why rows → Hold (word ∷ []) make why (used_word (codes "SRC") word rows)
source_used word make why rows hold = record {
  source = used_word-found (codes "SRC") word rows hold.source;
  object = used_word-others (codes "SRC") word (codes "OBJ") rows hold.source refl ∙ hold.object;
  certificate = used_word-others (codes "SRC") word (codes "CERT") rows hold.source refl ∙ hold.certificate;
  make_row = used_word-others (codes "SRC") word (codes "make") rows hold.source refl ∙ hold.make_row;
  why_row = used_word-others (codes "SRC") word (codes "why") rows hold.source refl ∙ hold.why_row;
}

-- the second the object
object_used : (a word : Text) (make why : Bool) (rows : List Row) → Hold (a ∷ []) make why rows
    → Hold (a ∷ (word ∷ [])) make why (used_word (codes "OBJ") word rows)
object_used a word make why rows hold = record {
  source = used_word-others (codes "OBJ") word (codes "SRC") rows hold.object refl ∙ hold.source;
  object = used_word-found (codes "OBJ") word rows hold.object;
  certificate = used_word-others (codes "OBJ") word (codes "CERT") rows hold.object refl ∙ hold.certificate;
  make_row = used_word-others (codes "OBJ") word (codes "make") rows hold.object refl ∙ hold.make_row;
  why_row = used_word-others (codes "OBJ") word (codes "why") rows hold.object refl ∙ hold.why_row;
}

-- and the third the certificate
certificate_used : (a b word : Text) (make why : Bool) (rows : List Row) → Hold (a ∷ (b ∷ [])) make why rows
    → Hold (a ∷ (b ∷ (word ∷ []))) make why (used_word (codes "CERT") word rows)
certificate_used a b word make why rows hold = record {
  source = used_word-others (codes "CERT") word (codes "SRC") rows hold.certificate refl ∙ hold.source;
  object = used_word-others (codes "CERT") word (codes "OBJ") rows hold.certificate refl ∙ hold.object;
  certificate = used_word-found (codes "CERT") word rows hold.certificate;
  make_row = used_word-others (codes "CERT") word (codes "make") rows hold.certificate refl ∙ hold.make_row;
  why_row = used_word-others (codes "CERT") word (codes "why") rows hold.certificate refl ∙ hold.why_row;
}

-- a flag is on once it is used
make_used : (plains : List Text) (why : Bool) (rows : List Row) → Hold plains false why rows → Hold plains true why (used_word (codes "make") (codes "true") rows)
make_used plains why rows hold = record {
  source = used_word-others (codes "make") (codes "true") (codes "SRC") rows hold.make_row refl ∙ hold.source;
  object = used_word-others (codes "make") (codes "true") (codes "OBJ") rows hold.make_row refl ∙ hold.object;
  certificate = used_word-others (codes "make") (codes "true") (codes "CERT") rows hold.make_row refl ∙ hold.certificate;
  make_row = used_word-found (codes "make") (codes "true") rows hold.make_row;
  why_row = used_word-others (codes "make") (codes "true") (codes "why") rows hold.make_row refl ∙ hold.why_row;
}

why_used : (plains : List Text) (make : Bool) (rows : List Row) → Hold plains make false rows → Hold plains make true (used_word (codes "why") (codes "true") rows)
why_used plains make rows hold = record {
  source = used_word-others (codes "why") (codes "true") (codes "SRC") rows hold.why_row refl ∙ hold.source;
  object = used_word-others (codes "why") (codes "true") (codes "OBJ") rows hold.why_row refl ∙ hold.object;
  certificate = used_word-others (codes "why") (codes "true") (codes "CERT") rows hold.why_row refl ∙ hold.certificate;
  make_row = used_word-others (codes "why") (codes "true") (codes "make") rows hold.why_row refl ∙ hold.make_row;
  why_row = used_word-found (codes "why") (codes "true") rows hold.why_row;
}

-- ---- the walk

-- what is held after these plain words and flags, where none was a fault
record Stands (plains : List Text) (make why : Bool) (held : Held) : Type 0 where
  rows : Hold plains make why (settled rules held).rows
  fault : settle_fault rules false held ≡ []

-- a word that is held for an argument
abbrev awaiting : (name word : Text) → Held → Held
awaiting name word held = record (settled rules held) { pending = Some (name, word ∷ []) }

-- an argument of one value takes a new one
one_value : {X : Type 0} (b : Bool) (x y : X) → cond (b && false) x y ≡ y
one_value true x y = refl
one_value false x y = refl

-- the walk over a plain word, by its place
source-walked : (held : Held) (word : Text) → IsPlainWord word
    → walked rules [] (at_place held idle 1) word ≡ at_place (awaiting (codes "SRC") word held) idle 2
unfolding argument_tables
source-walked held word is =
    plain_word-walked rules held idle 1 word is ∙ ap (λ (h : Held). at_place (pushed (codes "SRC") word h) idle 2) (one_value _ held (settled rules held))

object-walked : (held : Held) (word : Text) → IsPlainWord word
    → walked rules [] (at_place held idle 2) word ≡ at_place (awaiting (codes "OBJ") word held) idle 3
unfolding argument_tables
object-walked held word is =
    plain_word-walked rules held idle 2 word is ∙ ap (λ (h : Held). at_place (pushed (codes "OBJ") word h) idle 3) (one_value _ held (settled rules held))

certificate-walked : (held : Held) (word : Text) → IsPlainWord word
    → walked rules [] (at_place held idle 3) word ≡ at_place (awaiting (codes "CERT") word held) idle 4
unfolding argument_tables
certificate-walked held word is =
    plain_word-walked rules held idle 3 word is ∙ ap (λ (h : Held). at_place (pushed (codes "CERT") word h) idle 4) (one_value _ held (settled rules held))

-- three of them are no fault
source-turn : (held : Held) (word : Text) → IsPlainWord word → settle_fault rules false held ≡ [] → turn_fault top [] (at_place held idle 1) word ≡ []
unfolding argument_tables
source-turn held word is fault = plain_word-turn top held idle 1 word is ∙ one_value _ [] (settle_fault rules false held) ∙ fault

object-turn : (held : Held) (word : Text) → IsPlainWord word → settle_fault rules false held ≡ [] → turn_fault top [] (at_place held idle 2) word ≡ []
unfolding argument_tables
object-turn held word is fault = plain_word-turn top held idle 2 word is ∙ one_value _ [] (settle_fault rules false held) ∙ fault

certificate-turn : (held : Held) (word : Text) → IsPlainWord word → settle_fault rules false held ≡ [] → turn_fault top [] (at_place held idle 3) word ≡ []
unfolding argument_tables
certificate-turn held word is fault = plain_word-turn top held idle 3 word is ∙ one_value _ [] (settle_fault rules false held) ∙ fault

-- a fourth is one
fourth-turn : (held : Held) (word : Text) → IsPlainWord word → turn_fault top [] (at_place held idle 4) word ≡ kind.UnknownArgument ∷ []
unfolding argument_tables
fourth-turn held word is = plain_word-turn top held idle 4 word is

-- what is held then
source-stands : (word : Text) (make why : Bool) (held : Held) → Stands [] make why held → Stands (word ∷ []) make why (awaiting (codes "SRC") word held)
unfolding argument_tables
source-stands word make why held is = record {
  rows = source_used word make why (settled rules held).rows is.rows;
  fault = rw (no_row (codes "SRC") (settled rules held).rows is.rows.source) refl;
}

object-stands : (a word : Text) (make why : Bool) (held : Held) → Stands (a ∷ []) make why held
    → Stands (a ∷ (word ∷ [])) make why (awaiting (codes "OBJ") word held)
unfolding argument_tables
object-stands a word make why held is = record {
  rows = object_used a word make why (settled rules held).rows is.rows;
  fault = rw (no_row (codes "OBJ") (settled rules held).rows is.rows.object) refl;
}

certificate-stands : (a b word : Text) (make why : Bool) (held : Held) → Stands (a ∷ (b ∷ [])) make why held
    → Stands (a ∷ (b ∷ (word ∷ []))) make why (awaiting (codes "CERT") word held)
unfolding argument_tables
certificate-stands a b word make why held is = record {
  rows = certificate_used a b word make why (settled rules held).rows is.rows;
  fault = rw (no_row (codes "CERT") (settled rules held).rows is.rows.certificate) refl;
}

-- what is held after a flag
abbrev flagged : Text → Held → Held
flagged name held = record held { rows = used_word name (codes "true") (settled rules held).rows; pending = None }

-- the walk over a flag
make-walked : (held : Held) (place : ℕ) → walked rules [] (at_place held idle place) (codes "--make") ≡ at_place (flagged (codes "make") held) idle place
unfolding argument_tables clap_on_literals
make-walked held place = refl

why-walked : (held : Held) (place : ℕ) → walked rules [] (at_place held idle place) (codes "--why") ≡ at_place (flagged (codes "why") held) idle place
unfolding argument_tables clap_on_literals
why-walked held place = refl

-- a use of a flag after what was held
abbrev after_use : Kinds → Bool → Kinds
after_use before again = or_else (or_else before (or_else (cond (again && true) (kind.ArgumentConflict ∷ []) []) [])) []

-- is a fault where it is on already
make-turn : (held : Held) (place : ℕ)
    → turn_fault top [] (at_place held idle place) (codes "--make") ≡ after_use (settle_fault rules false held) (has_row (codes "make") (settled rules held).rows)
unfolding argument_tables clap_on_literals
make-turn held place = refl

why-turn : (held : Held) (place : ℕ)
    → turn_fault top [] (at_place held idle place) (codes "--why") ≡ after_use (settle_fault rules false held) (has_row (codes "why") (settled rules held).rows)
unfolding argument_tables clap_on_literals
why-turn held place = refl

-- and the only one
first_use : (before : Kinds) (again : Bool) → before ≡ [] → again ≡ false → after_use before again ≡ []
first_use before again none once = rw (none, once) refl

second_use : (before : Kinds) (again : Bool) → before ≡ [] → again ≡ true → after_use before again ≡ kind.ArgumentConflict ∷ []
second_use before again none twice = rw (none, twice) refl

-- what is held then
make-stands : (plains : List Text) (why : Bool) (held : Held) → Stands plains false why held → Stands plains true why (flagged (codes "make") held)
make-stands plains why held is = record { rows = make_used plains why (settled rules held).rows is.rows; fault = refl }

why-stands : (plains : List Text) (make : Bool) (held : Held) → Stands plains make false held → Stands plains make true (flagged (codes "why") held)
why-stands plains make held is = record { rows = why_used plains make (settled rules held).rows is.rows; fault = refl }

-- ---- the end

-- what the parse checks after the words
abbrev end_fault : Walk → Kinds
end_fault end =
    or_else (entered_fault (built check_app) end.stopped)
    (or_else (settle_fault rules false end.held)
    (or_else (defaults_fault (settled rules end.held).rows rules)
    (check_fault top (finished rules end.held) (is_some (entered (built check_app) end.stopped)))))

-- the matches of a walk and more words, where there is no fault
abbrev outcome : Walk → List Text → Option Matches
outcome here words =
    unless_faulty (or_else (walk_fault top [] here words) (end_fault (fold (walked rules []) here words)))
    (finished rules (fold (walked rules []) here words).held)

-- a word that is no fault
step : (here later : Walk) (word : Text) (rest : List Text) → turn_fault top [] here word ≡ [] → walked rules [] here word ≡ later
    → outcome here (word ∷ rest) ≡ outcome later rest
unfolding walk_fault
step here later word rest fault is = rw fault (ap (λ (l : Walk). outcome l rest) is)

-- and one that is
stuck : (here : Walk) (word : Text) (rest : List Text) (why : ErrorKind) → turn_fault top [] here word ≡ why ∷ [] → outcome here (word ∷ rest) ≡ None
unfolding walk_fault
stuck here word rest why fault = rw fault refl

-- both ways the same
either_way : {X : Type 0} (b : Bool) (x : X) → cond b x x ≡ x
either_way true x = refl
either_way false x = refl

-- the default of an argument is no fault where there is none, or its parser takes it
no_default_fault : (a : Rule) (rows : List Row) → (is_empty a.defaults ≡ true) ⊎ (given_default_fault a a.defaults ≡ []) → default_fault rows a ≡ []
no_default_fault a rows (inl empty) = rw empty (by (has_row a.id rows))
  where
    by : (b : Bool) → cond (b || true) [] (given_default_fault a a.defaults) ≡ []
    by true = refl
    by false = refl
no_default_fault a rows (inr passed) = rw passed (either_way (has_row a.id rows || is_empty a.defaults) [])

-- so none of many is
no_defaults_fault : (some : List Rule) (rows : List Row) → AllByRecursion (λ a. (is_empty a.defaults ≡ true) ⊎ (given_default_fault a a.defaults ≡ [])) some
    → defaults_fault rows some ≡ []
unfolding defaults_fault
no_defaults_fault [] rows all = refl
no_defaults_fault (a ∷ some) rows all = rw (no_default_fault a rows all.0) (no_defaults_fault some (with_default rows a) all.1)

-- none of the checker's
check_defaults : (rows : List Row) → defaults_fault rows rules ≡ []
unfolding argument_tables clap_on_literals
check_defaults rows = no_defaults_fault rules rows (inl refl, (inl refl, (inl refl, (inr refl, (inr refl, (inl refl, tt))))))

-- the rows with the default of a flag
abbrev with_off : Text → List Row → List Row
with_off name rows = cond (has_row name rows) rows (put name DefaultValue (codes "false" ∷ []) rows)

-- of the checker's arguments the flags alone have defaults
finished_flags : (held : Held) → finished rules held ≡ with_off (codes "why") (with_off (codes "make") (settled rules held).rows)
unfolding argument_tables
finished_flags held =
    let rows = (settled rules held).rows in
    let end = with_off (codes "why") (with_off (codes "make") rows) in
    rw (
      either_way (has_row (codes "SRC") rows) rows,
      either_way (has_row (codes "OBJ") rows) rows,
      either_way (has_row (codes "CERT") rows) rows,
      either_way (has_row (codes "help") end) end,
    ) refl

-- the row of a flag in the end
abbrev state_row : Text → Bool → Row
state_row name true = word_row name (codes "true")
state_row name false = values_row name DefaultValue (codes "false" ∷ [])

-- is there
with_off-found : (name : Text) (on : Bool) (rows : List Row) → found name rows ≡ flag_row name on → found name (with_off name rows) ≡ Some (state_row name on)
with_off-found name true rows is = rw (a_row name rows _ is) is
with_off-found name false rows is = rw (no_row name rows is) (put-found name DefaultValue (codes "false" ∷ []) rows is)

-- and all others stay
with_off-others : (name other : Text) (on : Bool) (rows : List Row) → found name rows ≡ flag_row name on → bytes_eq name other ≡ false
    → found other (with_off name rows) ≡ found other rows
with_off-others name other true rows is differ = rw (a_row name rows _ is) refl
with_off-others name other false rows is differ = rw (no_row name rows is) (put-others name DefaultValue (codes "false" ∷ []) other rows is differ)

-- the matches in the end
record Ends (plains : List Text) (make why : Bool) (rows : List Row) : Type 0 where
  source : found (codes "SRC") rows ≡ option_map (word_row (codes "SRC")) (slice_get plains 0)
  object : found (codes "OBJ") rows ≡ option_map (word_row (codes "OBJ")) (slice_get plains 1)
  certificate : found (codes "CERT") rows ≡ option_map (word_row (codes "CERT")) (slice_get plains 2)
  make_row : found (codes "make") rows ≡ Some (state_row (codes "make") make)
  why_row : found (codes "why") rows ≡ Some (state_row (codes "why") why)

-- come of what is held
hold-ends : (plains : List Text) (make why : Bool) (rows : List Row) → Hold plains make why rows
    → Ends plains make why (with_off (codes "why") (with_off (codes "make") rows))
hold-ends plains make why rows is =
    let first = with_off (codes "make") rows in
    let kept : (other : Text) → bytes_eq (codes "make") other ≡ false → found other first ≡ found other rows
    = λ other differ. with_off-others (codes "make") other make rows is.make_row differ in
    let off : found (codes "why") first ≡ flag_row (codes "why") why = kept (codes "why") refl ∙ is.why_row in
    let still : (other : Text) → bytes_eq (codes "why") other ≡ false → found other (with_off (codes "why") first) ≡ found other first
    = λ other differ. with_off-others (codes "why") other why first off differ in
    record {
      source = still (codes "SRC") refl ∙ kept (codes "SRC") refl ∙ is.source;
      object = still (codes "OBJ") refl ∙ kept (codes "OBJ") refl ∙ is.object;
      certificate = still (codes "CERT") refl ∙ kept (codes "CERT") refl ∙ is.certificate;
      make_row = still (codes "make") refl ∙ with_off-found (codes "make") make rows is.make_row;
      why_row = with_off-found (codes "why") why first off;
    }

-- a word is read of its row
word_read : (name word : Text) (rows : List Row) → found name rows ≡ Some (word_row name word) → word_in name rows ≡ word
unfolding word_in
word_read name word rows is = rw is refl

-- and a flag of its own
flag_read : (name : Text) (on : Bool) (rows : List Row) → found name rows ≡ Some (state_row name on) → flag_in name rows ≡ on
unfolding flag_in
flag_read name true rows is = rw is refl
flag_read name false rows is = rw is refl

-- what is asked for where no word is missing
asked_whole : (a b c : Text) (make why : Bool) (rows : List Row) → Ends (a ∷ (b ∷ (c ∷ []))) make why rows
    → check_request_in rows ≡ check_asked (a ∷ (b ∷ (c ∷ []))) (Some make) (Some why)
unfolding check_request_in
asked_whole a b c make why rows is =
    rw (
      word_read (codes "SRC") a rows is.source,
      word_read (codes "OBJ") b rows is.object,
      word_read (codes "CERT") c rows is.certificate,
      flag_read (codes "make") make rows is.make_row,
      flag_read (codes "why") why rows is.why_row,
    ) refl

-- none is where there are three
none_missing : (a b c : Text) (make why : Bool) (rows : List Row) → Ends (a ∷ (b ∷ (c ∷ []))) make why rows → check_fault top rows false ≡ []
unfolding argument_tables
none_missing a b c make why rows is = rw (is.source, is.object, is.certificate) refl

-- what the matches ask for
asked_at_end : (plains : List Text) (make why : Bool) (rows : List Row) → length plains ≤ 3 → Ends plains make why rows
    → option_and_then check_request_in (unless_faulty (check_fault top rows false) rows) ≡ check_asked plains (Some make) (Some why)
unfolding argument_tables
asked_at_end [] make why rows few is = rw is.source refl
asked_at_end (a ∷ []) make why rows few is = rw (is.source, is.object) refl
asked_at_end (a ∷ (b ∷ [])) make why rows few is = rw (is.source, is.object, is.certificate) refl
asked_at_end (a ∷ (b ∷ (c ∷ []))) make why rows few is = rw (none_missing a b c make why rows is) (asked_whole a b c make why rows is)
asked_at_end (a ∷ (b ∷ (c ∷ (d ∷ more)))) make why rows few is = absurd (omega (arith, few))

-- so where no more words come
ended : (plains : List Text) (make why : Bool) (held : Held) → length plains ≤ 3 → Stands plains make why held
    → option_and_then check_request_in (outcome (at_place held idle (suc (length plains))) []) ≡ check_asked plains (Some make) (Some why)
unfolding walk_fault argument_tables
ended plains make why held few is =
    let rows = (settled rules held).rows in
    rw (is.fault, check_defaults rows, finished_flags held)
    (asked_at_end plains make why (with_off (codes "why") (with_off (codes "make") rows)) few (hold-ends plains make why rows is.rows))

-- ---- all words

-- a flag that is on already, and what is told of it in the words to come
abbrev with_more : Bool → Option Bool → Option Bool
with_more true later = once_more later
with_more false later = later

-- a flag that stands twice
twice : (later : Option Bool) → once_more (once_more later) ≡ None
twice None = refl
twice (Some true) = refl
twice (Some false) = refl

-- words with more than three plain ones, or with a flag that stands twice, ask for nothing
too_many : (a b c d : Text) (more : List Text) (make why : Option Bool) → check_asked (a ∷ (b ∷ (c ∷ (d ∷ more)))) make why ≡ None
too_many a b c d more make why = refl

no_make : (words : List Text) (why : Option Bool) → check_asked words None why ≡ None
no_make [] why = refl
no_make (a ∷ []) why = refl
no_make (a ∷ (b ∷ [])) why = refl
no_make (a ∷ (b ∷ (c ∷ []))) why = refl
no_make (a ∷ (b ∷ (c ∷ (d ∷ more)))) why = refl

no_why : (words : List Text) (make : Option Bool) → check_asked words make None ≡ None
no_why [] make = refl
no_why (a ∷ []) make = refl
no_why (a ∷ (b ∷ [])) make = refl
no_why (a ∷ (b ∷ (c ∷ []))) None = refl
no_why (a ∷ (b ∷ (c ∷ []))) (Some make) = refl
no_why (a ∷ (b ∷ (c ∷ (d ∷ more)))) make = refl

-- no word to come
none_to_come : (on : Bool) → with_more on (Some false) ≡ Some on
none_to_come true = refl
none_to_come false = refl

-- what words ask for after those that were walked
asks : (words : List CheckWord) (plains : List Text) (make why : Bool) (held : Held) → AllByRecursion IsCheckWord words → length plains ≤ 3
    → Stands plains make why held
    → option_and_then check_request_in (outcome (at_place held idle (suc (length plains))) (map check_word words))
    ≡ check_asked (plains ++ plain_words words) (with_more make (make_among words)) (with_more why (why_among words))
asks [] plains make why held all few is =
    rw (append-nil plains, none_to_come make, none_to_come why) (ended plains make why held few is)
asks (Plain word ∷ rest) [] make why held all few is =
    ap (option_and_then check_request_in) (step _ _ word (map check_word rest) (source-turn held word all.0 is.fault) (source-walked held word all.0))
    ∙ asks rest (word ∷ []) make why (awaiting (codes "SRC") word held) all.1 (omega arith) (source-stands word make why held is)
asks (Plain word ∷ rest) (a ∷ []) make why held all few is =
    ap (option_and_then check_request_in) (step _ _ word (map check_word rest) (object-turn held word all.0 is.fault) (object-walked held word all.0))
    ∙ asks rest (a ∷ (word ∷ [])) make why (awaiting (codes "OBJ") word held) all.1 (omega arith) (object-stands a word make why held is)
asks (Plain word ∷ rest) (a ∷ (b ∷ [])) make why held all few is =
    ap (option_and_then check_request_in) (step _ _ word (map check_word rest) (certificate-turn held word all.0 is.fault) (certificate-walked held word all.0))
    ∙ asks rest (a ∷ (b ∷ (word ∷ []))) make why (awaiting (codes "CERT") word held) all.1 (omega arith) (certificate-stands a b word make why held is)
asks (Plain word ∷ rest) (a ∷ (b ∷ (c ∷ []))) make why held all few is =
    ap (option_and_then check_request_in) (stuck _ word (map check_word rest) kind.UnknownArgument (fourth-turn held word all.0))
    ∙ sym (too_many a b c word (plain_words rest) (with_more make (make_among rest)) (with_more why (why_among rest)))
asks (Plain word ∷ rest) (a ∷ (b ∷ (c ∷ (d ∷ more)))) make why held all few is = absurd (omega (arith, few))
asks (Make ∷ rest) plains true why held all few is =
    let again = make-turn held (suc (length plains)) ∙ second_use _ _ is.fault (a_row (codes "make") (settled rules held).rows _ is.rows.make_row) in
    ap (option_and_then check_request_in) (stuck _ (codes "--make") (map check_word rest) kind.ArgumentConflict again)
    ∙ sym (rw (twice (make_among rest)) (no_make (plains ++ plain_words rest) (with_more why (why_among rest))))
asks (Make ∷ rest) plains false why held all few is =
    let once = make-turn held (suc (length plains)) ∙ first_use _ _ is.fault (no_row (codes "make") (settled rules held).rows is.rows.make_row) in
    ap (option_and_then check_request_in) (step _ _ (codes "--make") (map check_word rest) once (make-walked held (suc (length plains))))
    ∙ asks rest plains true why (flagged (codes "make") held) all.1 few (make-stands plains why held is)
asks (Why ∷ rest) plains make true held all few is =
    let again = why-turn held (suc (length plains)) ∙ second_use _ _ is.fault (a_row (codes "why") (settled rules held).rows _ is.rows.why_row) in
    ap (option_and_then check_request_in) (stuck _ (codes "--why") (map check_word rest) kind.ArgumentConflict again)
    ∙ sym (rw (twice (why_among rest)) (no_why (plains ++ plain_words rest) (with_more make (make_among rest))))
asks (Why ∷ rest) plains make false held all few is =
    let once = why-turn held (suc (length plains)) ∙ first_use _ _ is.fault (no_row (codes "why") (settled rules held).rows is.rows.why_row) in
    ap (option_and_then check_request_in) (step _ _ (codes "--why") (map check_word rest) once (why-walked held (suc (length plains))))
    ∙ asks rest plains make true (flagged (codes "why") held) all.1 few (why-stands plains make held is)

-- what words ask for
pub check_words-ask : CheckWordsAsk
unfolding check_command_of matches_taken argument_tables
check_words-ask words all =
    asks words [] false false nothing_held all (omega arith)
    (record { rows = record { source = refl; object = refl; certificate = refl; make_row = refl; why_row = refl }; fault = refl })
