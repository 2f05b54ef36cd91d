-- After the defaults of `clap` are put in, each argument that has some has a row among the matches, and each row is one of its argument.
use Rattle.std.proofs.Common.{◌≡◌, ◌||◌, Bool, cond, true, false, List, [], ◌∷◌, length, refl, fold, arith}
use Rattle.std.specs.Prelude.{Option, Some, None, find, nat_lt, bytes_eq, option_and_then}
use Rattle.std.specs.List.{AllByRecursion, list_any}
use Rattle.std.specs.Option.{IsSome, option_map_or}
use Rattle.std.proofs.lemmas.Slice.Eq.{bytes_eq-Decides}
use Rattle.clap.specs.Facts.{explicit_source}
use Rattle.clap.specs.Faults.{values_fault}
use Rattle.clap.specs.Takes.{is_given}
use Rattle.clap.specs.Walk.{Row, Rule, Text, arg_by_id, default_rows, has_row, one_of, reading_by, row_text, with_default, with_values}
use Rattle.clap.specs.declared.builder.value_parser.Reading.{Reading}
use Rattle.clap.specs.declared.parser.matches.ValueSource.{ValueSource}
use Rattle.clap.specs.declared.parser.matches.ValueSource.TheVariants.{DefaultValue}
use Rattle.pc_command.proofs.Values.{Holds, IsPlainRule, IsRowOf, found_has, with_values-hold}

-- ---- which rows there are

module _ (id : Text) (how : Reading) (source : ValueSource) (values : List Text) where
  -- values that are put to an argument leave each row where it is
  has_row-kept : (name : Text) (rows : List Row) → has_row name rows ≡ true → has_row name (with_values id how source values rows) ≡ true
  has_row-kept name [] h = absurd (cc)
  has_row-kept name (row ∷ rows) h = by (bytes_eq row.id id) (bytes_eq row.id name) refl refl h (has_row-kept name rows)
    where
      by : (one other : Bool) → bytes_eq row.id id ≡ one → bytes_eq row.id name ≡ other → (other || has_row name rows) ≡ true
          → (has_row name rows ≡ true → has_row name (with_values id how source values rows) ≡ true)
          → has_row name (with_values id how source values (row ∷ rows)) ≡ true
      by true other e k h rest = rw (e, k) h
      by false true e k h rest = rw (e, k) refl
      by false false e k h rest = rw (e, k) (rest h)

  -- and the argument has a row then
  has_row-new : (rows : List Row) → has_row id (with_values id how source values rows) ≡ true
  has_row-new [] = rw ((bytes_eq-Decides id id).1 refl) refl
  has_row-new (row ∷ rows) = by (bytes_eq row.id id) refl (has_row-new rows)
    where
      by : (b : Bool) → bytes_eq row.id id ≡ b → has_row id (with_values id how source values rows) ≡ true
          → has_row id (with_values id how source values (row ∷ rows)) ≡ true
      by true e rest = rw (e, e) refl
      by false e rest = rw (e, e) rest

-- defaults leave each row where it is
default_rows-kept : (a : Rule) (values : List Text) (name : Text) (rows : List Row) → has_row name rows ≡ true
    → has_row name (default_rows a.id (reading_by a) values rows) ≡ true
default_rows-kept a [] name rows h = h
default_rows-kept a (v ∷ vs) name rows h = has_row-kept a.id (reading_by a) DefaultValue (v ∷ vs) name rows h

-- the default of one argument does
with_default-kept : (a : Rule) (name : Text) (rows : List Row) → has_row name rows ≡ true → has_row name (with_default rows a) ≡ true
with_default-kept a name rows h = by (has_row a.id rows)
  where
    by : (b : Bool) → has_row name (cond b rows (default_rows a.id (reading_by a) a.defaults rows)) ≡ true
    by true = h
    by false = default_rows-kept a a.defaults name rows h

-- so do those of all
all_defaults-kept : (rules : List Rule) (name : Text) (rows : List Row) → has_row name rows ≡ true → has_row name (fold with_default rows rules) ≡ true
all_defaults-kept [] name rows h = h
all_defaults-kept (a ∷ rules) name rows h = all_defaults-kept rules name (with_default rows a) (with_default-kept a name rows h)

-- an argument with defaults has a row after them
default_rows-new : (a : Rule) (values : List Text) (rows : List Row) → nat_lt 0 (length values) ≡ true
    → has_row a.id (default_rows a.id (reading_by a) values rows) ≡ true
default_rows-new a [] rows some = absurd (cc)
default_rows-new a (v ∷ vs) rows some = has_row-new a.id (reading_by a) DefaultValue (v ∷ vs) rows

-- so it has after its own
with_default-new : (a : Rule) (rows : List Row) → nat_lt 0 (length a.defaults) ≡ true → has_row a.id (with_default rows a) ≡ true
with_default-new a rows some = by (has_row a.id rows) refl
  where
    by : (b : Bool) → has_row a.id rows ≡ b → has_row a.id (cond b rows (default_rows a.id (reading_by a) a.defaults rows)) ≡ true
    by true e = e
    by false e = default_rows-new a a.defaults rows some

-- each argument with defaults has a row after all
pub defaults_are_there : (rules : List Rule) (rows : List Row)
    → AllByRecursion (λ a. nat_lt 0 (length a.defaults) ≡ true → has_row a.id (fold with_default rows rules) ≡ true) rules
defaults_are_there [] rows = tt
defaults_are_there (a ∷ rules) rows = (
  (λ some. all_defaults-kept rules a.id (with_default rows a) (with_default-new a rows some)),
  defaults_are_there rules (with_default rows a),
)

-- ---- what the rows hold

-- defaults that the argument's parser takes
default_rows-hold : (rules : List Rule) (a : Rule) (values : List Text) (rows : List Row) → arg_by_id rules a.id ≡ Some a → values_fault a values ≡ []
    → AllByRecursion (Holds rules) rows → AllByRecursion (Holds rules) (default_rows a.id (reading_by a) values rows)
default_rows-hold rules a [] rows first passed all = all
default_rows-hold rules a (v ∷ vs) rows first passed all = with_values-hold rules a DefaultValue (v ∷ vs) rows first (omega arith) passed all

-- those of one argument
with_default-holds : (rules : List Rule) (a : Rule) (rows : List Row) → IsPlainRule rules a → AllByRecursion (Holds rules) rows
    → AllByRecursion (Holds rules) (with_default rows a)
with_default-holds rules a rows is all = by (has_row a.id rows)
  where
    by : (b : Bool) → AllByRecursion (Holds rules) (cond b rows (default_rows a.id (reading_by a) a.defaults rows))
    by true = all
    by false = default_rows-hold rules a a.defaults rows is.first is.defaults all

-- defaults are rows of their arguments
pub defaults-hold : (rules some : List Rule) (rows : List Row) → AllByRecursion (IsPlainRule rules) some → AllByRecursion (Holds rules) rows
    → AllByRecursion (Holds rules) (fold with_default rows some)
defaults-hold rules [] rows are all = all
defaults-hold rules (a ∷ some) rows are all = defaults-hold rules some (with_default rows a) are.1 (with_default-holds rules a rows are.0 all)

-- ---- the row of an argument

-- the row of an argument, which is found by its name
pub record HasRow (a : Rule) (rows : List Row) : Type 0 where
  pub row : Row
  pub found : find (λ r. bytes_eq r.id a.id) rows ≡ Some row
  pub holds : IsRowOf a row

-- a row that is found is one of its argument
row_of_found : (rules : List Rule) (a : Rule) (rows : List Row) → arg_by_id rules a.id ≡ Some a → AllByRecursion (Holds rules) rows
    → (o : Option Row) → find (λ r. bytes_eq r.id a.id) rows ≡ o → IsSome o → HasRow a rows
row_of_found rules a rows first all None e some = absurd (cc)
row_of_found rules a rows first all (Some row) e some =
    let is = found_has (Holds rules) (λ r. bytes_eq r.id a.id) rows row all e in
    let id : row.id ≡ a.id = (bytes_eq-Decides row.id a.id).0 is.1 in
    record { row = row; found = e; holds = is.0 a (rw id first) }

-- where some element passes a test a search finds one
found_of_any : {X : Type 0} (p : X → Bool) (xs : List X) → list_any p xs ≡ true → IsSome (find p xs)
found_of_any p [] h = absurd (cc)
found_of_any p (x ∷ xs) h = by (p x) h (found_of_any p xs)
  where
    by : (b : Bool) → (b || list_any p xs) ≡ true → (list_any p xs ≡ true → IsSome (find p xs)) → IsSome (cond b (Some x) (find p xs))
    by true h rest = refl
    by false h rest = rest h

-- an argument that has a row
pub row_there : (rules : List Rule) (a : Rule) (rows : List Row) → arg_by_id rules a.id ≡ Some a → AllByRecursion (Holds rules) rows
    → has_row a.id rows ≡ true → HasRow a rows
row_there rules a rows first all has = row_of_found rules a rows first all _ refl (found_of_any (λ r. bytes_eq r.id a.id) rows has)

-- an argument that the words give
pub row_given : (rules : List Rule) (a : Rule) (rows : List Row) → arg_by_id rules a.id ≡ Some a → AllByRecursion (Holds rules) rows
    → is_given a.id rows ≡ true → HasRow a rows
row_given rules a rows first all given = row_of_found rules a rows first all _ refl (some (find (λ r. bytes_eq r.id a.id) rows) given)
  where
    some : (o : Option Row) → option_map_or (λ r. explicit_source r.source) o false ≡ true → IsSome o
    some None h = absurd (cc)
    some (Some row) h = refl

-- an argument of which a text is read
pub row_read : (rules : List Rule) (a : Rule) (rows : List Row) → arg_by_id rules a.id ≡ Some a → AllByRecursion (Holds rules) rows
    → IsSome (one_of a.id rows) → HasRow a rows
row_read rules a rows first all read = row_of_found rules a rows first all _ refl (some (find (λ r. bytes_eq r.id a.id) rows) read)
  where
    some : (o : Option Row) → IsSome (option_and_then row_text o) → IsSome o
    some None h = absurd (cc)
    some (Some row) h = refl
