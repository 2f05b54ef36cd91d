-- Where `clap` finds no fault, each row of its matches has a value, which the parser of the row's argument took. A row is what was found for an argument.
use Rattle.std.proofs.Common.{◌≡◌, ◌<◌, ◌||◌, Bool, cond, true, false, List, [], ◌∷◌, ◌++◌, length, refl, subst, arith}
use Rattle.std.specs.Prelude.{Some, None, find, nat_lt, bytes_eq}
use Rattle.std.specs.List.{AllByRecursion}
use Rattle.std.proofs.lemmas.Slice.Eq.{bytes_eq-Decides}
use Rattle.std.proofs.lemmas.List.{length-append}
use Rattle.clap.specs.Facts.{unwrap_or_range}
use Rattle.clap.specs.Faults.{action_fault, use_fault, values_fault}
use Rattle.clap.specs.Kinds.{Kinds, or_else, range_kinds, value_kinds, values_kinds}
use Rattle.clap.specs.Walk.{Row, Rule, Text, action_of, arg_by_id, at_row, more_values, most_values, reading_by, used, used_as, values_or_missing, with_values, without}
use Rattle.clap.specs.declared.builder.action.ArgAction.{ArgAction}
use Rattle.clap.specs.declared.builder.action.ArgAction.TheVariants as action
use Rattle.clap.specs.declared.builder.value_parser.ValueParser.{ValueParser}
use Rattle.clap.specs.declared.parser.matches.ValueSource.{ValueSource}
use Rattle.clap.specs.declared.parser.matches.ValueSource.TheVariants.{CommandLine}
use Rattle.pc_word.proofs.Lists.{all_both}
use Rattle.pc_word.proofs.Truth.{less_of}

-- ---- lists and faults

-- what holds of each element holds of the one that a search finds, and so does what was searched for
pub found_has : {X : Type 0} (P : X → Type 0) (p : X → Bool) (xs : List X) (x : X) → AllByRecursion P xs → find p xs ≡ Some x → P x × (p x ≡ true)
found_has P p [] x all e = absurd (cc)
found_has {X = X} P p (y ∷ ys) x all e = by (p y) refl e (found_has P p ys x all.1)
  where
    by : (b : Bool) → p y ≡ b → cond b (Some y) (find p ys) ≡ Some x → (find p ys ≡ Some x → P x × (p x ≡ true)) → P x × (p x ≡ true)
    by true h e rest =
        let same : y ≡ x = cc in
        (subst P same all.0, subst (λ (z : X). p z ≡ true) same h)
    by false h e rest = rest e

-- one fault or another: neither is there
pub no_faults : (one other : Kinds) → or_else one other ≡ [] → (one ≡ []) × (other ≡ [])
no_faults [] other e = (refl, e)
no_faults (kind ∷ kinds) other e = absurd (cc)

-- a parser that takes each of some values and each of others takes all
values_both : (ignore_case : Bool) (parser : ValueParser) (vs ws : List Text) → values_kinds ignore_case parser vs ≡ [] → values_kinds ignore_case parser ws ≡ []
    → values_kinds ignore_case parser (vs ++ ws) ≡ []
values_both ignore_case parser [] ws h k = k
values_both ignore_case parser (v ∷ vs) ws h k =
    let parts = no_faults (value_kinds ignore_case parser v) (values_kinds ignore_case parser vs) h in
    rw parts.0 (values_both ignore_case parser vs ws parts.1 k)

-- what holds of each row holds of each row after one is changed, if it holds of what that one becomes and of what stands for a missing one
at_row-all : (P : Row → Type 0) (id : Text) (change : Row → List Row) (missing rows : List Row) → AllByRecursion P rows
    → ((row : Row) → bytes_eq row.id id ≡ true → P row → AllByRecursion P (change row)) → AllByRecursion P missing → AllByRecursion P (at_row id change missing rows)
at_row-all P id change missing [] all turn new = new
at_row-all P id change missing (row ∷ rows) all turn new = by (bytes_eq row.id id) refl (at_row-all P id change missing rows all.1 turn new)
  where
    by : (b : Bool) → bytes_eq row.id id ≡ b → AllByRecursion P (at_row id change missing rows)
        → AllByRecursion P (cond b (change row ++ rows) (row ∷ at_row id change missing rows))
    by true h rest = all_both P (change row) rows (turn row h all.0) all.1
    by false h rest = (all.0, rest)

-- ---- arguments and their rows

-- an argument that takes a value, or is a flag, or asks for help
abbrev pub is_plain_action : ArgAction → Bool
is_plain_action action.Set = true
is_plain_action action.SetTrue = true
is_plain_action action.Help = true
is_plain_action _ = false

-- an argument whose uses have a row
abbrev pub has_uses : ArgAction → Bool
has_uses action.Set = true
has_uses action.SetTrue = true
has_uses _ = false

-- an argument that is the first of its name, has a value wherever it is used, and takes its own defaults
pub record IsPlainRule (rules : List Rule) (argument : Rule) : Type 0 where
  pub first : arg_by_id rules argument.id ≡ Some argument
  pub plain : is_plain_action (action_of argument) ≡ true
  pub valued : has_uses (action_of argument) ≡ true → (nat_lt 0 (unwrap_or_range argument.range).start_inclusive || nat_lt 0 (length argument.missing)) ≡ true
  pub defaults : values_fault argument argument.defaults ≡ []

-- a row of an argument: it has a value, the argument's parser took its values, and they are read as that parser says
pub record IsRowOf (argument : Rule) (row : Row) : Type 0 where
  pub valued : 0 < length row.values
  pub passed : values_fault argument row.values ≡ []
  pub reading : row.reading ≡ reading_by argument

-- a row is one of the argument of its name
abbrev pub Holds : List Rule → Row → Type 0
Holds rules row = (argument : Rule) → arg_by_id rules row.id ≡ Some argument → IsRowOf argument row

module _ (rules : List Rule) where
  -- so it is after values that its parser took are put to an argument
  pub with_values-hold : (a : Rule) (source : ValueSource) (values : List Text) (rows : List Row) → arg_by_id rules a.id ≡ Some a → 0 < length values
      → values_fault a values ≡ [] → AllByRecursion (Holds rules) rows → AllByRecursion (Holds rules) (with_values a.id (reading_by a) source values rows)
  with_values-hold a source values rows first some passed all = at_row-all (Holds rules) a.id (more_values source values) _ rows all changed (new, tt)
    where
      same : (b : Rule) → arg_by_id rules a.id ≡ Some b → a ≡ b
      same b is = cc

      new : (b : Rule) → arg_by_id rules a.id ≡ Some b
          → IsRowOf b (record { id = a.id; values = values; count = None; source = Some source; reading = reading_by a })
      new b is =
          let held : IsRowOf a (record { id = a.id; values = values; count = None; source = Some source; reading = reading_by a }) =
          record { valued = some; passed = passed; reading = refl } in
          subst (λ (x : Rule). IsRowOf x (record { id = a.id; values = values; count = None; source = Some source; reading = reading_by a })) (same b is) held

      changed : (row : Row) → bytes_eq row.id a.id ≡ true → Holds rules row → AllByRecursion (Holds rules) (more_values source values row)
      changed row named holds = (
        (λ b is.
            let id : row.id ≡ a.id = (bytes_eq-Decides row.id a.id).0 named in
            let at : arg_by_id rules a.id ≡ Some b = subst (λ (t : Text). arg_by_id rules t ≡ Some b) id is in
            let old = holds b is in
            let took : values_fault b values ≡ [] = subst (λ (x : Rule). values_fault x values ≡ []) (same b at) passed in
            let valued : 0 < length (row.values ++ values) = simp length-append (omega (arith, old.valued)) in
            record { valued = valued; passed = values_both _ _ row.values values old.passed took; reading = old.reading }),
        tt,
      )

  -- a use that begins with what was there taken out
  set-holds : (a : Rule) (values : List Text) (rows : List Row) → arg_by_id rules a.id ≡ Some a → 0 < length values → values_fault a values ≡ []
      → AllByRecursion (Holds rules) rows → AllByRecursion (Holds rules) (with_values a.id (reading_by a) CommandLine values (without a.id rows))
  set-holds a values rows first some passed all =
      with_values-hold a CommandLine values (without a.id rows) first some passed
      (at_row-all (Holds rules) a.id (λ row. []) [] rows all (λ row named holds. tt) tt)

  -- a use without a fault
  used_as-holds : (kind : ArgAction) (again : Bool) (a : Rule) (values : List Text) (rows : List Row) → is_plain_action kind ≡ true → arg_by_id rules a.id ≡ Some a
      → (has_uses kind ≡ true → 0 < length values) → action_fault kind again a values rows ≡ [] → AllByRecursion (Holds rules) rows
      → AllByRecursion (Holds rules) (used_as kind a.id (reading_by a) values rows)
  used_as-holds action.Set again a values rows is first some fault all = set-holds a values rows first (some refl) (no_faults _ _ fault).1 all
  used_as-holds action.SetTrue again a values rows is first some fault all = set-holds a values rows first (some refl) (no_faults _ _ fault).1 all
  used_as-holds action.Help again a values rows is first some fault all = absurd (cc)
  used_as-holds _ again a values rows is first some fault all = absurd (cc)

  -- what a use without a fault is given, or stands for it, is some value
  given : (a : Rule) (values : List Text) → (nat_lt 0 (unwrap_or_range a.range).start_inclusive || nat_lt 0 (length a.missing)) ≡ true
      → range_kinds (unwrap_or_range a.range).start_inclusive (most_values a) (length values) ≡ [] → 0 < length (values_or_missing a values)
  given a (v ∷ vs) valued range = omega arith
  given a [] valued range = by (nat_lt 0 (unwrap_or_range a.range).start_inclusive) refl
    where
      by : (b : Bool) → nat_lt 0 (unwrap_or_range a.range).start_inclusive ≡ b → 0 < length a.missing
      by true h = absurd (let bad = rw h at range in cc)
      by false h = less_of 0 (length a.missing) (rw h at valued)

  -- so it is after any use without a fault
  pub used-holds : (again : Bool) (a : Rule) (values : List Text) (rows : List Row) → IsPlainRule rules a → use_fault again a values rows ≡ []
      → AllByRecursion (Holds rules) rows → AllByRecursion (Holds rules) (used a values rows)
  used-holds again a values rows is fault all =
      let parts = no_faults _ _ fault in
      used_as-holds (action_of a) again a (values_or_missing a values) rows is.plain is.first (λ has. given a values (is.valued has) parts.0) parts.1 all
