-- A name of a row is read as the row's number.
use Rattle.std.proofs.Common.{ℕ, ◌^◌, ◌<◌, ◌≤◌, ◌≡◌, Bool, true, false, arith, nat_eq, nat_lt, one-add}
use Rattle.std.proofs.Common.{List, [], ◌∷◌, ◌++◌, refl, ap, codes, decimal, Some, Ok}
use Rattle.std.specs.List.{prefix_len, AllByRecursion}
use Rattle.std.proofs.lemmas.Bool.Decides.{nat_tests}
use Rattle.pc_assembly.specs.declared.bytes.Class.TheVariants as class
use Rattle.pc_assembly.specs.declared.error.Expected.TheVariants as expect
use Rattle.pc_assembly.specs.Bytes.{is_in, is_letter, is_digit, run, after_run}
use Rattle.pc_assembly.specs.Names.{Names, most_row, is_name, name_here, row_named}
use Rattle.pc_assembly.specs.Parts.{numbered_row, named_row, target_here, goto_at}
use Rattle.pc_assembly.specs.Lines.{numbered_at, named_here, row_here, row_line, usage_here}
use Rattle.pc_assembly.specs.Laws.{IsName}
use Rattle.pc_assembly.proofs.NameLaws.{name_is_free, unblank_name}
use Rattle.pc_assembly.proofs.ReadNumbers.{decimal_begins, no_blanks}
use Rattle.pc_assembly.proofs.ReadParts.{NoDigit}
use Rattle.pc_assembly.proofs.ReadHeadings.{number_behind, due_read}

-- ---- runs

-- no letter and no digit stands at the beginning
abbrev Ends : List ℕ → Type 0
Ends rest = prefix_len (is_in class.Name) rest ≡ 0

-- so no letter
ends_letters : (rest : List ℕ) → Ends rest → prefix_len (is_in class.Letter) rest ≡ 0
ends_letters [] h = refl
ends_letters (byte ∷ rest) h = by (is_letter byte) (is_digit byte) refl refl h
  where
    by : (a b : Bool) → is_letter byte ≡ a → is_digit byte ≡ b → Ends (byte ∷ rest) → prefix_len (is_in class.Letter) (byte ∷ rest) ≡ 0
    by true b e f h = let one = one-add (prefix_len (is_in class.Name) rest) in absurd (omega (arith, one, rw e at h))
    by false b e f h = rw e refl

-- nor a digit
ends_digits : (rest : List ℕ) → Ends rest → NoDigit rest
ends_digits [] h = refl
ends_digits (byte ∷ rest) h = by (is_letter byte) (is_digit byte) refl refl h
  where
    by : (a b : Bool) → is_letter byte ≡ a → is_digit byte ≡ b → Ends (byte ∷ rest) → NoDigit (byte ∷ rest)
    by a false e f h = rw f refl
    by true true e f h = let one = one-add (prefix_len (is_in class.Name) rest) in absurd (omega (arith, one, rw e at h))
    by false true e f h = let one = one-add (prefix_len (is_in class.Name) rest) in absurd (omega (arith, one, rw (e, f) at h))

-- the letters of a name end with it
same_letters : (name rest : List ℕ) → prefix_len (is_in class.Letter) rest ≡ 0 → run class.Letter (name ++ rest) ≡ run class.Letter name
same_letters [] rest h = rw h refl
same_letters (byte ∷ name) rest h = by (is_letter byte) refl (same_letters name rest h)
  where
    by : (a : Bool) → is_letter byte ≡ a → run class.Letter (name ++ rest) ≡ run class.Letter name
        → run class.Letter (byte ∷ (name ++ rest)) ≡ run class.Letter (byte ∷ name)
    by true e more =
        rw (e, one-add (prefix_len (is_in class.Letter) (name ++ rest)), one-add (prefix_len (is_in class.Letter) name))
        (ap (λ bytes. byte ∷ bytes) more)
    by false e more = rw e refl

-- and all of it is read
whole_name : (name rest : List ℕ) → AllByRecursion (λ byte. is_in class.Name byte ≡ true) name → Ends rest
    → (run class.Name (name ++ rest) ≡ name) × (after_run class.Name (name ++ rest) ≡ rest)
whole_name [] rest all h = rw h (refl, refl)
whole_name (byte ∷ name) rest all h =
    let more = whole_name name rest all.1 h in
    rw (all.0, one-add (prefix_len (is_in class.Name) (name ++ rest))) (ap (λ bytes. byte ∷ bytes) more.0, more.1)

-- ---- names

name_goes_on : (name rest : List ℕ) → is_name name ≡ true → Ends rest → is_name (name ++ rest) ≡ true
unfolding is_name
name_goes_on [] rest h ends = cc
name_goes_on (byte ∷ name) rest h ends = rw (same_letters (byte ∷ name) rest (ends_letters rest ends)) h

name_read : (name rest : List ℕ) → IsName name → Ends rest → name_here (name ++ rest) ≡ Ok (name, rest)
unfolding name_here
name_read name rest is ends =
    let whole = whole_name name rest is.1 ends in
    rw (name_goes_on name rest is.0 ends, whole.0, whole.1) refl

-- ---- gotos

pub goto_read_by_name : (names : Names) (name rest : List ℕ) (row : ℕ) → IsName name → Ends rest → row_named names name ≡ Some row
    → row < 2 ^ 32
    → goto_at names (codes " " ++ (name ++ rest)) ≡ goto_at names (codes " row " ++ (decimal row ++ rest))
unfolding goto_at target_here named_row numbered_row
goto_read_by_name names name rest row is ends found small =
    let digits = ends_digits rest ends in
    let goes_on = name_goes_on name rest is.0 ends in
    let free = name_is_free (name ++ rest) goes_on in
    rw (
      unblank_name (name ++ rest) goes_on,
      free.row,
      name_read name rest is ends,
      found,
      number_behind 4294967295 row expect.Number rest (omega (arith, small)) (omega (arith, small)) digits,
    ) refl

-- ---- first lines of rows

same_row : (n : ℕ) → nat_eq n n ≡ true
same_row n = grind (arith, nat_tests)

pub row_read_by_name : (names : Names) (name rest : List ℕ) (due : ℕ) → IsName name → row_named names name ≡ Some due → due ≤ most_row
    → row_line names due (name ++ (codes ":" ++ rest)) ≡ row_line names due (codes "row " ++ (decimal due ++ (codes ":" ++ rest)))
unfolding row_line row_here named_here numbered_at usage_here
row_read_by_name names name rest due is found small =
    let fits : due < 2 ^ 64 = omega (arith, small) in
    let behind = codes ":" ++ rest in
    let free = name_is_free (name ++ behind) (name_goes_on name behind is.0 refl) in
    let within : nat_lt most_row due ≡ false = grind (arith, nat_tests, small) in
    rw (
      within,
      free.row,
      name_read name behind is refl,
      found,
      same_row due,
      no_blanks (decimal due) behind (decimal_begins due fits),
      due_read most_row due expect.RowNumber behind small fits refl,
    ) refl
