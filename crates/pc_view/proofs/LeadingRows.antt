-- How the lists of the rows that lead to each row grow.
use Rattle.std.proofs.Common.{◌≡◌, ◌≢◌, ℕ, zero, suc, ◌+◌, ◌-◌, ◌<◌, ◌||◌, Bool, true, false, cond, List}
use Rattle.std.proofs.Common.{[], ◌∷◌, ◌++◌, length, Option, Some, None, refl, sym, ◌∙◌, ap, subst, arith, length-append}
use Rattle.std.proofs.Common.{append-nil, get_or}
use Rattle.std.specs.Prelude.{nat_eq, slice_get, slice_set, Result, Ok, Err, OnOk}
use Rattle.std.specs.Option.{option_map}
use Rattle.std.specs.List.{AllByRecursion}
use Rattle.std.proofs.lemmas.Bool.Decides.{nat_tests}
use Rattle.std.proofs.lemmas.Option.{slice_get-get_or}
use Rattle.std.proofs.lemmas.List.Folds.{list_any-append}
use Rattle.pc_word.proofs.Lists.{all_at, all_imply}
use Rattle.pc_word.specs.Row.{Either, leaves_of}
use Rattle.pc_word.specs.declared.item.Operand.{Operand}
use Rattle.pc_machine.specs.MachineCode.{CodeRow, is_goto}
use Rattle.pc_view.specs.Leading.{leads_to, rows_leading_to}
use Rattle.pc_view.specs.models.Lists.{is_number, noted, noted_where, AreLists}

-- ---- one list

-- what stands last after a list
last_behind : (list : List ℕ) (number : ℕ) → slice_get (list ++ number ∷ []) (length list) ≡ Some number
last_behind [] number = refl
last_behind (x ∷ list) number = last_behind list number

last_place : (list : List ℕ) (number : ℕ) → length (list ++ number ∷ []) - 1 ≡ length list
last_place list number = omega (arith, length-append list (number ∷ []))

same_number : (number : ℕ) → nat_eq number number ≡ true
same_number number = grind (arith, nat_tests)

noted-again : (number : ℕ) (list : List ℕ) → noted number (list ++ number ∷ []) ≡ list ++ number ∷ []
noted-again number list = rw (last_place list number, last_behind list number, same_number number) refl

-- a number that is noted twice is noted once
noted-twice : (number : ℕ) (list : List ℕ) → noted number (noted number list) ≡ noted number list
noted-twice number list = by (is_number number (slice_get list (length list - 1))) refl
  where
    by : (b : Bool) → is_number number (slice_get list (length list - 1)) ≡ b → noted number (noted number list) ≡ noted number list
    by true e =
        let same : noted number list ≡ list = rw e refl in
        ap (noted number) same
    by false e =
        let more : noted number list ≡ list ++ number ∷ [] = rw e refl in
        ap (noted number) more ∙ noted-again number list ∙ sym more

-- a number that may be noted twice
pub noted_where-both : (a b : Bool) (number : ℕ) (o : Option (List ℕ))
    → option_map (noted_where b number) (option_map (noted_where a number) o) ≡ option_map (noted_where (a || b) number) o
noted_where-both a b number None = refl
noted_where-both true true number (Some list) = ap (λ (l : List ℕ). Some l) (noted-twice number list)
noted_where-both true false number (Some list) = refl
noted_where-both false b number (Some list) = refl

-- a row with two sides leads where either does
pub leads_to-Either : (target : ℕ) (on : Operand) (on_yes on_no : CodeRow)
    → leads_to target (Either on on_yes on_no) ≡ (leads_to target on_yes || leads_to target on_no)
leads_to-Either target on on_yes on_no = list_any-append (is_goto target) (leaves_of on_yes) (leaves_of on_no)

-- ---- the lists of a table

set_same : (lists : List (List ℕ)) (at : ℕ) (new : List ℕ) → at < length lists → slice_get (slice_set lists at new) at ≡ Some new
set_same [] at new h = absurd (omega arith)
set_same (x ∷ lists) zero new h = refl
set_same (x ∷ lists) (suc at) new h = set_same lists at new (omega arith)

set_other : (lists : List (List ℕ)) (at other : ℕ) (new : List ℕ) → at ≢ other → slice_get (slice_set lists at new) other ≡ slice_get lists other
set_other [] at other new h = refl
set_other (x ∷ lists) zero zero new h = absurd (h refl)
set_other (x ∷ lists) zero (suc other) new h = refl
set_other (x ∷ lists) (suc at) zero new h = refl
set_other (x ∷ lists) (suc at) (suc other) new h = set_other lists at other new (λ e. h (ap suc e))

not_noted : (number : ℕ) (o : Option (List ℕ)) → o ≡ option_map (noted_where false number) o
not_noted number None = refl
not_noted number (Some list) = refl

-- a number is noted at one row
pub noted_at : (lists : List (List ℕ)) (row number target : ℕ) (default new : List ℕ) → row < length lists
    → new ≡ noted number (get_or lists row default)
    → slice_get (slice_set lists row new) target ≡ option_map (noted_where (nat_eq row target || false) number) (slice_get lists target)
noted_at lists row number target default new h is = by (nat_eq row target) refl
  where
    by : (b : Bool) → nat_eq row target ≡ b
        → slice_get (slice_set lists row new) target ≡ option_map (noted_where (b || false) number) (slice_get lists target)
    by true e =
        let same : row ≡ target = grind (arith, nat_tests) in
        subst (λ t. slice_get (slice_set lists row new) t ≡ option_map (noted_where true number) (slice_get lists t)) same
        (set_same lists row new h ∙ ap (λ (l : List ℕ). Some l) is ∙ ap (option_map (noted number)) (sym (slice_get-get_or lists row default h)))
    by false e =
        let apart : row ≢ target = λ same. absurd (grind (arith, nat_tests)) in
        set_other lists row target new apart ∙ not_noted number (slice_get lists target)

-- ---- one row more

next_at : (b : Bool) (n m : ℕ) → n ≡ m → cond b (n ∷ []) [] ≡ cond b (m ∷ []) []
next_at b n m e = ap (λ (k : ℕ). cond b (k ∷ []) []) e

rows_leading_to-behind : (target number : ℕ) (rows : List CodeRow) (row : CodeRow)
    → rows_leading_to target number (rows ++ row ∷ []) ≡ rows_leading_to target number rows ++ cond (leads_to target row)
    ((number + length rows) ∷ []) []
rows_leading_to-behind target number [] row = next_at (leads_to target row) number (number + 0) (omega arith)
rows_leading_to-behind target number (first ∷ rows) row =
    by (leads_to target first) _ _ _
    (rows_leading_to-behind target (suc number) rows row ∙ ap (λ (l : List ℕ). rows_leading_to target (suc number) rows ++ l)
    (next_at (leads_to target row) (suc number + length rows) (number + suc (length rows)) (omega arith)))
  where
    by : (b : Bool) (x y z : List ℕ) → x ≡ y ++ z → cond b (number ∷ x) x ≡ cond b (number ∷ y) y ++ z
    by true x y z e = ap (λ (l : List ℕ). number ∷ l) e
    by false x y z e = e

-- the numbers are below that of the next row
rows_leading_to-below : (target number : ℕ) (rows : List CodeRow)
    → AllByRecursion (λ n. n < number + length rows) (rows_leading_to target number rows)
rows_leading_to-below target number [] = tt
rows_leading_to-below target number (row ∷ rows) =
    by (leads_to target row) _ (all_imply (λ n. n < suc number + length rows) (λ n. n < number + suc (length rows)) _ (λ n h. omega arith)
    (rows_leading_to-below target (suc number) rows))
  where
    by : (b : Bool) (x : List ℕ) → AllByRecursion (λ n. n < number + suc (length rows)) x
        → AllByRecursion (λ n. n < number + suc (length rows)) (cond b (number ∷ x) x)
    by true x h = (omega arith, h)
    by false x h = h

-- so that of the next row is not there
not_last : (number : ℕ) (list : List ℕ) → AllByRecursion (λ n. n < number) list → is_number number (slice_get list (length list - 1)) ≡ false
not_last number list below = by (slice_get list (length list - 1)) refl
  where
    by : (o : Option ℕ) → slice_get list (length list - 1) ≡ o → is_number number o ≡ false
    by None e = refl
    by (Some last) e =
        let small : last < number = all_at (λ n. n < number) list (length list - 1) last below e in
        grind (arith, nat_tests)

-- noting a row where it leads is having one row more
noted-next : (target : ℕ) (rows : List CodeRow) (row : CodeRow)
    → noted_where (leads_to target row) (length rows) (rows_leading_to target 0 rows) ≡ rows_leading_to target 0 (rows ++ row ∷ [])
noted-next target rows row = by (leads_to target row) ∙ sym (rows_leading_to-behind target 0 rows row)
  where
    fresh : is_number (length rows) (slice_get (rows_leading_to target 0 rows) (length (rows_leading_to target 0 rows) - 1)) ≡ false
    fresh =
        not_last (length rows) (rows_leading_to target 0 rows)
        (all_imply (λ n. n < 0 + length rows) (λ n. n < length rows) _ (λ n h. omega arith) (rows_leading_to-below target 0 rows))

    by : (b : Bool) → noted_where b (length rows) (rows_leading_to target 0 rows) ≡ rows_leading_to target 0 rows ++ cond b
        ((0 + length rows) ∷ []) []
    by true = rw fresh (ap (λ (n : ℕ). rows_leading_to target 0 rows ++ n ∷ []) (omega arith))
    by false = sym (append-nil (rows_leading_to target 0 rows))

-- the lists after one row more
pub lists-next : (many number : ℕ) (rows : List CodeRow) (row : CodeRow) (old new : List (List ℕ)) → AreLists many rows old → number ≡ length rows
    → length new ≡ length old
    → ((target : ℕ) → slice_get new target ≡ option_map (noted_where (leads_to target row) number) (slice_get old target))
    → AreLists many (rows ++ row ∷ []) new
lists-next many number rows row old new are is same each = record {
  count = same ∙ are.count;
  each = λ target h.
      each target
      ∙ ap (option_map (noted_where (leads_to target row) number)) (are.each target h)
      ∙ ap (λ (n : ℕ). Some (noted_where (leads_to target row) n (rows_leading_to target 0 rows))) is
      ∙ ap (λ (l : List ℕ). Some l) (noted-next target rows row);
}

-- ---- results

-- what follows from what a call gave
pub ok_map : {T E P Q : Type 0} (result : Result T E) → (P → Q) → OnOk result P → OnOk result Q
ok_map (Ok value) f h = f h
ok_map (Err why) f h = tt
