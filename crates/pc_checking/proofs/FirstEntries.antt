-- The first entry that speaks of each row.
use Rattle.std.proofs.Common.{◌≡◌, ℕ, zero, suc, ◌+◌, ◌<◌, ◌≤◌, inl, inr, Bool, true, false, List, [], ◌∷◌, length, drop, drop-cons, get_or, replicate, Option, Some, None}
use Rattle.std.proofs.Common.{refl, sym, ◌∙◌, ap, subst, arith}
use Rattle.std.specs.Prelude.{IfSome, nat_eq, if◌then◌else◌, slice_get, slice_set, slice_index_or}
use Rattle.std.proofs.lemmas.Bool.Decides.{eqb_tells}
use Rattle.std.proofs.lemmas.List.{length-set}
use Rattle.std.proofs.lemmas.Option.{slice_get_read, slice_get-get_or}
use Rattle.pc_word.proofs.Places.{set_there, set_elsewhere}
use Rattle.pc_cert.specs.declared.certificate.Entry.{Entry}
use Rattle.pc_accepted.specs.Arrivals.{entry_number, next_number, IsEntryOf}
use Rattle.pc_checking.specs.models.Rows.{numbered_from, TellFirst, AreFirst}

-- ---- one entry more

more_from : (n : ℕ) (found : Option ℕ) → numbered_from (n + 1) found ≡ numbered_from n (next_number found)
more_from n None = refl
more_from n (Some number) = ap (λ (k : ℕ). Some k) (let e : n + 1 + number ≡ n + suc number = omega arith in e)

-- an entry before others, whose number is put at its row
told_before : (entry : Entry) (entries : List Entry) (n : ℕ) (firsts : List (Option ℕ)) → TellFirst entries (n + 1) firsts
    → TellFirst (entry ∷ entries) n (slice_set firsts entry.row (Some n))
told_before entry entries n firsts told row within = elim (eqb_tells entry.row row) [
  | inl same ↦ (
      let there = set_there firsts entry.row (Some n) (omega (arith, same, below)) in
      ap (λ (k : ℕ). slice_get (slice_set firsts entry.row (Some n)) k) (sym same.1) ∙ there ∙ ap (λ (k : ℕ). Some (Some k)) (let e : n ≡ n + 0 = omega arith in e)
      ∙ ap (λ (b : Bool). Some (numbered_from n (if b then Some 0 else next_number (entry_number entries row)))) (sym same.0)
      )
  | inr apart ↦ (
      set_elsewhere firsts entry.row row (Some n) apart.1 ∙ told row below ∙ ap (λ (o : Option ℕ). Some o) (more_from n (entry_number entries row))
      ∙ ap (λ (b : Bool). Some (numbered_from n (if b then Some 0 else next_number (entry_number entries row)))) (sym apart.0)
      )
]
  where
    below : row < length firsts
    below = let many = length-set firsts entry.row (Some n) in omega (arith, many, within)

pub told_more : (entries : List Entry) (n next : ℕ) (default : Entry) (firsts new : List (Option ℕ)) → n < length entries → n + 1 ≡ next
    → new ≡ slice_set firsts (get_or entries n default).row (Some n) → TellFirst (drop next entries) next firsts → TellFirst (drop n entries) n new
told_more entries n next default firsts new within one is told =
    let entry = get_or entries n default in
    let rest : drop n entries ≡ entry ∷ drop (n + 1) entries =
    drop-cons entries n default within ∙ ap (λ (k : ℕ). entry ∷ drop k entries) (let e : suc n ≡ n + 1 = omega arith in e) in
    let before = subst (λ (k : ℕ). TellFirst (drop k entries) k firsts) (sym one) told in
    subst (λ (list : List Entry). TellFirst list n new) (sym rest)
    (subst (λ (list : List (Option ℕ)). TellFirst (entry ∷ drop (n + 1) entries) n list) (sym is) (told_before entry (drop (n + 1) entries) n firsts before))

-- where there is no place nothing is put
pub put_nowhere : {X : Type 0} (xs : List X) (i : ℕ) (x : X) → length xs ≤ i → xs ≡ slice_set xs i x
put_nowhere [] i x le = refl
put_nowhere (y ∷ xs) zero x le = absurd (omega (arith, le))
put_nowhere (y ∷ xs) (suc i) x le = ap (λ list. y ∷ list) (put_nowhere xs i x (omega (arith, le)))

-- ---- no entry, and all

abbrev nothing : ℕ → List (Option ℕ)
nothing rows = replicate rows None

none_put : (rows row : ℕ) → row < length (nothing rows) → slice_get (nothing rows) row ≡ Some None
none_put zero row h = absurd (omega (arith, h))
none_put (suc rows) zero h = refl
none_put (suc rows) (suc row) h = none_put rows row (omega (arith, h))

drop_all : (entries : List Entry) → drop (length entries) entries ≡ []
drop_all [] = refl
drop_all (entry ∷ entries) = drop_all entries

pub told_none : (entries : List Entry) (rows : ℕ) (firsts : List (Option ℕ)) → firsts ≡ nothing rows → TellFirst (drop (length entries) entries) (length entries) firsts
told_none entries rows firsts is row within =
    ap (λ list. slice_get list row) is ∙ none_put rows row (subst (λ list. row < length list) is within)
    ∙ ap (λ (list : List Entry). Some (numbered_from (length entries) (entry_number list row))) (sym (drop_all entries))

from_zero : (found : Option ℕ) → numbered_from 0 found ≡ found
from_zero None = refl
from_zero (Some number) = ap (λ (k : ℕ). Some k) (let e : 0 + number ≡ number = omega arith in e)

pub told_all : (entries : List Entry) (n : ℕ) (firsts : List (Option ℕ)) → n ≤ 0 → TellFirst (drop n entries) n firsts → AreFirst entries firsts
told_all entries n firsts none told row within =
    let is : n ≡ 0 = omega (arith, none) in
    (subst (λ (k : ℕ). TellFirst (drop k entries) k firsts) is told) row within ∙ ap (λ (o : Option ℕ). Some o) (from_zero (entry_number entries row))

-- ---- the entry of a row

within_more : (found : Option ℕ) (number most : ℕ) → ((k : ℕ) → found ≡ Some k → k < most) → next_number found ≡ Some number → number < suc most
within_more None number most within is = absurd (cc)
within_more (Some k) number most within is = let e : suc k ≡ number = cc in let less = within k refl in omega (arith, e, less)

pub number_within : (entries : List Entry) (row number : ℕ) → entry_number entries row ≡ Some number → number < length entries
number_within [] row number is = absurd (cc)
number_within (entry ∷ entries) row number is = choose (nat_eq entry.row row) is (λ k e. number_within entries row k e)
  where
    choose : (b : Bool) → (if b then Some 0 else next_number (entry_number entries row)) ≡ Some number
        → ((k : ℕ) → entry_number entries row ≡ Some k → k < length entries) → number < suc (length entries)
    choose true e more = let zero_is : 0 ≡ number = cc in omega (arith, zero_is)
    choose false e more = within_more (entry_number entries row) number (length entries) more e

-- what stands at a row of a list that tells it
pub number_is : (entries : List Entry) (firsts : List (Option ℕ)) (row : ℕ) → AreFirst entries firsts → row < length firsts
    → slice_index_or firsts row None ≡ entry_number entries row
number_is entries firsts row first within =
    some_one (slice_index_or firsts row None) (entry_number entries row) (sym (slice_get-get_or firsts row None within) ∙ first row within)
  where
    some_one : {A : Type 0} (x y : A) → Some x ≡ Some y → x ≡ y
    some_one x y e = cc

pub found_within : (entries : List Entry) (row : ℕ) (found : Option ℕ) → found ≡ entry_number entries row → IfSome found (λ number. number < length entries)
found_within entries row None is = tt
found_within entries row (Some number) is = number_within entries row number (sym is)

-- an entry is the first that speaks of a row
pub is_entry : (entries : List Entry) (row number : ℕ) (entry : Entry) → Some number ≡ entry_number entries row → number < length entries → entry ≡ get_or entries number entry
    → IsEntryOf entries row number entry
is_entry entries row number entry is within there =
    record { first = sym is; there = slice_get_read entries (length entries) number entry refl within there }
