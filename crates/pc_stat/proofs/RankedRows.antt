-- The busiest rows, one row more at a time.
use Rattle.std.proofs.Common.{◌≡◌, ℕ, zero, suc, ◌+◌, ◌<◌, ◌≤◌, Bool, true, false, cond, not, List, [], ◌∷◌, ◌++◌, length, take, refl, sym, ap, subst, append_assoc, append-nil, inl, inr, arith}
use Rattle.std.specs.Prelude.{◌⊎◌, if◌then◌else◌, insert, nat_eq, nat_lt, Some, slice_get}
use Rattle.std.specs.List.{AllByRecursion, position_or_len}
use Rattle.pc_word.proofs.Places.{get_front, get_last, get_more, length_more, same_number, other_number}
use Rattle.pc_word.proofs.Lists.{all_imply}
use Rattle.pc_word.proofs.Truth.{less_of, most_of}
use Rattle.pc_stat.specs.declared.ranking.RowCount.{RowCount}
use Rattle.pc_stat.specs.Busiest.{busier, busiest_of, most_told, with_row}
use Rattle.pc_stat.specs.Laws.{AreBusiest, AreRanked, HasRun, IsBefore, IsCutOff, IsTold}

-- ---- where a row is put

-- whether a row ran less often than this one
ran_less : RowCount → RowCount → Bool
ran_less row other = nat_lt other.cycles row.cycles

-- in front of the first row, if that ran less often, or else among the rest
with_row-cons : (row first : RowCount) (rest : List RowCount)
    → with_row row (first ∷ rest) ≡ (if nat_lt first.cycles row.cycles then row ∷ first ∷ rest else first ∷ with_row row rest)
with_row-cons row first rest = by (nat_lt first.cycles row.cycles)
  where
    later : ℕ
    later = position_or_len (λ (other : RowCount). nat_lt other.cycles row.cycles) rest

    one_more_place : 1 + later ≡ suc later
    one_more_place = omega arith

    by : (b : Bool) → insert (first ∷ rest) (cond (not b) (1 + later) 0) row ≡ (if b then row ∷ first ∷ rest else first ∷ with_row row rest)
    by true = refl
    by false = ap (λ (place : ℕ). insert (first ∷ rest) place row) one_more_place

-- a fact of both outcomes is one of a row that was put among others
put_among : (P : List RowCount → Type 0) (row first : RowCount) (rest : List RowCount)
    → (first.cycles < row.cycles → P (row ∷ first ∷ rest)) → (row.cycles ≤ first.cycles → P (first ∷ with_row row rest))
    → P (with_row row (first ∷ rest))
put_among P row first rest front among = subst P (sym (with_row-cons row first rest)) (by (nat_lt first.cycles row.cycles) refl)
  where
    by : (b : Bool) → nat_lt first.cycles row.cycles ≡ b → P (if b then row ∷ first ∷ rest else first ∷ with_row row rest)
    by true e = front (less_of first.cycles row.cycles e)
    by false e = among (most_of first.cycles row.cycles e)

all_with : (P : RowCount → Type 0) (row : RowCount) (rows : List RowCount) → P row → AllByRecursion P rows → AllByRecursion P (with_row row rows)
all_with P row [] here all = (here, tt)
all_with P row (first ∷ rest) here all =
    put_among (AllByRecursion P) row first rest (λ less. (here, all)) (λ most. (all.0, all_with P row rest here all.1))

length-with_row : (row : RowCount) (rows : List RowCount) → length (with_row row rows) ≡ suc (length rows)
length-with_row row [] = refl
length-with_row row (first ∷ rest) =
    put_among (λ rows. length rows ≡ suc (suc (length rest))) row first rest (λ less. refl) (λ most. ap suc (length-with_row row rest))

told_with : (row : RowCount) (rows : List RowCount) → IsTold row (with_row row rows)
told_with row [] = inl refl
told_with row (first ∷ rest) = put_among (IsTold row) row first rest (λ less. inl refl) (λ most. inr (told_with row rest))

told_still : (other row : RowCount) (rows : List RowCount) → IsTold other rows → IsTold other (with_row row rows)
told_still other row [] told = absurd told
told_still other row (first ∷ rest) told =
    put_among (IsTold other) row first rest (λ less. inr told) (λ most. elim told [
      | inl same ↦ inl same
      | inr later ↦ inr (told_still other row rest later)
    ])

-- ---- ranks

before_trans : (a b c : RowCount) → IsBefore a b → IsBefore b c → IsBefore a c
before_trans a b c (inl p) (inl q) = inl (omega (arith, p, q))
before_trans a b c (inl p) (inr q) = inl (omega (arith, p, q.0))
before_trans a b c (inr p) (inl q) = inl (omega (arith, p.0, q))
before_trans a b c (inr p) (inr q) = inr (omega (arith, p.0, q.0), omega (arith, p.1, q.1))

-- one that ran at least as often and stands first is told first
at_least_before : (a b : RowCount) → b.cycles ≤ a.cycles → a.number < b.number → IsBefore a b
at_least_before a b most first = by (nat_lt b.cycles a.cycles) refl
  where
    by : (t : Bool) → nat_lt b.cycles a.cycles ≡ t → IsBefore a b
    by true e = inl (less_of b.cycles a.cycles e)
    by false e = inr (omega (arith, most, most_of b.cycles a.cycles e), first)

-- a row that stands after all others in the code is ranked where it is put
ranked_with : (row : RowCount) (rows : List RowCount) → AllByRecursion (λ other. other.number < row.number) rows → AreRanked rows
    → AreRanked (with_row row rows)
ranked_with row [] later ranked = (tt, tt)
ranked_with row (first ∷ rest) later ranked =
    put_among AreRanked row first rest
    (λ less. ((inl less, all_imply (IsBefore first) (IsBefore row) rest (λ other after. before_trans row first other (inl less) after) ranked.0), ranked))
    (λ most. (all_with (IsBefore first) row rest (at_least_before first row most later.0) ranked.0, ranked_with row rest later.1 ranked.1))

-- ---- the first of them

all_take : (P : RowCount → Type 0) (n : ℕ) (rows : List RowCount) → AllByRecursion P rows → AllByRecursion P (take n rows)
all_take P zero rows all = tt
all_take P (suc n) [] all = tt
all_take P (suc n) (row ∷ rest) all = (all.0, all_take P n rest all.1)

ranked_take : (n : ℕ) (rows : List RowCount) → AreRanked rows → AreRanked (take n rows)
ranked_take zero rows ranked = tt
ranked_take (suc n) [] ranked = tt
ranked_take (suc n) (row ∷ rest) ranked = (all_take (IsBefore row) n rest ranked.0, ranked_take n rest ranked.1)

few_taken : (n : ℕ) (rows : List RowCount) → length (take n rows) ≤ n
few_taken zero rows = omega arith
few_taken (suc n) [] = omega arith
few_taken (suc n) (row ∷ rest) = omega (arith, few_taken n rest)

all_taken : (n : ℕ) (rows : List RowCount) → n ≤ length rows → length (take n rows) ≡ n
all_taken zero rows h = refl
all_taken (suc n) [] h = absurd (omega (arith, h))
all_taken (suc n) (row ∷ rest) h = ap suc (all_taken n rest (omega (arith, h)))

told_after_first : (first row : RowCount) (rest : List RowCount) → AllByRecursion (IsBefore first) rest → IsTold row rest → IsBefore first row
told_after_first first row [] all told = absurd told
told_after_first first row (other ∷ rest) all (inl same) = subst (IsBefore first) same all.0
told_after_first first row (other ∷ rest) all (inr later) = told_after_first first row rest all.1 later

-- of ranked rows one is among the first n, or comes after n of them
abbrev Stays : (n : ℕ) (row : RowCount) (rows : List RowCount) → Type 0
Stays n row rows = IsTold row (take n rows) ⊎ ((length (take n rows) ≡ n) × AllByRecursion (λ told. IsBefore told row) (take n rows))

told_or_after : (n : ℕ) (row : RowCount) (rows : List RowCount) → AreRanked rows → IsTold row rows → Stays n row rows
told_or_after zero row rows ranked told = inr (refl, tt)
told_or_after (suc n) row [] ranked told = absurd told
told_or_after (suc n) row (first ∷ rest) ranked (inl same) = inl (inl same)
told_or_after (suc n) row (first ∷ rest) ranked (inr later) = elim (told_or_after n row rest ranked.1 later) [
  | inl told ↦ inl (inr told)
  | inr after ↦ inr (ap suc after.0, (told_after_first first row rest ranked.0 later, after.1))
]

-- where n rows come before one, so do the first n with a row besides
before_still : (row other : RowCount) (rows : List RowCount) → AllByRecursion (λ told. IsBefore told other) rows
    → AllByRecursion (λ told. IsBefore told other) (take (length rows) (with_row row rows))
before_still row other [] all = tt
before_still row other (first ∷ rest) all =
    put_among (λ rows. AllByRecursion (λ told. IsBefore told other) (take (suc (length rest)) rows)) row first rest
    (λ less. (before_trans row first other (inl less) all.0, all_take (λ told. IsBefore told other) (length rest) (first ∷ rest) all))
    (λ most. (all.0, before_still row other rest all.1))

-- ---- one count more

ran_of_more : (counts : List ℕ) (cycles : ℕ) (row : RowCount) → HasRun counts row → HasRun (counts ++ cycles ∷ []) row
ran_of_more counts cycles row ran = (get_front counts (cycles ∷ []) row.number row.cycles ran.0, ran.1)

within : (counts : List ℕ) (i x : ℕ) → slice_get counts i ≡ Some x → i < length counts
within [] i x at = absurd (cc)
within (c ∷ counts) zero x at = omega arith
within (c ∷ counts) (suc i) x at = omega (arith, within counts i x at)

-- a row that ran by the counts and one more ran by the counts, or it is the new one
old_or_new : (counts : List ℕ) (cycles : ℕ) (row : RowCount) → HasRun (counts ++ cycles ∷ []) row
    → HasRun counts row ⊎ ◌≡◌ {A = RowCount} (record { number = length counts; cycles = cycles }) row
old_or_new counts cycles row ran = by (get_more counts cycles row.number row.cycles ran.0)
  where
    by : (slice_get counts row.number ≡ Some row.cycles) ⊎ ((row.number ≡ length counts) × (cycles ≡ row.cycles))
        → HasRun counts row ⊎ ◌≡◌ {A = RowCount} (record { number = length counts; cycles = cycles }) row
    by (inl at) = inl (at, ran.1)
    by (inr is) = inr (λ i. record { number = sym is.0 i; cycles = is.1 i })

-- the numbers of rows that ran are below the number of counts
below_all : (counts : List ℕ) (rows : List RowCount) → AllByRecursion (HasRun counts) rows → AllByRecursion (λ other. other.number < length counts) rows
below_all counts rows ran =
    all_imply (HasRun counts) (λ other. other.number < length counts) rows (λ other is. within counts other.number other.cycles is.0) ran

-- a row besides that never ran changes nothing
idle_more : (counts : List ℕ) (rows : List RowCount) → AreBusiest counts rows → AreBusiest (counts ++ 0 ∷ []) rows
idle_more counts rows is = record {
  few = is.few;
  ran = all_imply (HasRun counts) (HasRun (counts ++ 0 ∷ [])) rows (λ row ran. ran_of_more counts 0 row ran) is.ran;
  ranked = is.ranked;
  others = λ row ran. by row ran (old_or_new counts 0 row ran);
}
  where
    by : (row : RowCount) → HasRun (counts ++ 0 ∷ []) row
        → HasRun counts row ⊎ ◌≡◌ {A = RowCount} (record { number = length counts; cycles = 0 }) row → IsTold row rows ⊎ IsCutOff row rows
    by row ran (inl old) = is.others row old
    by row ran (inr new) = absurd (omega (arith, ran.1, ap (λ (r : RowCount). r.cycles) new))

-- a row besides that ran is put among them
row_more : (counts : List ℕ) (cycles : ℕ) (rows : List RowCount) → 1 ≤ cycles → AreBusiest counts rows
    → AreBusiest (counts ++ cycles ∷ []) (take most_told (with_row (record { number = length counts; cycles = cycles }) rows))
row_more counts cycles rows some is = record {
  few = few_taken most_told all;
  ran = all_take (HasRun more) most_told all (all_with (HasRun more) new rows (get_last counts cycles, some)
      (all_imply (HasRun counts) (HasRun more) rows (λ row ran. ran_of_more counts cycles row ran) is.ran));
  ranked = ranked_take most_told all ranked;
  others = λ row ran. by row (old_or_new counts cycles row ran);
}
  where
    more : List ℕ
    more = counts ++ cycles ∷ []

    new : RowCount
    new = record { number = length counts; cycles = cycles }

    all : List RowCount
    all = with_row new rows

    ranked : AreRanked all
    ranked = ranked_with new rows (below_all counts rows is.ran) is.ranked

    kept : (row : RowCount) → Stays most_told row all → IsTold row (take most_told all) ⊎ IsCutOff row (take most_told all)
    kept row (inl told) = inl told
    kept row (inr after) = inr (record { full = after.0; after = after.1 })

    old : (row : RowCount) → IsTold row rows ⊎ IsCutOff row rows → IsTold row (take most_told all) ⊎ IsCutOff row (take most_told all)
    old row (inl told) = kept row (told_or_after most_told row all ranked (told_still row new rows told))
    old row (inr cut) = inr (record {
      full = all_taken most_told all (omega (arith, cut.full, length-with_row new rows));
      after = subst (λ n. AllByRecursion (λ told. IsBefore told row) (take n all)) cut.full (before_still new row rows cut.after);
    })

    by : (row : RowCount) → HasRun counts row ⊎ ◌≡◌ {A = RowCount} new row → IsTold row (take most_told all) ⊎ IsCutOff row (take most_told all)
    by row (inl ran) = old row (is.others row ran)
    by row (inr same) = kept row (told_or_after most_told row all ranked (subst (λ r. IsTold r all) same (told_with new rows)))

-- one row more
one_more : (counts : List ℕ) (cycles : ℕ) (rows : List RowCount) → AreBusiest counts rows
    → AreBusiest (counts ++ cycles ∷ []) (busier (record { number = length counts; cycles = cycles }) rows)
one_more counts cycles rows is = by (nat_eq cycles 0) refl
  where
    by : (b : Bool) → nat_eq cycles 0 ≡ b
        → AreBusiest (counts ++ cycles ∷ [])
        (if b then rows else take most_told (with_row (record { number = length counts; cycles = cycles }) rows))
    by true e = subst (λ c. AreBusiest (counts ++ c ∷ []) rows) (sym (same_number cycles 0 e)) (idle_more counts rows is)
    by false e = row_more counts cycles rows (omega (arith, other_number cycles 0 e)) is

-- ---- all of them

busiest_more : (done counts : List ℕ) (rows : List RowCount) → AreBusiest done rows
    → AreBusiest (done ++ counts) (busiest_of rows (length done) counts)
busiest_more done [] rows is = subst (λ counts. AreBusiest counts rows) (sym (append-nil done)) is
busiest_more done (cycles ∷ counts) rows is =
    subst (λ all. AreBusiest all (busiest_of next (suc (length done)) counts)) (append_assoc done (cycles ∷ []) counts)
    (subst (λ n. AreBusiest ((done ++ cycles ∷ []) ++ counts) (busiest_of next n counts)) (length_more done cycles)
    (busiest_more (done ++ cycles ∷ []) counts next (one_more done cycles rows is)))
  where
    next : List RowCount
    next = busier (record { number = length done; cycles = cycles }) rows

pub busiest-are : (counts : List ℕ) → AreBusiest counts (busiest_of [] 0 counts)
busiest-are counts = busiest_more [] counts [] (record { few = omega arith; ran = tt; ranked = tt; others = λ row ran. absurd (cc) })
