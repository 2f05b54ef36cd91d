-- Regions that are found, and their marks.
use Rattle.std.proofs.Common.{◌≡◌, ◌≢◌, ℕ, zero, suc, ◌+◌, ◌<◌, ◌≤◌, inl, inr, Bool, true, false, ◌||◌}
use Rattle.std.proofs.Common.{cond, List, [], ◌∷◌, ◌++◌, length, Some, refl, sym, ◌∙◌, ap, subst, arith, get_or}
use Rattle.std.specs.Prelude.{nat_eq, slice_get, slice_set, replicate}
use Rattle.std.specs.List.{list_any, count_by}
use Rattle.std.proofs.lemmas.List.Sums.{count_by-le-length}
use Rattle.std.proofs.lemmas.Option.{slice_get_within, slice_get-get_or}
use Rattle.pc_word.proofs.Lists.{count_more, set_at, set_length, all_both, all_imply, all_at}
use Rattle.pc_compile.specs.models.Marked.{Marked, IsMarked, none_found, Finds}
use Rattle.pc_word.proofs.Places.{own_number, number_apart, length_more}

-- ---- none is found

none_marked : (count region : ℕ) (mark : Bool) → slice_get (replicate count false) region ≡ Some mark → false ≡ mark
none_marked zero region mark e = absurd (cc)
none_marked (suc count) zero mark e = cc
none_marked (suc count) (suc region) mark e = none_marked count region mark e

none_counted : (count : ℕ) → count_by (λ mark. mark) (replicate count false) ≡ 0
none_counted zero = refl
none_counted (suc count) =
    let more = count_more (λ mark. mark) false (replicate count false) in
    let rest = none_counted count in
    omega (arith, more, rest)

pub none_is_marked : (count : ℕ) → IsMarked (none_found count)
none_is_marked count = record {
  as_many = sym (none_counted count);
  there = tt;
  says = λ region mark e. none_marked count region mark e;
}

-- ---- one more

-- a mark that is set is counted
count_set : (marks : List Bool) (region : ℕ) → slice_get marks region ≡ Some false
    → count_by (λ mark. mark) (slice_set marks region true) ≡ suc (count_by (λ mark. mark) marks)
count_set [] region e = absurd (cc)
count_set (mark ∷ marks) zero e =
    let is : mark ≡ false = (cc) in
    let more = count_more (λ b. b) true marks in
    let before = subst (λ (b : Bool). count_by (λ c. c) (mark ∷ marks) ≡ cond b 1 0 + count_by (λ c. c) marks) is (count_more (λ b. b) mark marks) in
    omega (arith, more, before)
count_set (mark ∷ marks) (suc region) e =
    let more = count_more (λ b. b) mark (slice_set marks region true) in
    let before = count_more (λ b. b) mark marks in
    let rest = count_set marks region e in
    omega (arith, more, before, rest)

-- the marks and the order with a region more
abbrev pub marked_next : Marked → ℕ → Marked
marked_next it region = record { marks = slice_set it.marks region true; order = it.order ++ region ∷ [] }

listed_last : (order : List ℕ) (region : ℕ) → list_any (nat_eq region) (order ++ region ∷ []) ≡ true
listed_last [] region = subst (λ (b : Bool). (b || false) ≡ true) (sym (own_number region)) refl
listed_last (first ∷ order) region = by (nat_eq region first) (listed_last order region)
  where
    by : (b : Bool) → list_any (nat_eq region) (order ++ region ∷ []) ≡ true → (b || list_any (nat_eq region) (order ++ region ∷ [])) ≡ true
    by true h = refl
    by false h = h

listed_else : (order : List ℕ) (region other : ℕ) → other ≢ region
    → list_any (nat_eq other) (order ++ region ∷ []) ≡ list_any (nat_eq other) order
listed_else [] region other differ = subst (λ (b : Bool). (b || false) ≡ false) (sym (number_apart other region differ)) refl
listed_else (first ∷ order) region other differ = ap (λ (b : Bool). nat_eq other first || b) (listed_else order region other differ)

pub next_is_marked : (it : Marked) (region : ℕ) → IsMarked it → slice_get it.marks region ≡ Some false → IsMarked (marked_next it region)
next_is_marked it region is free =
    let same = set_length it.marks region true in
    let below = slice_get_within it.marks region false free in
    record {
      as_many = length_more it.order region ∙ ap suc is.as_many ∙ sym (count_set it.marks region free);
      there =
          all_both (λ other. other < length (slice_set it.marks region true)) it.order (region ∷ [])
          (all_imply (λ other. other < length it.marks) (λ other. other < length (slice_set it.marks region true)) it.order (λ other h. omega (arith, same)) is.there)
          (omega (arith, same, below), tt);
      says = λ other mark e. elim (set_at it.marks region other true mark e) [
        | inl h ↦
            subst (λ (r : ℕ). list_any (nat_eq r) (it.order ++ region ∷ []) ≡ mark) (sym h.0)
            (listed_last it.order region ∙ sym h.1)
        | inr h ↦ listed_else it.order region other h.0 ∙ is.says other mark h.1
      ];
    }

-- so are marks and an order that are those
pub next_marked : (it new : Marked) (region : ℕ) → IsMarked it → slice_get it.marks region ≡ Some false
    → new.marks ≡ slice_set it.marks region true → new.order ≡ it.order ++ region ∷ [] → IsMarked new
next_marked it new region is free marks order =
    subst IsMarked (λ i. record { marks = sym marks i; order = sym order i }) (next_is_marked it region is free)

-- a mark that is read stands there
pub mark_read : (marks : List Bool) (region : ℕ) (mark : Bool) → region < length marks → get_or marks region false ≡ mark → slice_get marks region ≡ Some mark
mark_read marks region mark lt e = slice_get-get_or marks region false lt ∙ ap Some e

-- ---- what is found

-- a region that is not marked is found
pub found_next : (it new : Marked) (region : ℕ) → IsMarked it → slice_get it.marks region ≡ Some false
    → new.marks ≡ slice_set it.marks region true → new.order ≡ it.order ++ region ∷ [] → Finds (region ∷ []) it new
found_next it new region is free marks order = record {
  order = let none : list_any (nat_eq region) it.order ≡ false = is.says region false free in
      order ∙ sym (ap (λ (b : Bool). cond b it.order (it.order ++ region ∷ [])) none);
  as_many = ap length marks ∙ set_length it.marks region true;
}

-- ---- how many are found

-- no more than there are
pub no_more_found : (it : Marked) → IsMarked it → length it.order ≤ length it.marks
no_more_found it is = let as_many = is.as_many in let few = count_by-le-length (λ mark. mark) it.marks in omega (arith, as_many, few)

-- each is there
pub found_there : (it : Marked) (at region : ℕ) → IsMarked it → slice_get it.order at ≡ Some region → region < length it.marks
found_there it at region is e = all_at (λ other. other < length it.marks) it.order at region is.there e
