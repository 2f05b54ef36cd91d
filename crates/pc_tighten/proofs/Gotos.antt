-- Rounds in which rows that are a goto alone go.
use Rattle.std.proofs.Common.{◌≡◌, ◌≢◌, ℕ, zero, suc, ◌+◌, ◌-◌, ◌<◌, ◌≤◌, ◌⊎◌, inl, inr, Bool, true, false, List}
use Rattle.std.proofs.Common.{[], ◌∷◌, ◌++◌, map, reverse, length, Option, Some, None, is_some, refl, sym, ◌∙◌, ap, subst, append_assoc, arith}
use Rattle.std.specs.Prelude.{if◌then◌else◌, nat_eq, nat_lt, slice_get, slice_set}
use Rattle.std.specs.Option.{option_map}
use Rattle.std.proofs.lemmas.Bool.Decides.{nat_tests}
use Rattle.std.proofs.lemmas.Option.{slice_get-map, slice_get_past, slice_get_within}
use Rattle.std.proofs.lemmas.List.{length-map, map-append, reverse-append}
use Rattle.pc_word.specs.Row.{Then, Either, At_leaf}
use Rattle.pc_machine.specs.declared.tree.Leaf.TheVariants.{Goto, Stop, Trap}
use Rattle.pc_machine.specs.MachineCode.{CodeRow, RowCode, row_of, rows_of}
use Rattle.pc_word.specs.declared.row_tree.RowTree.{RowTree}
use Rattle.pc_machine.specs.declared.tree.Leaf.{Leaf}
use Rattle.pc_tighten.specs.declared.removing.Places.{Places}
use Rattle.pc_tighten.specs.Removals.{IsGotoAlone, HasNoGotoAlone}
use Rattle.pc_tighten.specs.Removing.{unmarked_rows, rank, placed_row, Shrinks, AreMarks}
use Rattle.pc_tighten.specs.Tightened.{No_removal}
use Rattle.pc_tighten.specs.models.Gotos.{goto_of, gotos_of, unless_stays, goto_target, unless_leads_on, if_at_end, sent_on, goes, new_place_by, new_place, AreCounted, AreRanks, ArePlacesFrom}
use Rattle.pc_tighten.specs.models.Gotos.{rows_left, RowsShrink, HasRemoved, AreRemoved}
use Rattle.pc_tighten.specs.models.Raising.{code_with}
use Rattle.pc_tighten.proofs.Lists.{nat_eq-apart}
use Rattle.pc_tighten.proofs.Moves.{same_or_apart}
use Rattle.pc_tighten.proofs.Shrunk.{marked_go, none_alone}
use Rattle.pc_tighten.proofs.Tightened.{removals_on, removals_keep_reachable}
use Rattle.pc_word.proofs.Places.{get_front, get_last, length_more, set_there, set_elsewhere}

-- ---- how many stay below a number

-- one number more
rank_last : (marks : ℕ → Bool) (n : ℕ) → rank marks (suc n) ≡ (if marks n then rank marks n else suc (rank marks n))
rank_last marks zero = refl
rank_last marks (suc n) = by_tests (marks 0) (marks (suc n)) (rank (λ k. marks (suc k)) (suc n)) (rank (λ k. marks (suc k)) n) (rank_last (λ k. marks (suc k)) n)
  where
    by_tests : (b c : Bool) (x y : ℕ) → x ≡ (if c then y else suc y) → (if b then x else suc x) ≡ (if c then (if b then y else suc y) else suc (if b then y else suc y))
    by_tests true true x y e = e
    by_tests true false x y e = e
    by_tests false true x y e = ap suc e
    by_tests false false x y e = ap suc e

rank_most : (marks : ℕ → Bool) (n : ℕ) → rank marks n ≤ n
rank_most marks zero = omega arith
rank_most marks (suc n) = by_test (marks 0) (rank (λ k. marks (suc k)) n) (rank_most (λ k. marks (suc k)) n)
  where
    by_test : (b : Bool) (x : ℕ) → x ≤ n → (if b then x else suc x) ≤ suc n
    by_test true x h = omega arith
    by_test false x h = omega arith

-- fewer where a number below is marked
rank_fewer : (marks : ℕ → Bool) (n t : ℕ) → t < n → marks t ≡ true → rank marks n < n
rank_fewer marks zero t low e = absurd (omega arith)
rank_fewer marks (suc n) zero low e = by_test (marks 0) e (rank (λ k. marks (suc k)) n) (rank_most (λ k. marks (suc k)) n)
  where
    by_test : (b : Bool) → b ≡ true → (x : ℕ) → x ≤ n → (if b then x else suc x) < suc n
    by_test true e x h = omega arith
    by_test false e x h = absurd (cc)
rank_fewer marks (suc n) (suc t) low e = by_test (marks 0) (rank (λ k. marks (suc k)) n) (rank_fewer (λ k. marks (suc k)) n t (omega arith) e)
  where
    by_test : (b : Bool) (x : ℕ) → x < n → (if b then x else suc x) < suc n
    by_test true x h = omega arith
    by_test false x h = omega arith

-- beyond the marks each number counts
rank_past : (marks : ℕ → Bool) (n t : ℕ) → n ≤ t → ((x : ℕ) → n ≤ x → marks x ≡ false) → rank marks t + n ≡ rank marks n + t
rank_past marks zero zero le none = refl
rank_past marks (suc n) zero le none = absurd (omega arith)
rank_past marks n (suc t) le none = elim (same_or_apart n (suc t)) [
  | inl same ↦ let e = ap (rank marks) same in omega (arith, e, same)
  | inr apart ↦
      let h = rank_past marks n t (omega arith) none in
      let more = rank_last marks t ∙ ap (λ (b : Bool). if b then rank marks t else suc (rank marks t)) (none t (omega arith)) in
      omega (arith, h, more)
]

-- as many rows are not marked
kept_count : (marks : ℕ → Bool) (rows : List CodeRow) → length (unmarked_rows marks rows) ≡ rank marks (length rows)
kept_count marks [] = refl
kept_count marks (row ∷ rows) = by_test (marks 0) (kept_count (λ k. marks (suc k)) rows)
  where
    by_test : (b : Bool) → length (unmarked_rows (λ k. marks (suc k)) rows) ≡ rank (λ k. marks (suc k)) (length rows)
        → length (if b then unmarked_rows (λ k. marks (suc k)) rows else row ∷ unmarked_rows (λ k. marks (suc k)) rows)
        ≡ (if b then rank (λ k. marks (suc k)) (length rows) else suc (rank (λ k. marks (suc k)) (length rows)))
    by_test true e = e
    by_test false e = ap suc e

-- a row more at the end
kept_last : (marks : ℕ → Bool) (rows : List CodeRow) (row : CodeRow)
    → unmarked_rows marks (rows ++ row ∷ []) ≡ (if marks (length rows) then unmarked_rows marks rows else unmarked_rows marks rows ++ row ∷ [])
kept_last marks [] row = refl
kept_last marks (r ∷ rows) row =
    by_tests (marks 0) (marks (suc (length rows))) (unmarked_rows (λ k. marks (suc k)) (rows ++ row ∷ [])) (unmarked_rows (λ k. marks (suc k)) rows) (kept_last (λ k. marks (suc k)) rows row)
  where
    by_tests : (b c : Bool) (xs ys : List CodeRow) → xs ≡ (if c then ys else ys ++ row ∷ [])
        → (if b then xs else r ∷ xs) ≡ (if c then (if b then ys else r ∷ ys) else (if b then ys else r ∷ ys) ++ row ∷ [])
    by_tests true true xs ys e = e
    by_tests true false xs ys e = e
    by_tests false true xs ys e = ap (λ (l : List CodeRow). r ∷ l) e
    by_tests false false xs ys e = ap (λ (l : List CodeRow). r ∷ l) e

-- ---- which rows go

-- a row other than row 0 is a goto alone to another row
record LeadsOn (gotos : List (Option ℕ)) (t u : ℕ) : Type 0 where
  at : slice_get gotos t ≡ Some (Some u)
  not_entry : t ≢ 0
  not_itself : u ≢ t

clash : (b : Bool) → b ≡ true → b ≡ false → ⊥
clash true p q = absurd (cc)
clash false p q = absurd (cc)

leads_on : (gotos : List (Option ℕ)) (t u : ℕ) → goto_target gotos t ≡ Some u → LeadsOn gotos t u
leads_on gotos t u is = by_entry (slice_get gotos t) refl is
  where
    by_tests : (v : ℕ) (a b : Bool) → slice_get gotos t ≡ Some (Some v) → nat_eq t 0 ≡ a → nat_eq v t ≡ b
        → (let target : Option ℕ = if a then None else (if b then None else Some v) in target) ≡ Some u → LeadsOn gotos t u
    by_tests v true b at first itself is = absurd (cc)
    by_tests v false true at first itself is = absurd (cc)
    by_tests v false false at first itself is =
        let same : v ≡ u = (cc) in
        subst (LeadsOn gotos t) same (record { at = at; not_entry = λ e. grind (arith, nat_tests); not_itself = λ e. grind (arith, nat_tests) })

    by_entry : (o : Option (Option ℕ)) → slice_get gotos t ≡ o → unless_stays t o ≡ Some u → LeadsOn gotos t u
    by_entry (Some (Some v)) at is = by_tests v (nat_eq t 0) (nat_eq v t) at refl refl is
    by_entry (Some None) at is = absurd (cc)
    by_entry None at is = absurd (cc)

-- a row that goes, and where what leads to it is sent on
record GoesTo (gotos : List (Option ℕ)) (t u : ℕ) : Type 0 where
  leads : LeadsOn gotos t u
  later : (t < u) ⊎ (goes gotos u ≡ false)

goes_to : (gotos : List (Option ℕ)) (t u : ℕ) → sent_on gotos t ≡ Some u → GoesTo gotos t u
goes_to gotos t u is = by_target (goto_target gotos t) refl is
  where
    by_next : (v : ℕ) (o : Option ℕ) → goto_target gotos t ≡ Some v → goto_target gotos v ≡ o → unless_leads_on v o ≡ Some u → GoesTo gotos t u
    by_next v None to next is =
        let same : v ≡ u = (cc) in
        subst (GoesTo gotos t) same (record { leads = leads_on gotos t v to; later = inr (ap (λ (o : Option ℕ). is_some (if_at_end gotos v o)) next) })
    by_next v (Some w) to next is = absurd (cc)

    by_test : (v : ℕ) (b : Bool) → nat_lt t v ≡ b → goto_target gotos t ≡ Some v → (if b then Some v else unless_leads_on v (goto_target gotos v)) ≡ Some u → GoesTo gotos t u
    by_test v true less to is =
        let same : v ≡ u = (cc) in
        subst (GoesTo gotos t) same (record { leads = leads_on gotos t v to; later = inl (grind (arith, nat_tests)) })
    by_test v false less to is = by_next v (goto_target gotos v) to refl is

    by_target : (o : Option ℕ) → goto_target gotos t ≡ o → if_at_end gotos t o ≡ Some u → GoesTo gotos t u
    by_target None to is = absurd (cc)
    by_target (Some v) to is = by_test v (nat_lt t v) refl to is

-- no row goes where there is none
goes_past : (gotos : List (Option ℕ)) (t : ℕ) → length gotos ≤ t → sent_on gotos t ≡ None
goes_past gotos t le = ap (λ (o : Option (Option ℕ)). if_at_end gotos t (unless_stays t o)) (slice_get_past gotos t le)

-- a row that goes is there
pub goes_within : (gotos : List (Option ℕ)) (t u : ℕ) → sent_on gotos t ≡ Some u → t < length gotos
goes_within gotos t u is = slice_get_within gotos t (Some u) (goes_to gotos t u is).leads.at

some_of : (o : Option ℕ) → is_some o ≡ true → (u : ℕ) × (o ≡ Some u)
some_of (Some u) e = (u, refl)
some_of None e = absurd (cc)

-- ---- places

decide : (a b : ℕ) → (a < b) ⊎ (b ≤ a)
decide a b = grind arith

-- a table with the ranks of so many rows, and how many of these go
pub record AreRanked (gotos : List (Option ℕ)) (places : List ℕ) (gone count : ℕ) : Type 0 where
  pub size : length places ≡ count
  pub together : rank (goes gotos) count + gone ≡ count
  pub ranks : (t : ℕ) → t < count → slice_get places t ≡ Some (rank (goes gotos) t)

-- one row more
pub ranked_more : (gotos : List (Option ℕ)) (places now : List ℕ) (gone left n place : ℕ) (goes_now : Bool) → AreRanked gotos places gone n
    → now ≡ places ++ place ∷ [] → place ≡ n - gone → goes gotos n ≡ goes_now → left ≡ (if goes_now then gone + 1 else gone) → AreRanked gotos now left (n + 1)
ranked_more gotos places now gone left n place goes_now are is at marked count = record {
  size = ap length is ∙ length_more places place ∙ (let size = are.size in omega (arith, size));
  together = by_test goes_now count (rank_last (goes gotos) n ∙ ap (λ (b : Bool). if b then rank (goes gotos) n else suc (rank (goes gotos) n)) marked);
  ranks = λ t low. elim (same_or_apart t n) [
    | inl same ↦
        ap (slice_get now) (same ∙ sym are.size) ∙ ap (λ (l : List ℕ). slice_get l (length places)) is ∙ get_last places place
        ∙ ap Some (let both = are.together in let r = ap (rank (goes gotos)) same in omega (arith, both, at, r))
    | inr apart ↦ ap (λ (l : List ℕ). slice_get l t) is ∙ get_front places (place ∷ []) t (rank (goes gotos) t) (are.ranks t (omega arith))
  ];
}
  where
    by_test : (b : Bool) → left ≡ (if b then gone + 1 else gone) → rank (goes gotos) (suc n) ≡ (if b then rank (goes gotos) n else suc (rank (goes gotos) n))
        → rank (goes gotos) (n + 1) + left ≡ n + 1
    by_test true l r =
        let e : n + 1 ≡ suc n = omega arith in
        let f = ap (rank (goes gotos)) e in
        let both = are.together in
        omega (arith, l, r, f, both)
    by_test false l r =
        let e : n + 1 ≡ suc n = omega arith in
        let f = ap (rank (goes gotos)) e in
        let both = are.together in
        omega (arith, l, r, f, both)

-- ranks are places of the rows that stay
pub ranks_are_places : (gotos : List (Option ℕ)) (it : Places) → AreRanks gotos it → ArePlacesFrom gotos it (length it.places.items)
ranks_are_places gotos it are = record {
  counted = are.counted;
  stays = λ t none. elim (decide t (length gotos)) [
    | inl less ↦ ap (new_place_by it.gone t) (are.ranks t less)
    | inr more ↦
        let past = ap (new_place_by it.gone t) (slice_get_past it.places.items t (let size = are.counted.size in omega (arith, size, more))) in
        let h = rank_past (goes gotos) (length gotos) t more (λ x le. ap is_some (goes_past gotos x le)) in
        let gone = are.counted.gone in
        past ∙ omega (arith, h, gone)
  ];
  sent = λ t u le is. (let none = goes_past gotos t (let size = are.counted.size in omega (arith, size, le)) in absurd (cc));
}

-- a row that stays leaves the places as they are
pub places_stay : (gotos : List (Option ℕ)) (it : Places) (t : ℕ) → ArePlacesFrom gotos it (suc t) → sent_on gotos t ≡ None → ArePlacesFrom gotos it t
places_stay gotos it t are none = record {
  counted = are.counted;
  stays = are.stays;
  sent = λ x w le is. elim (same_or_apart x t) [
    | inl same ↦ (let e = ap (sent_on gotos) same in absurd (cc))
    | inr apart ↦ are.sent x w (omega arith) is
  ];
}

-- and a row that goes gets the place of the row to which it leads
pub place_sent_on : (gotos : List (Option ℕ)) (it now : Places) (t u : ℕ) → ArePlacesFrom gotos it (suc t) → sent_on gotos t ≡ Some u → t < length it.places.items
    → now.gone ≡ it.gone → now.places.items ≡ slice_set it.places.items t (new_place it u) → ArePlacesFrom gotos now t
place_sent_on gotos it now t u are to low gone set = record {
  counted = record {
    size = ap length set ∙ length_set it.places.items t (new_place it u) ∙ are.counted.size;
    gone = ap (λ (k : ℕ). rank (goes gotos) (length gotos) + k) gone ∙ are.counted.gone;
  };
  stays = λ x none. other x (λ e. clash (goes gotos t) (ap is_some to) (ap (goes gotos) (sym e) ∙ none)) ∙ are.stays x none;
  sent = λ x w le is. elim (same_or_apart x t) [
    | inl same ↦
        let e = ap (sent_on gotos) same in
        let target : u ≡ w = (cc) in
        ap (new_place now) same ∙ here ∙ sym (other u facts.leads.not_itself) ∙ ap (new_place now) target
    | inr apart ↦ other x apart ∙ are.sent x w (omega arith) is ∙ sym (other w (away x w (omega arith) is))
  ];
}
  where
    facts : GoesTo gotos t u
    facts = goes_to gotos t u to

    length_set : (xs : List ℕ) (i v : ℕ) → length (slice_set xs i v) ≡ length xs
    length_set [] i v = refl
    length_set (x ∷ xs) zero v = refl
    length_set (x ∷ xs) (suc i) v = ap suc (length_set xs i v)

    other : (x : ℕ) → x ≢ t → new_place now x ≡ new_place it x
    other x apart =
        ap (λ (k : ℕ). new_place_by k x (slice_get now.places.items x)) gone
        ∙ ap (λ (l : List ℕ). new_place_by it.gone x (slice_get l x)) set
        ∙ ap (new_place_by it.gone x) (set_elsewhere it.places.items t x (new_place it u) (λ e. apart (sym e)))

    here : new_place now t ≡ new_place it u
    here = ap (λ (l : List ℕ). new_place_by now.gone t (slice_get l t)) set ∙ ap (new_place_by now.gone t) (set_there it.places.items t (new_place it u) low)

    away : (x w : ℕ) → t < x → sent_on gotos x ≡ Some w → w ≢ t
    away x w less is e = elim ((goes_to gotos x w is).later) [
      | inl more ↦ absurd (omega arith)
      | inr none ↦ clash (goes gotos t) (ap is_some to) (ap (goes gotos) (sym e) ∙ none)
    ]

-- ---- a round

goto_is : (row : CodeRow) (u : ℕ) → goto_of row ≡ Some u → row ≡ At_leaf (Goto u)
goto_is (Then item rest) u e = absurd (cc)
goto_is (Either on on_yes on_no) u e = absurd (cc)
goto_is (At_leaf (Goto row)) u e = let same : row ≡ u = (cc) in ap (λ (k : ℕ). At_leaf (Goto k)) same
goto_is (At_leaf Stop) u e = absurd (cc)
goto_is (At_leaf (Trap kind line)) u e = absurd (cc)

row_there : (rows : List CodeRow) (t u : ℕ) → slice_get (gotos_of rows) t ≡ Some (Some u) → slice_get rows t ≡ Some (At_leaf (Goto u))
row_there [] t u e = absurd (cc)
row_there (row ∷ rows) zero u e = ap Some (goto_is row u (cc))
row_there (row ∷ rows) (suc t) u e = row_there rows t u e

are_marks : (rows : List CodeRow) (it : Places) → ArePlacesFrom (gotos_of rows) it 0 → AreMarks rows (new_place it) (goes (gotos_of rows)) (length rows)
are_marks rows it are = record {
  each = λ t marked.
      let some = some_of (sent_on (gotos_of rows) t) marked in
      let to = goes_to (gotos_of rows) t some.0 some.1 in
      record {
        target = some.0;
        at = row_there rows t some.0 to.leads.at;
        not_entry = to.leads.not_entry;
        not_itself = to.leads.not_itself;
        later = to.later;
        same_place = are.sent t some.0 (omega arith) some.1;
      };
  within = λ t le. ap is_some (goes_past (gotos_of rows) t (let size = length-map rows goto_of in omega (arith, size, le)));
  ranks = are.stays;
}

rows_shrink : (rows : List CodeRow) (it : Places) → ArePlacesFrom (gotos_of rows) it 0 → RowsShrink rows (rows_left (gotos_of rows) it rows)
rows_shrink rows it are limits like = marked_go (code_with limits like rows) (new_place it) (goes (gotos_of rows)) (length rows) (are_marks rows it are)

-- the last row, if it goes
pub left_without : (gotos : List (Option ℕ)) (it : Places) (before rows left : List (RowTree Leaf)) (tree : RowTree Leaf) → before ≡ rows ++ tree ∷ [] → goes gotos (length rows) ≡ true
    → rows_left gotos it (rows_of rows) ++ rows_of (reverse left) ≡ rows_left gotos it (rows_of before) ++ rows_of (reverse left)
left_without gotos it before rows left tree is gone = ap (λ (l : List CodeRow). l ++ rows_of (reverse left)) (sym last)
  where
    last : rows_left gotos it (rows_of before) ≡ rows_left gotos it (rows_of rows)
    last =
        ap (λ (l : List (RowTree Leaf)). rows_left gotos it (rows_of l)) is ∙ ap (rows_left gotos it) (map-append row_of rows (tree ∷ []))
        ∙ ap (map (placed_row (new_place it))) (kept_last (goes gotos) (rows_of rows) (row_of tree)
        ∙ ap (λ (b : Bool). if b then unmarked_rows (goes gotos) (rows_of rows) else unmarked_rows (goes gotos) (rows_of rows) ++ row_of tree ∷ []) (ap (goes gotos) (length-map rows row_of) ∙ gone))

-- and if it stays
pub left_with : (gotos : List (Option ℕ)) (it : Places) (before rows left : List (RowTree Leaf)) (tree now : RowTree Leaf) → before ≡ rows ++ tree ∷ [] → goes gotos (length rows) ≡ false
    → row_of now ≡ placed_row (new_place it) (row_of tree)
    → rows_left gotos it (rows_of rows) ++ rows_of (reverse (left ++ now ∷ [])) ≡ rows_left gotos it (rows_of before) ++ rows_of (reverse left)
left_with gotos it before rows left tree now is stays sent =
    ap (λ (l : List (RowTree Leaf)). rows_left gotos it (rows_of rows) ++ rows_of l) (reverse-append left (now ∷ []))
    ∙ ap (λ (r : CodeRow). rows_left gotos it (rows_of rows) ++ (r ∷ rows_of (reverse left))) sent
    ∙ sym (append_assoc (rows_left gotos it (rows_of rows)) (placed_row (new_place it) (row_of tree) ∷ []) (rows_of (reverse left)))
    ∙ ap (λ (l : List CodeRow). l ++ rows_of (reverse left)) (sym last)
  where
    last : rows_left gotos it (rows_of before) ≡ rows_left gotos it (rows_of rows) ++ placed_row (new_place it) (row_of tree) ∷ []
    last =
        ap (λ (l : List (RowTree Leaf)). rows_left gotos it (rows_of l)) is ∙ ap (rows_left gotos it) (map-append row_of rows (tree ∷ []))
        ∙ ap (map (placed_row (new_place it))) (kept_last (goes gotos) (rows_of rows) (row_of tree)
        ∙ ap (λ (b : Bool). if b then unmarked_rows (goes gotos) (rows_of rows) else unmarked_rows (goes gotos) (rows_of rows) ++ row_of tree ∷ []) (ap (goes gotos) (length-map rows row_of) ∙ stays))
        ∙ map-append (placed_row (new_place it)) (unmarked_rows (goes gotos) (rows_of rows)) (row_of tree ∷ [])

-- where some go there are fewer
rows_fewer : (rows : List CodeRow) (it : Places) → AreCounted (gotos_of rows) it → it.gone ≢ 0 → length (rows_left (gotos_of rows) it rows) < length rows
rows_fewer rows it counted some =
    let a = length-map (unmarked_rows (goes (gotos_of rows)) rows) (placed_row (new_place it)) in
    let b = kept_count (goes (gotos_of rows)) rows in
    let size = length-map rows goto_of in
    let c = ap (rank (goes (gotos_of rows))) size in
    let gone = counted.gone in
    omega arith

-- where none goes none is a goto alone to another row
none_left : (rows : List CodeRow) (it : Places) → AreCounted (gotos_of rows) it → it.gone ≡ 0 → HasNoGotoAlone rows
none_left rows it counted none = none_alone rows up
  where
    gotos : List (Option ℕ)
    gotos = gotos_of rows

    stays : (t : ℕ) → t < length rows → goes (gotos_of rows) t ≡ false
    stays t low = by_test (goes (gotos_of rows) t) refl
      where
        by_test : (b : Bool) → goes (gotos_of rows) t ≡ b → b ≡ false
        by_test false is = refl
        by_test true is =
            let size = length-map rows goto_of in
            let less = rank_fewer (goes (gotos_of rows)) (length (gotos_of rows)) t (omega arith) is in
            let gone = counted.gone in
            absurd (omega arith)

    by_parts : (t u : ℕ) (b : Bool) (o : Option ℕ) → nat_lt t u ≡ b → goto_target (gotos_of rows) u ≡ o → u ≢ t
        → is_some (if b then Some u else unless_leads_on u o) ≡ false → (u < t) × ((w : ℕ) × IsGotoAlone rows u w)
    by_parts t u true o less next apart e = absurd (cc)
    by_parts t u false None less next apart e = absurd (cc)
    by_parts t u false (Some w) less next apart e =
        let on = leads_on (gotos_of rows) u w next in
        (grind (arith, nat_tests), (w, record { at = row_there rows u w on.at; not_entry = on.not_entry; not_itself = on.not_itself }))

    target : (t u : ℕ) → IsGotoAlone rows t u → goto_target (gotos_of rows) t ≡ Some u
    target t u alone =
        ap (unless_stays t) (slice_get-map goto_of rows t ∙ ap (option_map goto_of) alone.at)
        ∙ ap (λ (b : Bool). if b then None else (if nat_eq u t then None else Some u)) (nat_eq-apart t 0 alone.not_entry)
        ∙ ap (λ (b : Bool). if b then None else Some u) (nat_eq-apart u t alone.not_itself)

    up : (t u : ℕ) → IsGotoAlone rows t u → (u < t) × ((w : ℕ) × IsGotoAlone rows u w)
    up t u alone =
        by_parts t u (nat_lt t u) (goto_target (gotos_of rows) u) refl refl alone.not_itself
        (sym (ap (λ (o : Option ℕ). is_some (if_at_end (gotos_of rows) t o)) (target t u alone)) ∙ stays t (slice_get_within rows t (At_leaf (Goto u)) alone.at))

-- ---- rounds

pub round_removes : (rows new : List CodeRow) (gotos : List (Option ℕ)) (it : Places) → gotos ≡ gotos_of rows → ArePlacesFrom gotos it 0 → it.gone ≢ 0
    → new ≡ rows_left gotos it rows → HasRemoved rows new true
round_removes rows new gotos it is are some now =
    let at = subst (λ (l : List (Option ℕ)). ArePlacesFrom l it 0) is are in
    let e = now ∙ ap (λ (l : List (Option ℕ)). rows_left l it rows) is in
    (subst (RowsShrink rows) (sym e) (rows_shrink rows it at), subst (λ (l : List CodeRow). length l < length rows) (sym e) (rows_fewer rows it at.counted some))

pub round_ends : (rows : List CodeRow) (gotos : List (Option ℕ)) (it : Places) → gotos ≡ gotos_of rows → ArePlacesFrom gotos it 0 → it.gone ≡ 0 → HasRemoved rows rows false
round_ends rows gotos it is are none = (refl, none_left rows it (subst (λ (l : List (Option ℕ)). ArePlacesFrom l it 0) is are).counted none)

shrinks_on : {code next after : RowCode} → Shrinks code next → Shrinks next after → Shrinks code after
shrinks_on first second = record {
  removals = removals_on first.removals second.removals;
  compact = λ all compact. second.compact (removals_keep_reachable first.removals all) (first.compact all compact);
}

pub rows_same : (rows : List CodeRow) → RowsShrink rows rows
rows_same rows limits like = record { removals = No_removal; compact = λ all compact. compact }

-- a round in which some go
pub rounds_go_on : (old now new : List CodeRow) (some : Bool) → some ≡ true → RowsShrink old now → HasRemoved now new some → RowsShrink old new × (length new < length now)
rounds_go_on old now new true is shrink removed = ((λ limits like. shrinks_on (shrink limits like) (removed.0 limits like)), removed.1)
rounds_go_on old now new false is shrink removed = absurd (cc)

-- and the last one
pub rounds_end : (old now new : List CodeRow) (some : Bool) → some ≡ false → RowsShrink old now → HasRemoved now new some → AreRemoved old new
rounds_end old now new true is shrink removed = absurd (cc)
rounds_end old now new false is shrink removed = record {
  shrink = subst (RowsShrink old) (sym removed.0) shrink;
  none_left = subst HasNoGotoAlone (sym removed.0) removed.1;
}
