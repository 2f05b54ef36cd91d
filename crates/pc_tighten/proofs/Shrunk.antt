-- Rows that go away, all that may at once, are as many removals.
use Rattle.std.proofs.Common.{◌≡◌, ◌≢◌, ℕ, zero, suc, ◌<◌, ◌≤◌, ◌⊎◌, inl, inr, Bool, true}
use Rattle.std.proofs.Common.{false, List, [], ◌∷◌, map, length, Some, refl, sym, ◌∙◌, ap, subst, arith}
use Rattle.std.specs.Prelude.{if◌then◌else◌, slice_get}
use Rattle.std.specs.Option.{option_map}
use Rattle.std.proofs.lemmas.Option.{slice_get-map}
use Rattle.std.proofs.lemmas.List.{length-map}
use Rattle.pc_machine.specs.declared.tree.Leaf.TheVariants.{Goto, Stop, Trap}
use Rattle.pc_machine.specs.MachineCode.{CodeRow, RowCode}
use Rattle.pc_word.specs.Row.{Then, Either, At_leaf}
use Rattle.pc_tighten.specs.Removals.{shifted, sent, sent_row, without_row, removed, IsGotoAlone}
use Rattle.pc_tighten.specs.Tightened.{No_removal, Removal}
use Rattle.pc_tighten.specs.Removing.{unmarked_rows, rank, placed_row, without_marked, Shrinks, IsMarked, AreMarks}
use Rattle.pc_tighten.proofs.Compacted.{shifted-injective, removal_keeps_compact}
use Rattle.pc_tighten.proofs.Lists.{nat_eq-refl, nat_eq-apart}
use Rattle.pc_tighten.proofs.Moves.{same_or_apart}
use Rattle.pc_tighten.proofs.Reaches.{removal_keeps_all_reached}
use Rattle.pc_tighten.proofs.Removals.{without-at}

-- ---- numbers before a row was taken out

abbrev unshift : ℕ → ℕ → ℕ
unshift zero y = suc y
unshift (suc t) zero = zero
unshift (suc t) (suc y) = suc (unshift t y)

unshift_shifted : (t x : ℕ) → x ≢ t → unshift t (shifted t x) ≡ x
unshift_shifted zero zero apart = absurd (apart refl)
unshift_shifted zero (suc x) apart = refl
unshift_shifted (suc t) zero apart = refl
unshift_shifted (suc t) (suc x) apart = ap suc (unshift_shifted t x (λ e. apart (ap suc e)))

shifted_unshift : (t y : ℕ) → shifted t (unshift t y) ≡ y
shifted_unshift zero y = refl
shifted_unshift (suc t) zero = refl
shifted_unshift (suc t) (suc y) = ap suc (shifted_unshift t y)

unshift_apart : (t y : ℕ) → unshift t y ≢ t
unshift_apart zero y e = absurd (cc)
unshift_apart (suc t) zero e = absurd (cc)
unshift_apart (suc t) (suc y) e = unshift_apart t y (cc)

-- ---- marks

kept_without : (marks : ℕ → Bool) (t : ℕ) (rows : List CodeRow) → marks t ≡ true → unmarked_rows (λ y. marks (unshift t y)) (without_row t rows) ≡ unmarked_rows marks rows
kept_without marks zero [] e = refl
kept_without marks zero (r ∷ rows) e =
    sym (ap (λ (b : Bool). if b then unmarked_rows (λ i. marks (suc i)) rows else r ∷ unmarked_rows (λ i. marks (suc i)) rows) e)
kept_without marks (suc t) [] e = refl
kept_without marks (suc t) (r ∷ rows) e =
    ap (λ (l : List CodeRow). if marks 0 then l else r ∷ l) (kept_without (λ i. marks (suc i)) t rows e)

rank_unshift : (marks : ℕ → Bool) (t y : ℕ) → marks t ≡ true → rank (λ k. marks (unshift t k)) y ≡ rank marks (unshift t y)
rank_unshift marks zero y e = sym (ap (λ (b : Bool). if b then rank (λ k. marks (suc k)) y else suc (rank (λ k. marks (suc k)) y)) e)
rank_unshift marks (suc t) zero e = refl
rank_unshift marks (suc t) (suc y) e = ap (λ (n : ℕ). if marks 0 then n else suc n) (rank_unshift (λ k. marks (suc k)) t y e)

kept_map : (marks : ℕ → Bool) (f : CodeRow → CodeRow) (rows : List CodeRow) → unmarked_rows marks (map f rows) ≡ map f (unmarked_rows marks rows)
kept_map marks f [] = refl
kept_map marks f (r ∷ rows) = by_test (marks 0) (kept_map (λ i. marks (suc i)) f rows)
  where
    by_test : (b : Bool) → unmarked_rows (λ i. marks (suc i)) (map f rows) ≡ map f (unmarked_rows (λ i. marks (suc i)) rows)
        → (if b then unmarked_rows (λ i. marks (suc i)) (map f rows) else f r ∷ unmarked_rows (λ i. marks (suc i)) (map f rows))
        ≡ map f (if b then unmarked_rows (λ i. marks (suc i)) rows else r ∷ unmarked_rows (λ i. marks (suc i)) rows)
    by_test true h = h
    by_test false h = ap (λ (l : List CodeRow). f r ∷ l) h

kept_all : (marks : ℕ → Bool) (rows : List CodeRow) → ((x : ℕ) → marks x ≡ false) → unmarked_rows marks rows ≡ rows
kept_all marks [] none = refl
kept_all marks (r ∷ rows) none =
    ap (λ (b : Bool). if b then unmarked_rows (λ i. marks (suc i)) rows else r ∷ unmarked_rows (λ i. marks (suc i)) rows) (none 0)
    ∙ ap (λ (l : List CodeRow). r ∷ l) (kept_all (λ i. marks (suc i)) rows (λ x. none (suc x)))

rank_all : (marks : ℕ → Bool) (x : ℕ) → ((k : ℕ) → marks k ≡ false) → rank marks x ≡ x
rank_all marks zero none = refl
rank_all marks (suc x) none =
    ap (λ (b : Bool). if b then rank (λ k. marks (suc k)) x else suc (rank (λ k. marks (suc k)) x)) (none 0)
    ∙ ap suc (rank_all (λ k. marks (suc k)) x (λ k. none (suc k)))

-- ---- places

placed_sent : (before now : ℕ → ℕ) (t u : ℕ) → ((x : ℕ) → now (sent t u x) ≡ before x) → (row : CodeRow) → placed_row now (sent_row t u row) ≡ placed_row before row
placed_sent before now t u same (Then item rest) = ap (λ (r : CodeRow). Then item r) (placed_sent before now t u same rest)
placed_sent before now t u same (Either on on_yes on_no) =
    ap (λ (r : CodeRow). Either on r (placed_row now (sent_row t u on_no))) (placed_sent before now t u same on_yes)
    ∙ ap (λ (r : CodeRow). Either on (placed_row before on_yes) r) (placed_sent before now t u same on_no)
placed_sent before now t u same (At_leaf (Goto row)) = ap (λ (k : ℕ). At_leaf (Goto k)) (same row)
placed_sent before now t u same (At_leaf Stop) = refl
placed_sent before now t u same (At_leaf (Trap kind line)) = refl

all_placed_sent : (before now : ℕ → ℕ) (t u : ℕ) → ((x : ℕ) → now (sent t u x) ≡ before x) → (rows : List CodeRow)
    → map (placed_row now) (map (sent_row t u) rows) ≡ map (placed_row before) rows
all_placed_sent before now t u same [] = refl
all_placed_sent before now t u same (r ∷ rows) =
    ap (λ (x : CodeRow). x ∷ map (placed_row now) (map (sent_row t u) rows)) (placed_sent before now t u same r)
    ∙ ap (λ (l : List CodeRow). placed_row before r ∷ l) (all_placed_sent before now t u same rows)

placed_same : (place : ℕ → ℕ) → ((x : ℕ) → place x ≡ x) → (row : CodeRow) → placed_row place row ≡ row
placed_same place same (Then item rest) = ap (λ (r : CodeRow). Then item r) (placed_same place same rest)
placed_same place same (Either on on_yes on_no) =
    ap (λ (r : CodeRow). Either on r (placed_row place on_no)) (placed_same place same on_yes) ∙ ap (λ (r : CodeRow). Either on on_yes r) (placed_same place same on_no)
placed_same place same (At_leaf (Goto row)) = ap (λ (k : ℕ). At_leaf (Goto k)) (same row)
placed_same place same (At_leaf Stop) = refl
placed_same place same (At_leaf (Trap kind line)) = refl

all_placed_same : (place : ℕ → ℕ) → ((x : ℕ) → place x ≡ x) → (rows : List CodeRow) → map (placed_row place) rows ≡ rows
all_placed_same place same [] = refl
all_placed_same place same (r ∷ rows) = ap (λ (x : CodeRow). x ∷ map (placed_row place) rows) (placed_same place same r) ∙ ap (λ (l : List CodeRow). r ∷ l) (all_placed_same place same rows)

-- ---- rows that go, in the order in which they do

-- a number is not among these
abbrev pub Absent : ℕ → List ℕ → Type 0
Absent x [] = Unit {0}
Absent x (y ∷ ys) = (x ≢ y) × Absent x ys

-- a row that goes, before these others
pub record IsGoing (rows : List CodeRow) (place : ℕ → ℕ) (marks : ℕ → Bool) (t : ℕ) (rest : List ℕ) : Type 0 where
  pub target : ℕ
  pub at : slice_get rows t ≡ Some (At_leaf (Goto target))
  pub not_entry : t ≢ 0
  pub not_itself : target ≢ t
  pub target_stays : Absent target rest
  pub once : Absent t rest
  pub same_place : place t ≡ place target
  pub marked : marks t ≡ true

abbrev pub AreGoing : List CodeRow → (ℕ → ℕ) → (ℕ → Bool) → List ℕ → Type 0
AreGoing rows place marks [] = Unit {0}
AreGoing rows place marks (t ∷ rest) = IsGoing rows place marks t rest × AreGoing rows place marks rest

absent_shifted : (t x : ℕ) (ys : List ℕ) → x ≢ t → Absent t ys → Absent x ys → Absent (shifted t x) (map (shifted t) ys)
absent_shifted t x [] apart a b = tt
absent_shifted t x (y ∷ ys) apart a b =
    ((λ e. b.0 (shifted-injective t x y apart (λ f. a.0 (sym f)) e)), absent_shifted t x ys apart a.1 b.1)

absent_unshifted : (t y : ℕ) (ys : List ℕ) → Absent y (map (shifted t) ys) → Absent (unshift t y) ys
absent_unshifted t y [] a = tt
absent_unshifted t y (z ∷ ys) a = ((λ e. a.0 (sym (shifted_unshift t y) ∙ ap (shifted t) e)), absent_unshifted t y ys a.1)

module _ (t u : ℕ) (first : t ≢ 0) (itself : u ≢ t) (place : ℕ → ℕ) (same : place t ≡ place u) where
  place_sent : (x : ℕ) → place (unshift t (sent t u x)) ≡ place x
  place_sent x = elim (same_or_apart x t) [
    | inl here ↦
        ap (λ (k : ℕ). place (unshift t (sent t u k))) here
        ∙ ap (λ (b : Bool). place (unshift t (if b then shifted t u else shifted t t))) (nat_eq-refl t)
        ∙ ap place (unshift_shifted t u itself) ∙ sym same ∙ ap place (sym here)
    | inr apart ↦
        ap (λ (b : Bool). place (unshift t (if b then shifted t u else shifted t x))) (nat_eq-apart x t apart)
        ∙ ap place (unshift_shifted t x apart)
  ]

  shifted_not_first : (x : ℕ) → x ≢ 0 → x ≢ t → shifted t x ≢ 0
  shifted_not_first x a apart e = a (shifted-injective t x 0 apart (λ f. first (sym f)) (e ∙ sym (at_first t first)))
    where
      at_first : (k : ℕ) → k ≢ 0 → shifted k 0 ≡ 0
      at_first zero b = absurd (b refl)
      at_first (suc k) b = refl

  going_later : (rows : List CodeRow) (marks : ℕ → Bool) (rest : List ℕ) → Absent t rest → Absent u rest → AreGoing rows place marks rest
      → AreGoing (map (sent_row t u) (without_row t rows)) (λ y. place (unshift t y)) (λ y. marks (unshift t y)) (map (shifted t) rest)
  going_later rows marks [] a b going = tt
  going_later rows marks (x ∷ rest) a b going =
      let h = going.0 in
      let apart : x ≢ t = (λ e. a.0 (sym e)) in (
        record {
          target = sent t u h.target;
          at = slice_get-map (sent_row t u) (without_row t rows) (shifted t x) ∙ ap (option_map (sent_row t u)) (without-at t x rows apart ∙ h.at);
          not_entry = shifted_not_first x h.not_entry apart;
          not_itself = (target_apart h.target x (same_or_apart h.target t) h.not_itself apart b.0);
          target_stays = target_absent h.target rest (same_or_apart h.target t) a.1 b.1 h.target_stays;
          once = absent_shifted t x rest apart a.1 h.once;
          same_place = ap place (unshift_shifted t x apart) ∙ h.same_place ∙ sym (place_sent h.target);
          marked = ap marks (unshift_shifted t x apart) ∙ h.marked;
        },
        going_later rows marks rest a.1 b.1 going.1,
      )
    where
      target_apart : (v x : ℕ) → (v ≡ t) ⊎ (v ≢ t) → v ≢ x → x ≢ t → u ≢ x → sent t u v ≢ shifted t x
      target_apart v x (inl here) c apart d e =
          d (shifted-injective t u x itself apart
          (sym (ap (λ (k : ℕ). sent t u k) here ∙ ap (λ (b : Bool). if b then shifted t u else shifted t t) (nat_eq-refl t)) ∙ e))
      target_apart v x (inr other) c apart d e =
          c (shifted-injective t v x other apart (sym (ap (λ (b : Bool). if b then shifted t u else shifted t v) (nat_eq-apart v t other)) ∙ e))

      target_absent : (v : ℕ) (rest : List ℕ) → (v ≡ t) ⊎ (v ≢ t) → Absent t rest → Absent u rest → Absent v rest → Absent (sent t u v) (map (shifted t) rest)
      target_absent v rest (inl here) a b c =
          subst (λ (k : ℕ). Absent k (map (shifted t) rest))
          (sym (ap (λ (k : ℕ). sent t u k) here ∙ ap (λ (b : Bool). if b then shifted t u else shifted t t) (nat_eq-refl t))) (absent_shifted t u rest itself a b)
      target_absent v rest (inr other) a b c =
          subst (λ (k : ℕ). Absent k (map (shifted t) rest)) (sym (ap (λ (b : Bool). if b then shifted t u else shifted t v) (nat_eq-apart v t other)))
          (absent_shifted t v rest other a c)

-- ---- all together

code_rows : (code : RowCode) (one other : List CodeRow) → one ≡ other
    → (let a : RowCode = record code { rows = one } in
    a) ≡ (let b : RowCode = record code { rows = other } in b)
code_rows code one other e = ap (λ (rows : List CodeRow). let a : RowCode = record code { rows = rows } in a) e

shrinks_by : (n : ℕ) (gone : List ℕ) (code : RowCode) (place : ℕ → ℕ) (marks : ℕ → Bool) → length gone ≡ n → AreGoing code.rows place marks gone
    → ((x : ℕ) → Absent x gone → marks x ≡ false) → ((x : ℕ) → marks x ≡ false → place x ≡ rank marks x) → Shrinks code (without_marked place marks code)
shrinks_by n [] code place marks size going others ranks =
    let none = λ (x : ℕ). others x tt in
    let same = λ (x : ℕ). ranks x (none x) ∙ rank_all marks x none in
    subst (Shrinks code) (sym (code_rows code (map (placed_row place) (unmarked_rows marks code.rows)) code.rows
    (all_placed_same place same (unmarked_rows marks code.rows) ∙ kept_all marks code.rows none)))
    (record { removals = No_removal; compact = λ all compact. compact })
shrinks_by zero (t ∷ rest) code place marks size going others ranks = absurd (omega arith)
shrinks_by (suc n) (t ∷ rest) code place marks size going others ranks =
    let h = going.0 in
    let u = h.target in
    let next = removed code t u in
    let may : IsGotoAlone code.rows t u = record { at = h.at; not_entry = h.not_entry; not_itself = h.not_itself } in
    let later = λ (y : ℕ). place (unshift t y) in
    let left = λ (y : ℕ). marks (unshift t y) in
    let more = shrinks_by n (map (shifted t) rest) next later left (let a = length-map rest (shifted t) in omega arith)
    (going_later t u h.not_entry h.not_itself place h.same_place code.rows marks rest h.once h.target_stays going.1)
    (λ y absent. others (unshift t y) (unshift_apart t y, absent_unshifted t y rest absent))
    (λ y none. ranks (unshift t y) none ∙ sym (rank_unshift marks t y h.marked)) in
    let same = ap (map (placed_row later)) (kept_map left (sent_row t u) (without_row t code.rows) ∙ ap (map (sent_row t u)) (kept_without marks t code.rows h.marked))
    ∙ all_placed_sent place later t u (place_sent t u h.not_entry h.not_itself place h.same_place) (unmarked_rows marks code.rows) in
    subst (Shrinks code) (code_rows code (map (placed_row later) (unmarked_rows left next.rows)) (map (placed_row place) (unmarked_rows marks code.rows)) same) (record {
      removals = Removal t u may more.removals;
      compact = λ all compact. more.compact (removal_keeps_all_reached code t u may all) (removal_keeps_compact code t u may all compact);
    })

-- ---- marks of rows below a number, from above

abbrev pub marked_below : (ℕ → Bool) → ℕ → List ℕ
marked_below marks zero = []
marked_below marks (suc n) = if marks n then n ∷ marked_below marks n else marked_below marks n

absent_above : (marks : ℕ → Bool) (n x : ℕ) → n ≤ x → Absent x (marked_below marks n)
absent_above marks zero x le = tt
absent_above marks (suc n) x le = by_test (marks n) (absent_above marks n x (omega arith))
  where
    by_test : (b : Bool) → Absent x (marked_below marks n) → Absent x (if b then n ∷ marked_below marks n else marked_below marks n)
    by_test true a = ((λ e. absurd (omega arith)), a)
    by_test false a = a

absent_unmarked : (marks : ℕ → Bool) (n x : ℕ) → marks x ≡ false → Absent x (marked_below marks n)
absent_unmarked marks zero x none = tt
absent_unmarked marks (suc n) x none = by_test (marks n) refl (absent_unmarked marks n x none)
  where
    clash : (b : Bool) → b ≡ true → b ≡ false → ⊥
    clash true p q = absurd (cc)
    clash false p q = absurd (cc)

    by_test : (b : Bool) → marks n ≡ b → Absent x (marked_below marks n) → Absent x (if b then n ∷ marked_below marks n else marked_below marks n)
    by_test true is a = ((λ e. clash (marks n) is (ap marks (sym e) ∙ none)), a)
    by_test false is a = a

-- an unmarked one alone is absent
unmarked_of_absent : (marks : ℕ → Bool) (n x : ℕ) → x < n → Absent x (marked_below marks n) → marks x ≡ false
unmarked_of_absent marks zero x low a = absurd (omega arith)
unmarked_of_absent marks (suc n) x low a = by_test (marks n) refl a (λ b less. unmarked_of_absent marks n x less b)
  where
    by_test : (b : Bool) → marks n ≡ b → Absent x (if b then n ∷ marked_below marks n else marked_below marks n)
        → (Absent x (marked_below marks n) → x < n → marks x ≡ false) → marks x ≡ false
    by_test true is a next = next a.1 (let apart = a.0 in below_or x n low apart)
      where
        below_or : (x n : ℕ) → x < suc n → x ≢ n → x < n
        below_or x n low apart = omega arith
    by_test false is a next = elim (same_or_apart x n) [
      | inl same ↦ ap marks same ∙ is
      | inr apart ↦ next a (omega arith)
    ]

going_below : (rows : List CodeRow) (place : ℕ → ℕ) (marks : ℕ → Bool) (n : ℕ) → ((t : ℕ) → marks t ≡ true → IsMarked rows place marks t)
    → AreGoing rows place marks (marked_below marks n)
going_below rows place marks zero all = tt
going_below rows place marks (suc n) all = by_test (marks n) refl (going_below rows place marks n all)
  where
    by_test : (b : Bool) → marks n ≡ b → AreGoing rows place marks (marked_below marks n)
        → AreGoing rows place marks (if b then n ∷ marked_below marks n else marked_below marks n)
    by_test true is going =
        let h = all n is in (
          record {
            target = h.target;
            at = h.at;
            not_entry = h.not_entry;
            not_itself = h.not_itself;
            target_stays = elim h.later [
              | inl less ↦ absent_above marks n h.target (omega arith)
              | inr none ↦ absent_unmarked marks n h.target none
            ];
            once = absent_above marks n n (omega arith);
            same_place = h.same_place;
            marked = is;
          },
          going,
        )
    by_test false is going = going

-- rows that are marked go, all at once
pub marked_go : (code : RowCode) (place : ℕ → ℕ) (marks : ℕ → Bool) (count : ℕ) → AreMarks code.rows place marks count → Shrinks code (without_marked place marks code)
marked_go code place marks count are =
    shrinks_by (length (marked_below marks count)) (marked_below marks count) code place marks refl (going_below code.rows place marks count are.each)
    (λ x absent. elim (decide x count) [
      | inl less ↦ unmarked_of_absent marks count x less absent
      | inr more ↦ are.within x more
    ]) are.ranks
  where
    decide : (a b : ℕ) → (a < b) ⊎ (b ≤ a)
    decide a b = grind arith

-- where each goto alone to another row leads further up, to such a row, there is none
pub none_alone : (rows : List CodeRow) → ((t u : ℕ) → IsGotoAlone rows t u → (u < t) × ((w : ℕ) × IsGotoAlone rows u w)) → (t u : ℕ) → IsGotoAlone rows t u → ⊥
none_alone rows up t u alone = below (suc t) t u (omega arith) alone
  where
    below : (n t u : ℕ) → t < n → IsGotoAlone rows t u → ⊥
    below zero t u low alone = absurd (omega arith)
    below (suc n) t u low alone = let next = up t u alone in below n u next.1.0 (let less = next.0 in omega arith) next.1.1
