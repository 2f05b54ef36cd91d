-- One item of a path that commits one row earlier: the state is the same afterwards.
use Rattle.std.proofs.Common.{◌≡◌, ℕ, ◌+◌, true, false, List, [], ◌∷◌, ◌++◌, refl, sym, ◌∙◌, ap, subst, append-nil, arith}
use Rattle.std.specs.Prelude.{ℤ, if◌then◌else◌, ◌&&◌, not, nat_lt, drop}
use Rattle.std.proofs.lemmas.Bool.Decides.{nat_tests}
use Rattle.std.specs.List.{AllByRecursion, list_any}
use Rattle.pc_word.specs.declared.item.Item.{Item}
use Rattle.pc_word.specs.declared.item.Item.TheVariants.{Bin, Copy, Load, Store, Print, Read, More}
use Rattle.pc_word.specs.State.{State}
use Rattle.pc_word.specs.Items.{some_left, dest_of, value_of, is_effect}
use Rattle.pc_word.specs.Commit.{Stored, stores_of, prints_of, reads_of, writes, names_after, cells_after, is_outside, some_meet, reads_past_end, state_after}
use Rattle.pc_word.proofs.Lists.{all_front, all_back, all_imply}
use Rattle.pc_tighten.specs.Compact.{reads_dest, writes_both, stores_under, is_loaded_by, hangs_on}
use Rattle.pc_tighten.proofs.Lists.{or_left, or_right, drop-drop}
use Rattle.pc_tighten.proofs.Alike.{IsAlike, ReadsNothingOf, input_kept, alike, stores-append, prints-append, reads-append, stores_alike, prints_alike, names_with, names_later}
use Rattle.pc_tighten.proofs.Apart.{cells-append, cells-swaps, IsFaultless, any-append-left, any-append-right, any-append, any-without, meet-right, meet-without, all_apart, store_apart}
use Rattle.pc_tighten.proofs.Apart.{meet_end, no_reads, no_prints, state_equal}

-- ---- an item at the end of a path does what it does one row later

not_loaded : (y x : Item) → stores_under y x ≡ false → is_loaded_by y x ≡ false
not_loaded (Bin op d left right) x e = refl
not_loaded (Copy d from) x e = refl
not_loaded (Load d a at) x e = refl
not_loaded (Print value) x e = refl
not_loaded (Read d) x e = refl
not_loaded (More d) x e = refl
not_loaded (Store a at value) (Load d b j) e = grind (arith, nat_tests)
not_loaded (Store a at value) (Bin op d left right) e = refl
not_loaded (Store a at value) (Copy d from) e = refl
not_loaded (Store a at value) (Store b j v) e = refl
not_loaded (Store a at value) (Print v) e = refl
not_loaded (Store a at value) (Read d) e = refl
not_loaded (Store a at value) (More d) e = refl

pub record MayEnd (path : List Item) (x : Item) : Type 0 where
  pub hangs : AllByRecursion (λ y. hangs_on x y ≡ false) path
  pub arrays : AllByRecursion (λ y. stores_under y x ≡ false) path
  pub effects : is_effect x ≡ true → AllByRecursion (λ y. is_effect y ≡ false) path

module _ (lengths : List ℕ) (old : State) (path : List Item) (x : Item) (may : MayEnd path x) where
  reads_none : ReadsNothingOf path x
  reads_none = record {
    registers = all_imply (λ y. hangs_on x y ≡ false) (λ y. reads_dest x (dest_of y) ≡ false) path (λ y e. or_left (reads_dest x (dest_of y)) (writes_both (dest_of y) (dest_of x)) e) may.hangs;
    arrays = all_imply (λ y. stores_under y x ≡ false) (λ y. is_loaded_by y x ≡ false) path (λ y e. not_loaded y x e) may.arrays;
    input = λ e. no_reads path (may.effects e);
  }

  dests : AllByRecursion (λ y. writes_both (dest_of y) (dest_of x) ≡ false) path
  dests = all_imply (λ y. hangs_on x y ≡ false) (λ y. writes_both (dest_of y) (dest_of x) ≡ false) path
      (λ y e. or_right (reads_dest x (dest_of y)) (writes_both (dest_of y) (dest_of x)) e) may.hangs

  same : IsAlike lengths old (state_after lengths old path) x
  same = alike lengths old path x reads_none

  last-names : (r : ℕ) → names_after lengths old (path ++ (x ∷ [])) r ≡ names_after lengths (state_after lengths old path) (x ∷ []) r
  last-names r =
      names_with lengths old x path [] r dests
      ∙ ap (λ (l : List Item). if writes (dest_of x) r then value_of lengths old x else names_after lengths old l r) (append-nil path)
      ∙ ap (λ (v : ℤ). if writes (dest_of x) r then v else names_after lengths old path r) (sym same.value)

  last-input : drop (reads_of (path ++ (x ∷ []))) old.input ≡ drop (reads_of (x ∷ [])) (state_after lengths old path).input
  last-input = ap (λ (n : ℕ). drop n old.input) (reads-append path (x ∷ [])) ∙ drop-drop (reads_of path) (reads_of (x ∷ [])) old.input

  pub last-prints : prints_of old (path ++ (x ∷ [])) ≡ prints_of old path ++ prints_of (state_after lengths old path) (x ∷ [])
  last-prints = prints-append old path (x ∷ []) ∙ ap (λ (l : List ℤ). prints_of old path ++ l) (sym same.printed)

  last-cells : (a i : ℕ) → cells_after old.cells (stores_of lengths old (path ++ (x ∷ []))) a i ≡ cells_after (cells_after old.cells (stores_of lengths old path)) (stores_of lengths
      (state_after lengths old path) (x ∷ [])) a i
  last-cells a i =
      ap (λ (l : List Stored). cells_after old.cells l a i) (stores-append lengths old path (x ∷ []))
      ∙ cells-append old.cells (stores_of lengths old path) (stores_of lengths old (x ∷ [])) a i
      ∙ sym (cells-swaps old.cells (stores_of lengths old (x ∷ [])) (stores_of lengths old path) a i (store_apart lengths old path x may.arrays))
      ∙ ap (λ (l : List Stored). cells_after (cells_after old.cells (stores_of lengths old path)) l a i) (sym same.stored)

  pub last-state : state_after lengths old (path ++ (x ∷ [])) ≡ state_after lengths (state_after lengths old path) (x ∷ [])
  last-state = state_equal (state_after lengths old (path ++ (x ∷ []))) (state_after lengths (state_after lengths old path) (x ∷ []))
      (λ i r. last-names r i) (λ i a p. last-cells a p i) last-input

  pub last-faultless : IsFaultless lengths old path → IsFaultless lengths (state_after lengths old path) (x ∷ []) → IsFaultless lengths old (path ++ (x ∷ []))
  last-faultless h k = record {
    inside = subst (λ (l : List Stored). list_any is_outside l ≡ false) (sym (stores-append lengths old path (x ∷ [])))
        (any-append is_outside (stores_of lengths old path) (stores_of lengths old (x ∷ [])) h.inside (subst (λ (l : List Stored). list_any is_outside l ≡ false) same.stored k.inside));
    apart = subst (λ (l : List Stored). some_meet l ≡ false) (sym (stores-append lengths old path (x ∷ []))) (meet_end lengths old path x may.arrays h.apart);
    left = elim (is_effect x) as (λ b. is_effect x ≡ b → reads_past_end old (path ++ (x ∷ [])) ≡ false) [
      | true ↦ λ e.
          let none = no_reads path (may.effects e) in
          let all : reads_of (path ++ (x ∷ [])) ≡ reads_of (x ∷ []) = (let both = reads-append path (x ∷ []) in omega arith) in
          let stays = input_kept path old.input none in
          ap (λ (n : ℕ). nat_lt 0 n && not (some_left old.input)) all ∙ ap (λ (l : List ℤ). nat_lt 0 (reads_of (x ∷ [])) && not (some_left l)) (sym stays) ∙ k.left
      | false ↦ λ e.
          let none = no_reads (x ∷ []) (e, tt) in
          let all : reads_of (path ++ (x ∷ [])) ≡ reads_of path = (let both = reads-append path (x ∷ []) in omega arith) in
          ap (λ (n : ℕ). nat_lt 0 n && not (some_left old.input)) all ∙ h.left
    ] refl;
  }

-- ---- an item of a path does what it does one row earlier

pub record MayBegin (xs : List Item) (x : Item) (ys : List Item) : Type 0 where
  pub used : AllByRecursion (λ y. reads_dest y (dest_of x) ≡ false) (xs ++ ys)
  pub loaded : AllByRecursion (λ y. is_loaded_by x y ≡ false) (xs ++ ys)
  pub dests : AllByRecursion (λ y. writes_both (dest_of y) (dest_of x) ≡ false) (xs ++ ys)
  pub effects : is_effect x ≡ true → AllByRecursion (λ y. is_effect y ≡ false) (xs ++ ys)

-- each of the others reads nothing of it
others_alike : (lengths : List ℕ) (old : State) (x : Item) (zs : List Item) → AllByRecursion (λ y. reads_dest y (dest_of x) ≡ false) zs → AllByRecursion (λ y. is_loaded_by x y ≡ false) zs
    → (is_effect x ≡ true → AllByRecursion (λ y. is_effect y ≡ false) zs) → AllByRecursion (IsAlike lengths old (state_after lengths old (x ∷ []))) zs
others_alike lengths old x [] h k e = tt
others_alike lengths old x (y ∷ zs) h k e = (
  alike lengths old (x ∷ []) y (record {
    registers = (h.0, tt);
    arrays = (k.0, tt);
    input = λ is. elim (is_effect x) as (λ b. is_effect x ≡ b → reads_of (x ∷ []) ≡ 0) [
      | true ↦ λ at. let no = (e at).0 in absurd (cc)
      | false ↦ λ at. no_reads (x ∷ []) (at, tt)
    ] refl;
  }),
  others_alike lengths old x zs h.1 k.1 (λ at. (e at).1),
)

one_apart : (lengths : List ℕ) (old : State) (x : Item) → some_meet (stores_of lengths old (x ∷ [])) ≡ false
one_apart lengths old (Bin op d left right) = refl
one_apart lengths old (Copy d from) = refl
one_apart lengths old (Load d a at) = refl
one_apart lengths old (Store a at value) = refl
one_apart lengths old (Print value) = refl
one_apart lengths old (Read d) = refl
one_apart lengths old (More d) = refl

module _ (lengths : List ℕ) (old : State) (xs : List Item) (x : Item) (ys : List Item) (may : MayBegin xs x ys) where
  ahead : AllByRecursion (IsAlike lengths old (state_after lengths old (x ∷ []))) (xs ++ ys)
  ahead = others_alike lengths old x (xs ++ ys) may.used may.loaded may.effects

  first-names : (r : ℕ) → names_after lengths (state_after lengths old (x ∷ [])) (xs ++ ys) r ≡ names_after lengths old (xs ++ (x ∷ ys)) r
  first-names r =
      names_later lengths old x (state_after lengths old (x ∷ [])) (λ q. refl) (xs ++ ys) r ahead may.dests
      ∙ sym (names_with lengths old x xs ys r (all_front (λ y. writes_both (dest_of y) (dest_of x) ≡ false) xs ys may.dests))

  three_stores : stores_of lengths old (xs ++ (x ∷ ys)) ≡ stores_of lengths old xs ++ (stores_of lengths old (x ∷ []) ++ stores_of lengths old ys)
  three_stores = stores-append lengths old xs (x ∷ ys) ∙ ap (λ (l : List Stored). stores_of lengths old xs ++ l) (stores-append lengths old (x ∷ []) ys)

  two_stores : stores_of lengths (state_after lengths old (x ∷ [])) (xs ++ ys) ≡ stores_of lengths old xs ++ stores_of lengths old ys
  two_stores = stores_alike lengths old (state_after lengths old (x ∷ [])) (xs ++ ys) ahead ∙ stores-append lengths old xs ys

  three_reads : reads_of (xs ++ (x ∷ ys)) ≡ reads_of (x ∷ []) + reads_of (xs ++ ys)
  three_reads =
      let a = reads-append xs (x ∷ ys) in
      let b = reads-append (x ∷ []) ys in
      let c = reads-append xs ys in
      omega arith

  pub first-prints : prints_of old (x ∷ []) ++ prints_of (state_after lengths old (x ∷ [])) (xs ++ ys) ≡ prints_of old (xs ++ (x ∷ ys))
  first-prints = elim (is_effect x) as (λ b. is_effect x ≡ b → prints_of old (x ∷ []) ++ prints_of (state_after lengths old (x ∷ [])) (xs ++ ys) ≡ prints_of old (xs ++ (x ∷ ys))) [
    | true ↦ λ e.
        let none = may.effects e in
        let front = no_prints old xs (all_front (λ y. is_effect y ≡ false) xs ys none) in
        let back = no_prints old ys (all_back (λ y. is_effect y ≡ false) xs ys none) in
        let both = no_prints (state_after lengths old (x ∷ [])) (xs ++ ys) none in
        ap (λ (l : List ℤ). prints_of old (x ∷ []) ++ l) both
        ∙ ap (λ (l : List ℤ). prints_of old (x ∷ []) ++ l) (sym back)
        ∙ sym (prints-append old (x ∷ []) ys)
        ∙ ap (λ (l : List ℤ). l ++ prints_of old (x ∷ ys)) (sym front)
        ∙ sym (prints-append old xs (x ∷ ys))
    | false ↦ λ e.
        let none = no_prints old (x ∷ []) (e, tt) in
        ap (λ (l : List ℤ). l ++ prints_of (state_after lengths old (x ∷ [])) (xs ++ ys)) none
        ∙ prints_alike lengths old (state_after lengths old (x ∷ [])) (xs ++ ys) ahead
        ∙ prints-append old xs ys
        ∙ ap (λ (l : List ℤ). prints_of old xs ++ (l ++ prints_of old ys)) (sym none)
        ∙ ap (λ (l : List ℤ). prints_of old xs ++ l) (sym (prints-append old (x ∷ []) ys))
        ∙ sym (prints-append old xs (x ∷ ys))
  ] refl

  module _ (sound : IsFaultless lengths old (xs ++ (x ∷ ys))) where
    three_apart : some_meet (stores_of lengths old xs ++ (stores_of lengths old (x ∷ []) ++ stores_of lengths old ys)) ≡ false
    three_apart = subst (λ (l : List Stored). some_meet l ≡ false) three_stores sound.apart

    three_inside : list_any is_outside (stores_of lengths old xs ++ (stores_of lengths old (x ∷ []) ++ stores_of lengths old ys)) ≡ false
    three_inside = subst (λ (l : List Stored). list_any is_outside l ≡ false) three_stores sound.inside

    first-cells : (a i : ℕ) → cells_after (cells_after old.cells (stores_of lengths old (x ∷ []))) (stores_of lengths (state_after lengths old (x ∷ [])) (xs ++ ys)) a i
        ≡ cells_after old.cells (stores_of lengths old (xs ++ (x ∷ ys))) a i
    first-cells a i =
        let c = old.cells in
        let P = stores_of lengths old xs in
        let S = stores_of lengths old (x ∷ []) in
        let Q = stores_of lengths old ys in
        let swapped : cells_after c (S ++ Q) ≡ cells_after (cells_after c S) Q =
        λ j b k. (cells-append c S Q b k ∙ cells-swaps c S Q b k (all_apart S Q (meet-right P (S ++ Q) three_apart))) j in
        ap (λ (l : List Stored). cells_after (cells_after c S) l a i) two_stores
        ∙ cells-append (cells_after c S) P Q a i
        ∙ ap (λ (f : ℕ → ℕ → ℤ). cells_after f P a i) (sym swapped)
        ∙ sym (cells-append c P (S ++ Q) a i)
        ∙ ap (λ (l : List Stored). cells_after c l a i) (sym three_stores)

    pub first-state : state_after lengths (state_after lengths old (x ∷ [])) (xs ++ ys) ≡ state_after lengths old (xs ++ (x ∷ ys))
    first-state = state_equal (state_after lengths (state_after lengths old (x ∷ [])) (xs ++ ys)) (state_after lengths old (xs ++ (x ∷ ys)))
        (λ i r. first-names r i) (λ i a p. first-cells a p i)
        (sym (drop-drop (reads_of (x ∷ [])) (reads_of (xs ++ ys)) old.input) ∙ ap (λ (n : ℕ). drop n old.input) (sym three_reads))

    pub one-faultless : IsFaultless lengths old (x ∷ [])
    one-faultless = record {
      inside = any-append-left is_outside (stores_of lengths old (x ∷ [])) (stores_of lengths old ys)
          (any-append-right is_outside (stores_of lengths old xs) (stores_of lengths old (x ∷ []) ++ stores_of lengths old ys) three_inside);
      apart = one_apart lengths old x;
      left = elim (is_effect x) as (λ b. is_effect x ≡ b → reads_past_end old (x ∷ []) ≡ false) [
        | true ↦ λ e.
            let none = no_reads (xs ++ ys) (may.effects e) in
            let all : reads_of (x ∷ []) ≡ reads_of (xs ++ (x ∷ ys)) = (let both = three_reads in omega arith) in
            ap (λ (n : ℕ). nat_lt 0 n && not (some_left old.input)) all ∙ sound.left
        | false ↦ λ e. ap (λ (n : ℕ). nat_lt 0 n && not (some_left old.input)) (no_reads (x ∷ []) (e, tt))
      ] refl;
    }

    pub rest-faultless : IsFaultless lengths (state_after lengths old (x ∷ [])) (xs ++ ys)
    rest-faultless = record {
      inside = subst (λ (l : List Stored). list_any is_outside l ≡ false) (sym two_stores) (any-without is_outside (stores_of lengths old xs) (stores_of lengths old (x ∷ []))
          (stores_of lengths old ys) three_inside);
      apart = subst (λ (l : List Stored). some_meet l ≡ false) (sym two_stores) (meet-without (stores_of lengths old xs) (stores_of lengths old (x ∷ [])) (stores_of lengths old ys) three_apart);
      left = elim (is_effect x) as (λ b. is_effect x ≡ b → reads_past_end (state_after lengths old (x ∷ [])) (xs ++ ys) ≡ false) [
        | true ↦ λ e. ap (λ (n : ℕ). nat_lt 0 n && not (some_left (state_after lengths old (x ∷ [])).input)) (no_reads (xs ++ ys) (may.effects e))
        | false ↦ λ e.
            let none = no_reads (x ∷ []) (e, tt) in
            let all : reads_of (xs ++ ys) ≡ reads_of (xs ++ (x ∷ ys)) = (let both = three_reads in omega arith) in
            ap (λ (l : List ℤ). nat_lt 0 (reads_of (xs ++ ys)) && not (some_left l)) (input_kept (x ∷ []) old.input none)
            ∙ ap (λ (n : ℕ). nat_lt 0 n && not (some_left old.input)) all ∙ sound.left
      ] refl;
    }
