-- One path of a row that matches one of a front: it faults no more, prints and stores the same, and facts hold after it.
use Rattle.std.proofs.Common.{◌≡◌, ℕ, suc, ◌+◌, Bool, true, false, List, [], ◌∷◌, ◌++◌, Option, Some, None, refl, sym, ◌∙◌, ap, subst, drop, append_assoc, arith}
use Rattle.std.specs.Prelude.{ℤ, ◌&&◌, not, if◌then◌else◌, nat_eq, nat_lt, slice_index}
use Rattle.std.specs.List.{AllByRecursion, list_any}
use Rattle.std.proofs.lemmas.Bool.{eqb-true, eq-eqb}
use Rattle.pc_word.specs.declared.item.Item.{Item}
use Rattle.pc_word.specs.declared.item.Item.TheVariants.{Bin, Copy, Load, Store, Print, Read, More}
use Rattle.pc_word.specs.declared.item.Operand.{Operand}
use Rattle.pc_word.specs.declared.item.Operand.TheVariants.{Name, Lit}
use Rattle.pc_word.specs.declared.item.MachineFault.TheVariants.{StoreOutOfRange, StoredTwice, ReadPastEnd}
use Rattle.pc_word.specs.Word.{word_apply, word_of_test}
use Rattle.pc_word.specs.State.{State}
use Rattle.pc_word.specs.Items.{operand_value, place_in, element_at, next_input, some_left, value_of}
use Rattle.pc_word.specs.Commit.{writes, names_after, Stored, stores_of, is_at, cells_after, prints_of, reads_of, is_outside, meets_at, some_meet, reads_past_end, fault_of, state_after}
use Rattle.pc_word.proofs.Truth.{or_false, or_made_false}
use Rattle.pc_certified.specs.Facts.{Fact, FactHolds, StatesMatch, OperandsMatch, ItemsMatch, same_bin, same_copy, same_load, same_store, same_print, same_read, same_more}
use Rattle.pc_certified.specs.Paths.{has_side_effect, is_ordered, MayPrecede, EffectsMatch, all_matched, passes, matches, IsWriter, writes_here}
use Rattle.pc_certified.specs.Paths.{writes_later, NoneWrites, IsUnchanged, FactAfter, unchanged, copied_by_row, copied_by_front, computed}

-- ---- equal items do the same

-- what two items do beside their destinations
pub record SameDoing (lengths : List ℕ) (s t : State) (item other : Item) : Type 0 where
  pub value : value_of lengths s item ≡ value_of lengths t other
  pub stores : stores_of lengths s (item ∷ []) ≡ stores_of lengths t (other ∷ [])
  pub prints : prints_of s (item ∷ []) ≡ prints_of t (other ∷ [])
  pub reads : reads_of (item ∷ []) ≡ reads_of (other ∷ [])

module _ (lengths : List ℕ) (facts : List Fact) (machine window : State) (alike : StatesMatch facts machine window) where
  pub operands_same : (a b : Operand) → OperandsMatch facts a b → operand_value machine.names a ≡ operand_value window.names b
  operands_same (Name register) operand h = alike.held (record { source = Name register; operand = operand }) h
  operands_same (Lit value) (Lit other) h = h
  operands_same (Lit value) (Name x) h = alike.held (record { source = Lit value; operand = Name x }) h

  abbrev stored : ℕ → ℤ → ℤ → List Stored
  stored array index word = (record { array = array; place = place_in (slice_index lengths array) index; word = word }) ∷ []

  pub items_same : {item other : Item} → ItemsMatch facts item other → SameDoing lengths machine window item other
  items_same (same_bin {op} {left} {left'} {right} {right'} h k) = record {
    value = ap (λ (z : ℤ). word_apply op z (operand_value machine.names right)) (operands_same left left' h)
        ∙ ap (λ (z : ℤ). word_apply op (operand_value window.names left') z) (operands_same right right' k);
    stores = refl;
    prints = refl;
    reads = refl;
  }
  items_same (same_copy {from} {from'} h) = record { value = operands_same from from' h; stores = refl; prints = refl; reads = refl }
  items_same (same_load {array} {index} {index'} h) = record {
    value = ap (λ (f : ℕ → ℕ → ℤ). element_at (f array) (place_in (slice_index lengths array) (operand_value machine.names index))) alike.cells
        ∙ ap (λ (z : ℤ). element_at (window.cells array) (place_in (slice_index lengths array) z)) (operands_same index index' h);
    stores = refl;
    prints = refl;
    reads = refl;
  }
  items_same (same_store {array} {index} {index'} {value} {value'} h k) =
      let at = operands_same index index' h in
      let word = operands_same value value' k in
      record {
        value = word;
        stores = ap (λ (z : ℤ). stored array z (operand_value machine.names value)) at ∙ ap (λ (z : ℤ). stored array (operand_value window.names index') z) word;
        prints = refl;
        reads = refl;
      }
  items_same (same_print {value} {value'} h) =
      record { value = operands_same value value' h; stores = refl; prints = ap (λ (z : ℤ). z ∷ []) (operands_same value value' h); reads = refl }
  items_same same_read = record { value = ap (λ (l : List ℤ). next_input l) alike.input; stores = refl; prints = refl; reads = refl }
  items_same same_more = record { value = ap (λ (l : List ℤ). word_of_test (some_left l)) alike.input; stores = refl; prints = refl; reads = refl }

-- ---- stores, prints and reads of lists

stores_one : (lengths : List ℕ) (s : State) (y : Item) (path : List Item) → stores_of lengths s (y ∷ path) ≡ stores_of lengths s (y ∷ []) ++ stores_of lengths s path
stores_one lengths s (Bin op d l r) path = refl
stores_one lengths s (Copy d f) path = refl
stores_one lengths s (Load d a i) path = refl
stores_one lengths s (Store a i v) path = refl
stores_one lengths s (Print v) path = refl
stores_one lengths s (Read d) path = refl
stores_one lengths s (More d) path = refl

pub stores_both : (lengths : List ℕ) (s : State) (xs ys : List Item) → stores_of lengths s (xs ++ ys) ≡ stores_of lengths s xs ++ stores_of lengths s ys
stores_both lengths s [] ys = refl
stores_both lengths s (x ∷ xs) ys =
    stores_one lengths s x (xs ++ ys)
    ∙ ap (λ (l : List Stored). stores_of lengths s (x ∷ []) ++ l) (stores_both lengths s xs ys)
    ∙ sym (append_assoc (stores_of lengths s (x ∷ [])) (stores_of lengths s xs) (stores_of lengths s ys))
    ∙ ap (λ (l : List Stored). l ++ stores_of lengths s ys) (sym (stores_one lengths s x xs))

prints_one : (s : State) (y : Item) (path : List Item) → prints_of s (y ∷ path) ≡ prints_of s (y ∷ []) ++ prints_of s path
prints_one s (Bin op d l r) path = refl
prints_one s (Copy d f) path = refl
prints_one s (Load d a i) path = refl
prints_one s (Store a i v) path = refl
prints_one s (Print v) path = refl
prints_one s (Read d) path = refl
prints_one s (More d) path = refl

pub prints_both : (s : State) (xs ys : List Item) → prints_of s (xs ++ ys) ≡ prints_of s xs ++ prints_of s ys
prints_both s [] ys = refl
prints_both s (x ∷ xs) ys =
    prints_one s x (xs ++ ys)
    ∙ ap (λ (l : List ℤ). prints_of s (x ∷ []) ++ l) (prints_both s xs ys)
    ∙ sym (append_assoc (prints_of s (x ∷ [])) (prints_of s xs) (prints_of s ys))
    ∙ ap (λ (l : List ℤ). l ++ prints_of s ys) (sym (prints_one s x xs))

-- what does not go outward stores, prints and reads nothing
pub record Silent (lengths : List ℕ) (s : State) (items : List Item) : Type 0 where
  pub stores : stores_of lengths s items ≡ []
  pub prints : prints_of s items ≡ []
  pub reads : reads_of items ≡ 0

silent_one : (lengths : List ℕ) (s : State) (x : Item) (path : List Item) → has_side_effect x ≡ false → Silent lengths s path → Silent lengths s (x ∷ path)
silent_one lengths s (Bin op d l r) path e h = record { stores = h.stores; prints = h.prints; reads = h.reads }
silent_one lengths s (Copy d f) path e h = record { stores = h.stores; prints = h.prints; reads = h.reads }
silent_one lengths s (Load d a i) path e h = record { stores = h.stores; prints = h.prints; reads = h.reads }
silent_one lengths s (Store a i v) path e h = absurd (cc)
silent_one lengths s (Print v) path e h = absurd (cc)
silent_one lengths s (Read d) path e h = absurd (cc)
silent_one lengths s (More d) path e h = record { stores = h.stores; prints = h.prints; reads = h.reads }

silent : (lengths : List ℕ) (s : State) (items : List Item) → AllByRecursion (λ item. has_side_effect item ≡ false) items → Silent lengths s items
silent lengths s [] h = record { stores = refl; prints = refl; reads = refl }
silent lengths s (x ∷ xs) h = silent_one lengths s x xs h.0 (silent lengths s xs h.1)

-- what is neither print nor read
pub record Unordered (s : State) (items : List Item) : Type 0 where
  pub prints : prints_of s items ≡ []
  pub reads : reads_of items ≡ 0

unordered_one : (s : State) (x : Item) (path : List Item) → is_ordered x ≡ false → Unordered s path → Unordered s (x ∷ path)
unordered_one s (Bin op d l r) path e h = record { prints = h.prints; reads = h.reads }
unordered_one s (Copy d f) path e h = record { prints = h.prints; reads = h.reads }
unordered_one s (Load d a i) path e h = record { prints = h.prints; reads = h.reads }
unordered_one s (Store a i v) path e h = record { prints = h.prints; reads = h.reads }
unordered_one s (Print v) path e h = absurd (cc)
unordered_one s (Read d) path e h = absurd (cc)
unordered_one s (More d) path e h = record { prints = h.prints; reads = h.reads }

unordered : (s : State) (item : Item) (items : List Item) → is_ordered item ≡ true → AllByRecursion (MayPrecede item) items → Unordered s items
unordered s item [] is h = record { prints = refl; reads = refl }
unordered s item (x ∷ xs) is h = unordered_one s x xs (h.0 is) (unordered s item xs is h.1)

-- ---- a store among others

any_split : (p : Stored → Bool) (before : List Stored) (one : Stored) (after : List Stored) → list_any p (before ++ (one ∷ after)) ≡ false
    → (p one ≡ false) × (list_any p (before ++ after) ≡ false)
any_split p [] one after h = or_false (p one) (list_any p after) h
any_split p (b ∷ before) one after h =
    let k = or_false (p b) (list_any p (before ++ (one ∷ after))) h in
    let l = any_split p before one after k.1 in
    (l.0, or_made_false (p b) (list_any p (before ++ after)) k.0 l.1)

nat_eq_sym : (m n : ℕ) → nat_eq m n ≡ nat_eq n m
nat_eq_sym m n = elim (nat_eq m n) as (λ b. nat_eq m n ≡ b → b ≡ nat_eq n m) [
  | true ↦ λ e. sym (eq-eqb n m (sym (eqb-true m n e)))
  | false ↦ λ e. elim (nat_eq n m) as (λ c. nat_eq n m ≡ c → false ≡ c) [
    | true ↦ λ d. sym e ∙ eq-eqb m n (sym (eqb-true n m d))
    | false ↦ λ d. refl
  ] refl
] refl

and_right_false : (b : Bool) → (b && false) ≡ false
and_right_false true = refl
and_right_false false = refl

meets_turned : (array other : ℕ) (place there : Option ℕ) (w v : ℤ)
    → meets_at array place (record { array = other; place = there; word = v }) ≡ meets_at other there (record { array = array; place = place; word = w })
meets_turned array other None None w v = refl
meets_turned array other None (Some q) w v = sym (and_right_false (nat_eq array other))
meets_turned array other (Some p) None w v = and_right_false (nat_eq other array)
meets_turned array other (Some p) (Some q) w v = ap (λ (b : Bool). b && nat_eq q p) (nat_eq_sym other array) ∙ ap (λ (b : Bool). nat_eq array other && b) (nat_eq_sym q p)

meet_split : (before : List Stored) (one : Stored) (after : List Stored) → some_meet (before ++ (one ∷ after)) ≡ false
    → (list_any (meets_at one.array one.place) (before ++ after) ≡ false) × (some_meet (before ++ after) ≡ false)
meet_split [] one after h = or_false (list_any (meets_at one.array one.place) after) (some_meet after) h
meet_split (b ∷ before) one after h =
    let k = or_false (list_any (meets_at b.array b.place) (before ++ (one ∷ after))) (some_meet (before ++ (one ∷ after))) h in
    let l = any_split (meets_at b.array b.place) before one after k.0 in
    let m = meet_split before one after k.1 in (
      or_made_false (meets_at one.array one.place b) (list_any (meets_at one.array one.place) (before ++ after))
          (sym (meets_turned b.array one.array b.place one.place b.word one.word) ∙ l.0) m.0,
      or_made_false (list_any (meets_at b.array b.place) (before ++ after)) (some_meet (before ++ after)) l.1 m.1,
    )

not_both : (array : ℕ) (place : Option ℕ) (one : Stored) (a p : ℕ) → meets_at array place one ≡ false → (nat_eq array a && writes place p) ≡ true → is_at one a p ≡ true → ⊥
not_both array None one a p h k l = absurd (let e = and_right_false (nat_eq array a) in cc)
not_both array (Some q) one a p h k l = by_array (nat_eq array a) refl (nat_eq q p) refl k
  where
    by_array : (b : Bool) → nat_eq array a ≡ b → (c : Bool) → nat_eq q p ≡ c → (b && c) ≡ true → ⊥
    by_array true e true d g =
        let x : array ≡ a = eqb-true array a e in
        let y : q ≡ p = eqb-true q p d in
        let there : is_at one a p ≡ false = subst (λ (m : ℕ). is_at one a m ≡ false) y (subst (λ (m : ℕ). is_at one m q ≡ false) x h) in
        cc
    by_array true e false d g = cc
    by_array false e c d g = cc

exchanged : {A : Type 0} (a b : Bool) (x y z : A) → (a ≡ true → b ≡ true → ⊥) → (if a then x else if b then y else z) ≡ (if b then y else if a then x else z)
exchanged true true x y z h = absurd (h refl refl)
exchanged true false x y z h = refl
exchanged false true x y z h = refl
exchanged false false x y z h = refl

cells_split : (old : ℕ → ℕ → ℤ) (before : List Stored) (one : Stored) (after : List Stored) (a p : ℕ) → some_meet (before ++ (one ∷ after)) ≡ false
    → cells_after old (before ++ (one ∷ after)) a p ≡ cells_after old (one ∷ (before ++ after)) a p
cells_split old [] one after a p h = refl
cells_split old (b ∷ before) one after a p h =
    let k = or_false (list_any (meets_at b.array b.place) (before ++ (one ∷ after))) (some_meet (before ++ (one ∷ after))) h in
    let l = any_split (meets_at b.array b.place) before one after k.0 in
    ap (λ (z : ℤ). if is_at b a p then b.word else z) (cells_split old before one after a p k.1)
    ∙ exchanged (is_at b a p) (is_at one a p) b.word one.word (cells_after old (before ++ after) a p) (λ e d. not_both b.array b.place one a p l.0 e d)

-- ---- what a path does

pub record PathDoes (lengths : List ℕ) (machine window : State) (items others : List Item) : Type 0 where
  pub any : (p : Stored → Bool) → list_any p (stores_of lengths window others) ≡ false → list_any p (stores_of lengths machine items) ≡ false
  pub meet : some_meet (stores_of lengths window others) ≡ false → some_meet (stores_of lengths machine items) ≡ false
  pub cells : some_meet (stores_of lengths window others) ≡ false → (old : ℕ → ℕ → ℤ) (a p : ℕ)
      → cells_after old (stores_of lengths machine items) a p ≡ cells_after old (stores_of lengths window others) a p
  pub prints : prints_of machine items ≡ prints_of window others
  pub reads : reads_of items ≡ reads_of others

module _ (lengths : List ℕ) (machine window : State) where
  -- an item that does not go outward
  path_passes : (item : Item) (items others : List Item) → has_side_effect item ≡ false → PathDoes lengths machine window items others → PathDoes lengths machine window (item ∷ items) others
  path_passes (Bin op d l r) items others e h = record { any = h.any; meet = h.meet; cells = h.cells; prints = h.prints; reads = h.reads }
  path_passes (Copy d f) items others e h = record { any = h.any; meet = h.meet; cells = h.cells; prints = h.prints; reads = h.reads }
  path_passes (Load d a i) items others e h = record { any = h.any; meet = h.meet; cells = h.cells; prints = h.prints; reads = h.reads }
  path_passes (Store a i v) items others e h = absurd (cc)
  path_passes (Print v) items others e h = absurd (cc)
  path_passes (Read d) items others e h = absurd (cc)
  path_passes (More d) items others e h = record { any = h.any; meet = h.meet; cells = h.cells; prints = h.prints; reads = h.reads }

  path_none : (others : List Item) → AllByRecursion (λ item. has_side_effect item ≡ false) others → PathDoes lengths machine window [] others
  path_none others all =
      let s = silent lengths window others all in
      record {
        any = λ p h. refl;
        meet = λ h. refl;
        cells = λ h old a p. ap (λ (l : List Stored). cells_after old l a p) (sym s.stores);
        prints = sym s.prints;
        reads = sym s.reads;
      }

  -- a store before others
  path_store : (one : Stored) (rest before after : List Stored)
      → ((p : Stored → Bool) → list_any p (before ++ after) ≡ false → list_any p rest ≡ false)
      → (some_meet (before ++ after) ≡ false → some_meet rest ≡ false)
      → (some_meet (before ++ after) ≡ false → (old : ℕ → ℕ → ℤ) (a p : ℕ) → cells_after old rest a p ≡ cells_after old (before ++ after) a p)
      → ((p : Stored → Bool) → list_any p (before ++ (one ∷ after)) ≡ false → list_any p (one ∷ rest) ≡ false)
      × (some_meet (before ++ (one ∷ after)) ≡ false → some_meet (one ∷ rest) ≡ false)
      × (some_meet (before ++ (one ∷ after)) ≡ false → (old : ℕ → ℕ → ℤ) (a p : ℕ) → cells_after old (one ∷ rest) a p ≡ cells_after old (before ++ (one ∷ after)) a p)
  path_store one rest before after any meet cells = (
    λ p h. let k = any_split p before one after h in or_made_false (p one) (list_any p rest) k.0 (any p k.1),
    λ h. let k = meet_split before one after h in or_made_false (list_any (meets_at one.array one.place) rest) (some_meet rest) (any (meets_at one.array one.place) k.0) (meet k.1),
    λ h old a p. let k = meet_split before one after h in
        ap (λ (z : ℤ). if is_at one a p then one.word else z) (cells k.1 old a p) ∙ sym (cells_split old before one after a p h),
  )

reads_one : (y : Item) (path : List Item) → reads_of (y ∷ path) ≡ reads_of (y ∷ []) + reads_of path
reads_one (Bin op d l r) path = omega arith
reads_one (Copy d f) path = omega arith
reads_one (Load d a i) path = omega arith
reads_one (Store a i v) path = omega arith
reads_one (Print v) path = omega arith
reads_one (Read d) path = omega arith
reads_one (More d) path = omega arith

pub reads_both : (xs ys : List Item) → reads_of (xs ++ ys) ≡ reads_of xs + reads_of ys
reads_both [] ys = omega arith
reads_both (x ∷ xs) ys =
    let e = reads_one x (xs ++ ys) in
    let d = reads_one x xs in
    let h = reads_both xs ys in
    omega (arith, e, d, h)

module _ (lengths : List ℕ) (machine window : State) where
  module _ (before : List Item) (other : Item) (after : List Item) where
    stores_there : (one : List Stored) → stores_of lengths window (other ∷ []) ≡ one
        → stores_of lengths window (before ++ (other ∷ after)) ≡ stores_of lengths window before ++ (one ++ stores_of lengths window after)
    stores_there one e =
        stores_both lengths window before (other ∷ after)
        ∙ ap (λ (l : List Stored). stores_of lengths window before ++ l) (stores_one lengths window other after ∙ ap (λ (l : List Stored). l ++ stores_of lengths window after) e)

    prints_there : (one : List ℤ) → prints_of window (other ∷ []) ≡ one
        → prints_of window (before ++ (other ∷ after)) ≡ prints_of window before ++ (one ++ prints_of window after)
    prints_there one e =
        prints_both window before (other ∷ after)
        ∙ ap (λ (l : List ℤ). prints_of window before ++ l) (prints_one window other after ∙ ap (λ (l : List ℤ). l ++ prints_of window after) e)

    reads_there : (n : ℕ) → reads_of (other ∷ []) ≡ n → reads_of (before ++ (other ∷ after)) ≡ n + reads_of (before ++ after)
    reads_there n e =
        let a = reads_both before (other ∷ after) in
        let b = reads_one other after in
        let c = reads_both before after in
        omega (arith, a, b, c, e)

    -- what stores nothing
    without_store : (items : List Item) → stores_of lengths window (other ∷ []) ≡ [] → PathDoes lengths machine window items (before ++ after) → (item : Item)
        → stores_of lengths machine (item ∷ items) ≡ stores_of lengths machine items
        → prints_of machine (item ∷ items) ≡ prints_of window (before ++ (other ∷ after)) → reads_of (item ∷ items) ≡ reads_of (before ++ (other ∷ after))
        → PathDoes lengths machine window (item ∷ items) (before ++ (other ∷ after))
    without_store items none h item same prints reads =
        let there : stores_of lengths window (before ++ (other ∷ after)) ≡ stores_of lengths window (before ++ after) =
        stores_there [] none ∙ sym (stores_both lengths window before after) in
        record {
          any = λ p e. subst (λ (l : List Stored). list_any p l ≡ false) (sym same) (h.any p (subst (λ (l : List Stored). list_any p l ≡ false) there e));
          meet = λ e. subst (λ (l : List Stored). some_meet l ≡ false) (sym same) (h.meet (subst (λ (l : List Stored). some_meet l ≡ false) there e));
          cells = λ e old a p. ap (λ (l : List Stored). cells_after old l a p) same
              ∙ h.cells (subst (λ (l : List Stored). some_meet l ≡ false) there e) old a p
              ∙ ap (λ (l : List Stored). cells_after old l a p) (sym there);
          prints = prints;
          reads = reads;
        }

    with_store : (items : List Item) (one : Stored) → stores_of lengths window (other ∷ []) ≡ one ∷ [] → PathDoes lengths machine window items (before ++ after) → (item : Item)
        → stores_of lengths machine (item ∷ items) ≡ one ∷ stores_of lengths machine items
        → prints_of machine (item ∷ items) ≡ prints_of window (before ++ (other ∷ after)) → reads_of (item ∷ items) ≡ reads_of (before ++ (other ∷ after))
        → PathDoes lengths machine window (item ∷ items) (before ++ (other ∷ after))
    with_store items one is h item same prints reads =
        let b = stores_of lengths window before in
        let a = stores_of lengths window after in
        let rest = stores_of lengths machine items in
        let there : stores_of lengths window (before ++ (other ∷ after)) ≡ b ++ (one ∷ a) = stores_there (one ∷ []) is in
        let less : stores_of lengths window (before ++ after) ≡ b ++ a = stores_both lengths window before after in
        let k = path_store lengths machine window one rest b a
        (λ p e. h.any p (subst (λ (l : List Stored). list_any p l ≡ false) (sym less) e))
        (λ e. h.meet (subst (λ (l : List Stored). some_meet l ≡ false) (sym less) e))
        (λ e old c p. h.cells (subst (λ (l : List Stored). some_meet l ≡ false) (sym less) e) old c p ∙ ap (λ (l : List Stored). cells_after old l c p) less) in
        record {
          any = λ p e. subst (λ (l : List Stored). list_any p l ≡ false) (sym same) (k.0 p (subst (λ (l : List Stored). list_any p l ≡ false) there e));
          meet = λ e. subst (λ (l : List Stored). some_meet l ≡ false) (sym same) (k.1 (subst (λ (l : List Stored). some_meet l ≡ false) there e));
          cells = λ e old c p. ap (λ (l : List Stored). cells_after old l c p) same
              ∙ k.2 (subst (λ (l : List Stored). some_meet l ≡ false) there e) old c p
              ∙ ap (λ (l : List Stored). cells_after old l c p) (sym there);
          prints = prints;
          reads = reads;
        }

    path_matches : (items : List Item) (item : Item) → has_side_effect item ≡ true → AllByRecursion (MayPrecede item) before → SameDoing lengths machine window item other
        → PathDoes lengths machine window items (before ++ after) → PathDoes lengths machine window (item ∷ items) (before ++ (other ∷ after))
    path_matches items (Store array index value) outward order same h =
        let one : Stored = record { array = array; place = place_in (slice_index lengths array) (operand_value machine.names index); word = operand_value machine.names value } in
        with_store items one (sym same.stores) h (Store array index value) refl
        (h.prints ∙ prints_both window before after ∙ sym (prints_there [] (sym same.prints)))
        (h.reads ∙ sym (reads_there 0 (sym same.reads) ∙ (let n = reads_of (before ++ after) in let z : 0 + n ≡ n = omega arith in z)))
    path_matches items (Print value) outward order same h =
        let silent_before = unordered window (Print value) before refl order in
        without_store items (sym same.stores) h (Print value) refl
        (ap (λ (l : List ℤ). operand_value machine.names value ∷ l) (h.prints ∙ prints_both window before after ∙ ap (λ (l : List ℤ). l ++ prints_of window after) silent_before.prints)
        ∙ sym (prints_there (operand_value machine.names value ∷ []) (sym same.prints)
        ∙ ap (λ (l : List ℤ). l ++ (operand_value machine.names value ∷ prints_of window after)) silent_before.prints))
        (h.reads ∙ sym (reads_there 0 (sym same.reads) ∙ (let n = reads_of (before ++ after) in let z : 0 + n ≡ n = omega arith in z)))
    path_matches items (Read dest) outward order same h =
        without_store items (sym same.stores) h (Read dest) refl
        (h.prints ∙ prints_both window before after ∙ sym (prints_there [] (sym same.prints)))
        (ap suc h.reads ∙ sym (reads_there 1 (sym same.reads) ∙ (let n = reads_of (before ++ after) in let z : 1 + n ≡ suc n = omega arith in z)))
    path_matches items (Bin op d l r) outward order same h = absurd (cc)
    path_matches items (Copy d f) outward order same h = absurd (cc)
    path_matches items (Load d a i) outward order same h = absurd (cc)
    path_matches items (More d) outward order same h = absurd (cc)

-- a path that matches another does what it does
pub path_does : (lengths : List ℕ) (facts : List Fact) (machine window : State) → StatesMatch facts machine window
    → {items others : List Item} → EffectsMatch facts items others → PathDoes lengths machine window items others
path_does lengths facts machine window alike (all_matched {others} all) = path_none lengths machine window others all
path_does lengths facts machine window alike (passes {item} {items} {others} e h) =
    path_passes lengths machine window item items others e (path_does lengths facts machine window alike h)
path_does lengths facts machine window alike (matches {item} {other} {items} before after outward order same h) =
    path_matches lengths machine window before other after items item outward order (items_same lengths facts machine window alike same)
    (path_does lengths facts machine window alike h)

-- ---- faults

past_end_none : (outside twice past : Bool) → (if outside then Some StoreOutOfRange else if twice then Some StoredTwice else if past then Some ReadPastEnd else None) ≡ None
    → (outside ≡ false) × (twice ≡ false) × (past ≡ false)
past_end_none true twice past h = absurd (cc)
past_end_none false true past h = absurd (cc)
past_end_none false false true h = absurd (cc)
past_end_none false false false h = (refl, refl, refl)

none_of : (outside twice past : Bool) → outside ≡ false → twice ≡ false → past ≡ false
    → (if outside then Some StoreOutOfRange else if twice then Some StoredTwice else if past then Some ReadPastEnd else None) ≡ None
none_of outside twice past a b c = rw (a, b, c) refl

-- where the other does not fault, it does not
pub path_faults : (lengths : List ℕ) (machine window : State) (items others : List Item) → machine.input ≡ window.input → PathDoes lengths machine window items others
    → fault_of lengths window others ≡ None → fault_of lengths machine items ≡ None
path_faults lengths machine window items others input does none =
    let k = past_end_none (list_any is_outside (stores_of lengths window others)) (some_meet (stores_of lengths window others)) (reads_past_end window others) none in
    none_of (list_any is_outside (stores_of lengths machine items)) (some_meet (stores_of lengths machine items)) (reads_past_end machine items)
    (does.any is_outside k.0) (does.meet k.1)
    (ap (λ (n : ℕ). nat_lt 0 n && not (some_left machine.input)) does.reads ∙ ap (λ (l : List ℤ). nat_lt 0 (reads_of others) && not (some_left l)) input ∙ k.2)

-- no two of its stores meet
pub path_apart : (lengths : List ℕ) (window : State) (others : List Item) → fault_of lengths window others ≡ None → some_meet (stores_of lengths window others) ≡ false
path_apart lengths window others none = (past_end_none (list_any is_outside (stores_of lengths window others)) (some_meet (stores_of lengths window others)) (reads_past_end window others) none).1

-- ---- facts

pub writer_value : (lengths : List ℕ) (s : State) (name : ℕ) (item : Item) {items : List Item} → IsWriter name item items → names_after lengths s items name ≡ value_of lengths s item
writer_value lengths s name item (writes_here {items} e) =
    ap (λ (d : Option ℕ). if writes d name then value_of lengths s item else names_after lengths s items name) e
    ∙ ap (λ (b : Bool). if b then value_of lengths s item else names_after lengths s items name) (eq-eqb name name refl)
writer_value lengths s name item (writes_later {first} {items} e h) =
    ap (λ (b : Bool). if b then value_of lengths s first else names_after lengths s items name) e ∙ writer_value lengths s name item h

pub none_writes : (lengths : List ℕ) (s : State) (name : ℕ) (items : List Item) → NoneWrites name items → names_after lengths s items name ≡ s.names name
none_writes lengths s name [] h = refl
none_writes lengths s name (item ∷ items) h =
    ap (λ (b : Bool). if b then value_of lengths s item else names_after lengths s items name) h.0 ∙ none_writes lengths s name items h.1

stays_same : (lengths : List ℕ) (s : State) (operand : Operand) (items : List Item) → IsUnchanged operand items
    → operand_value (names_after lengths s items) operand ≡ operand_value s.names operand
stays_same lengths s (Name name) items h = none_writes lengths s name items h
stays_same lengths s (Lit value) items h = refl

pub facts_after : (lengths : List ℕ) (facts : List Fact) (machine window : State) → StatesMatch facts machine window → {items others : List Item} {fact : Fact}
    → FactAfter facts items others fact → FactHolds (names_after lengths machine items) (names_after lengths window others) fact
facts_after lengths facts machine window alike {items} {others} (unchanged {source} {operand} is none same) =
    stays_same lengths machine source items none ∙ operands_same lengths facts machine window alike source operand is ∙ sym (stays_same lengths window operand others same)
facts_after lengths facts machine window alike {items} {others} (copied_by_row {register} {from} {operand} writer claims same) =
    writer_value lengths machine register (Copy register from) writer ∙ operands_same lengths facts machine window alike from operand claims ∙ sym (stays_same lengths window operand others same)
facts_after lengths facts machine window alike {items} {others} (copied_by_front {name} {source} {from} writer claims same) =
    stays_same lengths machine source items same ∙ operands_same lengths facts machine window alike source from claims ∙ sym (writer_value lengths window name (Copy name from) writer)
facts_after lengths facts machine window alike {items} {others} (computed {register} {name} {item} {other} writer writer' same) =
    writer_value lengths machine register item writer ∙ (items_same lengths facts machine window alike same).value ∙ sym (writer_value lengths window name other writer')

-- ---- the states

-- after two paths that match: printed the same, no fault, and the states stand alike in all facts that hold after them
pub record PathAfter (lengths : List ℕ) (facts : List Fact) (machine window : State) (items others : List Item) : Type 0 where
  pub no_fault : fault_of lengths machine items ≡ None
  pub prints : prints_of machine items ≡ prints_of window others
  pub cells : (state_after lengths machine items).cells ≡ (state_after lengths window others).cells
  pub input : (state_after lengths machine items).input ≡ (state_after lengths window others).input
  pub held : (fact : Fact) → FactAfter facts items others fact → FactHolds (state_after lengths machine items).names (state_after lengths window others).names fact

pub path_after : (lengths : List ℕ) (facts : List Fact) (machine window : State) → StatesMatch facts machine window → (items others : List Item)
    → EffectsMatch facts items others → fault_of lengths window others ≡ None → PathAfter lengths facts machine window items others
path_after lengths facts machine window alike items others effects none =
    let does = path_does lengths facts machine window alike effects in
    record {
      no_fault = path_faults lengths machine window items others alike.input does none;
      prints = does.prints;
      cells = (λ d a p. does.cells (path_apart lengths window others none) machine.cells a p d)
          ∙ ap (λ (old : ℕ → ℕ → ℤ). cells_after old (stores_of lengths window others)) alike.cells;
      input = ap (λ (n : ℕ). drop n machine.input) does.reads ∙ ap (λ (l : List ℤ). drop (reads_of others) l) alike.input;
      held = λ fact h. facts_after lengths facts machine window alike h;
    }
