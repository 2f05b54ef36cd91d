-- Items that do the same in two states.
use Rattle.std.proofs.Common.{◌≡◌, ℕ, ◌+◌, true, false, List, [], ◌∷◌, ◌++◌, Option, Some, None, refl, sym, ◌∙◌, ap, subst, arith}
use Rattle.std.specs.Prelude.{ℤ, if◌then◌else◌, drop, slice_index}
use Rattle.std.specs.List.{AllByRecursion}
use Rattle.pc_word.specs.declared.item.Item.{Item}
use Rattle.pc_word.specs.declared.item.Item.TheVariants.{Bin, Copy, Load, Store, Print, Read, More}
use Rattle.pc_word.specs.declared.item.Operand.{Operand}
use Rattle.pc_word.specs.declared.item.Operand.TheVariants.{Name, Lit}
use Rattle.pc_word.specs.Word.{word_of_test, word_apply}
use Rattle.pc_word.specs.State.{State}
use Rattle.pc_word.specs.Items.{operand_value, place_in, element_at, next_input, some_left, dest_of, value_of, is_effect}
use Rattle.pc_word.specs.Commit.{Stored, stores_of, prints_of, reads_of, writes, names_after, cells_after, state_after}
use Rattle.pc_word.proofs.Lists.{all_imply}
use Rattle.pc_tighten.specs.Compact.{is_dest, reads_dest, writes_both, stores, is_loaded_by}
use Rattle.pc_tighten.proofs.Lists.{or_left, or_right, nat_eq-sound}

-- ---- what stays as it was

same_dest : (d e : Option ℕ) (r : ℕ) → writes_both d e ≡ false → writes e r ≡ true → writes d r ≡ false
same_dest d None r apart at = absurd (cc)
same_dest d (Some q) r apart at = subst (λ (k : ℕ). writes d k ≡ false) (nat_eq-sound q r at) apart

module _ (lengths : List ℕ) (old : State) where
  names_kept : (items : List Item) (r : ℕ) → AllByRecursion (λ y. writes (dest_of y) r ≡ false) items → names_after lengths old items r ≡ old.names r
  names_kept [] r h = refl
  names_kept (y ∷ items) r h = rw h.0 (names_kept items r h.1)

  pub operand_kept : (items : List Item) (on : Operand) → AllByRecursion (λ y. is_dest on (dest_of y) ≡ false) items
      → operand_value (names_after lengths old items) on ≡ operand_value old.names on
  operand_kept items (Name r) h = names_kept items r h
  operand_kept items (Lit value) h = refl

  cells_kept : (c : ℕ → ℕ → ℤ) (items : List Item) (a i : ℕ) → AllByRecursion (λ y. stores a y ≡ false) items
      → cells_after c (stores_of lengths old items) a i ≡ c a i
  cells_kept c [] a i h = refl
  cells_kept c (Bin op dest left right ∷ items) a i h = cells_kept c items a i h.1
  cells_kept c (Copy dest from ∷ items) a i h = cells_kept c items a i h.1
  cells_kept c (Load dest array index ∷ items) a i h = cells_kept c items a i h.1
  cells_kept c (Store array index value ∷ items) a i h = rw h.0 (cells_kept c items a i h.1)
  cells_kept c (Print value ∷ items) a i h = cells_kept c items a i h.1
  cells_kept c (Read dest ∷ items) a i h = cells_kept c items a i h.1
  cells_kept c (More dest ∷ items) a i h = cells_kept c items a i h.1

-- ---- what an item reads in two states

-- it writes, stores and prints the same
pub record IsAlike (lengths : List ℕ) (old new : State) (x : Item) : Type 0 where
  pub value : value_of lengths new x ≡ value_of lengths old x
  pub stored : stores_of lengths new (x ∷ []) ≡ stores_of lengths old (x ∷ [])
  pub printed : prints_of new (x ∷ []) ≡ prints_of old (x ∷ [])

-- where these items, which committed between, write nothing that it reads
pub record ReadsNothingOf (items : List Item) (x : Item) : Type 0 where
  pub registers : AllByRecursion (λ y. reads_dest x (dest_of y) ≡ false) items
  pub arrays : AllByRecursion (λ y. is_loaded_by y x ≡ false) items
  pub input : is_effect x ≡ true → reads_of items ≡ 0

not_stored : (items : List Item) (dest array : ℕ) (index : Operand) → AllByRecursion (λ y. is_loaded_by y (Load dest array index) ≡ false) items
    → AllByRecursion (λ y. stores array y ≡ false) items
not_stored [] dest array index h = tt
not_stored (Bin op d left right ∷ items) dest array index h = (refl, not_stored items dest array index h.1)
not_stored (Copy d from ∷ items) dest array index h = (refl, not_stored items dest array index h.1)
not_stored (Load d a at ∷ items) dest array index h = (refl, not_stored items dest array index h.1)
not_stored (Store a at value ∷ items) dest array index h = (h.0, not_stored items dest array index h.1)
not_stored (Print value ∷ items) dest array index h = (refl, not_stored items dest array index h.1)
not_stored (Read d ∷ items) dest array index h = (refl, not_stored items dest array index h.1)
not_stored (More d ∷ items) dest array index h = (refl, not_stored items dest array index h.1)

pub input_kept : (items : List Item) (input : List ℤ) → reads_of items ≡ 0 → drop (reads_of items) input ≡ input
input_kept items input e = rw e refl

pub alike : (lengths : List ℕ) (old : State) (items : List Item) (x : Item) → ReadsNothingOf items x → IsAlike lengths old (state_after lengths old items) x
alike lengths old items (Bin op dest left right) h =
    let l = operand_kept lengths old items left (all_imply (λ y. reads_dest (Bin op dest left right) (dest_of y) ≡ false) (λ y. is_dest left (dest_of y) ≡ false) items
    (λ y e. or_left (is_dest left (dest_of y)) (is_dest right (dest_of y)) e) h.registers) in
    let r = operand_kept lengths old items right (all_imply (λ y. reads_dest (Bin op dest left right) (dest_of y) ≡ false) (λ y. is_dest right (dest_of y) ≡ false) items
    (λ y e. or_right (is_dest left (dest_of y)) (is_dest right (dest_of y)) e) h.registers) in
    record {
      value = ap (λ (v : ℤ). word_apply op v (operand_value (names_after lengths old items) right)) l
          ∙ ap (λ (v : ℤ). word_apply op (operand_value old.names left) v) r;
      stored = refl;
      printed = refl;
    }
alike lengths old items (Copy dest from) h = record { value = operand_kept lengths old items from h.registers; stored = refl; printed = refl }
alike lengths old items (Load dest array index) h =
    let i = operand_kept lengths old items index h.registers in
    let c : cells_after old.cells (stores_of lengths old items) array ≡ old.cells array = λ j place. cells_kept lengths old old.cells items array place
    (not_stored items dest array index h.arrays) j in
    record {
      value = ap (λ (f : ℕ → ℤ). element_at f (place_in (slice_index lengths array) (operand_value (names_after lengths old items) index))) c
          ∙ ap (λ (v : ℤ). element_at (old.cells array) (place_in (slice_index lengths array) v)) i;
      stored = refl;
      printed = refl;
    }
alike lengths old items (Store array index value) h =
    let l = operand_kept lengths old items index (all_imply (λ y. reads_dest (Store array index value) (dest_of y) ≡ false) (λ y. is_dest index (dest_of y) ≡ false) items
    (λ y e. or_left (is_dest index (dest_of y)) (is_dest value (dest_of y)) e) h.registers) in
    let r = operand_kept lengths old items value (all_imply (λ y. reads_dest (Store array index value) (dest_of y) ≡ false) (λ y. is_dest value (dest_of y) ≡ false) items
    (λ y e. or_right (is_dest index (dest_of y)) (is_dest value (dest_of y)) e) h.registers) in
    record {
      value = r;
      stored = ap (λ (v : ℤ). let s : Stored = record { array = array; place = place_in (slice_index lengths array) v; word = operand_value (names_after lengths old items) value } in s ∷ []) l
          ∙ ap (λ (v : ℤ). let s : Stored = record { array = array; place = place_in (slice_index lengths array) (operand_value old.names index); word = v } in s ∷ []) r;
      printed = refl;
    }
alike lengths old items (Print value) h =
    let v = operand_kept lengths old items value h.registers in
    record { value = v; stored = refl; printed = ap (λ (w : ℤ). w ∷ []) v }
alike lengths old items (Read dest) h = record { value = ap next_input (input_kept items old.input (h.input refl)); stored = refl; printed = refl }
alike lengths old items (More dest) h = record { value = ap (λ (l : List ℤ). word_of_test (some_left l)) (input_kept items old.input (h.input refl)); stored = refl; printed = refl }

-- ---- lists of items in two parts

pub stores-append : (lengths : List ℕ) (old : State) (xs ys : List Item) → stores_of lengths old (xs ++ ys) ≡ stores_of lengths old xs ++ stores_of lengths old ys
stores-append lengths old [] ys = refl
stores-append lengths old (Bin op dest left right ∷ xs) ys = stores-append lengths old xs ys
stores-append lengths old (Copy dest from ∷ xs) ys = stores-append lengths old xs ys
stores-append lengths old (Load dest array index ∷ xs) ys = stores-append lengths old xs ys
stores-append lengths old (Store array index value ∷ xs) ys = ap (λ (l : List Stored). record {
  array = array;
  place = place_in (slice_index lengths array)
      (operand_value old.names index);
  word = operand_value old.names value;
} ∷ l) (stores-append lengths old xs ys)
stores-append lengths old (Print value ∷ xs) ys = stores-append lengths old xs ys
stores-append lengths old (Read dest ∷ xs) ys = stores-append lengths old xs ys
stores-append lengths old (More dest ∷ xs) ys = stores-append lengths old xs ys

pub prints-append : (old : State) (xs ys : List Item) → prints_of old (xs ++ ys) ≡ prints_of old xs ++ prints_of old ys
prints-append old [] ys = refl
prints-append old (Bin op dest left right ∷ xs) ys = prints-append old xs ys
prints-append old (Copy dest from ∷ xs) ys = prints-append old xs ys
prints-append old (Load dest array index ∷ xs) ys = prints-append old xs ys
prints-append old (Store array index value ∷ xs) ys = prints-append old xs ys
prints-append old (Print value ∷ xs) ys = ap (λ (l : List ℤ). operand_value old.names value ∷ l) (prints-append old xs ys)
prints-append old (Read dest ∷ xs) ys = prints-append old xs ys
prints-append old (More dest ∷ xs) ys = prints-append old xs ys

pub reads-append : (xs ys : List Item) → reads_of (xs ++ ys) ≡ reads_of xs + reads_of ys
reads-append [] ys = omega arith
reads-append (Bin op dest left right ∷ xs) ys = reads-append xs ys
reads-append (Copy dest from ∷ xs) ys = reads-append xs ys
reads-append (Load dest array index ∷ xs) ys = reads-append xs ys
reads-append (Store array index value ∷ xs) ys = reads-append xs ys
reads-append (Print value ∷ xs) ys = reads-append xs ys
reads-append (Read dest ∷ xs) ys = let h = reads-append xs ys in omega arith
reads-append (More dest ∷ xs) ys = reads-append xs ys

-- all items that are alike together
pub stores_alike : (lengths : List ℕ) (old new : State) (items : List Item) → AllByRecursion (IsAlike lengths old new) items → stores_of lengths new items ≡ stores_of lengths old items
stores_alike lengths old new [] h = refl
stores_alike lengths old new (x ∷ items) h =
    stores-append lengths new (x ∷ []) items
    ∙ ap (λ (l : List Stored). l ++ stores_of lengths new items) h.0.stored
    ∙ ap (λ (l : List Stored). stores_of lengths old (x ∷ []) ++ l) (stores_alike lengths old new items h.1)
    ∙ sym (stores-append lengths old (x ∷ []) items)

pub prints_alike : (lengths : List ℕ) (old new : State) (items : List Item) → AllByRecursion (IsAlike lengths old new) items → prints_of new items ≡ prints_of old items
prints_alike lengths old new [] h = refl
prints_alike lengths old new (x ∷ items) h =
    prints-append new (x ∷ []) items
    ∙ ap (λ (l : List ℤ). l ++ prints_of new items) h.0.printed
    ∙ ap (λ (l : List ℤ). prints_of old (x ∷ []) ++ l) (prints_alike lengths old new items h.1)
    ∙ sym (prints-append old (x ∷ []) items)

-- ---- registers

module _ (lengths : List ℕ) (old : State) (x : Item) where
  -- an item among others, none of which before it writes its register
  pub names_with : (xs ys : List Item) (r : ℕ) → AllByRecursion (λ y. writes_both (dest_of y) (dest_of x) ≡ false) xs
      → names_after lengths old (xs ++ (x ∷ ys)) r ≡ (if writes (dest_of x) r then value_of lengths old x else names_after lengths old (xs ++ ys) r)
  names_with [] ys r h = refl
  names_with (y ∷ xs) ys r h =
      let go = names_with xs ys r h.1 in
      elim (writes (dest_of x) r) as (λ b. writes (dest_of x) r ≡ b
      → names_after lengths old (xs ++ (x ∷ ys)) r ≡ (if b then value_of lengths old x else names_after lengths old (xs ++ ys) r)
      → (if writes (dest_of y) r then value_of lengths old y else names_after lengths old (xs ++ (x ∷ ys)) r)
      ≡ (if b then value_of lengths old x else (if writes (dest_of y) r then value_of lengths old y else names_after lengths old (xs ++ ys) r))) [
        | true ↦ λ at g. let e = same_dest (dest_of y) (dest_of x) r h.0 at in rw e g
        | false ↦ λ at g. ap (λ (v : ℤ). if writes (dest_of y) r then value_of lengths old y else v) g
      ] refl go

  -- the others after it, where they read nothing of it
  pub names_later : (new : State) → ((r : ℕ) → new.names r ≡ (if writes (dest_of x) r then value_of lengths old x else old.names r))
      → (ys : List Item) (r : ℕ) → AllByRecursion (IsAlike lengths old new) ys → AllByRecursion (λ y. writes_both (dest_of y) (dest_of x) ≡ false) ys
      → names_after lengths new ys r ≡ (if writes (dest_of x) r then value_of lengths old x else names_after lengths old ys r)
  names_later new is [] r h k = is r
  names_later new is (y ∷ ys) r h k =
      let go = names_later new is ys r h.1 k.1 in
      elim (writes (dest_of x) r) as (λ b. writes (dest_of x) r ≡ b
      → names_after lengths new ys r ≡ (if b then value_of lengths old x else names_after lengths old ys r)
      → (if writes (dest_of y) r then value_of lengths new y else names_after lengths new ys r)
      ≡ (if b then value_of lengths old x else (if writes (dest_of y) r then value_of lengths old y else names_after lengths old ys r))) [
        | true ↦ λ at g. let e = same_dest (dest_of y) (dest_of x) r k.0 at in rw e g
        | false ↦ λ at g. ap (λ (v : ℤ). if writes (dest_of y) r then v else names_after lengths new ys r) h.0.value
            ∙ ap (λ (v : ℤ). if writes (dest_of y) r then value_of lengths old y else v) g
      ] refl go
