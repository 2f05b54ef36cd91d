-- Items that do the same with other registers: they read, store, print and give the same words.
use Rattle.std.proofs.Common.{◌≡◌, ℕ, suc, true, List, ◌∷◌, Option, Some, None, refl, ◌∙◌, ap}
use Rattle.std.specs.Prelude.{ℤ, if◌then◌else◌, ◌&&◌, not, nat_lt, slice_index}
use Rattle.std.specs.List.{list_any}
use Rattle.pc_word.specs.declared.item.Item.{Item}
use Rattle.pc_word.specs.declared.item.Item.TheVariants.{Bin, Copy, Load, Store, Print, Read, More}
use Rattle.pc_word.specs.declared.item.Operand.{Operand}
use Rattle.pc_word.specs.declared.item.MachineFault.{MachineFault}
use Rattle.pc_word.specs.declared.item.MachineFault.TheVariants.{StoreOutOfRange, StoredTwice, ReadPastEnd}
use Rattle.pc_word.specs.Word.{word_apply, word_of_test}
use Rattle.pc_word.specs.State.{State}
use Rattle.pc_word.specs.Items.{operand_value, place_in, element_at, next_input, some_left, dest_of, value_of, is_effect, is_memory}
use Rattle.pc_word.specs.Commit.{Stored, stores_of, prints_of, reads_of, is_outside, some_meet, fault_of}
use Rattle.pc_renaming.specs.ItemRenames.{OperandRenames, Same_value, Same_literal, ItemRenames, Same_bin, Same_copy, Same_load, Same_store, Same_print, Same_read, Same_more, only_gives}

-- a state of the code after has what one of the code before has, where `home` tells which register has a value
pub record Agrees (home : ℕ → Option ℕ) (old new : State) : Type 0 where
  pub names : (register place : ℕ) → home register ≡ Some place → old.names register ≡ new.names place
  pub cells : old.cells ≡ new.cells
  pub input : old.input ≡ new.input

-- two paths store and print the same and read as much
pub record SamePaths (lengths : List ℕ) (old new : State) (xs ys : List Item) : Type 0 where
  pub stores : stores_of lengths old xs ≡ stores_of lengths new ys
  pub prints : prints_of old xs ≡ prints_of new ys
  pub reads : reads_of xs ≡ reads_of ys

-- a store of a word at an index, in arrays of these lengths
abbrev stored : List ℕ → ℕ → ℤ → ℤ → Stored
stored lengths array index value = record { array = array; place = place_in (slice_index lengths array) index; word = value }

module _ {registers : ℕ} {home : ℕ → Option ℕ} (lengths : List ℕ) (old new : State) (agrees : Agrees home old new) where
  pub operand_same : {on one : Operand} → OperandRenames registers home on one → operand_value old.names on ≡ operand_value new.names one
  operand_same (Same_value at below) = agrees.names _ _ at
  operand_same Same_literal = refl

  pub value_same : {x y : Item} → ItemRenames registers home x y → value_of lengths old x ≡ value_of lengths new y
  value_same (Same_bin {op} {dest} {made} {left} {right} {one} {other} l r) =
      ap (λ (v : ℤ). word_apply op v (operand_value old.names right)) (operand_same l)
      ∙ ap (λ (v : ℤ). word_apply op (operand_value new.names one) v) (operand_same r)
  value_same (Same_copy from) = operand_same from
  value_same (Same_load {dest} {made} {array} {index} {one} i) =
      ap (λ (v : ℤ). element_at (old.cells array) (place_in (slice_index lengths array) v)) (operand_same i)
      ∙ ap (λ (cells : ℕ → ℕ → ℤ). element_at (cells array) (place_in (slice_index lengths array) (operand_value new.names one))) agrees.cells
  value_same (Same_store i v) = operand_same v
  value_same (Same_print v) = operand_same v
  value_same Same_read = ap next_input agrees.input
  value_same Same_more = ap (λ (words : List ℤ). word_of_test (some_left words)) agrees.input

  pub stays_same : {x y : Item} {xs ys : List Item} → ItemRenames registers home x y → SamePaths lengths old new xs ys → SamePaths lengths old new (x ∷ xs) (y ∷ ys)
  stays_same (Same_bin l r) rest = record { stores = rest.stores; prints = rest.prints; reads = rest.reads }
  stays_same (Same_copy from) rest = record { stores = rest.stores; prints = rest.prints; reads = rest.reads }
  stays_same (Same_load i) rest = record { stores = rest.stores; prints = rest.prints; reads = rest.reads }
  stays_same {xs = xs} {ys = ys} (Same_store {array} {index} {value} {one} {other} i v) rest = record {
    stores =
        ap (λ (w : ℤ). stored lengths array w (operand_value old.names value) ∷ stores_of lengths old xs) (operand_same i)
        ∙ ap (λ (w : ℤ). stored lengths array (operand_value new.names one) w ∷ stores_of lengths old xs) (operand_same v)
        ∙ ap (λ (l : List Stored). stored lengths array (operand_value new.names one) (operand_value new.names other) ∷ l) rest.stores;
    prints = rest.prints;
    reads = rest.reads;
  }
  stays_same {xs = xs} {ys = ys} (Same_print {value} {one} v) rest = record {
    stores = rest.stores;
    prints = ap (λ (w : ℤ). w ∷ prints_of old xs) (operand_same v) ∙ ap (λ (l : List ℤ). operand_value new.names one ∷ l) rest.prints;
    reads = rest.reads;
  }
  stays_same Same_read rest = record { stores = rest.stores; prints = rest.prints; reads = ap suc rest.reads }
  stays_same Same_more rest = record { stores = rest.stores; prints = rest.prints; reads = rest.reads }

-- an item that only gives a word stores, prints and reads nothing
pub goes_same : (lengths : List ℕ) (old new : State) (x : Item) (xs ys : List Item) → only_gives x ≡ true → SamePaths lengths old new xs ys
    → SamePaths lengths old new (x ∷ xs) ys
goes_same lengths old new (Bin op dest left right) xs ys only rest = record { stores = rest.stores; prints = rest.prints; reads = rest.reads }
goes_same lengths old new (Copy dest from) xs ys only rest = record { stores = rest.stores; prints = rest.prints; reads = rest.reads }
goes_same lengths old new (Load dest array index) xs ys only rest = record { stores = rest.stores; prints = rest.prints; reads = rest.reads }
goes_same lengths old new (Store array index value) xs ys only rest = absurd (cc)
goes_same lengths old new (Print value) xs ys only rest = absurd (cc)
goes_same lengths old new (Read dest) xs ys only rest = absurd (cc)
goes_same lengths old new (More dest) xs ys only rest = record { stores = rest.stores; prints = rest.prints; reads = rest.reads }

-- ---- faults

-- the fault of these stores, of so many reads, with this input
fault_from : List Stored → ℕ → List ℤ → Option MachineFault
fault_from stores reads input =
    if list_any is_outside stores then Some StoreOutOfRange
    else if some_meet stores then Some StoredTwice
    else if nat_lt 0 reads && not (some_left input) then Some ReadPastEnd
    else None

pub fault_same : (lengths : List ℕ) (old new : State) (xs ys : List Item) → old.input ≡ new.input → SamePaths lengths old new xs ys → fault_of lengths old xs ≡ fault_of lengths new ys
unfolding fault_from
fault_same lengths old new xs ys input same =
    ap (λ (l : List Stored). fault_from l (reads_of xs) old.input) same.stores
    ∙ ap (λ (n : ℕ). fault_from (stores_of lengths new ys) n old.input) same.reads
    ∙ ap (λ (l : List ℤ). fault_from (stores_of lengths new ys) (reads_of ys) l) input

-- ---- what an item is, by one that does the same

pub no_dest : {registers : ℕ} {home : ℕ → Option ℕ} {x y : Item} → ItemRenames registers home x y → dest_of x ≡ None → dest_of y ≡ None
no_dest (Same_bin l r) none = absurd (cc)
no_dest (Same_copy from) none = absurd (cc)
no_dest (Same_load i) none = absurd (cc)
no_dest (Same_store i v) none = refl
no_dest (Same_print v) none = refl
no_dest Same_read none = absurd (cc)
no_dest Same_more none = absurd (cc)

pub effect_same : {registers : ℕ} {home : ℕ → Option ℕ} {x y : Item} → ItemRenames registers home x y → is_effect y ≡ is_effect x
effect_same (Same_bin l r) = refl
effect_same (Same_copy from) = refl
effect_same (Same_load i) = refl
effect_same (Same_store i v) = refl
effect_same (Same_print v) = refl
effect_same Same_read = refl
effect_same Same_more = refl

pub memory_same : {registers : ℕ} {home : ℕ → Option ℕ} {x y : Item} → ItemRenames registers home x y → is_memory y ≡ is_memory x
memory_same (Same_bin l r) = refl
memory_same (Same_copy from) = refl
memory_same (Same_load i) = refl
memory_same (Same_store i v) = refl
memory_same (Same_print v) = refl
memory_same Same_read = refl
memory_same Same_more = refl
