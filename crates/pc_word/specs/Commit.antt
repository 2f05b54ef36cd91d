-- What items that commit together do: each reads the state as it was, and then their writes, stores, prints and reads
-- change it at once.
use Rattle.std.specs.Prelude.{ℕ, suc, ℤ, Bool, false, if◌then◌else◌, not, ◌&&◌, ◌||◌, nat_eq, nat_lt, List, [], ◌∷◌, drop, Option, Some, None, is_none, slice_index}
use Rattle.std.specs.List.{list_any}
use Rattle.pc_word.specs.declared.item.Item.{Item}
use Rattle.pc_word.specs.declared.item.Item.TheVariants.{Store, Print, Read}
use Rattle.pc_word.specs.declared.item.MachineFault.{MachineFault}
use Rattle.pc_word.specs.declared.item.MachineFault.TheVariants.{StoreOutOfRange, StoredTwice, ReadPastEnd}
use Rattle.pc_word.specs.State.{State}
use Rattle.pc_word.specs.Items.{operand_value, place_in, some_left, dest_of, value_of}

-- ---- names

-- whether the name that is written, if any, is this one
abbrev pub writes : Option ℕ → ℕ → Bool
writes None x = false
writes (Some dest) x = nat_eq dest x

-- each name has the word that an item writes there, or what it had
abbrev pub names_after : List ℕ → State → List Item → ℕ → ℤ
names_after lengths old [] x = old.names x
names_after lengths old (item ∷ items) x =
    if writes (dest_of item) x then value_of lengths old item else names_after lengths old items x

-- ---- elements

-- a store: the array, the element if it is inside, and the word
pub record Stored : Type 0 where
  pub array : ℕ
  pub place : Option ℕ
  pub word : ℤ

-- the stores, in order
abbrev pub stores_of : List ℕ → State → List Item → List Stored
stores_of lengths old [] = []
stores_of lengths old (Store array index value ∷ items) =
    record {
      array = array;
      place = place_in (slice_index lengths array) (operand_value old.names index);
      word = operand_value old.names value;
    } ∷ stores_of lengths old items
stores_of lengths old (_ ∷ items) = stores_of lengths old items

-- whether a store is in this element
abbrev pub is_at : Stored → ℕ → ℕ → Bool
is_at stored array place = nat_eq stored.array array && writes stored.place place

-- each element has the word that a store puts there, or what it had
abbrev pub cells_after : (ℕ → ℕ → ℤ) → List Stored → ℕ → ℕ → ℤ
cells_after old [] array place = old array place
cells_after old (stored ∷ stores) array place =
    if is_at stored array place then stored.word else cells_after old stores array place

-- ---- prints and reads

-- the words printed, in order
abbrev pub prints_of : State → List Item → List ℤ
prints_of old [] = []
prints_of old (Print value ∷ items) = operand_value old.names value ∷ prints_of old items
prints_of old (_ ∷ items) = prints_of old items

-- how many input words are taken
abbrev pub reads_of : List Item → ℕ
reads_of [] = 0
reads_of (Read dest ∷ items) = suc (reads_of items)
reads_of (_ ∷ items) = reads_of items

-- ---- faults

-- whether a store is outside its array
abbrev pub is_outside : Stored → Bool
is_outside stored = is_none stored.place

-- whether another store is in the element of a store
abbrev pub meets_at : ℕ → Option ℕ → Stored → Bool
meets_at array None other = false
meets_at array (Some place) other = is_at other array place

-- two stores meet in one element
abbrev pub some_meet : List Stored → Bool
some_meet [] = false
some_meet (stored ∷ stores) = list_any (meets_at stored.array stored.place) stores || some_meet stores

-- whether the items read where no input number is left; of the items of a well-formed path at most one reads
abbrev pub reads_past_end : State → List Item → Bool
reads_past_end old items = nat_lt 0 (reads_of items) && not (some_left old.input)

-- their fault: a store out of range before two stores in one element before a read without input
abbrev pub fault_of : List ℕ → State → List Item → Option MachineFault
fault_of lengths old items =
    if list_any is_outside (stores_of lengths old items) then Some StoreOutOfRange
    else if some_meet (stores_of lengths old items) then Some StoredTwice
    else if reads_past_end old items then Some ReadPastEnd
    else None

-- ---- the state

-- the state once the items have committed together
abbrev pub state_after : List ℕ → State → List Item → State
state_after lengths old items =
    record {
      names = names_after lengths old items;
      cells = cells_after old.cells (stores_of lengths old items);
      input = drop (reads_of items) old.input;
    }
