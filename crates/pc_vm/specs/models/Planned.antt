-- What a row is going to do, gathered item by item before anything is changed.
use Rattle.std.specs.Prelude.{ℕ, ℤ, ◌<◌, Bool, true, false, if◌then◌else◌, not, ◌&&◌, List, [], ◌∷◌, ◌++◌, map, Option, Some, None, IfSome, slice_set, slice_index, slice_index_or}
use Rattle.std.specs.List.{list_any}
use Rattle.pc_word.specs.declared.item.Item.{Item}
use Rattle.pc_word.specs.declared.item.Item.TheVariants.{Bin, Copy, Load, Store, Print, Read, More}
use Rattle.pc_word.specs.declared.item.MachineFault.{MachineFault}
use Rattle.pc_word.specs.declared.item.MachineFault.TheVariants.{StoreOutOfRange, StoredTwice, ReadPastEnd}
use Rattle.pc_word.specs.State.{State}
use Rattle.pc_word.specs.Commit.{Stored, is_outside, some_meet}
use Rattle.pc_word.specs.Items.{operand_value, place_in, value_of}
use Rattle.pc_vm.specs.declared.pending.PendingWrite.{PendingWrite}
use Rattle.pc_vm.specs.declared.pending.PendingStore.{PendingStore}
use Rattle.pc_machine.specs.Registers.{most_registers}

-- the writes and stores, in order, what is printed, and whether an input number is taken
pub record Planned : Type 0 where
  pub writes : List PendingWrite
  pub stores : List PendingStore
  pub printed : Option ℤ
  pub reads : Bool

-- nothing, as between cycles
abbrev pub nothing_planned : Planned
nothing_planned = record { writes = []; stores = []; printed = None; reads = false }

-- the plan with one more write
abbrev pub with_write : ℕ → ℤ → Planned → Planned
with_write dest word plan = record plan { writes = plan.writes ++ record { dest = dest; word = word } ∷ [] }

-- the plan with one more item, whose words are those of the state before the row
abbrev pub planned_with : List ℕ → State → Item → Planned → Planned
planned_with lengths old (Bin op dest left right) plan = with_write dest (value_of lengths old (Bin op dest left right)) plan
planned_with lengths old (Copy dest from) plan = with_write dest (value_of lengths old (Copy dest from)) plan
planned_with lengths old (Load dest array index) plan = with_write dest (value_of lengths old (Load dest array index)) plan
planned_with lengths old (Store array index value) plan =
    record plan {
      stores = plan.stores ++ record {
        array = array;
        place = place_in (slice_index lengths array) (operand_value old.names index);
        word = operand_value old.names value;
      } ∷ [];
    }
planned_with lengths old (Print value) plan = record plan { printed = Some (operand_value old.names value) }
planned_with lengths old (Read dest) plan = with_write dest (value_of lengths old (Read dest)) (record plan { reads = true })
planned_with lengths old (More dest) plan = with_write dest (value_of lengths old (More dest)) plan

-- the plan with the items of a path
abbrev pub planned_by : List ℕ → State → List Item → Planned → Planned
planned_by lengths old [] plan = plan
planned_by lengths old (item ∷ items) plan = planned_by lengths old items (planned_with lengths old item plan)

-- a store that is planned, as a store of the row
abbrev pub stored_of : PendingStore → Stored
stored_of store = record { array = store.array; place = store.place; word = store.word }

-- the fault of a plan, if input is or is not left
abbrev pub planned_fault : Planned → Bool → Option MachineFault
planned_fault plan some_left =
    if list_any (λ store. is_outside (stored_of store)) plan.stores then Some StoreOutOfRange
    else if some_meet (map stored_of plan.stores) then Some StoredTwice
    else if plan.reads && not some_left then Some ReadPastEnd
    else None

-- the registers once the writes are done; of two to one register the first stays
abbrev pub written : List PendingWrite → List ℤ → List ℤ
written [] registers = registers
written (write ∷ writes) registers = slice_set (written writes registers) write.dest write.word

-- the arrays with one element changed
abbrev pub with_element : ℕ → Option ℕ → ℤ → List (List ℤ) → List (List ℤ)
with_element array None word cells = cells
with_element array (Some place) word cells = slice_set cells array (slice_set (slice_index_or cells array []) place word)

-- the arrays once the stores are done
abbrev pub stored : List PendingStore → List (List ℤ) → List (List ℤ)
stored [] cells = cells
stored (store ∷ stores) cells = with_element store.array store.place store.word (stored stores cells)

-- the store is inside its array
abbrev pub IsInside : List ℕ → PendingStore → Type 0
IsInside lengths store = IfSome store.place (λ place. place < slice_index lengths store.array)

-- the register is there
abbrev pub IsRegister : PendingWrite → Type 0
IsRegister write = write.dest < most_registers
