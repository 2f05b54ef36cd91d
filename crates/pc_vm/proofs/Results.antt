-- What a row gives, from its plan.
use Rattle.std.proofs.Common.{◌≡◌, ℕ, ◌≤◌, Bool, ◌&&◌, List, length, map, drop, Option, Some, None, refl, sym, ap, ◌∙◌, subst, arith}
use Rattle.std.specs.Prelude.{ℤ, not, nat_lt, if◌then◌else◌, option_to_list}
use Rattle.std.specs.List.{list_any, AllByRecursion, count_by}
use Rattle.pc_word.specs.declared.item.Item.{Item}
use Rattle.pc_word.specs.declared.item.MachineFault.{MachineFault}
use Rattle.pc_word.specs.declared.item.MachineFault.TheVariants.{StoreOutOfRange, StoredTwice, ReadPastEnd}
use Rattle.pc_machine.specs.declared.tree.Leaf.{Leaf}
use Rattle.pc_machine.specs.MachineCode.{CodeRow}
use Rattle.pc_word.specs.State.{State}
use Rattle.pc_word.specs.Commit.{Stored, is_outside, some_meet, stores_of, prints_of, reads_of, names_after, cells_after, fault_of, state_after}
use Rattle.pc_word.specs.Row.{path_of, leaf_of, Faults, Commits, commit_of, row_step}
use Rattle.pc_word.specs.Items.{some_left, is_effect}
use Rattle.pc_machine.specs.WellFormed.{IsItem}
use Rattle.pc_vm.specs.declared.pending.PendingStore.{PendingStore}
use Rattle.pc_vm.specs.declared.pending.PendingWrite.{PendingWrite}
use Rattle.pc_vm.specs.Contents.{Contents, names_of, cells_of, state_of}
use Rattle.pc_vm.specs.models.Made.{lengths_of}
use Rattle.pc_vm.specs.models.Planned.{Planned, nothing_planned, planned_by, stored_of, planned_fault, written, stored, IsInside, IsRegister}
use Rattle.pc_vm.proofs.Lists.{list_any-map}
use Rattle.pc_vm.proofs.Plans.{writes_of, pending_of, any_reads, planned-writes, planned-stores, planned-printed, planned-reads, writes-registers}
use Rattle.pc_vm.proofs.Plans.{pending-inside, stored-pending, written-names, stored-cells, last_of-one, prints-few, reads-few, any_reads-count}
use Rattle.pc_vm.proofs.Plans.{taken_one}
use Rattle.pc_machine.specs.Registers.{most_registers}

-- the plan of a path, from nothing
abbrev pub plan_of : List ℕ → State → List Item → Planned
plan_of lengths old items = planned_by lengths old items nothing_planned

-- what was planned from nothing along the path that a row takes
pub plan-is : (row : CodeRow) (held : Contents) (before after : Planned)
    → after ≡ planned_by (lengths_of held.cells) (state_of held) (path_of (names_of held.registers) row) before → before ≡ nothing_planned
    → after ≡ plan_of (lengths_of held.cells) (state_of held) (path_of (names_of held.registers) row)
plan-is row held before after planned empty =
    planned ∙ ap (λ (p : Planned). planned_by (lengths_of held.cells) (state_of held) (path_of (names_of held.registers) row) p) empty

-- its fault is that of the path
pub plan-fault : (lengths : List ℕ) (old : State) (items : List Item) → planned_fault (plan_of lengths old items) (some_left old.input) ≡ fault_of lengths old items
plan-fault lengths old items =
    let stores : map stored_of (plan_of lengths old items).stores ≡ stores_of lengths old items =
    ap (λ (ss : List PendingStore). map stored_of ss) (planned-stores lengths old items nothing_planned) ∙ stored-pending lengths old items in
    let reads : (plan_of lengths old items).reads ≡ nat_lt 0 (reads_of items) = planned-reads lengths old items nothing_planned ∙ sym (any_reads-count items) in
    let fault : Bool → List Stored → Bool → Option MachineFault =
    λ outside ss reading. if outside then Some StoreOutOfRange else if some_meet ss then Some StoredTwice else if reading && not (some_left old.input) then Some ReadPastEnd else None in
    ap (λ (b : Bool). fault b (map stored_of (plan_of lengths old items).stores) (plan_of lengths old items).reads) (sym (list_any-map is_outside stored_of (plan_of lengths old items).stores))
    ∙ ap (λ (ss : List Stored). fault (list_any is_outside ss) ss (plan_of lengths old items).reads) stores
    ∙ ap (λ (b : Bool). fault (list_any is_outside (stores_of lengths old items)) (stores_of lengths old items) b) reads

-- its registers and places are there
pub plan-registers : (lengths : List ℕ) (old : State) (arrays : ℕ) (items : List Item) (plan : Planned) → plan ≡ plan_of lengths old items → AllByRecursion (IsItem most_registers arrays) items
    → AllByRecursion IsRegister plan.writes
plan-registers lengths old arrays items plan is all =
    subst (AllByRecursion IsRegister) (sym (ap (λ (p : Planned). p.writes) is ∙ planned-writes lengths old items nothing_planned)) (writes-registers lengths old arrays items all)

pub plan-inside : (lengths : List ℕ) (old : State) (items : List Item) (plan : Planned) → plan ≡ plan_of lengths old items → AllByRecursion (IsInside lengths) plan.stores
plan-inside lengths old items plan is =
    subst (AllByRecursion (IsInside lengths)) (sym (ap (λ (p : Planned). p.stores) is ∙ planned-stores lengths old items nothing_planned)) (pending-inside lengths old items)

-- a row whose plan has a fault faults
pub row-faults : (row : CodeRow) (held : Contents) (plan : Planned) (left : Bool) (fault : MachineFault)
    → plan ≡ plan_of (lengths_of held.cells) (state_of held) (path_of (names_of held.registers) row) → left ≡ some_left held.input → Some fault ≡ planned_fault plan left
    → Faults fault ≡ row_step (lengths_of held.cells) row (state_of held)
row-faults row held plan left fault is is_left faults =
    let items : List Item = path_of (names_of held.registers) row in
    let leaf : Leaf = leaf_of (names_of held.registers) row in
    let same : Some fault ≡ fault_of (lengths_of held.cells) (state_of held) items =
    faults ∙ ap (λ (b : Bool). planned_fault plan b) is_left ∙ ap (λ (p : Planned). planned_fault p (some_left held.input)) is ∙ plan-fault (lengths_of held.cells) (state_of held) items in
    ap (λ (f : Option MachineFault). commit_of (lengths_of held.cells) (state_of held) items leaf f) same

-- the state once a plan is done is that after the path
pub done-state : (old new : Contents) (items : List Item) (plan : Planned) →
    length old.registers ≡ most_registers → AllByRecursion (IsItem most_registers (length old.cells)) items → count_by is_effect items ≤ 1
    → plan ≡ plan_of (lengths_of old.cells) (state_of old) items
    → new.registers ≡ written plan.writes old.registers → new.cells ≡ stored plan.stores old.cells → new.input ≡ (if plan.reads then drop 1 old.input else old.input)
    → state_of new ≡ state_after (lengths_of old.cells) (state_of old) items
done-state old new items plan many all few is registers cells input =
    let lengths : List ℕ = lengths_of old.cells in
    let state : State = state_of old in
    let are_registers : new.registers ≡ written (writes_of lengths state items) old.registers =
    registers ∙ ap (λ (ws : List PendingWrite). written ws old.registers) (ap (λ (p : Planned). p.writes) is ∙ planned-writes lengths state items nothing_planned) in
    let are_stores : plan.stores ≡ pending_of lengths state items = ap (λ (p : Planned). p.stores) is ∙ planned-stores lengths state items nothing_planned in
    let are_cells : new.cells ≡ stored (pending_of lengths state items) old.cells = cells ∙ ap (λ (ss : List PendingStore). stored ss old.cells) are_stores in
    let does_read : plan.reads ≡ any_reads items = ap (λ (p : Planned). p.reads) is ∙ planned-reads lengths state items nothing_planned in
    let few_reads : reads_of items ≤ 1 = omega (arith, reads-few items) in
    let is_input : new.input ≡ drop (reads_of items) old.input =
    input ∙ ap (λ (b : Bool). if b then drop 1 old.input else old.input) does_read ∙ taken_one (reads_of items) (any_reads items) old.input few_reads (any_reads-count items) in
    let name : (x : ℕ) → names_of new.registers x ≡ names_after lengths state items x =
    λ x. ap (λ (rs : List ℤ). names_of rs x) are_registers ∙ written-names lengths state old.registers (length old.cells) items many refl all x in
    let cell : (a p : ℕ) → cells_of new.cells a p ≡ cells_after state.cells (stores_of lengths state items) a p =
    λ a p. ap (λ (cs : List (List ℤ)). cells_of cs a p) are_cells
    ∙ stored-cells (pending_of lengths state items) old.cells (pending-inside lengths state items) a p
    ∙ ap (λ (ss : List Stored). cells_after state.cells ss a p) (stored-pending lengths state items) in
    λ i. record { names = λ x. name x i; cells = λ a p. cell a p i; input = is_input i }

-- a row whose plan has none is done
pub row-commits : (row : CodeRow) (old new : Contents) (plan : Planned) (left : Bool) (printed : Option ℤ) (leaf : Leaf)
    → length old.registers ≡ most_registers → AllByRecursion (IsItem most_registers (length old.cells)) (path_of (names_of old.registers) row) →
    count_by is_effect (path_of (names_of old.registers) row) ≤ 1
    → plan ≡ plan_of (lengths_of old.cells) (state_of old) (path_of (names_of old.registers) row) → left ≡ some_left old.input → None ≡ planned_fault plan left
    → leaf ≡ leaf_of (names_of old.registers) row → printed ≡ plan.printed
    → new.registers ≡ written plan.writes old.registers → new.cells ≡ stored plan.stores old.cells → new.input ≡ (if plan.reads then drop 1 old.input else old.input)
    → Commits (option_to_list printed) (state_of new) leaf ≡ row_step (lengths_of old.cells) row (state_of old)
row-commits row old new plan left printed leaf many all few is is_left none is_leaf is_printed registers cells input =
    let lengths : List ℕ = lengths_of old.cells in
    let state : State = state_of old in
    let items : List Item = path_of (names_of old.registers) row in
    let no_fault : None ≡ fault_of lengths state items =
    none ∙ ap (λ (b : Bool). planned_fault plan b) is_left ∙ ap (λ (p : Planned). planned_fault p (some_left old.input)) is ∙ plan-fault lengths state items in
    let few_prints : length (prints_of state items) ≤ 1 = omega (arith, prints-few state items) in
    let prints : option_to_list printed ≡ prints_of state items =
    ap (λ (o : Option ℤ). option_to_list o) (is_printed ∙ ap (λ (p : Planned). p.printed) is ∙ planned-printed lengths state items nothing_planned) ∙ last_of-one (prints_of state items) few_prints in
    ap (λ (ws : List ℤ). Commits ws (state_of new) leaf) prints
    ∙ ap (λ (s : State). Commits (prints_of state items) s leaf) (done-state old new items plan many all few is registers cells input)
    ∙ ap (λ (l : Leaf). Commits (prints_of state items) (state_after lengths state items) l) is_leaf
    ∙ ap (λ (f : Option MachineFault). commit_of lengths state items (leaf_of (names_of old.registers) row) f) no_fault
