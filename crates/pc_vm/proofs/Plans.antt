-- The plan of a path is what its items do together, and what is done by it is what a row does.
use Rattle.std.proofs.Common.{◌≡◌, ℕ, zero, suc, ◌<◌, ◌≤◌, Bool, true, false, cond, ◌||◌, ◌&&◌, List, [], ◌∷◌, ◌++◌, length, map, drop, get_or}
use Rattle.std.proofs.Common.{Option, Some, None, ◌⊎◌, inl, inr, refl, sym, ap, ◌∙◌, subst, arith, append_assoc}
use Rattle.std.proofs.lemmas.List.{append-nil, length-set}
use Rattle.std.proofs.lemmas.Bool.Decides.{eqb_tells, nat_tests}
use Rattle.std.proofs.Math.Seq.{map-set_same}
use Rattle.std.specs.Prelude.{ℤ, pos, negsuc, nat_eq, nat_lt, if◌then◌else◌, slice_set, slice_index, slice_index_or, option_to_list, IfSome}
use Rattle.std.specs.List.{AllByRecursion, count_by}
use Rattle.pc_word.specs.declared.item.Item.{Item}
use Rattle.pc_word.specs.declared.item.Item.TheVariants.{Bin, Copy, Load, Store, Print, Read, More}
use Rattle.pc_word.specs.State.{State}
use Rattle.pc_word.specs.Commit.{Stored, writes, stores_of, prints_of, reads_of, names_after, cells_after}
use Rattle.pc_word.specs.Items.{operand_value, place_in, value_of, is_effect}
use Rattle.pc_machine.specs.WellFormed.{IsItem}
use Rattle.pc_word.proofs.Lists.{count_more}
use Rattle.pc_vm.specs.declared.pending.PendingWrite.{PendingWrite}
use Rattle.pc_vm.specs.declared.pending.PendingStore.{PendingStore}
use Rattle.pc_vm.specs.Contents.{names_of, cells_of}
use Rattle.pc_vm.specs.models.Made.{lengths_of}
use Rattle.pc_vm.specs.models.Planned.{Planned, planned_with, planned_by, stored_of, written, with_element, stored, IsInside, IsRegister}
use Rattle.pc_vm.proofs.Lists.{get_or-write}
use Rattle.pc_machine.specs.Registers.{most_registers}

-- ---- the writes of a path

abbrev pub writes_of : List ℕ → State → List Item → List PendingWrite
writes_of lengths old [] = []
writes_of lengths old (Bin op dest left right ∷ items) = record { dest = dest; word = value_of lengths old (Bin op dest left right) } ∷ writes_of lengths old items
writes_of lengths old (Copy dest from ∷ items) = record { dest = dest; word = value_of lengths old (Copy dest from) } ∷ writes_of lengths old items
writes_of lengths old (Load dest array index ∷ items) = record { dest = dest; word = value_of lengths old (Load dest array index) } ∷ writes_of lengths old items
writes_of lengths old (Store array index value ∷ items) = writes_of lengths old items
writes_of lengths old (Print value ∷ items) = writes_of lengths old items
writes_of lengths old (Read dest ∷ items) = record { dest = dest; word = value_of lengths old (Read dest) } ∷ writes_of lengths old items
writes_of lengths old (More dest ∷ items) = record { dest = dest; word = value_of lengths old (More dest) } ∷ writes_of lengths old items

-- one more element between two lists
insert_between : {X : Type 0} (xs : List X) (x : X) (ys : List X) → (xs ++ x ∷ []) ++ ys ≡ xs ++ x ∷ ys
insert_between xs x ys = append_assoc xs (x ∷ []) ys

-- the plan has them after those that it had
pub planned-writes : (lengths : List ℕ) (old : State) (items : List Item) (plan : Planned) → (planned_by lengths old items plan).writes ≡ plan.writes ++ writes_of lengths old items
planned-writes lengths old [] plan = sym (append-nil plan.writes)
planned-writes lengths old (Bin op dest left right ∷ items) plan = planned-writes lengths old items (planned_with lengths old (Bin op dest left right) plan)
    ∙ insert_between plan.writes (record { dest = dest; word = value_of lengths old (Bin op dest left right) }) (writes_of lengths old items)
planned-writes lengths old (Copy dest from ∷ items) plan = planned-writes lengths old items (planned_with lengths old (Copy dest from) plan)
    ∙ insert_between plan.writes (record { dest = dest; word = value_of lengths old (Copy dest from) }) (writes_of lengths old items)
planned-writes lengths old (Load dest array index ∷ items) plan = planned-writes lengths old items (planned_with lengths old (Load dest array index) plan)
    ∙ insert_between plan.writes (record { dest = dest; word = value_of lengths old (Load dest array index) }) (writes_of lengths old items)
planned-writes lengths old (Store array index value ∷ items) plan = planned-writes lengths old items (planned_with lengths old (Store array index value) plan)
planned-writes lengths old (Print value ∷ items) plan = planned-writes lengths old items (planned_with lengths old (Print value) plan)
planned-writes lengths old (Read dest ∷ items) plan = planned-writes lengths old items (planned_with lengths old (Read dest) plan)
    ∙ insert_between plan.writes (record { dest = dest; word = value_of lengths old (Read dest) }) (writes_of lengths old items)
planned-writes lengths old (More dest ∷ items) plan = planned-writes lengths old items (planned_with lengths old (More dest) plan)
    ∙ insert_between plan.writes (record { dest = dest; word = value_of lengths old (More dest) }) (writes_of lengths old items)

-- their registers are there
pub writes-registers : (lengths : List ℕ) (old : State) (arrays : ℕ) (items : List Item) → AllByRecursion (IsItem most_registers arrays) items → AllByRecursion IsRegister (writes_of lengths old items)
writes-registers lengths old arrays [] all = tt
writes-registers lengths old arrays (Bin op dest left right ∷ items) all = (all.0.0, writes-registers lengths old arrays items all.1)
writes-registers lengths old arrays (Copy dest from ∷ items) all = (all.0.0, writes-registers lengths old arrays items all.1)
writes-registers lengths old arrays (Load dest array index ∷ items) all = (all.0.0, writes-registers lengths old arrays items all.1)
writes-registers lengths old arrays (Store array index value ∷ items) all = writes-registers lengths old arrays items all.1
writes-registers lengths old arrays (Print value ∷ items) all = writes-registers lengths old arrays items all.1
writes-registers lengths old arrays (Read dest ∷ items) all = (all.0, writes-registers lengths old arrays items all.1)
writes-registers lengths old arrays (More dest ∷ items) all = (all.0, writes-registers lengths old arrays items all.1)

-- registers stay as many
pub length-written : (ws : List PendingWrite) (registers : List ℤ) → length (written ws registers) ≡ length registers
length-written [] registers = refl
length-written (w ∷ ws) registers = length-set (written ws registers) w.dest w.word ∙ length-written ws registers

-- the last write can be done first
pub written-last : (ws : List PendingWrite) (w : PendingWrite) (registers : List ℤ) → written (ws ++ w ∷ []) registers ≡ written ws (slice_set registers w.dest w.word)
written-last [] w registers = refl
written-last (v ∷ ws) w registers = ap (λ rs. slice_set rs v.dest v.word) (written-last ws w registers)

-- a name after the first write is done last
name_written : (ws : List PendingWrite) (words : List ℤ) (dest : ℕ) (word : ℤ) (x : ℕ) (rest : ℤ) → length words ≡ most_registers → dest < most_registers
    → names_of (written ws words) x ≡ rest → names_of (slice_set (written ws words) dest word) x ≡ (if nat_eq dest x then word else rest)
name_written ws words dest word x rest many there same =
    let within : dest < length (written ws words) = omega (arith, length-written ws words) in
    get_or-write (written ws words) dest x word (pos 0) within ∙ ap (λ (r : ℤ). if nat_eq dest x then word else r) same

-- the registers once the writes are done are the names after the path
pub written-names : (lengths : List ℕ) (old : State) (words : List ℤ) (arrays : ℕ) (items : List Item) → length words ≡ most_registers → old.names ≡ names_of words
    → AllByRecursion (IsItem most_registers arrays) items → (x : ℕ) → names_of (written (writes_of lengths old items) words) x ≡ names_after lengths old items x
written-names lengths old words arrays [] many same all x = ap (λ (f : ℕ → ℤ). f x) (sym same)
written-names lengths old words arrays (Bin op dest left right ∷ items) many same all x =
    name_written (writes_of lengths old items) words dest (value_of lengths old (Bin op dest left right)) x (names_after lengths old items x) many all.0.0
    (written-names lengths old words arrays items many same all.1 x)
written-names lengths old words arrays (Copy dest from ∷ items) many same all x =
    name_written (writes_of lengths old items) words dest (value_of lengths old (Copy dest from)) x (names_after lengths old items x) many all.0.0
    (written-names lengths old words arrays items many same all.1 x)
written-names lengths old words arrays (Load dest array index ∷ items) many same all x =
    name_written (writes_of lengths old items) words dest (value_of lengths old (Load dest array index)) x (names_after lengths old items x) many all.0.0
    (written-names lengths old words arrays items many same all.1 x)
written-names lengths old words arrays (Store array index value ∷ items) many same all x = written-names lengths old words arrays items many same all.1 x
written-names lengths old words arrays (Print value ∷ items) many same all x = written-names lengths old words arrays items many same all.1 x
written-names lengths old words arrays (Read dest ∷ items) many same all x =
    name_written (writes_of lengths old items) words dest (value_of lengths old (Read dest)) x (names_after lengths old items x) many all.0
    (written-names lengths old words arrays items many same all.1 x)
written-names lengths old words arrays (More dest ∷ items) many same all x =
    name_written (writes_of lengths old items) words dest (value_of lengths old (More dest)) x (names_after lengths old items x) many all.0
    (written-names lengths old words arrays items many same all.1 x)

-- ---- the stores of a path

abbrev pub pending_of : List ℕ → State → List Item → List PendingStore
pending_of lengths old [] = []
pending_of lengths old (Store array index value ∷ items) =
    record {
      array = array;
      place = place_in (slice_index lengths array) (operand_value old.names index);
      word = operand_value old.names value;
    } ∷ pending_of lengths old items
pending_of lengths old (_ ∷ items) = pending_of lengths old items

-- the plan has them after those that it had
pub planned-stores : (lengths : List ℕ) (old : State) (items : List Item) (plan : Planned) → (planned_by lengths old items plan).stores ≡ plan.stores ++ pending_of lengths old items
planned-stores lengths old [] plan = sym (append-nil plan.stores)
planned-stores lengths old (Bin op dest left right ∷ items) plan = planned-stores lengths old items (planned_with lengths old (Bin op dest left right) plan)
planned-stores lengths old (Copy dest from ∷ items) plan = planned-stores lengths old items (planned_with lengths old (Copy dest from) plan)
planned-stores lengths old (Load dest array index ∷ items) plan = planned-stores lengths old items (planned_with lengths old (Load dest array index) plan)
planned-stores lengths old (Store array index value ∷ items) plan =
    planned-stores lengths old items (planned_with lengths old (Store array index value) plan)
    ∙ insert_between plan.stores (record { array = array; place = place_in (slice_index lengths array) (operand_value old.names index); word = operand_value old.names value })
    (pending_of lengths old items)
planned-stores lengths old (Print value ∷ items) plan = planned-stores lengths old items (planned_with lengths old (Print value) plan)
planned-stores lengths old (Read dest ∷ items) plan = planned-stores lengths old items (planned_with lengths old (Read dest) plan)
planned-stores lengths old (More dest ∷ items) plan = planned-stores lengths old items (planned_with lengths old (More dest) plan)

-- they are the stores of the row
pub stored-pending : (lengths : List ℕ) (old : State) (items : List Item) → map stored_of (pending_of lengths old items) ≡ stores_of lengths old items
stored-pending lengths old [] = refl
stored-pending lengths old (Bin op dest left right ∷ items) = stored-pending lengths old items
stored-pending lengths old (Copy dest from ∷ items) = stored-pending lengths old items
stored-pending lengths old (Load dest array index ∷ items) = stored-pending lengths old items
stored-pending lengths old (Store array index value ∷ items) =
    ap (λ (ss : List Stored). record { array = array; place = place_in (slice_index lengths array) (operand_value old.names index); word = operand_value old.names value } ∷ ss)
    (stored-pending lengths old items)
stored-pending lengths old (Print value ∷ items) = stored-pending lengths old items
stored-pending lengths old (Read dest ∷ items) = stored-pending lengths old items
stored-pending lengths old (More dest ∷ items) = stored-pending lengths old items

-- a place in an array is below its length
place_in-within : (n : ℕ) (index : ℤ) → IfSome (place_in n index) (λ place. place < n)
place_in-within n (pos index) =
    elim (ltb_known index n) [
      | inl t ↦ subst (λ (b : Bool). IfSome (if b then Some index else None) (λ place. place < n)) (sym t.0) t.1
      | inr t ↦ subst (λ (b : Bool). IfSome (if b then Some index else None) (λ place. place < n)) (sym t) tt
    ]
  where
    ltb_known : (m n : ℕ) → ((nat_lt m n ≡ true) × (m < n)) ⊎ (nat_lt m n ≡ false)
    ltb_known m n = grind (arith, nat_tests)
place_in-within n (negsuc index) = tt

-- the stores are inside their arrays
pub pending-inside : (lengths : List ℕ) (old : State) (items : List Item) → AllByRecursion (IsInside lengths) (pending_of lengths old items)
pending-inside lengths old [] = tt
pending-inside lengths old (Bin op dest left right ∷ items) = pending-inside lengths old items
pending-inside lengths old (Copy dest from ∷ items) = pending-inside lengths old items
pending-inside lengths old (Load dest array index ∷ items) = pending-inside lengths old items
pending-inside lengths old (Store array index value ∷ items) = (place_in-within (slice_index lengths array) (operand_value old.names index), pending-inside lengths old items)
pending-inside lengths old (Print value ∷ items) = pending-inside lengths old items
pending-inside lengths old (Read dest ∷ items) = pending-inside lengths old items
pending-inside lengths old (More dest ∷ items) = pending-inside lengths old items

-- arrays keep their lengths
pub lengths-with_element : (array : ℕ) (place : Option ℕ) (word : ℤ) (cells : List (List ℤ)) → lengths_of (with_element array place word cells) ≡ lengths_of cells
lengths-with_element array None word cells = refl
lengths-with_element array (Some place) word cells =
    map-set_same length cells array (slice_set (slice_index_or cells array []) place word) [] (length-set (slice_index_or cells array []) place word)

pub lengths-stored : (ss : List PendingStore) (cells : List (List ℤ)) → lengths_of (stored ss cells) ≡ lengths_of cells
lengths-stored [] cells = refl
lengths-stored (s ∷ ss) cells = lengths-with_element s.array s.place s.word (stored ss cells) ∙ lengths-stored ss cells

-- the last store can be done first
pub stored-last : (ss : List PendingStore) (s : PendingStore) (cells : List (List ℤ)) → stored (ss ++ s ∷ []) cells ≡ stored ss (with_element s.array s.place s.word cells)
stored-last [] s cells = refl
stored-last (t ∷ ss) s cells = ap (λ (cs : List (List ℤ)). with_element t.array t.place t.word cs) (stored-last ss s cells)

-- an array that has a place is there, and is as long as its length says
array_within : (cells : List (List ℤ)) (array place : ℕ) → place < slice_index (lengths_of cells) array → (array < length cells) × (place < length (slice_index_or cells array []))
array_within [] array place within = absurd (none array place within)
  where
    none : (array place : ℕ) → place < slice_index [] array → ⊥
    none zero place h = omega arith
    none (suc array) place h = omega arith
array_within (row ∷ cells) zero place within = (omega arith, within)
array_within (row ∷ cells) (suc array) place within =
    let h = array_within cells array place within in
    (omega (arith, h.0), h.1)

-- the elements after one is stored
element_stored : (cells : List (List ℤ)) (array place : ℕ) (word : ℤ) (a p : ℕ) → place < slice_index (lengths_of cells) array
    → cells_of (with_element array (Some place) word cells) a p ≡ (if nat_eq array a && nat_eq place p then word else cells_of cells a p)
element_stored cells array place word a p within =
    let there = array_within cells array place within in
    let row : List ℤ = slice_set (slice_index_or cells array []) place word in
    ap (λ (r : List ℤ). get_or r p (pos 0)) (get_or-write cells array a row [] there.0)
    ∙ elim (eqb_tells array a) [
      | inl t ↦ ap (λ (b : Bool). get_or (cond b row (get_or cells a [])) p (pos 0)) t.0
          ∙ get_or-write (slice_index_or cells array []) place p word (pos 0) there.1
          ∙ ap (λ (k : ℕ). if nat_eq place p then word else cells_of cells k p) t.1
          ∙ ap (λ (b : Bool). if b && nat_eq place p then word else cells_of cells a p) (sym t.0)
      | inr t ↦ ap (λ (b : Bool). get_or (cond b row (get_or cells a [])) p (pos 0)) t.0
          ∙ ap (λ (b : Bool). if b && nat_eq place p then word else cells_of cells a p) (sym t.0)
    ]

-- one more store
cell_stored : (ss : List PendingStore) (cells : List (List ℤ)) (array : ℕ) (place : Option ℕ) (word : ℤ) (a p : ℕ) (rest : ℤ)
    → IfSome place (λ k. k < slice_index (lengths_of cells) array) → cells_of (stored ss cells) a p ≡ rest
    → cells_of (with_element array place word (stored ss cells)) a p ≡ (if nat_eq array a && writes place p then word else rest)
cell_stored ss cells array None word a p rest within same = same ∙ sym (never (nat_eq array a))
  where
    never : (b : Bool) → (if b && false then word else rest) ≡ rest
    never true = refl
    never false = refl
cell_stored ss cells array (Some place) word a p rest within same =
    element_stored (stored ss cells) array place word a p (subst (λ (ls : List ℕ). place < slice_index ls array) (sym (lengths-stored ss cells)) within)
    ∙ ap (λ (r : ℤ). if nat_eq array a && nat_eq place p then word else r) same

-- the arrays once the stores are done are the elements after the path
pub stored-cells : (ss : List PendingStore) (cells : List (List ℤ)) → AllByRecursion (IsInside (lengths_of cells)) ss
    → (a p : ℕ) → cells_of (stored ss cells) a p ≡ cells_after (cells_of cells) (map stored_of ss) a p
stored-cells [] cells all a p = refl
stored-cells (s ∷ ss) cells all a p =
    cell_stored ss cells s.array s.place s.word a p (cells_after (cells_of cells) (map stored_of ss) a p) all.0 (stored-cells ss cells all.1 a p)

-- ---- what is printed

-- the last of the words, or what was before
abbrev pub last_of : Option ℤ → List ℤ → Option ℤ
last_of before [] = before
last_of before (word ∷ words) = last_of (Some word) words

pub planned-printed : (lengths : List ℕ) (old : State) (items : List Item) (plan : Planned) → (planned_by lengths old items plan).printed ≡ last_of plan.printed (prints_of old items)
planned-printed lengths old [] plan = refl
planned-printed lengths old (Bin op dest left right ∷ items) plan = planned-printed lengths old items (planned_with lengths old (Bin op dest left right) plan)
planned-printed lengths old (Copy dest from ∷ items) plan = planned-printed lengths old items (planned_with lengths old (Copy dest from) plan)
planned-printed lengths old (Load dest array index ∷ items) plan = planned-printed lengths old items (planned_with lengths old (Load dest array index) plan)
planned-printed lengths old (Store array index value ∷ items) plan = planned-printed lengths old items (planned_with lengths old (Store array index value) plan)
planned-printed lengths old (Print value ∷ items) plan = planned-printed lengths old items (planned_with lengths old (Print value) plan)
planned-printed lengths old (Read dest ∷ items) plan = planned-printed lengths old items (planned_with lengths old (Read dest) plan)
planned-printed lengths old (More dest ∷ items) plan = planned-printed lengths old items (planned_with lengths old (More dest) plan)

-- where at most one is printed, it is all that is
pub last_of-one : (words : List ℤ) → length words ≤ 1 → option_to_list (last_of None words) ≡ words
last_of-one [] few = refl
last_of-one (word ∷ []) few = refl
last_of-one (word ∷ (next ∷ words)) few = absurd (omega arith)

-- a path prints at most as often as it has effects
pub prints-few : (old : State) (items : List Item) → length (prints_of old items) ≤ count_by is_effect items
prints-few old [] = omega arith
prints-few old (Bin op dest left right ∷ items) = let h = prints-few old items in omega (arith, count_more is_effect (Bin op dest left right) items)
prints-few old (Copy dest from ∷ items) = let h = prints-few old items in omega (arith, count_more is_effect (Copy dest from) items)
prints-few old (Load dest array index ∷ items) = let h = prints-few old items in omega (arith, count_more is_effect (Load dest array index) items)
prints-few old (Store array index value ∷ items) = let h = prints-few old items in omega (arith, count_more is_effect (Store array index value) items)
prints-few old (Print value ∷ items) = let h = prints-few old items in omega (arith, count_more is_effect (Print value) items)
prints-few old (Read dest ∷ items) = let h = prints-few old items in omega (arith, count_more is_effect (Read dest) items)
prints-few old (More dest ∷ items) = let h = prints-few old items in omega (arith, count_more is_effect (More dest) items)

-- ---- the input

-- nor reads
pub reads-few : (items : List Item) → reads_of items ≤ count_by is_effect items
reads-few [] = omega arith
reads-few (Bin op dest left right ∷ items) = let h = reads-few items in omega (arith, count_more is_effect (Bin op dest left right) items)
reads-few (Copy dest from ∷ items) = let h = reads-few items in omega (arith, count_more is_effect (Copy dest from) items)
reads-few (Load dest array index ∷ items) = let h = reads-few items in omega (arith, count_more is_effect (Load dest array index) items)
reads-few (Store array index value ∷ items) = let h = reads-few items in omega (arith, count_more is_effect (Store array index value) items)
reads-few (Print value ∷ items) = let h = reads-few items in omega (arith, count_more is_effect (Print value) items)
reads-few (Read dest ∷ items) = let h = reads-few items in omega (arith, count_more is_effect (Read dest) items)
reads-few (More dest ∷ items) = let h = reads-few items in omega (arith, count_more is_effect (More dest) items)

-- whether one reads
abbrev pub any_reads : List Item → Bool
any_reads [] = false
any_reads (Read dest ∷ items) = true
any_reads (_ ∷ items) = any_reads items

or_true : (b : Bool) → (b || true) ≡ true
or_true true = refl
or_true false = refl

or_false : (b : Bool) → (b || false) ≡ b
or_false true = refl
or_false false = refl

pub planned-reads : (lengths : List ℕ) (old : State) (items : List Item) (plan : Planned) → (planned_by lengths old items plan).reads ≡ (plan.reads || any_reads items)
planned-reads lengths old [] plan = sym (or_false plan.reads)
planned-reads lengths old (Bin op dest left right ∷ items) plan = planned-reads lengths old items (planned_with lengths old (Bin op dest left right) plan)
planned-reads lengths old (Copy dest from ∷ items) plan = planned-reads lengths old items (planned_with lengths old (Copy dest from) plan)
planned-reads lengths old (Load dest array index ∷ items) plan = planned-reads lengths old items (planned_with lengths old (Load dest array index) plan)
planned-reads lengths old (Store array index value ∷ items) plan = planned-reads lengths old items (planned_with lengths old (Store array index value) plan)
planned-reads lengths old (Print value ∷ items) plan = planned-reads lengths old items (planned_with lengths old (Print value) plan)
planned-reads lengths old (Read dest ∷ items) plan = planned-reads lengths old items (planned_with lengths old (Read dest) plan) ∙ sym (or_true plan.reads)
planned-reads lengths old (More dest ∷ items) plan = planned-reads lengths old items (planned_with lengths old (More dest) plan)

-- it is the test of the count
pub any_reads-count : (items : List Item) → nat_lt 0 (reads_of items) ≡ any_reads items
any_reads-count [] = refl
any_reads-count (Bin op dest left right ∷ items) = any_reads-count items
any_reads-count (Copy dest from ∷ items) = any_reads-count items
any_reads-count (Load dest array index ∷ items) = any_reads-count items
any_reads-count (Store array index value ∷ items) = any_reads-count items
any_reads-count (Print value ∷ items) = any_reads-count items
any_reads-count (Read dest ∷ items) = grind (arith, nat_tests)
any_reads-count (More dest ∷ items) = any_reads-count items

-- where at most one reads, that many words are taken
pub taken_one : (n : ℕ) (b : Bool) (input : List ℤ) → n ≤ 1 → nat_lt 0 n ≡ b → (if b then drop 1 input else input) ≡ drop n input
taken_one zero true input few same = absurd (cc)
taken_one zero false input few same = refl
taken_one (suc zero) true input few same = refl
taken_one (suc zero) false input few same = absurd (positive same)
  where
    positive : nat_lt 0 (suc zero) ≡ false → ⊥
    positive h = cc
taken_one (suc (suc n)) b input few same = absurd (omega arith)
