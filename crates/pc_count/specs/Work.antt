-- What the cycles of a run did, by how often each leaf was taken. A cycle that faults does nothing.
use Rattle.std.specs.Prelude.{ℕ, ◌+◌, Bool, true, false, ◌&&◌, ◌||◌, if◌then◌else◌, List, ◌∷◌, length, drop, slice_index_or}
use Rattle.pc_word.specs.declared.item.Item.{Item}
use Rattle.pc_word.specs.declared.item.Item.TheVariants.{Copy, Print, Read}
use Rattle.pc_word.specs.Items.{is_memory}
use Rattle.pc_word.specs.Row.{Then, Either, At_leaf, leaves_of}
use Rattle.pc_machine.specs.MachineCode.{CodeRow}
use Rattle.pc_count.specs.declared.work.Work.{Work}

-- whether an item prints
abbrev pub is_print : Item → Bool
is_print (Print value) = true
is_print _ = false

-- whether it reads
abbrev pub is_read : Item → Bool
is_read (Read dest) = true
is_read _ = false

-- whether it copies
abbrev pub is_copy : Item → Bool
is_copy (Copy dest from) = true
is_copy _ = false

-- so many cycles, which did nothing
abbrev pub idle : ℕ → Work
idle cycles = record { cycles = cycles; items = 0; tests = 0; memory = 0; prints = 0; reads = 0 }

-- more, where a test says so
abbrev pub more_where : Bool → ℕ → ℕ → ℕ
more_where here more n = if here then n + more else n

-- each of the cycles did an item besides
abbrev pub with_item : Item → Work → Work
with_item item work = record work {
  items = work.items + work.cycles;
  memory = more_where (is_memory item) work.cycles work.memory;
  prints = more_where (is_print item) work.cycles work.prints;
  reads = more_where (is_read item) work.cycles work.reads;
}

-- each of them passed a test besides
abbrev pub with_test : Work → Work
with_test work = record work { tests = work.tests + work.cycles }

-- what these cycles did, and those
abbrev pub both : Work → Work → Work
both one other = record {
  cycles = one.cycles + other.cycles;
  items = one.items + other.items;
  tests = one.tests + other.tests;
  memory = one.memory + other.memory;
  prints = one.prints + other.prints;
  reads = one.reads + other.reads;
}

-- What the cycles did that ran a row, or the part of one, by how often each of its leaves was taken, in preorder: an item is done, and
-- a test passed, as often as the leaves below it are taken.
abbrev pub row_work : CodeRow → List ℕ → Work
row_work (Then item rest) counts = with_item item (row_work rest counts)
row_work (Either on on_yes on_no) counts = with_test (both (row_work on_yes counts) (row_work on_no (drop (length (leaves_of on_yes)) counts)))
row_work (At_leaf leaf) counts = idle (slice_index_or counts 0 0)

-- what they did besides, by how often each leaf of each row was taken
abbrev pub work_besides : Work → List CodeRow → List (List ℕ) → Work
work_besides work (row ∷ rows) (counts ∷ leaves) = work_besides (both work (row_work row counts)) rows leaves
work_besides work _ _ = work

-- what all cycles did
abbrev pub work_of : List CodeRow → List (List ℕ) → Work
work_of rows leaves = work_besides (idle 0) rows leaves

-- whether a tree is a leaf alone
abbrev pub is_bare : CodeRow → Bool
is_bare (Then item rest) = false
is_bare (Either on on_yes on_no) = false
is_bare (At_leaf leaf) = true

-- whether a row is one copy or more, and nothing else
abbrev pub copies_alone : CodeRow → Bool
copies_alone (Then item rest) = is_copy item && (is_bare rest || copies_alone rest)
copies_alone (Either on on_yes on_no) = false
copies_alone (At_leaf leaf) = false

-- how many cycles ran such rows besides, by how often each row ran
abbrev pub copy_cycles_besides : ℕ → List CodeRow → List ℕ → ℕ
copy_cycles_besides cycles (row ∷ rows) (times ∷ counts) = copy_cycles_besides (more_where (copies_alone row) times cycles) rows counts
copy_cycles_besides cycles _ _ = cycles

-- how many cycles did nothing but copies
abbrev pub copy_cycles : List CodeRow → List ℕ → ℕ
copy_cycles rows counts = copy_cycles_besides 0 rows counts
