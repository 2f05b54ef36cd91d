-- How often each row of a code ran, and each of its leaves was taken.
use Rattle.std.specs.Prelude.{ℕ, suc, Bool, false, ◌&&◌, nat_eq, List, [], ◌∷◌, length, Option, Some, None}
use Rattle.std.specs.List.{count_by}
use Rattle.pc_word.specs.declared.item.End.{End}
use Rattle.pc_word.specs.Row.{leaves_of}
use Rattle.pc_word.specs.Run.{run_from}
use Rattle.pc_machine.specs.MachineCode.{CodeRow, RowCode}
use Rattle.pc_machine.specs.MachineRun.{Cycle, machine_step}
use Rattle.pc_vm.specs.Standing.{end_of}
use Rattle.pc_count.specs.Passages.{Passage, passages}
use Rattle.pc_count.specs.declared.profile.Profile.{Profile}

-- whether a cycle began in a row
abbrev pub begins_in : ℕ → Passage → Bool
begins_in row passage = nat_eq passage.row row

-- whether a leaf that was left by, if any, is this one
abbrev pub is_leaf : ℕ → Option ℕ → Bool
is_leaf leaf None = false
is_leaf leaf (Some left) = nat_eq left leaf

-- whether a cycle left this row by this leaf
abbrev pub leaves_by : ℕ → ℕ → Passage → Bool
leaves_by row leaf passage = begins_in row passage && is_leaf leaf passage.leaf

-- how many cycles began in a row
abbrev pub times_run : List Passage → ℕ → ℕ
times_run cycles row = count_by (begins_in row) cycles

-- how many left a row by a leaf
abbrev pub times_left : List Passage → ℕ → ℕ → ℕ
times_left cycles row leaf = count_by (leaves_by row leaf) cycles

-- what f gives of each element of a list and its number, where the first has this number
abbrev pub each_numbered : {X Y : Type 0} → (ℕ → X → Y) → ℕ → List X → List Y
each_numbered f number [] = []
each_numbered f number (x ∷ rest) = f number x ∷ each_numbered f (suc number) rest

-- for each row, how many cycles began in it
abbrev pub row_counts : List CodeRow → List Passage → List ℕ
row_counts rows cycles = each_numbered (λ number row. times_run cycles number) 0 rows

-- for each leaf of a row, how many cycles left by it
abbrev pub counts_of_leaves : List Passage → ℕ → CodeRow → List ℕ
counts_of_leaves cycles number row = each_numbered (λ leaf _. times_left cycles number leaf) 0 (leaves_of row)

-- so for each row
abbrev pub leaf_counts : List CodeRow → List Passage → List (List ℕ)
leaf_counts rows cycles = each_numbered (counts_of_leaves cycles) 0 rows

-- what a run of some cycles cost: how many cycles it took, how it ended, if it did, and for each row how often it ran, and each of its
-- leaves was taken
pub record RunProfile : Type 0 where
  pub cycles : ℕ
  pub end : Option End
  pub rows : List ℕ
  pub leaves : List (List ℕ)

-- that of the run of a code from a place: at most n cycles
abbrev pub run_profile : RowCode → ℕ → Cycle → RunProfile
run_profile code n here = record {
  cycles = length (passages code n here);
  end = (run_from (machine_step code) n here).end;
  rows = row_counts code.rows (passages code n here);
  leaves = leaf_counts code.rows (passages code n here);
}

-- the profile in memory, as plain data
abbrev pub profile_of : Profile → RunProfile
profile_of profile = record {
  cycles = profile.cycles;
  end = end_of profile.outcome;
  rows = profile.rows;
  leaves = profile.leaves.items;
}
