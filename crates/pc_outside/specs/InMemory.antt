-- The sources, sinks and shelves in memory, as contracts see them, and which of their calls fail.
use Rattle.std.specs.Prelude.{ℕ, ◌-◌, Bool, ◌==◌, ◌||◌, List, [], length, min, Some, is_none, nat_le}
use Rattle.std.specs.List.{list_any}
use Rattle.std.specs.FinMap as map
use Rattle.pc_word.specs.Count.{one_more}
use Rattle.pc_outside.specs.Shelf.{Files, Shelved}

-- a source: what it has left, its faults, how many calls it has had, and the numbers of those that are to fail
pub record SourceState : Type 0 where
  pub left : List ℕ
  pub faults : ℕ
  pub calls : ℕ
  pub failing : List ℕ

-- a sink: what it has taken, how many bytes it can take in all, its faults, its calls, and the numbers of those that are to fail
pub record SinkState : Type 0 where
  pub taken : List ℕ
  pub room : ℕ
  pub faults : ℕ
  pub calls : ℕ
  pub failing : List ℕ

-- a sink without a list of failures
pub record SureSinkState : Type 0 where
  pub taken : List ℕ
  pub room : ℕ
  pub faults : ℕ

-- a shelf: its files, its faults with the names beside them, its reads and writes by one count, and the numbers of those that are to fail
pub record ShelfState : Type 0 where
  pub files : Files
  pub read_faults : ℕ
  pub read_name : List ℕ
  pub write_faults : ℕ
  pub write_name : List ℕ
  pub calls : ℕ
  pub failing : List ℕ

-- a shelf without a list of failures, whose writes never fail
pub record SureShelfState : Type 0 where
  pub files : Files
  pub read_faults : ℕ
  pub read_name : List ℕ

-- the next call is listed as one that is to fail; calls count from 1
abbrev pub next_is_listed : List ℕ → ℕ → Bool
next_is_listed failing calls = list_any (λ number. number == one_more calls) failing

-- how many bytes a read gives: all that are left, or as many as fit
abbrev pub given_count : List ℕ → List ℕ → ℕ
given_count left into = min (length into) (length left)

-- how many bytes a sink takes: all that come, or as many as it has room for
abbrev pub taken_count : List ℕ → ℕ → List ℕ → ℕ
taken_count taken room from = min (length from) (room - length taken)

-- what a shelf in memory shows as a shelf
abbrev pub shelved : ShelfState → Shelved
shelved s = record { held = Some s.files; read_faults = s.read_faults; read_name = s.read_name; write_faults = s.write_faults; write_name = s.write_name }

-- what a sure shelf shows as a shelf: no write fails
abbrev pub sure_shelved : SureShelfState → Shelved
sure_shelved s = record { held = Some s.files; read_faults = s.read_faults; read_name = s.read_name; write_faults = 0; write_name = [] }

-- a read fails: its number is listed, or the name is not held
abbrev pub read_fails : ShelfState → List ℕ → Bool
read_fails s name = next_is_listed s.failing s.calls || is_none (map.get s.files name)

-- a write fails: its number is listed, or the sink is full
abbrev pub write_fails : SinkState → Bool
write_fails s = next_is_listed s.failing s.calls || nat_le s.room (length s.taken)
