-- What is gone through, and what has arrived, as they lie in memory.
use Rattle.std.specs.Prelude.{◌≡◌, ℕ, ◌<◌, ◌^◌, List, length, map, Option, Some, None, Result, Ok, Err, slice_get}
use Rattle.pc_word.specs.declared.item.Limits.{Limits}
use Rattle.pc_table.specs.Table.{Table}
use Rattle.pc_table.specs.StoredTable.{table_of}
use Rattle.pc_machine.specs.MachineCode.{CodeRow, code_of}
use Rattle.pc_machine.specs.WellFormed.{WellFormed, IsRow}
use Rattle.pc_window.specs.declared.tree.WindowTree.{WindowTree}
use Rattle.pc_window.specs.declared.window.Window.{Window as StoredWindow}
use Rattle.pc_window.specs.StoredWindow.{window_in}
use Rattle.pc_matching.specs.Facts.{facts_of}
use Rattle.pc_settling.specs.Stored.{IsBegun}
use Rattle.pc_accepted.specs.Arrivals.{FirstArrival, Arrivals}
use Rattle.pc_accepted.specs.Leading.{Setting, Departure, LeafRefusal}
use Rattle.pc_checking.specs.models.Rows.{AreFirst}
use Rattle.pc_checking.specs.declared.setting.Setting as stored_setting
use Rattle.pc_checking.specs.declared.setting.Departure as stored_departure
use Rattle.pc_checking.specs.declared.arrival.FirstArrival as stored_arrival
use Rattle.pc_checking.specs.declared.leaves.LeafRefusal as stored_refusal

-- ---- what arrived

-- what arrived first at an entry, in memory
abbrev pub arrival_in : stored_arrival.FirstArrival → FirstArrival
arrival_in arrived = record { window = window_in arrived.window; facts = facts_of arrived.facts }

-- the same, if anything has arrived
abbrev pub some_arrival_in : Option stored_arrival.FirstArrival → Option FirstArrival
some_arrival_in None = None
some_arrival_in (Some arrived) = Some (arrival_in arrived)

-- for each entry
abbrev pub arrivals_in : List (Option stored_arrival.FirstArrival) → Arrivals
arrivals_in arrivals = map some_arrival_in arrivals

-- ---- what is left

-- a window over a tree that stands behind a leaf of another, with its names, under these limits
abbrev pub left_window : StoredWindow → Limits → WindowTree → StoredWindow
left_window arranged limits rest = record { tree = rest; names = arranged.names; limits = limits; inside = arranged.inside }

-- ---- what is gone through

-- the table, the code and the entries, in memory
abbrev pub setting_in : stored_setting.Setting → Setting
setting_in s = record { table = table_of s.table.now; code = code_of s.code.now; entries = s.entries.now }

-- the entry that is left, in memory
abbrev pub departure_in : stored_departure.Departure → Departure
departure_in departure = record { rank = departure.rank; tag = departure.tag }

-- the same, if one is left
abbrev pub some_departure_in : Option stored_departure.Departure → Option Departure
some_departure_in None = None
some_departure_in (Some departure) = Some (departure_in departure)

-- the code is well formed, and each of its rows has the number of the first entry that speaks of it
pub record IsSetting (s : stored_setting.Setting) : Type 0 where
  pub formed : WellFormed (code_of s.code.now)
  pub few : length s.entries.now < 2 ^ 32
  pub as_many : length s.firsts.now ≡ length s.code.now.rows
  pub firsts : AreFirst s.entries.now s.firsts.now

-- a row keeps the limits of a code
abbrev pub IsRowOf : stored_setting.Setting → CodeRow → Type 0
IsRowOf s row = IsRow s.code.now.limits s.code.now.registers (length s.code.now.arrays) (length s.code.now.rows) row

-- an entry may begin with each window that has arrived
abbrev pub AllBegun : Table → List (Option stored_arrival.FirstArrival) → Type 0
AllBegun table arrivals =
    (number : ℕ) (arrived : stored_arrival.FirstArrival) → slice_get arrivals number ≡ Some (Some arrived) → IsBegun table arrived.window

-- so it may, and there is a place for each entry
pub record AreKept (s : stored_setting.Setting) (arrivals : List (Option stored_arrival.FirstArrival)) : Type 0 where
  pub as_many : length arrivals ≡ length s.entries.now
  pub begun : AllBegun (table_of s.table.now) arrivals

-- ---- what comes of it

-- the arrivals, or why it goes on no further
abbrev pub outcome_of : {U F : Type 0} → Arrivals → Result U F → Result Arrivals F
outcome_of arrivals (Ok done) = Ok arrivals
outcome_of arrivals (Err why) = Err why

-- the same at the leaves of a row
abbrev pub leaves_outcome : {U : Type 0} → Arrivals → Result U stored_refusal.LeafRefusal → Result Arrivals LeafRefusal
leaves_outcome arrivals (Ok done) = Ok arrivals
leaves_outcome arrivals (Err refusal) = Err (record { leaf = refusal.leaf; why = refusal.why })
