-- What is left, and what an entry begins with, as they lie in memory.
use Rattle.std.specs.Prelude.{ℕ, ◌≤◌, ◌^◌, true, Option, Some, None, length}
use Rattle.pc_table.specs.Table.{Table}
use Rattle.pc_window.specs.declared.window.Window.{Window as StoredWindow}
use Rattle.pc_window.specs.Tree.{whole, tree_size}
use Rattle.pc_window.specs.There.{PartsAreThere}
use Rattle.pc_window.specs.Steps.{IsProper}
use Rattle.pc_window.specs.StoredWindow.{tree_in, window_in, InNodes}
use Rattle.pc_matching.specs.Facts.{facts_of}
use Rattle.pc_settling.specs.declared.remaining.Remaining as stored_remaining
use Rattle.pc_settling.specs.declared.remaining.Begun as stored_begun
use Rattle.pc_settling.specs.Remaining.{Remaining}
use Rattle.pc_settling.specs.Begun.{Begun}

-- what is left, in memory
abbrev pub remaining_in : stored_remaining.Remaining → Remaining
remaining_in left = record { window = window_in left.window; facts = facts_of left.facts }

-- the same, if there is anything
abbrev pub some_remaining_in : Option stored_remaining.Remaining → Option Remaining
some_remaining_in None = None
some_remaining_in (Some left) = Some (remaining_in left)

-- what an entry begins with, in memory
abbrev pub begun_in : stored_begun.Begun → Begun
begun_in begun = record { window = window_in begun.window; facts = facts_of begun.facts; entered = begun.entered }

-- the same, if there is anything
abbrev pub some_begun_in : Option stored_begun.Begun → Option Begun
some_begun_in None = None
some_begun_in (Some begun) = Some (begun_in begun)

-- the most items and tests that a window of a certificate may have
abbrev pub most_size : ℕ
most_size = 4096

-- a window in memory that is left to do: it is proper, each item and test is a node of its own, and it is not too large
pub record IsLeft (window : StoredWindow) : Type 0 where
  pub proper : IsProper (window_in window)
  pub nodes : InNodes true window.tree
  pub size : tree_size (tree_in window.tree) ≤ most_size

-- a window in memory with which an entry begins: beside that, it has room for more names and form variables, what it names is there in
-- the table, and its tags are not too great
pub record IsBegun (table : Table) (window : StoredWindow) : Type 0 where
  pub left : IsLeft window
  pub names : length window.names.forms ≤ 2 ^ 30
  pub variables : window.names.next_variable ≤ 2 ^ 30
  pub parts : PartsAreThere table (2 ^ 30) (whole (window_in window).front)
