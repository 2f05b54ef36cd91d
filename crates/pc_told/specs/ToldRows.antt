-- That the rows of a search's states are told.
use Rattle.std.specs.Prelude.{◌≡◌, ℕ, ◌-◌, List, length, Option, Some, None, slice_get}
use Rattle.pc_window.specs.Tree.{whole}
use Rattle.pc_window.specs.Unwinding.{front_tag}
use Rattle.pc_window.specs.Names.{parameters_of}
use Rattle.pc_window.specs.WindowRun.{Window}
use Rattle.pc_window.specs.Kept.{Left, Rest, Gone, Finished, Trapped_at}
use Rattle.pc_window.specs.Steps.{FillsTo}
use Rattle.pc_canon.specs.Pairs.{Pair, themselves}
use Rattle.pc_automaton.specs.declared.automaton.AutomatonLeaf.{AutomatonLeaf}
use Rattle.pc_automaton.specs.Automaton.{AutomatonState}
use Rattle.pc_pattern.specs.NamedRow.{RowsNamed}
use Rattle.pc_pattern.specs.Searches.{Rules, LeafFor, IsPattern}
use Rattle.pc_waiting.specs.declared.obstacle.Waiting.{Waiting}
use Rattle.pc_waiting.specs.Waiting.{WhatWaits}
use Rattle.pc_told.specs.Tellings.{Telling, telling_of, row_told, first_iteration}

-- by how many iterations what is left begins after this one; a region, the end and a trap have none
abbrev pub advance_of : (first : ℕ) → Left → Option ℕ
advance_of first (Rest w) = Some (front_tag (whole w.front) - first)
advance_of first (Gone region homes) = None
advance_of first Finished = None
advance_of first (Trapped_at kind line) = None

-- what is told of a leaf is how far that goes on which is left there, of which the search made the leaf
pub record LeafIsTold (rules : Rules) (members : List Window) (first : ℕ) (names : List Pair) (advance : Option ℕ) (leaf : AutomatonLeaf) : Type 0 where
  pub left : Left
  pub goes_on : advance ≡ advance_of first left
  pub leads : LeafFor rules members names left leaf

-- what is told of a member's state is what the window tells that the member is filled to; it has the items and tests of the state's row,
-- one by one, but for the names that are written, and its leaves, one by one; and what waits behind that window's front is told too
pub record IsTold (rules : Rules) (members : List Window) (w : Window) (state : AutomatonState) (telling : Telling) (waiting : List Waiting) : Type 0 where
  pub filled : Window
  pub fills : FillsTo w filled
  pub tells : telling ≡ telling_of rules.table filled
  pub waits : WhatWaits (first_iteration filled) filled waiting
  pub matches : RowsNamed (LeafIsTold rules members (first_iteration filled)) (themselves (parameters_of (whole w.front))) (row_told telling) state.row

-- the state and what is told of it at the number of a member
pub record ToldAt (rules : Rules) (members : List Window) (states : List AutomatonState) (tellings : List Telling) (waits : List (List Waiting)) (number : ℕ) (w : Window)
    : Type 0 where
  pub state : AutomatonState
  pub telling : Telling
  pub waiting : List Waiting
  pub there : slice_get states number ≡ Some state
  pub beside : slice_get tellings number ≡ Some telling
  pub behind : slice_get waits number ≡ Some waiting
  pub is : IsTold rules members w state telling waiting

-- of each state of a search one row is told, and what waits there, in the order of the states
pub record AreTold (rules : Rules) (region rows : ℕ) (states : List AutomatonState) (tellings : List Telling) (waits : List (List Waiting)) : Type 0 where
  pub pattern : IsPattern rules region rows states
  pub as_many : length tellings ≡ length states
  pub as_many_wait : length waits ≡ length states
  pub each : (number : ℕ) (w : Window) → slice_get pattern.members number ≡ Some w → ToldAt rules pattern.members states tellings waits number w
