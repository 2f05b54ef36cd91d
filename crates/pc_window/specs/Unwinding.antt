-- Unwinding again and again: the stub with the least tag, and of these the first in preorder, within bounds.
use Rattle.std.specs.Prelude.{◌≡◌, ℕ, ◌+◌, min, if◌then◌else◌, nat_lt, Option, Some, None}
use Rattle.pc_table.specs.Table.{Table}
use Rattle.pc_window.specs.Tree.{Tree, Pending, Undecided, Exit, Stop_exit, Trap_exit, tree_size}
use Rattle.pc_table.specs.Loops.{is_inside}
use Rattle.pc_window.specs.Opening.{Grafted, unwound_at}

-- the lesser of two tags, where there are any
abbrev pub lesser_tag : Option ℕ → Option ℕ → Option ℕ
lesser_tag None b = b
lesser_tag (Some a) None = Some a
lesser_tag (Some a) (Some b) = Some (min a b)

-- the least tag of the stubs inside the loop
abbrev pub least_inside : Table → Option ℕ → Tree → Option ℕ
least_inside table loop (Pending tag origin item rest) = least_inside table loop rest
least_inside table loop (Undecided tag origin on on_yes on_no) = lesser_tag (least_inside table loop on_yes) (least_inside table loop on_no)
least_inside table loop (Exit region tag homes) = if is_inside table loop region then Some tag else None
least_inside table loop Stop_exit = None
least_inside table loop (Trap_exit kind line) = None

-- the least tag of items, tests and stubs
abbrev pub least_tag : Tree → Option ℕ
least_tag (Pending tag origin item rest) = lesser_tag (Some tag) (least_tag rest)
least_tag (Undecided tag origin on on_yes on_no) = lesser_tag (Some tag) (lesser_tag (least_tag on_yes) (least_tag on_no))
least_tag (Exit region tag homes) = Some tag
least_tag Stop_exit = None
least_tag (Trap_exit kind line) = None

-- a number, and 0 where there is none
abbrev pub or_zero : Option ℕ → ℕ
or_zero None = 0
or_zero (Some n) = n

-- the least tag of a tree, and 0 where it has none
abbrev pub front_tag : Tree → ℕ
front_tag tree = or_zero (least_tag tree)

-- the items and tests that a window may have after unwinding
abbrev pub most_unwound : ℕ
most_unwound = 2048

-- the replacement, unless it is too large
abbrev pub within_size : Option Grafted → Option Grafted
within_size None = None
within_size (Some g) = if nat_lt most_unwound (tree_size g.tree) then None else Some g

-- one stub unwound, unless its tag is not below the bound
abbrev pub unwound_below : Table → Option ℕ → ℕ → Option ℕ → Grafted → Option Grafted
unwound_below table loop bound None g = None
unwound_below table loop bound (Some tag) g = if nat_lt tag bound then within_size (unwound_at table loop tag g.names g.tree) else None

-- the next step of unwinding with a window number, where there is one: the tag of the stub is less than so many above the least tag
abbrev pub unwound_once : Table → Option ℕ → ℕ → Grafted → Option Grafted
unwound_once table loop window g =
    if nat_lt window 2 then None
    else unwound_below table loop (front_tag g.tree + window) (least_inside table loop g.tree) g

-- unwinding leads from one tree to another: step by step, until there is no next step
pub data Unwinds (table : Table) (loop : Option ℕ) (window : ℕ) : Grafted → Grafted → Type 0 where
  unwinds_no_more : (g : Grafted) → unwound_once table loop window g ≡ None → Unwinds table loop window g g
  unwinds_once : (g h k : Grafted) → unwound_once table loop window g ≡ Some h → Unwinds table loop window h k → Unwinds table loop window g k
