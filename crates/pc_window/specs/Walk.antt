-- The walk of a window: its items and tests one after another on the one path that is taken.
use Rattle.std.specs.Prelude.{ℕ, ℤ, List, [], ◌∷◌, ◌++◌, Option, Some, None}
use Rattle.pc_word.specs.declared.item.Item.{Item}
use Rattle.pc_word.specs.declared.item.MachineFault.{MachineFault}
use Rattle.pc_word.specs.declared.item.End.{End}
use Rattle.pc_word.specs.declared.item.End.TheVariants.{Ended, Trapped, Fault}
use Rattle.pc_word.specs.State.{State}
use Rattle.pc_word.specs.Row.{RowOutcome, Faults, Commits}
use Rattle.pc_word.specs.Items.{operand_value}
use Rattle.pc_word.specs.Commit.{fault_of, prints_of, state_after}
use Rattle.pc_table.specs.RegionRun.{side_of}
use Rattle.pc_window.specs.Tree.{Tree, Pending, Undecided, Exit, Stop_exit, Trap_exit, home_state}

-- where a path leads: to a region with a state, or to an end
pub data Walked : Type 0 where
  Leaves : (printed : List ℤ) → (region : ℕ) → (state : State) → Walked
  Finishes : (printed : List ℤ) → (end : End) → Walked

-- an end that is no fault
abbrev pub IsWholeEnd : End → Type 0
IsWholeEnd Ended = Unit {0}
IsWholeEnd (Trapped kind line) = Unit {0}
IsWholeEnd (Fault fault) = ⊥

-- a walk that is no fault
abbrev pub IsWhole : Walked → Type 0
IsWhole (Leaves printed region state) = Unit {0}
IsWhole (Finishes printed end) = IsWholeEnd end

-- a walk after numbers were printed
abbrev pub printing : List ℤ → Walked → Walked
printing out (Leaves printed region state) = Leaves (out ++ printed) region state
printing out (Finishes printed end) = Finishes (out ++ printed) end

-- a walk after an item, which may fault
abbrev pub unless_fault : Option MachineFault → Walked → Walked
unless_fault (Some fault) walked = Finishes [] (Fault fault)
unless_fault None walked = walked

-- an item's fault, or what it prints before the rest
abbrev pub done_first : Option MachineFault → List ℤ → Walked → Walked
done_first fault out walked = unless_fault fault (printing out walked)

-- the state after one item that is done by itself
abbrev pub after_item : List ℕ → Item → State → State
after_item lengths item s = state_after lengths s (item ∷ [])

-- what a tree does from a state, in a machine with arrays of these lengths
abbrev pub walk : List ℕ → Tree → State → Walked
walk lengths (Pending tag origin item rest) s = done_first (fault_of lengths s (item ∷ [])) (prints_of s (item ∷ [])) (walk lengths rest (after_item lengths item s))
walk lengths (Undecided tag origin on on_yes on_no) s = side_of (operand_value s.names on) (walk lengths on_yes s) (walk lengths on_no s)
walk lengths (Exit region tag homes) s = Leaves [] region (home_state s homes)
walk lengths Stop_exit s = Finishes [] Ended
walk lengths (Trap_exit kind line) s = Finishes [] (Trapped kind line)

-- what a row does, and then the walk of the tree at the leaf that is taken
abbrev pub outcome_walk : List ℕ → RowOutcome Tree → Walked
outcome_walk lengths (Faults fault) = Finishes [] (Fault fault)
outcome_walk lengths (Commits printed new rest) = printing printed (walk lengths rest new)
