-- What states pass to later ones, as it is noted: models of private code.
use Rattle.std.specs.Prelude.{◌≡◌, ℕ, ◌<◌, if◌then◌else◌, nat_eq, List, length, Option, Some, None, slice_get}
use Rattle.std.specs.Option.{option_or}
use Rattle.pc_word.specs.Row.{Row}
use Rattle.pc_automaton.specs.declared.automaton.AutomatonLeaf.{AutomatonLeaf}
use Rattle.pc_assign.specs.Assigned.{row_passes}

-- what is noted for a state, if anything is
abbrev pub noted_in : Option (Option (List (Option ℕ))) → Option (List (Option ℕ))
noted_in (Some passed) = passed
noted_in None = None

abbrev pub noted : List (Option (List (Option ℕ))) → ℕ → Option (List (Option ℕ))
noted table to = noted_in (slice_get table to)

-- a row is noted: what was noted for a state stays, and else it is what the row passes there
pub record Notes (of : ℕ → Option ℕ) (row : Row AutomatonLeaf) (old new : List (Option (List (Option ℕ)))) : Type 0 where
  pub as_many : length new ≡ length old
  pub each : (to : ℕ) → to < length old → noted new to ≡ option_or (noted old to) (row_passes of to row)

-- this is noted for a state, if it is there and nothing was noted for it
pub record NotesFirst (state : ℕ) (passed : List (Option ℕ)) (old new : List (Option (List (Option ℕ)))) : Type 0 where
  pub as_many : length new ≡ length old
  pub each : (to : ℕ) → to < length old → noted new to ≡ option_or (noted old to) (if nat_eq state to then Some passed else None)
