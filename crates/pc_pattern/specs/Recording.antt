-- What a recorder has taken of a search: the window of each state, filled, in the order of the states.
use Rattle.std.specs.Prelude.{ℕ, List, [], ◌∷◌, ◌++◌}
use Rattle.pc_window.specs.WindowRun.{Window}
use Rattle.pc_window.specs.Steps.{FillsTo}
use Rattle.pc_automaton.specs.Automaton.{AutomatonState}
use Rattle.pc_pattern.specs.Searches.{Rules, IsPattern}

-- a recorder has taken these windows, one after the other
pub data TakesEach {R : Type 0} (takes : R → Window → R → Type 0) (before : R) : List Window → R → Type 0 where
  took_none : TakesEach takes before [] before
  took_one_more : {windows : List Window} {mid after : R} {window : Window} → TakesEach takes before windows mid → takes mid window after
      → TakesEach takes before (windows ++ (window ∷ [])) after

-- windows are filled to these others, one by one
abbrev pub EachFilled : List Window → List Window → Type 0
EachFilled [] [] = Unit {0}
EachFilled (w ∷ ws) (filled ∷ rest) = FillsTo w filled × EachFilled ws rest
EachFilled _ _ = ⊥

-- a recorder has taken, of a search that found these states, what each of its members is filled to, in their order
pub record IsRecorded {R : Type 0} (takes : R → Window → R → Type 0) (rules : Rules) (region rows : ℕ) (states : List AutomatonState) (before after : R)
    : Type 0 where
  pub pattern : IsPattern rules region rows states
  pub filled : List Window
  pub fills : EachFilled pattern.members filled
  pub taken : TakesEach takes before filled after
