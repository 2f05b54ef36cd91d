-- Where a machine stands, as its callers see it, and what its calls do.
use Rattle.std.specs.Prelude.{◌≡◌, ℕ, ℤ, Bool, true, false, List, Option, Some, None, option_to_list}
use Rattle.pc_word.specs.declared.item.End.{End}
use Rattle.pc_word.specs.declared.item.End.TheVariants as end
use Rattle.pc_word.specs.Run.{Step, Goes, Stops, Reached, At, Over}
use Rattle.pc_machine.specs.declared.code.Code.{Code}
use Rattle.pc_machine.specs.MachineRun.{Cycle}
use Rattle.pc_vm.specs.declared.event.Event.{Event}
use Rattle.pc_vm.specs.declared.event.Outcome.{Outcome}
use Rattle.pc_vm.specs.declared.event.Outcome.TheVariants as outcome
use Rattle.pc_vm.specs.Contents.{Contents, state_of}

-- the code, the row that comes next, what is held, and whether an end was answered
pub record Standing : Type 0 where
  pub code : Code
  pub row : ℕ
  pub held : Contents
  pub over : Bool

-- the place in the code's run
abbrev pub here_of : Standing → Cycle
here_of standing = record { row = standing.row; state = state_of standing.held }

-- the numbers that an event prints
abbrev pub printed_by : Event → List ℤ
printed_by event = option_to_list event.printed

-- the event and what stands after it are those of a step: it goes on from the next place, or it is over
abbrev pub IsStep : Event → Standing → Step Cycle → Type 0
IsStep event new (Goes printed next) = (printed_by event ≡ printed) × (event.end ≡ None) × (new.over ≡ false) × (here_of new ≡ next)
IsStep event new (Stops printed end) = (printed_by event ≡ printed) × (event.end ≡ Some end) × (new.over ≡ true)

-- a fault prints nothing and changes nothing but that the machine is over
abbrev pub KeepsAll : Event → Standing → Standing → End → Type 0
KeepsAll event old new (end.Fault fault) = (event.printed ≡ None) × (new.held ≡ old.held) × (new.row ≡ old.row)
KeepsAll event old new _ = Unit {0}

-- the end that an outcome tells, if any
abbrev pub end_of : Outcome → Option End
end_of (outcome.Over e) = Some e
end_of outcome.Going = None

-- the machine stands where the steps lead to, and is over exactly where they end
abbrev pub StandsAt : Standing → Reached Cycle → Type 0
StandsAt standing (At printed place) = (standing.over ≡ false) × (here_of standing ≡ place)
StandsAt standing (Over printed e) = standing.over ≡ true
