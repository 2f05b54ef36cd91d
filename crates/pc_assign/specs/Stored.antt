-- Registers as they lie in memory.
use Rattle.std.specs.Prelude.{ℕ, if◌then◌else◌, nat_eq, List, [], ◌∷◌, Option, Some, None, slice_get}
use Rattle.pc_automaton.specs.Automaton.{AutomatonState}
use Rattle.pc_assign.specs.Pressure.{IsFirstHigh}
use Rattle.pc_assign.specs.Assigned.{Registers}
use Rattle.pc_assign.specs.declared.error.AssignError.{AssignError}
use Rattle.pc_assign.specs.declared.error.AssignError.TheVariants.{Pressure, Memory}
use Rattle.pc_assign.specs.declared.assigned.Assigned.{Assigned}
use Rattle.pc_assign.specs.declared.assigned.StateRegisters.{StateRegisters}

-- what stands beside a name in a second list
abbrev pub beside : List ℕ → List ℕ → ℕ → Option ℕ
beside [] registers name = None
beside (first ∷ names) [] name = None
beside (first ∷ names) (register ∷ registers) name = if nat_eq name first then Some register else beside names registers name

-- a name's register in a state
abbrev pub register_in : Option StateRegisters → ℕ → Option ℕ
register_in (Some state) name = beside state.names.keys state.registers name
register_in None name = None

-- the registers of all names: of a state, of a name; and the one that is left
abbrev pub registers_in : Assigned → Registers
registers_in assigned = record { of = λ number. register_in (slice_get assigned.states number); scratch = assigned.scratch }

-- when an automaton is refused: the first state with too high a pressure is named, with its pressure. Memory may run out at any time.
abbrev pub Refuses : List AutomatonState → AssignError → Type 0
Refuses states (Pressure number live) = IsFirstHigh states number live
Refuses states Memory = Unit {0}
