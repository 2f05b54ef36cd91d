-- Laws of traces. It is the contract of a function of laws.rt, which does nothing.
use Rattle.std.specs.Prelude.{◌≡◌, ℕ, ℤ, List, [], ◌∷◌, length, Option, None}
use Rattle.std.specs.List.{flat_map}
use Rattle.pc_word.specs.declared.item.End.{End}
use Rattle.pc_word.specs.Run.{run_from}
use Rattle.pc_machine.specs.MachineCode.{RowCode}
use Rattle.pc_machine.specs.MachineRun.{Cycle, machine_step}
use Rattle.pc_count.specs.Passages.{passages}
use Rattle.pc_trace.specs.declared.deed.Deed.{Deed}
use Rattle.pc_trace.specs.declared.deed.Deed.TheVariants.{Wrote, Took, Stored, Printed}
use Rattle.pc_trace.specs.Trace.{CycleDone, trace_of}

-- the word that was printed, if one was
abbrev pub printed_by : Deed → List ℤ
printed_by (Wrote register word) = []
printed_by (Took register word) = []
printed_by (Stored array index word) = []
printed_by (Printed word) = word ∷ []

-- what a cycle printed
abbrev pub prints_in : CycleDone → List ℤ
prints_in cycle = flat_map printed_by cycle.deeds

-- the last cycle alone ends the run, if it has ended
abbrev pub EndsLast : Option End → List CycleDone → Type 0
EndsLast end [] = end ≡ None
EndsLast end (cycle ∷ []) = cycle.end ≡ end
EndsLast end (cycle ∷ (next ∷ rest)) = (cycle.end ≡ None) × EndsLast end (next ∷ rest)

-- a trace has as many cycles as the run, prints what it prints, and ends as it ends
pub record IsTraceOf (code : RowCode) (n : ℕ) (start : Cycle) (trace : List CycleDone) : Type 0 where
  pub cycles : length trace ≡ length (passages code n start)
  pub prints : flat_map prints_in trace ≡ (run_from (machine_step code) n start).printed
  pub ends : EndsLast (run_from (machine_step code) n start).end trace

-- so each does
abbrev pub TracesAreRuns : Type 0
TracesAreRuns = (code : RowCode) (n : ℕ) (start : Cycle) → IsTraceOf code n start (trace_of code n start)
