-- What small schedules show and cost, computed.
use Rattle.std.proofs.Common.{◌≡◌, ℕ, List, [], ◌∷◌, Option, Some, None, refl, pos}
use Rattle.pc_word.specs.declared.item.End.TheVariants.{Ended}
use Rattle.pc_word.specs.declared.item.Item.TheVariants.{Print}
use Rattle.pc_word.specs.declared.item.Operand.TheVariants.{Name, Lit}
use Rattle.pc_word.specs.Row.{Then, At_leaf}
use Rattle.pc_table.specs.Table.{Table, Does, Stops_here}
use Rattle.pc_automaton.specs.declared.automaton.AutomatonLeaf.TheVariants.{To}
use Rattle.pc_automaton.specs.Automaton.{AutomatonState}
use Rattle.pc_emit.specs.Emitted.{RegionForm, Plain, ByAutomaton}
use Rattle.pc_compile.specs.ScheduleRun.{schedule_run, schedule_cost}

-- a table of one region, which prints 7 and stops
abbrev seven : Table
seven = record {
  regions = record { head = 0; tree = Does 0 (Print (Lit (pos 7))) Stops_here; live = []; inside = None; heads = None } ∷ [];
  loops = [];
  arrays = [];
}

abbrev plain : ℕ → Option RegionForm
plain region = Some Plain

-- it prints and stops, each of which may take a cycle, and one more may pass before
printed : schedule_run seven plain [] [] 1 ≡ record { printed = pos 7 ∷ []; end = None }
printed = refl

stopped : schedule_run seven plain [] [] 2 ≡ record { printed = pos 7 ∷ []; end = Some Ended }
stopped = refl

stopped_cost : schedule_cost seven plain 4 [] [] 5 ≡ 3
stopped_cost = refl

-- a state that prints a name, and passes two to itself
abbrev swapping : List AutomatonState
swapping = record { parameters = 0 ∷ 1 ∷ []; row = Then (Print (Name 0)) (At_leaf (To 0 (Name 1 ∷ Name 0 ∷ []))) } ∷ []

abbrev packed : ℕ → Option RegionForm
packed region = Some (ByAutomaton swapping (record { of = λ number name. Some name; scratch = 127 }))

-- three rows print three times; each may take two cycles where two copies stand in a row, and five where one does
printed_thrice : schedule_run seven packed [] [] 3 ≡ record { printed = pos 0 ∷ pos 0 ∷ pos 0 ∷ []; end = None }
printed_thrice = refl

wide_cost : schedule_cost seven packed 2 [] [] 3 ≡ 6
wide_cost = refl

narrow_cost : schedule_cost seven packed 1 [] [] 3 ≡ 15
narrow_cost = refl
