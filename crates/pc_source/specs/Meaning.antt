-- What a source means, and when a code does the same.
use Rattle.std.specs.Prelude.{ℤ, List}
use Rattle.pc_word.specs.Run.{Run, AgreeOnInputs}
use Rattle.pc_syntax.specs.Unit.{TranslationUnit}
use Rattle.pc_calls.specs.CallRun.{call_run}
use Rattle.pc_machine.specs.MachineCode.{RowCode}
use Rattle.pc_machine.specs.MachineRun.{machine_run}

-- the run of a unit on an input: at most so many turns of loops in all
abbrev pub meaning_of : TranslationUnit → List ℤ → Run
meaning_of unit = call_run unit

-- for every input of words, the code does what the source means
abbrev pub Same : TranslationUnit → RowCode → Type 0
Same unit code = AgreeOnInputs (meaning_of unit) (machine_run code)
