-- What a source program shows as it runs: what every later form of it is held against.
use Rattle.std.specs.Prelude.{ℕ, ℤ, List, Some, None}
use Rattle.pc_word.specs.declared.item.End.TheVariants.{Ended, Trapped}
use Rattle.pc_word.specs.Run.{Seen, Run}
use Rattle.pc_syntax.specs.Source.{ResolvedProgram}
use Rattle.pc_meaning.specs.ProgramState.{source_start}
use Rattle.pc_meaning.specs.Statement.{Completion, GoesOn, Breaks, Continues, Returns, Traps, Spent, execute_list}

-- what is seen of the outcome of a program's statements: the end of `main` ends it (C17 5.1.2.2.3)
abbrev pub shown : Completion → Seen
shown (GoesOn s) = record { printed = s.printed; end = Some Ended }
shown (Breaks s) = record { printed = s.printed; end = Some Ended }
shown (Continues s) = record { printed = s.printed; end = Some Ended }
shown (Returns s) = record { printed = s.printed; end = Some Ended }
shown (Traps kind line s) = record { printed = s.printed; end = Some (Trapped kind line) }
shown (Spent s) = record { printed = s.printed; end = None }

-- what a program comes to on an input, with at most n turns of loops in all
unfoldable pub outcome_of : ResolvedProgram → List ℤ → ℕ → Completion
outcome_of program input n = execute_list program.arrays program.body (source_start program.initial input n)

-- the run of a program on an input: at most n turns of loops in all
unfoldable pub source_run : ResolvedProgram → List ℤ → Run
source_run program input n = shown (outcome_of program input n)
