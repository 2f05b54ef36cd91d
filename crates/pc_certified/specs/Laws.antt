-- The laws of certificates. Each is the contract of a function of laws.rt, which does nothing.
use Rattle.std.specs.Prelude.{ℤ, List, All}
use Rattle.pc_word.specs.Word.{IsWord}
use Rattle.pc_word.specs.Run.{NeverFaults, Agree, AgreeOnInputs}
use Rattle.pc_table.specs.Table.{Table}
use Rattle.pc_table.specs.RegionRun.{table_run}
use Rattle.pc_table.specs.TableKeeps.{TableKeeps}
use Rattle.pc_machine.specs.MachineCode.{RowCode}
use Rattle.pc_machine.specs.MachineRun.{machine_run}
use Rattle.pc_machine.specs.WellFormed.{WellFormed}
use Rattle.pc_window.specs.Tree.{whole}
use Rattle.pc_window.specs.Names.{uses}
use Rattle.pc_window.specs.WindowRun.{Window}
use Rattle.pc_window.specs.Filled.{Jump}
use Rattle.pc_window.specs.Steps.{Positive, IsProper, FillsTo}
use Rattle.pc_certified.specs.Changes.{IsMoved, ChangesTo}
use Rattle.pc_certified.specs.Claims.{Claim}
use Rattle.pc_certified.specs.Shows.{Shows}

-- where claims show it, a code does what a table does, on each input on which the table never faults
abbrev pub ShownCodesAgree : Type 0
ShownCodesAgree = (table : Table) (words : List (List ℤ)) (code : RowCode) (claims : List Claim) → TableKeeps table → Positive code.limits
    → Shows table words code claims → (input : List ℤ) → NeverFaults (table_run table words input)
    → Agree (table_run table words input) (machine_run code input)

-- so a well-formed code that is shown agrees with the table on every input of words, where the table faults on none of them
abbrev pub ShownCodesAgreeOnInputs : Type 0
ShownCodesAgreeOnInputs = (table : Table) (words : List (List ℤ)) (code : RowCode) (claims : List Claim) → TableKeeps table → WellFormed code
    → Shows table words code claims → ((input : List ℤ) → All IsWord input → NeverFaults (table_run table words input))
    → AgreeOnInputs (machine_run code) (table_run table words)

-- where an item or test of a proper window jumps into the front, as in filling, that is one legal move, however far it comes from
abbrev pub JumpsAreMoves : Type 0
JumpsAreMoves = (w v : Window) → IsProper w → Jump (uses (whole w.front)) w v → IsMoved w v

-- so filling a proper window is a chain of changes
abbrev pub FillingIsMadeOfMoves : Type 0
FillingIsMadeOfMoves = (table : Table) (w v : Window) → IsProper w → FillsTo w v → ChangesTo table w v
