-- What a row gives, and what it needs to be run.
use Rattle.std.specs.Prelude.{◌≡◌, ℕ, suc, max, option_to_list}
use Rattle.pc_machine.specs.declared.tree.Leaf.{Leaf}
use Rattle.pc_machine.specs.MachineCode.{CodeRow}
use Rattle.pc_word.specs.Row.{Then, Either, At_leaf, RowOutcome, Faults, Commits}
use Rattle.pc_word.specs.State.{State}
use Rattle.pc_machine.specs.Registers.{most_registers}
use Rattle.pc_machine.specs.WellFormed.{IsItem, IsOperand}
use Rattle.pc_vm.specs.Contents.{Contents}
use Rattle.pc_vm.specs.declared.row.RowResult.{RowResult}
use Rattle.pc_vm.specs.declared.row.RowResult.TheVariants.{Faulted, Done}

-- registers and arrays that a row names are there
abbrev pub IsRunnable : ℕ → CodeRow → Type 0
IsRunnable arrays (Then item rest) = IsItem most_registers arrays item × IsRunnable arrays rest
IsRunnable arrays (Either on on_yes on_no) = IsOperand most_registers on × IsRunnable arrays on_yes × IsRunnable arrays on_no
IsRunnable arrays (At_leaf leaf) = Unit {0}

-- how many items the longest path has
abbrev pub longest : CodeRow → ℕ
longest (Then item rest) = suc (longest rest)
longest (Either on on_yes on_no) = max (longest on_yes) (longest on_no)
longest (At_leaf leaf) = 0

-- what the row did, with the state that stands after it
abbrev pub outcome_of : RowResult → State → RowOutcome Leaf
outcome_of (Faulted fault) state = Faults fault
outcome_of (Done printed leaf) state = Commits (option_to_list printed) state leaf

-- a row that faults keeps what is held
abbrev pub KeepsOnFault : RowResult → Contents → Contents → Type 0
KeepsOnFault (Faulted fault) old new = new ≡ old
KeepsOnFault (Done printed leaf) old new = Unit {0}
