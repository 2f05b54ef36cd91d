-- Laws of windows that are equal up to a shift. Each is the contract of a function of laws.rt, which does nothing.
use Rattle.std.specs.Prelude.{◌≡◌, ◌↔◌, ℕ, List}
use Rattle.pc_word.specs.State.{State}
use Rattle.pc_table.specs.Table.{Table}
use Rattle.pc_window.specs.WindowRun.{Window, window_run, FormsHold}
use Rattle.pc_canon.specs.Pairs.{Pair, Correspond}
use Rattle.pc_canon.specs.Shift.{ShiftedBy, Shifted}
use Rattle.pc_canon.specs.Canonical.{canonical, parameter_pairs}
use Rattle.pc_canon.specs.Key.{key_of}

-- windows that are equal up to a shift have the same run, where corresponding parameters have the same values
abbrev pub ShiftsCarryRuns : Type 0
ShiftsCarryRuns = (table : Table) (params : List Pair) (w v : Window) (s t : State) → ShiftedBy params w v → Correspond params s t → (n : ℕ)
    → window_run table w s n ≡ window_run table v t n

-- and the forms of the other hold where those of the one do
abbrev pub ShiftsCarryForms : Type 0
ShiftsCarryForms = (table : Table) (params : List Pair) (w v : Window) (s t : State) → ShiftedBy params w v → Correspond params s t
    → FormsHold table w s → FormsHold table v t

-- windows that are equal up to a shift have one canonical form
abbrev pub ShiftsKeepCanonicalForms : Type 0
ShiftsKeepCanonicalForms = (w v : Window) → Shifted w v → canonical w ≡ canonical v

-- windows with one canonical form are equal up to a shift, and their parameters correspond in the order of first use
abbrev pub CanonicalFormsTell : Type 0
CanonicalFormsTell = (w v : Window) → canonical w ≡ canonical v → ShiftedBy (parameter_pairs w v) w v

-- two windows have one key exactly where they are equal up to a shift
abbrev pub KeysTell : Type 0
KeysTell = (w v : Window) → (key_of w ≡ key_of v) ↔ Shifted w v

-- and then their parameters correspond in the order of first use
abbrev pub KeysPairParameters : Type 0
KeysPairParameters = (w v : Window) → key_of w ≡ key_of v → ShiftedBy (parameter_pairs w v) w v
