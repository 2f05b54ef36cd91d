-- Laws of tightening. Each is a clause of a function of laws.rt, which does nothing.
use Rattle.std.specs.Prelude.{ℕ, ◌<◌, ◌≤◌, ℤ, Bool, List}
use Rattle.pc_word.specs.Run.{NeverFaults}
use Rattle.pc_word.specs.declared.item.Item.{Item}
use Rattle.pc_machine.specs.MachineCode.{CodeRow, RowCode}
use Rattle.pc_machine.specs.MachineRun.{machine_run}
use Rattle.pc_machine.specs.Reachable.{IsReachable}
use Rattle.pc_machine.specs.WellFormed.{WellFormed}
use Rattle.pc_tighten.specs.Compact.{Compact}
use Rattle.pc_tighten.specs.Moves.{MayMove}
use Rattle.pc_tighten.specs.Removals.{IsGotoAlone, removed, HasNoGotoAlone}
use Rattle.pc_tighten.specs.Removing.{without_marked, Shrinks, AreMarks}
use Rattle.pc_tighten.specs.Pace.{IsNoSlower}
use Rattle.pc_tighten.specs.Sizes.{Room, rows_room}
use Rattle.pc_tighten.specs.Tightened.{Tightens, EachIsReachable}

-- a tightened code is well formed
abbrev pub TighteningKeepsForm : Type 0
TighteningKeepsForm = (code after : RowCode) → Tightens code after → WellFormed code → WellFormed after

-- on each input on which the code before never faults, the code after means the same and is no slower
abbrev pub TighteningIsNoSlower : Type 0
TighteningIsNoSlower = (code after : RowCode) → Tightens code after → WellFormed code → (input : List ℤ)
    → NeverFaults (machine_run code input) → IsNoSlower (machine_run code input) (machine_run after input)

-- a tightened code is written in no more room
abbrev pub TighteningTakesNoMoreRoom : Type 0
TighteningTakesNoMoreRoom = (room : Room) (code after : RowCode) → Tightens code after → rows_room room after.rows ≤ rows_room room code.rows

-- where all rows were reachable they still are
abbrev pub TighteningKeepsRowsReachable : Type 0
TighteningKeepsRowsReachable = (code after : RowCode) → Tightens code after → EachIsReachable code.rows → EachIsReachable after.rows

-- where no item may move, the code is compact
abbrev pub CompactWhereNoneMayMove : Type 0
CompactWhereNoneMayMove = (code : RowCode)
    → ((m t : ℕ) (above : CodeRow) (xs : List Item) (x : Item) (rest : CodeRow) → IsReachable code.rows m → MayMove code m t above xs x rest → ⊥)
    → Compact code

-- where all rows are reachable, a removal leaves a compact code compact: so moves come first, and removals after them
abbrev pub RemovalsKeepCompact : Type 0
RemovalsKeepCompact = (code : RowCode) (t u : ℕ) → IsGotoAlone code.rows t u → EachIsReachable code.rows → Compact code → Compact (removed code t u)

-- marked rows go at once, as by removals one after another
abbrev pub MarkedRowsGo : Type 0
MarkedRowsGo = (code : RowCode) (place : ℕ → ℕ) (marks : ℕ → Bool) (count : ℕ) → AreMarks code.rows place marks count
    → Shrinks code (without_marked place marks code)

-- where each row but row 0 that is a goto alone to another row leads further up, to such a row, there is none
abbrev pub NoGotoIsLeft : Type 0
NoGotoIsLeft = (rows : List CodeRow) → ((t u : ℕ) → IsGotoAlone rows t u → (u < t) × ((w : ℕ) × IsGotoAlone rows u w)) → HasNoGotoAlone rows
