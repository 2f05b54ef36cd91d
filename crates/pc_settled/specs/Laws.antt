-- A law of webs. It is a clause of a function of laws.rt, which does nothing.
use Rattle.std.specs.Prelude.{ℕ, ◌≡◌, List}
use Rattle.pc_machine.specs.MachineCode.{CodeRow}
use Rattle.pc_settled.specs.Webs.{Value, At, AreOneWeb}

-- the register that has a value
abbrev pub register_of : Value → ℕ
register_of (At number register) = register

-- all values of a web have one register
abbrev pub AWebHasOneRegister : Type 0
AWebHasOneRegister = (rows : List CodeRow) (one other : Value) → AreOneWeb rows one other → register_of one ≡ register_of other
