-- What is found of rows that were made.
use Rattle.std.specs.Prelude.{ℕ, ◌<◌, ◌≤◌, List, length}
use Rattle.std.specs.List.{flat_map}
use Rattle.pc_machine.specs.MachineCode.{CodeRow, RowCode}
use Rattle.pc_machine.specs.Reachable.{HasLeafTo, IsReachable}
use Rattle.pc_object.specs.ObjectText.{row_text}
use Rattle.pc_tighten.specs.Tightened.{EachIsReachable}
use Rattle.pc_renaming.specs.Renaming.{Renaming}
use Rattle.pc_renaming.specs.IsRenamed.{AreRenamed}
use Rattle.pc_settled.specs.Settled.{Settled}

-- where the rows up to a number were named already, those up to another are named once this row is seen, which leads to them
pub record Names (row : CodeRow) (known after : ℕ) : Type 0 where
  pub more : known ≤ after
  pub leads : (number : ℕ) → known ≤ number → number < after → HasLeafTo row number

-- rows that do others with other registers, of so many, each of them reachable, in so many bytes, and settled
pub record AreAnew (registers most : ℕ) (before after : List CodeRow) : Type 0 where
  pub renaming : Renaming
  pub renamed : AreRenamed registers renaming before after
  pub reachable : EachIsReachable after
  pub short : length (flat_map row_text after) ≤ most
  pub settled : Settled after

-- a code with other rows
abbrev pub with_rows : RowCode → List CodeRow → RowCode
with_rows code rows = record { limits = code.limits; registers = code.registers; arrays = code.arrays; initial = code.initial; rows = rows }

-- so many rows are named, those that were seen among them, and each of them is reachable
pub record AreNamed (rows : List CodeRow) (seen known : ℕ) : Type 0 where
  pub within : seen ≤ known
  pub reachable : (number : ℕ) → number < known → IsReachable rows number
