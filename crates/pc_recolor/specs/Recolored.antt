-- What a code is whose registers were chosen anew, and which was tightened then.
use Rattle.std.specs.Prelude.{ℕ, ℤ, ◌≡◌, ◌≤◌, ◌⊎◌, max, List, length}
use Rattle.std.specs.List.{flat_map}
use Rattle.pc_machine.specs.MachineCode.{RowCode}
use Rattle.pc_machine.specs.MachineRun.{machine_run}
use Rattle.pc_machine.specs.WellFormed.{WellFormed}
use Rattle.pc_object.specs.ObjectText.{row_text}
use Rattle.pc_tighten.specs.Tightened.{EachIsReachable, IsTightened}
use Rattle.pc_renaming.specs.Renaming.{Renaming}
use Rattle.pc_renaming.specs.IsRenamed.{IsRenamed}
use Rattle.pc_settled.specs.Settled.{Settled}

-- the code after its registers were chosen anew, where its rows may be written in so many bytes
pub record IsRecolored (most : ℕ) (before after : RowCode) : Type 0 where
  -- it is the code before, or does it with other registers, and then no row of copies keeps a copy whose source's
  -- web and destination's web are never held together
  pub does : (after ≡ before) ⊎ ((renaming : Renaming) × IsRenamed renaming before after × Settled after.rows)
  pub limits : after.limits ≡ before.limits
  pub registers : after.registers ≡ before.registers
  pub arrays : after.arrays ≡ before.arrays
  pub initial : after.initial ≡ before.initial
  -- it shows what the code before shows, on every input and after every number of cycles, faults too
  pub runs : (input : List ℤ) (n : ℕ) → machine_run before input n ≡ machine_run after input n
  pub form : WellFormed before → WellFormed after
  pub reachable : EachIsReachable before.rows → EachIsReachable after.rows
  -- its rows are written in so many bytes, or in no more than before
  pub short : length (flat_map row_text after.rows) ≤ max most (length (flat_map row_text before.rows))

-- the code was left as it was or given other registers, and was tightened then
pub record IsRecoloredAndTightened (most : ℕ) (before after : RowCode) : Type 0 where
  pub between : RowCode
  pub recolored : IsRecolored most before between
  pub tightened : IsTightened between after
