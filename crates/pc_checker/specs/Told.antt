-- What the checker tells at its end, and the status with which it ends.
use Rattle.std.specs.Prelude.{◌≡◌, ℕ, List}
use Rattle.pc_driver.specs.Streams.{Streamed}
use Rattle.pc_driver.specs.Telling.{TellsLine}
use Rattle.pc_checker.specs.FaultText.{checker_line}
use Rattle.pc_checker.specs.declared.fault.CheckerFault.{CheckerFault}
use Rattle.pc_checker.specs.declared.fault.CheckerFault.TheVariants.{NoMemory, Usage, ReadFile, Source, Object, Certificate, WriteFile}

-- what is due at the end: nothing where the certificate is accepted, the line of a fault, or the text of a rejection
pub data Due : Type 0 where
  Success : Due
  Failure : CheckerFault → Due
  Rejection : List ℕ → Due

-- the status that tells a fault
abbrev pub checker_status : CheckerFault → ℕ
checker_status NoMemory = 1
checker_status Usage = 2
checker_status (ReadFile name) = 3
checker_status (Source what) = 4
checker_status (Object what) = 4
checker_status (Certificate what) = 4
checker_status (WriteFile name) = 5

-- What was due is reported, by the status and on the error output: 0 and nothing with success, and else the text of what was due.
abbrev pub Told : Due → Streamed → Streamed → ℕ → Type 0
Told Success old new code = (code ≡ 0) × (new ≡ old)
Told (Failure what) old new code = TellsLine (checker_line what) (checker_status what) old new code
Told (Rejection text) old new code = TellsLine text 8 old new code
