-- The laws of accepted certificates. Each is the contract of a function of laws.rt, which does nothing.
use Rattle.std.specs.Prelude.{◌≡◌, ℤ, List, All, Result}
use Rattle.pc_word.specs.Word.{IsWord}
use Rattle.pc_word.specs.Run.{NeverFaults, AgreeOnInputs}
use Rattle.pc_table.specs.Table.{Table}
use Rattle.pc_table.specs.RegionRun.{table_run}
use Rattle.pc_table.specs.TableKeeps.{TableKeeps}
use Rattle.pc_machine.specs.MachineCode.{RowCode}
use Rattle.pc_machine.specs.MachineRun.{machine_run}
use Rattle.pc_machine.specs.WellFormed.{WellFormed}
use Rattle.pc_cert.specs.declared.certificate.Entry.{Entry}
use Rattle.pc_window.specs.Steps.{Positive}
use Rattle.pc_certified.specs.Claims.{Claim}
use Rattle.pc_certified.specs.Shows.{Shows}
use Rattle.pc_accepted.specs.declared.flaw.Rejection.{Rejection}
use Rattle.pc_accepted.specs.Arrivals.{Arrivals}
use Rattle.pc_accepted.specs.Leading.{Setting}
use Rattle.pc_accepted.specs.Accepted.{Accepts, Answers}

-- where a certificate is accepted, claims show that the code does what the table does
abbrev pub AcceptedCodesAreShown : Type 0
AcceptedCodesAreShown = (table : Table) (words : List (List ℤ)) (code : RowCode) (entries : List Entry) → Positive code.limits
    → Accepts table words code entries → (claims : List Claim) × Shows table words code claims

-- so a well-formed code agrees with the table on every input of words, where the table faults on none of them
abbrev pub AcceptedCodesAgree : Type 0
AcceptedCodesAgree = (table : Table) (words : List (List ℤ)) (code : RowCode) (entries : List Entry) → TableKeeps table → WellFormed code
    → Accepts table words code entries → ((input : List ℤ) → All IsWord input → NeverFaults (table_run table words input))
    → AgreeOnInputs (machine_run code) (table_run table words)

-- a certificate has one answer at most
abbrev pub OneAnswer : Type 0
OneAnswer = (setting : Setting) (words : List (List ℤ)) (one other : Result Arrivals Rejection) → Answers setting words one → Answers setting words other → one ≡ other
