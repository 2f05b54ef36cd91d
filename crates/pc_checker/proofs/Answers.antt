-- What is found of a certificate.
use Rattle.std.proofs.Common.{◌≡◌, ℤ, ℕ, ◌<◌, ◌^◌, Bool, List, length, Some, None}
use Rattle.std.specs.Prelude.{Vec}
use Rattle.std.specs.declared.alloc.Global.{Global}
use Rattle.pc_table.specs.Table.{Table}
use Rattle.pc_machine.specs.MachineCode.{RowCode}
use Rattle.pc_machine.specs.WellFormed.{WellFormed}
use Rattle.pc_object.specs.ObjectText.{CodeWithNotes, IsObject}
use Rattle.pc_cert.specs.declared.certificate.Entry.{Entry}
use Rattle.pc_cert.specs.CertificateText.{IsCertificate}
use Rattle.pc_cert.proofs.ReadingLaws.{few_of}
use Rattle.pc_accepted.specs.Accepted.{Accepts, Rejects}
use Rattle.pc_accepted.specs.declared.flaw.Rejection.{Rejection}
use Rattle.pc_checker.specs.RejectionText.{rejection_text}
use Rattle.pc_checker.specs.models.Steps.{Finds, Finds_accepted, Finds_rejected}

-- a certificate that may be written has fewer entries than a number goes to
pub few_entries : (entries : List Entry) → IsCertificate entries → length entries < 2 ^ 32
few_entries entries is = few_of entries is

-- an object that loads has a well-formed code
pub formed : (object : CodeWithNotes) → IsObject object → WellFormed object.code
formed object is = is.code

module _ (asked : Bool) (initial : List (List ℤ)) (table : Table) (code : RowCode) (entries : List Entry) where
  pub finds_accepted : Accepts table initial code entries → Finds asked initial table code entries None
  finds_accepted accepts = Finds_accepted accepts

  pub finds_rejected : (rejection : Rejection) (text : Vec ℕ Global) → Rejects table initial code entries rejection
      → text.items ≡ rejection_text asked code entries rejection → Finds asked initial table code entries (Some text)
  finds_rejected rejection text rejects is = Finds_rejected rejects is

pub ruleset findings = (few_entries, formed, finds_accepted, finds_rejected)
