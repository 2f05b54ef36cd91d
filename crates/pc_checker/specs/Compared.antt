-- What the checker holds against one another, and what it finds.
use Rattle.std.specs.Prelude.{◌≡◌, ℕ, Bool, true, false, List, Option, Some, None}
use Rattle.pc_word.specs.Run.{AgreeOnInputs}
use Rattle.pc_syntax.specs.Unit.{TranslationUnit}
use Rattle.pc_check.specs.Resolution.{resolved}
use Rattle.pc_calls.specs.Inlining.{inlined_unit}
use Rattle.pc_flow.specs.FlowGraph.{FlowGraph}
use Rattle.pc_table.specs.Table.{Table}
use Rattle.pc_table.specs.RegionRun.{table_run}
use Rattle.pc_table.specs.StoredTable.{table_of}
use Rattle.pc_middle.specs.CutProgram.{IsCutProgram}
use Rattle.pc_middle.specs.declared.program.CutProgram.{CutProgram}
use Rattle.pc_object.specs.ObjectText.{CodeWithNotes}
use Rattle.pc_outside.specs.Shelf.{Files}
use Rattle.pc_command.specs.Requests.{CheckRequest}
use Rattle.pc_cert.specs.declared.certificate.Entry.{Entry}
use Rattle.pc_cert.specs.CertificateText.{IsCertificate}
use Rattle.pc_driver.specs.Objects.{Holds}
use Rattle.pc_source.specs.Files.{HasSource}
use Rattle.pc_source.specs.Meaning.{Same, meaning_of}
use Rattle.pc_source.specs.Source.{IsSource}
use Rattle.pc_accepted.specs.Accepted.{Accepts, Rejects}
use Rattle.pc_accepted.specs.declared.flaw.Rejection.{Rejection}
use Rattle.pc_checker.specs.Certificates.{HoldsCertificate}

-- what is held against one another: a source, the graph of its program and the graph's regions; an object; and a certificate's entries
pub record Compared : Type 0 where
  pub unit : TranslationUnit
  pub flow : FlowGraph
  pub table : Table
  pub object : CodeWithNotes
  pub entries : List Entry

-- the certificate is the one in the named file, or, where one is made, some that may be written
abbrev pub IsGiven : Option Files → (make : Bool) → (name : List ℕ) → List Entry → Type 0
IsGiven held false name entries = HoldsCertificate held name entries
IsGiven held true name entries = IsCertificate entries

-- They are those that are asked for: SRC has the text of the source; the passes made the graph of its program's own, as `Passed` says,
-- and the regions are the graph's cut, so that for every input of words they do what the source means; OBJ holds the object, which loads;
-- and the certificate is that of CERT, or one that is made.
pub record AreCompared (Passed : FlowGraph → FlowGraph → Type 0) (held : Option Files) (request : CheckRequest) (it : Compared) : Type 0 where
  pub text : List ℕ
  pub in_source : HasSource held request.source text
  pub source : IsSource text it.unit
  pub cut : IsCutProgram (resolved (inlined_unit it.unit)) Passed it.flow it.table
  pub regions : AgreeOnInputs (meaning_of it.unit) (table_run it.table it.flow.initial)
  pub in_object : Holds held request.object it.object
  pub certificate : IsGiven held request.make request.certificate it.entries

-- the certificate is accepted, and for every input of words the object does what the source means
pub record IsAccepted (it : Compared) : Type 0 where
  pub accepts : Accepts it.table it.flow.initial it.object.code it.entries
  pub same : Same it.unit it.object.code

-- the certificate is rejected: the first entry that is refused, and why
abbrev pub IsRejected : Compared → Rejection → Type 0
IsRejected it rejection = Rejects it.table it.flow.initial it.object.code it.entries rejection

-- where something is handed out, it is the graph and the regions
abbrev pub IsHanded : Option CutProgram → Compared → Type 0
IsHanded (Some cut) it = (cut.flow ≡ it.flow) × (table_of cut.table ≡ it.table)
IsHanded None it = Unit {0}
