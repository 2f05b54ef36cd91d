-- Bytes that are refused have a fault, or memory ran out.
use Rattle.std.proofs.Common.{subst, sym}
use Rattle.pc_checker.specs.declared.fault.CheckerFault.{CheckerFault}
use Rattle.pc_checker.specs.models.Steps.{RefusesBytes}
use Rattle.pc_checker.proofs.Certificates.{bytes_refused}
use Rattle.pc_checker.proofs.certificate.certificate_in.Goals as goal

pub returns-in-Err : goal.returns-in-Err
returns-in-Err c =
    subst (λ (due : CheckerFault). RefusesBytes c.args.bytes.now due) (sym c.certificate_refusal.ensures)
    (bytes_refused c.args.bytes.now c.requires c.in-Err.error c.in-Err.ensures.exact)
