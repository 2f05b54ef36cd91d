use Rattle.std.proofs.Common.{arith}
use Rattle.pc_cert.proofs.ReadingLaws.{found, part_of, only_it}
use Rattle.pc_cert.proofs.reading.read.Goals as goal

pub returns-clause-certificate : goal.returns-clause-certificate
returns-clause-certificate c = part_of c.told_certificate.result (λ it all. all.0) (
    found c.args.bytes.now c.told_certificate.result (λ i. omega (arith, c.type_inv.bytes i)) c.requires c.told_certificate.ensures)

pub returns-clause-numbers : goal.returns-clause-numbers
returns-clause-numbers c = part_of c.told_certificate.result (λ it all. all.1) (
    found c.args.bytes.now c.told_certificate.result (λ i. omega (arith, c.type_inv.bytes i)) c.requires c.told_certificate.ensures)

pub returns-clause-text : goal.returns-clause-text
returns-clause-text c = part_of c.told_certificate.result (λ it all. all.2) (
    found c.args.bytes.now c.told_certificate.result (λ i. omega (arith, c.type_inv.bytes i)) c.requires c.told_certificate.ensures)

pub returns-clause-only : goal.returns-clause-only
returns-clause-only c = λ entries is numbers e. only_it c.args.bytes.now c.told_certificate.result entries c.told_certificate.ensures is numbers e
