use Rattle.std.proofs.Common.{◌≡◌, length, ap, arith}
use Rattle.pc_cert.proofs.ReadingLaws.{few_of}
use Rattle.pc_cert.proofs.encoding.write.Goals as goal

pub overflow_cast-entries : goal.overflow_cast-entries
overflow_cast-entries c =
    let same : length c.as_slice-entries.result.now ≡ length c.args.certificate.now.entries = ap length c.as_slice-entries.ensures in
    omega (arith, few_of c.args.certificate.now.entries c.requires, same)
