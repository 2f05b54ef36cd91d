use Rattle.std.proofs.Common.{◌≡◌, ◌++◌, take, All}
use Rattle.std.specs.List.{flat_map}
use Rattle.pc_cert.specs.CertificateText.{entry_text}
use Rattle.pc_cert.specs.Numbers.{EntryFits}
use Rattle.pc_cert.proofs.encoding.push_entries.Given as goal

abbrev pub invariant-loop-entry : goal.invariant-loop-entry
invariant-loop-entry l = record {
  text : l.out.items ≡ l.fn.out.items ++ flat_map entry_text (take l.entry-index l.entries);
  numbers : All EntryFits (take l.entry-index l.entries);
}
