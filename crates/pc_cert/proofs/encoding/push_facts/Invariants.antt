use Rattle.std.proofs.Common.{◌≡◌, ◌++◌, take, All}
use Rattle.std.specs.List.{flat_map}
use Rattle.pc_cert.specs.CertificateText.{fact_text}
use Rattle.pc_cert.specs.Numbers.{FactFits}
use Rattle.pc_cert.proofs.encoding.push_facts.Given as goal

abbrev pub invariant-loop-fact : goal.invariant-loop-fact
invariant-loop-fact l = record {
  text : l.out.items ≡ l.fn.out.items ++ flat_map fact_text (take l.fact-index l.facts);
  numbers : All FactFits (take l.fact-index l.facts);
}
