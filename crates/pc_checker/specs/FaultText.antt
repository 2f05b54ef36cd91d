-- The line by which the checker tells why it comes to no answer.
use Rattle.std.specs.Prelude.{ℕ, List, ◌++◌, codes}
use Rattle.std.specs.Fmt.{decimal}
use Rattle.pc_word.specs.Line.{line}
use Rattle.pc_report.specs.FaultLine.{fault_line}
use Rattle.pc_report.specs.declared.fault.Speaker.TheVariants.{Pcheck}
use Rattle.pc_report.specs.declared.fault.ToolFault.TheVariants as tool
use Rattle.pc_checker.specs.declared.fault.CertificateFault.{CertificateFault}
use Rattle.pc_checker.specs.declared.fault.CertificateFault.TheVariants as fault
use Rattle.pc_checker.specs.declared.fault.CheckerFault.{CheckerFault}
use Rattle.pc_checker.specs.declared.fault.CheckerFault.TheVariants.{NoMemory, Usage, ReadFile, Source, Object, Certificate, WriteFile}

-- what is wrong with a certificate
abbrev pub certificate_fault_text : CertificateFault → List ℕ
certificate_fault_text fault.TooLong = codes "longer than 16777216 bytes"
certificate_fault_text fault.BadMagic = codes "bad magic"
certificate_fault_text (fault.Truncated offset) = codes "truncated at offset " ++ decimal offset
certificate_fault_text (fault.BadFact offset) = codes "bad fact at offset " ++ decimal offset
certificate_fault_text (fault.BadStep offset) = codes "bad step at offset " ++ decimal offset
certificate_fault_text (fault.Trailing offset) = codes "trailing bytes at offset " ++ decimal offset

-- the line that tells it
abbrev pub certificate_fault_line : CertificateFault → List ℕ
certificate_fault_line what = line (codes "pcheck: certificate: " ++ certificate_fault_text what)

-- the line that tells a fault
abbrev pub checker_line : CheckerFault → List ℕ
checker_line NoMemory = fault_line (tool.NoMemory Pcheck)
checker_line Usage = fault_line (tool.Usage Pcheck)
checker_line (ReadFile name) = fault_line (tool.ReadFile Pcheck name)
checker_line (Source what) = fault_line (tool.Source Pcheck what)
checker_line (Object what) = fault_line (tool.Object Pcheck what)
checker_line (Certificate what) = certificate_fault_line what
checker_line (WriteFile name) = fault_line (tool.WriteFile Pcheck name)
