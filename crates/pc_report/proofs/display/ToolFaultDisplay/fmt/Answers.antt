use Rattle.std.proofs.Common.{rules}
use Rattle.pc_report.proofs.display.ToolFaultDisplay.fmt.Goals as goal

pub returns-in-Trap-clause-writes : goal.returns-in-Trap-clause-writes
returns-in-Trap-clause-writes g c = λ plain ok. rw c.in-Trap.is (search rules)
