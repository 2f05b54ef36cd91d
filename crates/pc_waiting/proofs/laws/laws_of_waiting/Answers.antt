use Rattle.pc_waiting.proofs.Reasons.{free_means_ready, ready_means_free, what_is_ready_stands, nothing_waits_without_reason}
use Rattle.pc_waiting.proofs.laws.laws_of_waiting.Goals as goal

pub returns-clause-ready : goal.returns-clause-ready
returns-clause-ready c = ready_means_free

pub returns-clause-free : goal.returns-clause-free
returns-clause-free c = free_means_ready

pub returns-clause-stands : goal.returns-clause-stands
returns-clause-stands c = what_is_ready_stands

pub returns-clause-filled : goal.returns-clause-filled
returns-clause-filled c = nothing_waits_without_reason
