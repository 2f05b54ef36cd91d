use Rattle.pc_window.proofs.Readiness.{ready_jumps, jumps_were_ready, first_jumps_first}
use Rattle.pc_window.proofs.Proper.{proper_fresh}
use Rattle.pc_window.proofs.Moving.{moves_keep}
use Rattle.pc_window.proofs.laws.laws_of_moves.Goals as goal

pub returns-clause-ready : goal.returns-clause-ready
returns-clause-ready c = ready_jumps

pub returns-clause-only_ready : goal.returns-clause-only_ready
returns-clause-only_ready c = jumps_were_ready

pub returns-clause-first : goal.returns-clause-first
returns-clause-first c = first_jumps_first

pub returns-clause-moves : goal.returns-clause-moves
returns-clause-moves c = moves_keep

pub returns-clause-fresh : goal.returns-clause-fresh
returns-clause-fresh c = proper_fresh
