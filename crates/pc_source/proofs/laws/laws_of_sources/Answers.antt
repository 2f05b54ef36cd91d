use Rattle.pc_source.proofs.Sources.{fault_is_none, read_once}
use Rattle.pc_source.proofs.laws.laws_of_sources.Goals as goal

pub returns-clause-once : goal.returns-clause-once
returns-clause-once c = read_once

pub returns-clause-faulty : goal.returns-clause-faulty
returns-clause-faulty c = fault_is_none
