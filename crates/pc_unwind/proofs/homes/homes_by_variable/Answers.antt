use Rattle.pc_unwind.proofs.StubHomes.{no_homes}
use Rattle.pc_unwind.proofs.homes.homes_by_variable.Goals as goal

pub put_homes-requires-clause-empty : goal.put_homes-requires-clause-empty
put_homes-requires-clause-empty c = no_homes 96
