use Rattle.pc_unwind.proofs.StubHomes.{no_homes}
use Rattle.pc_unwind.proofs.homes.HomeTable.new.Goals as goal

pub invariant_of-result : goal.invariant_of-result
invariant_of-result c = no_homes 96
