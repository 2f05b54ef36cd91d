use Rattle.pc_compile.proofs.Marks.{none_is_marked}
use Rattle.pc_compile.proofs.found.Found.new.Goals as goal

pub invariant_of-result : goal.invariant_of-result
invariant_of-result c = rw (c.new.ensures, c.in_ok-marks.ensures) (none_is_marked c.args.count)
