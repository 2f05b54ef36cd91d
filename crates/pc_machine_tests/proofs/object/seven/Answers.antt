use Rattle.std.proofs.Common.{refl}
use Rattle.pc_machine.specs.MachineCode.{rows_of}
use Rattle.pc_object.proofs.Examples.{prints_seven_is_object}
use Rattle.pc_machine_tests.proofs.object.seven.Goals as goal

pub returns : goal.returns
returns c =
    prints_seven_is_object c.new-2.result c.new-3.result (rows_of c.push.new.self) c.new-notes.result c.new-2.ensures c.new-3.ensures
    (rw (c.in_ok-push.ensures.ok, c.new-rows.ensures, c.in_ok-next.ensures.ok) refl) c.new-notes.ensures
