use Rattle.std.proofs.Common.{ap}
use Rattle.pc_machine.specs.MachineCode.{row_of}
use Rattle.pc_renaming.proofs.Going.{both_some}
use Rattle.pc_renaming.proofs.checking.beside.Goals as goal

pub returns-in-Step-clause-stays : goal.returns-in-Step-clause-stays
returns-in-Step-clause-stays c =
    both_some c.both_stay.result (λ below stays alike.
    record { other = c.in-Step.other; rest = row_of c.in-Step.next.value; is = ap row_of c.in-Step.is; stays = stays; alike = rw c.deref.ensures at alike })
    c.both_stay.ensures.stays c.both_stay.ensures.alike
