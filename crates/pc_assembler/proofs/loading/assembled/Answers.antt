-- Why there are no bytes.
use Rattle.std.proofs.Common.{subst, sym}
use Rattle.pc_assembler.specs.declared.fault.AssemblerFault.{AssemblerFault}
use Rattle.pc_assembler.specs.models.Steps.{No_memory, RefusesText}
use Rattle.pc_assembler.proofs.Endings.{text_refused}
use Rattle.pc_assembler.proofs.loading.assembled.Goals as goal

pub returns-in-Ok : goal.returns-in-Ok
returns-in-Ok c = No_memory

pub returns : goal.returns
returns c =
    subst (λ (due : AssemblerFault). RefusesText c.args.text.now due) (sym c.fault_of_listing.ensures)
    (text_refused c.args.text.now c.requires c.in-Err.error c.in-Err.ensures.read)
