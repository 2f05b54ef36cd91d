use Rattle.pc_renaming.proofs.Steps.{renaming_keeps_the_run}
use Rattle.pc_renaming.proofs.Form.{renaming_keeps_form}
use Rattle.pc_renaming.proofs.Within.{form_keeps_registers}
use Rattle.pc_renaming.proofs.laws.laws_of_renaming.Goals as goal

pub returns : goal.returns
returns c = record { runs = renaming_keeps_the_run; form = renaming_keeps_form; registers = form_keeps_registers }
