use Rattle.pc_object.proofs.Flawed.{reads_flawed}
use Rattle.pc_object.proofs.laws.flawed_is_bad_field.Goals as goal

pub returns : goal.returns
returns c = reads_flawed
