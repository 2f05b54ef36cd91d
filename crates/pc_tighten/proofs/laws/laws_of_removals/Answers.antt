use Rattle.pc_tighten.proofs.Shrunk.{marked_go, none_alone}
use Rattle.pc_tighten.proofs.laws.laws_of_removals.Goals as goal

pub returns : goal.returns
returns c = record { at_once = marked_go; none_left = none_alone }
