use Rattle.pc_shared.proofs.Carrying.{child_stands}
use Rattle.pc_shared.proofs.window.SharedWindow.child.Goals as goal

pub returns-clause-stands : goal.returns-clause-stands
returns-clause-stands c = child_stands _ _ _ _ _ _ c.requires c.shape.ensures c.link.ensures
