use Rattle.pc_sample.proofs.generate.push_block.Goals as goal

pub returns-in-1 : goal.returns-in-1
returns-in-1 c = rw c.in-1.is c.push_difference.ensures
