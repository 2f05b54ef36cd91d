use Rattle.pc_movecj.proofs.Shapes.{moved_size, moved_nodes}
use Rattle.pc_movecj.proofs.Entering.{moved}
use Rattle.pc_movecj.proofs.moving.move_cj.Goals as goal

pub returns-clause-proper : goal.returns-clause-proper
returns-clause-proper c = (moved c.args.window.now c.carry.new.window c.args.parent.now c.args.leaf c.in_ok-carry.ensures.moved c.in_ok-climb.ensures.legal c.requires.proper).proper

pub returns-clause-keeps : goal.returns-clause-keeps
returns-clause-keeps c = (moved c.args.window.now c.carry.new.window c.args.parent.now c.args.leaf c.in_ok-carry.ensures.moved c.in_ok-climb.ensures.legal c.requires.proper).walk

pub returns-clause-size : goal.returns-clause-size
returns-clause-size c = moved_size c.args.window.now c.carry.new.window c.args.parent.now c.args.leaf c.in_ok-carry.ensures.moved

pub returns-clause-nodes : goal.returns-clause-nodes
returns-clause-nodes c = moved_nodes c.args.window.now c.carry.new.window c.args.parent.now c.args.leaf c.in_ok-carry.ensures.moved
