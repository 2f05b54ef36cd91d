use Rattle.pc_unify.proofs.JoinedKept.{joined_keeps}
use Rattle.pc_unify.proofs.JoinedShapes.{joined_size, joined_nodes}
use Rattle.pc_unify.proofs.unifying.unify.Goals as goal

pub returns-clause-proper : goal.returns-clause-proper
returns-clause-proper c = (joined_keeps c.args.window.now c.carry.new.window c.args.parent.now c.args.leaf c.args.yes_place c.args.no_place
    c.in_ok-carry.ensures.joined c.in_ok-on_yes.ensures.legal c.requires.proper).proper

pub returns-clause-keeps : goal.returns-clause-keeps
returns-clause-keeps c = (joined_keeps c.args.window.now c.carry.new.window c.args.parent.now c.args.leaf c.args.yes_place c.args.no_place
    c.in_ok-carry.ensures.joined c.in_ok-on_yes.ensures.legal c.requires.proper).walk

pub returns-clause-size : goal.returns-clause-size
returns-clause-size c = joined_size c.args.window.now c.carry.new.window c.args.parent.now c.args.leaf c.args.yes_place c.args.no_place c.in_ok-carry.ensures.joined

pub returns-clause-nodes : goal.returns-clause-nodes
returns-clause-nodes c = joined_nodes c.args.window.now c.carry.new.window c.args.parent.now c.args.leaf c.args.yes_place c.args.no_place c.in_ok-carry.ensures.joined
