use Rattle.pc_flow.specs.declared.node.FlowNode.TheVariants.{Op}
use Rattle.pc_scalar.proofs.Rewrites.{on_chain_first, on_chain_more, on_chain_ends, dropped_is}
use Rattle.pc_scalar.proofs.rewriting.walk.Goals as goal

pub loop-next-init : goal.loop-next-init
loop-next-init c =
    on_chain_first c.args.flow.now c.args.rule c.args.nodes.now c.args.head c.clear.new.known (dropped_is c.args.known.now c.clear.new.known c.clear.ensures c.requires.known)
    c.requires.begins c.requires.there c.requires.rewrites

pub loop-next-smaller : goal.loop-next-smaller
loop-next-smaller c =
    let alone = c.in-Some.ensures.next.0 in
    (c.requires.kept.nodes_fit c.loop-next.at (Op alone.item c.in-Some.next) alone.there).1.lower

pub loop-next-preserved : goal.loop-next-preserved
loop-next-preserved c =
    on_chain_more c.args.flow.now c.args.rule c.args.nodes.now c.args.head c.loop-next.known c.loop-next.nodes c.visit.new.nodes c.loop-next.at c.loop-next.invariant
    c.in-Some.ensures.node c.in-Some.next c.visit.new.known c.in-Some.ensures.next.0 c.in-Some.ensures.next.1 c.requires.kept

pub returns-clause-rewrites : goal.returns-clause-rewrites
returns-clause-rewrites c =
    (on_chain_ends c.args.flow.now c.args.rule c.args.nodes.now c.args.head c.loop-next.known c.loop-next.nodes c.visit.new.nodes c.loop-next.at c.loop-next.invariant
    c.visit.ensures.node c.in_default.ensures.next).0

pub returns-clause-still : goal.returns-clause-still
returns-clause-still c =
    (on_chain_ends c.args.flow.now c.args.rule c.args.nodes.now c.args.head c.loop-next.known c.loop-next.nodes c.visit.new.nodes c.loop-next.at c.loop-next.invariant
    c.visit.ensures.node c.in_default.ensures.next).1

pub returns-clause-chain : goal.returns-clause-chain
returns-clause-chain c =
    (on_chain_ends c.args.flow.now c.args.rule c.args.nodes.now c.args.head c.loop-next.known c.loop-next.nodes c.visit.new.nodes c.loop-next.at c.loop-next.invariant
    c.visit.ensures.node c.in_default.ensures.next).2
