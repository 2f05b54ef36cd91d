use Rattle.std.proofs.Common.{sym, ◌∙◌, subst, arith}
use Rattle.std.specs.Prelude.{slice_index_or}
use Rattle.pc_flow.specs.declared.node.FlowNode.TheVariants.{Op}
use Rattle.pc_scalar.specs.declared.before.Predecessor.TheVariants.{Nothing}
use Rattle.pc_scalar.specs.Chain.{FollowsAlone}
use Rattle.pc_scalar.proofs.Rewrites.{follows_alone, none_follows, follows_next, of_item, of_item_writes, of_item_known}
use Rattle.pc_scalar.proofs.rewriting.visit.Goals as goal

pub learn-requires : goal.learn-requires
learn-requires c =
    let of = of_item c.args.flow.now c.args.rule c.args.known.now c.args.at c.in-Op.next c.in-Op.item c.node.result c.node.ensures c.in-Op.ensures in
    of_item_writes c.args.flow.now c.args.rule c.args.known.now c.args.at c.in-Op.next c.in-Op.item c.requires.kept c.requires.long of

pub bounds-table-next : goal.bounds-table-next
bounds-table-next c =
    let of = of_item c.args.flow.now c.args.rule c.args.known.now c.args.at c.in-Op.next c.in-Op.item c.node.result c.node.ensures c.in-Op.ensures in
    let target = (c.requires.kept.nodes_fit c.args.at (Op of.old c.in-Op.next) of.there).1.target in
    omega (arith, c.requires.table.as_many, target)

pub returns-then-follows-clause-next : goal.returns-then-follows-clause-next
returns-then-follows-clause-next c =
    let of = of_item c.args.flow.now c.args.rule c.args.known.now c.args.at c.in-Op.next c.in-Op.item c.node.result c.node.ensures c.in-Op.ensures in
    let target = (c.requires.kept.nodes_fit c.args.at (Op of.old c.in-Op.next) of.there).1.target in
    let alone : FollowsAlone c.args.flow.now c.args.at c.in-Op.next =
    follows_alone c.args.flow.now c.args.at c.in-Op.next (slice_index_or c.args.table.now c.in-Op.next Nothing) c.requires.kept (c.requires.table.each c.in-Op.next target)
    (sym c.follows.ensures ∙ c.if-follows.true) in
    (alone, of_item_known c.args.flow.now c.args.rule c.args.known.now c.learn.new.known c.args.at c.in-Op.next c.in-Op.item of alone c.requires.known c.learn.ensures)

pub returns-else-follows-clause-next : goal.returns-else-follows-clause-next
returns-else-follows-clause-next c = λ next alone.
    let of = of_item c.args.flow.now c.args.rule c.args.known.now c.args.at c.in-Op.next c.in-Op.item c.node.result c.node.ensures c.in-Op.ensures in
    let target = (c.requires.kept.nodes_fit c.args.at (Op of.old c.in-Op.next) of.there).1.target in
    let same = follows_next c.args.flow.now c.args.at next c.in-Op.next of.old of.there alone in
    none_follows c.args.flow.now c.args.at c.in-Op.next (slice_index_or c.args.table.now c.in-Op.next Nothing) c.requires.kept (c.requires.table.each c.in-Op.next target)
    (sym c.follows.ensures ∙ c.if-follows.false) (subst (FollowsAlone c.args.flow.now c.args.at) (sym same) alone)
