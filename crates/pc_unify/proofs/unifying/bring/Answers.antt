use Rattle.std.proofs.Common.{◌∙◌, ap}
use Rattle.pc_window.specs.Tree.{Stop_exit}
use Rattle.pc_moveop.specs.NodeTree.{Leads_out, nodes_in, with_node}
use Rattle.pc_moveop.proofs.Brought.{node_small, left_small, put_back}
use Rattle.pc_unify.specs.Unifying.{joined}
use Rattle.pc_unify.specs.models.Twins.{coming_in}
use Rattle.pc_unify.proofs.unifying.bring.Goals as goal

pub join-requires : goal.join-requires
join-requires c = node_small _ c.args.parent.now c.args.tree.now c.swap_node-node.result c.swap_node-node.ensures.node c.requires.small

pub swap_node-requires-clause-small : goal.swap_node-requires-clause-small
swap_node-requires-clause-small c = left_small _ c.args.parent.now c.args.tree.now c.swap_node-node.new.tree c.swap_node-node.ensures.tree c.requires.small

pub returns : goal.returns
returns c =
    let path = c.args.parent.now in let left = nodes_in c.swap_node-node.new.tree in
    put_back path (nodes_in c.args.tree.now) left (nodes_in c.swap_node.new.tree) (nodes_in c.swap_node-node.result)
    (joined (coming_in c.args.joint) c.args.leaf c.args.yes_place c.args.no_place) (Leads_out Stop_exit)
    c.swap_node-node.ensures.node c.swap_node-node.ensures.tree (c.swap_node.ensures.tree ∙ ap (λ n. with_node path n left) c.join.ensures)
