use Rattle.std.proofs.Common.{refl, sym}
use Rattle.pc_unify.proofs.DeletedKept.{deletion_keeps}
use Rattle.pc_unify.proofs.deleting.delete.Goals as goal

pub returns-in_ok-delete_at-in-None-clause-proper : goal.returns-in_ok-delete_at-in-None-clause-proper
returns-in_ok-delete_at-in-None-clause-proper c =
    (deletion_keeps c.args.window.now (record { tree = c.delete_at.new.tree; names = c.args.window.now.names; limits = c.args.window.now.limits; inside = c.args.window.now.inside })
    c.args.node.now c.args.place (record { tree = c.in_ok-delete_at-in-None.ensures.deleted; names = refl; bounds = record { limits = refl; inside = refl } })
    (sym c.in-None.ensures) c.requires.proper).proper

pub returns-in_ok-delete_at-in-None-clause-keeps : goal.returns-in_ok-delete_at-in-None-clause-keeps
returns-in_ok-delete_at-in-None-clause-keeps c =
    (deletion_keeps c.args.window.now (record { tree = c.delete_at.new.tree; names = c.args.window.now.names; limits = c.args.window.now.limits; inside = c.args.window.now.inside })
    c.args.node.now c.args.place (record { tree = c.in_ok-delete_at-in-None.ensures.deleted; names = refl; bounds = record { limits = refl; inside = refl } })
    (sym c.in-None.ensures) c.requires.proper).walk
