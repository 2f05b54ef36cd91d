use Rattle.std.proofs.Common.{Option, subst}
use Rattle.pc_window.specs.Names.{uses}
use Rattle.pc_window.specs.Tree.{whole}
use Rattle.pc_window.specs.StoredWindow.{front_in, window_in}
use Rattle.pc_fill.specs.declared.first.ReadyNode.{ReadyNode}
use Rattle.pc_fill.specs.models.Search.{IsReadyOrNot}
use Rattle.pc_fill.proofs.Brought.{brings_none, brings_not, brings_it}
use Rattle.pc_fill.proofs.bringing.bring.Goals as goal

pub returns-in_default : goal.returns-in_default
returns-in_default c =
    let w = c.args.window in
    brings_none w c.requires.proper c.args.place c.args.twin
    (subst (λ (it : Option ReadyNode). IsReadyOrNot (uses (whole (front_in w.tree))) (window_in w) c.args.place it) c.in_default.is c.ready_at.ensures)

pub returns-then-not-may_come_with : goal.returns-then-not-may_come_with
returns-then-not-may_come_with c =
    brings_not c.args.window c.requires.proper c.args.place c.args.twin c.in-Some.ready c.in-Some.ensures c.may_come_with.result c.may_come_with.ensures c.if-not-may_come_with.true

pub returns : goal.returns
returns c =
    brings_it c.args.window c.requires.proper c.args.place c.args.twin c.in-Some.ready c.in-Some.ensures c.may_come_with.result c.may_come_with.ensures c.if-not-may_come_with.false
    c.in_ok-later.later c.in_ok-later.ensures.lands c.in_ok-later.ensures.nodes
