use Rattle.std.proofs.Common.{◌≡◌, Option, subst}
use Rattle.std.specs.Prelude.{slice_get}
use Rattle.pc_window.specs.StoredWindow.{tree_in}
use Rattle.pc_fill.specs.declared.first.Candidate.{Candidate}
use Rattle.pc_fill.specs.models.Places.{node_in, nodes_of}
use Rattle.pc_fill.proofs.Brought.{nothing_stands, not_ready, is_ready_there}
use Rattle.pc_fill.proofs.bringing.ready_at.Goals as goal

pub returns-in_default : goal.returns-in_default
returns-in_default c =
    nothing_stands c.args.window.now c.args.place
    (subst (λ (it : Option Candidate). node_in it ≡ slice_get (nodes_of (tree_in c.args.window.now.tree)) c.args.place) c.in_default.is c.node_at.ensures)

pub returns-then-not-is_ready : goal.returns-then-not-is_ready
returns-then-not-is_ready c =
    not_ready c.args.window.now c.args.place c.in-Some.it c.is_ready.result c.in-Some.ensures c.requires.scoped c.is_ready.ensures c.if-not-is_ready.true

pub returns : goal.returns
returns c = is_ready_there c.args.window.now c.args.place c.in-Some.it c.is_ready.result c.in-Some.ensures c.requires.scoped c.is_ready.ensures c.if-not-is_ready.false
