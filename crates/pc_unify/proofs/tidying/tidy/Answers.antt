use Rattle.std.proofs.Common.{rules, ◌≡◌, length}
use Rattle.pc_window.proofs.Proper.{tidies_proper}
use Rattle.pc_window.proofs.Settling.{tidies_keep}
use Rattle.pc_unify.proofs.Tidied.{names_below, apart, is_tidied}
use Rattle.pc_unify.proofs.tidying.tidy.Goals as goal

pub tidy_tree-requires-clause-below : goal.tidy_tree-requires-clause-below
tidy_tree-requires-clause-below c =
    let window = c.args.window in
    let as_many : length c.deref_mut.result.now ≡ length window.names.forms = search rules in
    names_below window.tree window.names window.limits window.inside c.requires c.deref_mut.result.now as_many

pub tidy_tree-requires-clause-apart : goal.tidy_tree-requires-clause-apart
tidy_tree-requires-clause-apart c = let window = c.args.window in apart window.tree window.names window.limits window.inside c.requires

pub returns-clause-tidies : goal.returns-clause-tidies
returns-clause-tidies c =
    let window = c.args.window in
    is_tidied window.tree window.names window.limits window.inside c.requires c.tidy_tree.new.tree c.in_ok-tidy_tree.ensures.tree c.in_ok-tidy_tree.ensures.nodes

pub returns-clause-proper : goal.returns-clause-proper
returns-clause-proper c =
    let window = c.args.window in
    tidies_proper _ _
    (is_tidied window.tree window.names window.limits window.inside c.requires c.tidy_tree.new.tree c.in_ok-tidy_tree.ensures.tree c.in_ok-tidy_tree.ensures.nodes) c.requires

pub returns-clause-keeps : goal.returns-clause-keeps
returns-clause-keeps c table =
    let window = c.args.window in
    tidies_keep table _ _
    (is_tidied window.tree window.names window.limits window.inside c.requires c.tidy_tree.new.tree c.in_ok-tidy_tree.ensures.tree c.in_ok-tidy_tree.ensures.nodes)
