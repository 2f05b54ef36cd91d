use Rattle.std.proofs.Common.{rules, ◌≡◌, sym, subst, ℕ, length}
use Rattle.pc_window.specs.Names.{parameters_of}
use Rattle.pc_window.specs.Opening.{TreeBelow}
use Rattle.pc_window.specs.Rebasing.{all_names, first_turns, after_first}
use Rattle.pc_window.specs.StoredWindow.{tree_in, supply_in}
use Rattle.pc_rebase.specs.models.Turning.{unturned}
use Rattle.pc_rebase.proofs.RebasedWindows.{names_below, parameters_there, all_there, among_there, is_rebased, stays_proper, keeps, as_many}
use Rattle.pc_rebase.proofs.rebasing.rebase.Goals as goal

pub parameters_of-requires : goal.parameters_of-requires
parameters_of-requires c =
    let window = c.args.window in
    let many : c.len-count.result ≡ length window.names.forms = search rules in
    subst (λ (n : ℕ). TreeBelow n (tree_in window.tree)) (sym many) (names_below window.tree window.names window.limits window.inside c.requires.proper)

pub rebased-requires-clause-all : goal.rebased-requires-clause-all
rebased-requires-clause-all c =
    let window = c.args.window in
    let is : c.as_slice-3.result.now ≡ all_names (tree_in window.tree) = search rules in
    all_there window.tree window.names window.limits window.inside c.requires.proper c.as_slice-3.result.now is

pub rebased-requires-clause-parameters : goal.rebased-requires-clause-parameters
rebased-requires-clause-parameters c =
    let window = c.args.window in
    let is : c.as_slice-2.result.now ≡ parameters_of (tree_in window.tree) = search rules in
    parameters_there window.tree window.names window.limits window.inside c.requires.proper c.as_slice-2.result.now is

pub rebased-requires-clause-among : goal.rebased-requires-clause-among
rebased-requires-clause-among c =
    let window = c.args.window in
    let all = c.as_slice-3.result.now in
    let parameters = c.as_slice-2.result.now in
    let all_are : all ≡ all_names (tree_in window.tree) = search rules in
    let parameters_are : parameters ≡ parameters_of (tree_in window.tree) = search rules in
    among_there window.tree window.names window.limits window.inside c.requires.proper parameters all parameters_are all_are

pub returns-clause-rebases : goal.returns-clause-rebases
returns-clause-rebases c =
    let window = c.args.window in
    let all = c.as_slice-3.result.now in
    let parameters = c.as_slice-2.result.now in
    let all_are : all ≡ all_names (tree_in window.tree) = search rules in
    let parameters_are : parameters ≡ parameters_of (tree_in window.tree) = search rules in
    let made : supply_in c.in_ok-names.names ≡ after_first all (first_turns all parameters (unturned (supply_in window.names))) = search rules in
    is_rebased window.tree window.names window.limits window.inside c.requires.proper c.in_ok-names.names parameters all parameters_are all_are made c.requires.nodes

pub returns-clause-names : goal.returns-clause-names
returns-clause-names c =
    let window = c.args.window in
    let all = c.as_slice-3.result.now in
    let parameters = c.as_slice-2.result.now in
    let all_are : all ≡ all_names (tree_in window.tree) = search rules in
    let parameters_are : parameters ≡ parameters_of (tree_in window.tree) = search rules in
    let made : supply_in c.in_ok-names.names ≡ after_first all (first_turns all parameters (unturned (supply_in window.names))) = search rules in
    as_many window.tree window.names window.limits window.inside c.requires.proper c.in_ok-names.names parameters all parameters_are all_are made

pub returns-clause-proper : goal.returns-clause-proper
returns-clause-proper c =
    let window = c.args.window in
    let all = c.as_slice-3.result.now in
    let parameters = c.as_slice-2.result.now in
    let all_are : all ≡ all_names (tree_in window.tree) = search rules in
    let parameters_are : parameters ≡ parameters_of (tree_in window.tree) = search rules in
    let made : supply_in c.in_ok-names.names ≡ after_first all (first_turns all parameters (unturned (supply_in window.names))) = search rules in
    stays_proper window.tree window.names window.limits window.inside c.requires.proper c.in_ok-names.names parameters all parameters_are all_are made c.requires.nodes

pub returns-clause-keeps : goal.returns-clause-keeps
returns-clause-keeps c =
    let window = c.args.window in
    let all = c.as_slice-3.result.now in
    let parameters = c.as_slice-2.result.now in
    let all_are : all ≡ all_names (tree_in window.tree) = search rules in
    let parameters_are : parameters ≡ parameters_of (tree_in window.tree) = search rules in
    let made : supply_in c.in_ok-names.names ≡ after_first all (first_turns all parameters (unturned (supply_in window.names))) = search rules in
    keeps window.tree window.names window.limits window.inside c.requires.proper c.in_ok-names.names parameters all parameters_are all_are made c.requires.nodes
