use Rattle.std.proofs.Common.{rules, ◌≡◌, Some, None, length, sym, ap, subst}
use Rattle.std.specs.Prelude.{true, slice_set}
use Rattle.pc_word.specs.Items.{dest_of}
use Rattle.pc_window.specs.Tree.{Tree, Pending, Undecided}
use Rattle.pc_window.specs.Names.{name_in, names_read, free_uses}
use Rattle.pc_window.specs.Opening.{TreeBelow}
use Rattle.pc_window.specs.StoredWindow.{tree_in}
use Rattle.pc_window.specs.models.Listing.{and_names, unmarked}
use Rattle.pc_window.proofs.Walked.{past_item, past_quiet, past_test, dest_below}
use Rattle.pc_window.proofs.listing.+add_parameters.Goals as goal

pub returns-in_ok-add_parameters-in-None-clause-found : goal.returns-in_ok-add_parameters-in-None-clause-found
returns-in_ok-add_parameters-in-None-clause-found t c =
    let marks = c.args.on_path.now in
    let found = c.args.found.now in
    let mid = c.add_read.new.found in
    let new = c.add_parameters.new.found in
    let item = c.in-Step.item in
    let rest = tree_in c.in-Step.rest.value in
    let is : tree_in c.args.tree.now ≡ Pending c.in-Step.tag c.in-Step.origin item rest = ap tree_in c.in-Step.is in
    let read : mid ≡ and_names found (unmarked marks (names_read item)) = search rules in
    let none : dest_of item ≡ None = search rules in
    let later : new ≡ and_names mid (unmarked marks (free_uses rest)) = search rules in
    subst (λ (tree : Tree). new ≡ and_names found (unmarked marks (free_uses tree))) (sym is)
    (past_quiet marks found mid new c.in-Step.tag c.in-Step.origin item rest read none later)

pub returns-in_ok-add_parameters-in-Some-clause-found : goal.returns-in_ok-add_parameters-in-Some-clause-found
returns-in_ok-add_parameters-in-Some-clause-found t c =
    let marks = c.args.on_path.now in
    let found = c.args.found.now in
    let mid = c.add_read.new.found in
    let new = c.add_parameters-in-Some.new.found in
    let item = c.in-Step.item in
    let dest = c.in-Some.dest in
    let rest = tree_in c.in-Step.rest.value in
    let is : tree_in c.args.tree.now ≡ Pending c.in-Step.tag c.in-Step.origin item rest = ap tree_in c.in-Step.is in
    let below = subst (λ (tree : Tree). TreeBelow (length marks) tree) is c.requires in
    let read : mid ≡ and_names found (unmarked marks (names_read item)) = search rules in
    let some : dest_of item ≡ Some dest = search rules in
    let later : new ≡ and_names mid (unmarked (slice_set marks dest true) (free_uses rest)) = search rules in
    subst (λ (tree : Tree). new ≡ and_names found (unmarked marks (free_uses tree))) (sym is)
    (past_item marks found mid new c.in-Step.tag c.in-Step.origin item rest read dest some (dest_below (length marks) item dest below.0 some) later)

pub returns-in_ok-add_parameters-in-Test-2-clause-found : goal.returns-in_ok-add_parameters-in-Test-2-clause-found
returns-in_ok-add_parameters-in-Test-2-clause-found t c =
    let marks = c.args.on_path.now in
    let found = c.args.found.now in
    let mid = c.add_used.new.found in
    let both = c.add_parameters-in-Test.new.found in
    let new = c.add_parameters-in-Test-2.new.found in
    let on = c.in-Test.on in
    let one = tree_in c.in-Test.yes.value in
    let other = tree_in c.in-Test.no.value in
    let is : tree_in c.args.tree.now ≡ Undecided c.in-Test.tag c.in-Test.origin on one other = ap tree_in c.in-Test.is in
    let first : mid ≡ and_names found (unmarked marks (name_in on)) = search rules in
    let second : both ≡ and_names mid (unmarked marks (free_uses one)) = search rules in
    let third : new ≡ and_names both (unmarked marks (free_uses other)) = search rules in
    subst (λ (tree : Tree). new ≡ and_names found (unmarked marks (free_uses tree))) (sym is)
    (past_test marks found mid both new c.in-Test.tag c.in-Test.origin on one other first second third)
