use Rattle.std.proofs.Common.{rules, ◌≡◌, ◌<◌, sym, subst, ℕ, length, map}
use Rattle.std.specs.Prelude.{true}
use Rattle.std.specs.List.{AllByRecursion}
use Rattle.pc_window.specs.Opening.{TreeBelow}
use Rattle.pc_window.specs.Rebasing.{all_names}
use Rattle.pc_window.specs.StoredWindow.{tree_in, forms_in, supply_in, InNodes}
use Rattle.pc_window.proofs.Listed.{parameters-below}
use Rattle.pc_renumber.specs.Renumbering.{renumbered_tree, renumbered_supply}
use Rattle.pc_renumber.specs.models.Numbering.{number_in, AreNumbers}
use Rattle.pc_renumber.proofs.RenumberedWindows.{names_below, is_renumbered}
use Rattle.pc_renumber.proofs.renumbering.renumbered.Goals as goal

pub add_all-requires-clause-below : goal.add_all-requires-clause-below
add_all-requires-clause-below c =
    let window = c.args.window in
    subst (λ (n : ℕ). TreeBelow n (tree_in window.tree)) (sym c.requires.many) (names_below window c.requires.proper)

pub add_all-requires-clause-parameters_below : goal.add_all-requires-clause-parameters_below
add_all-requires-clause-parameters_below c =
    let window = c.args.window in
    let below = names_below window c.requires.proper in
    subst (λ (n : ℕ). AllByRecursion (λ (x : ℕ). x < n) c.args.parameters.now) (sym c.requires.many)
    (subst (AllByRecursion (λ (x : ℕ). x < length window.names.forms)) (sym c.requires.parameters) (parameters-below (length window.names.forms) (tree_in window.tree) below))

pub returns-clause-renumbers : goal.returns-clause-renumbers
returns-clause-renumbers c =
    let window = c.args.window in
    let all = c.as_slice.result.now in
    let numbers = c.add_all.new.numbers in
    let all_are : all ≡ all_names (tree_in window.tree) = search rules in
    let same_all : all ≡ c.add_all.new.names = search rules in
    let are : AreNumbers numbers all = rw same_all c.in_ok-add_all.ensures.numbered in
    let table : supply_in c.in_ok-names.names ≡ renumbered_supply (map (forms_in window.names.forms) all) window.names.next_variable = search rules in
    let tree : tree_in c.renumber_tree.new.tree ≡ renumbered_tree (number_in numbers) (tree_in window.tree) = search rules in
    let single : InNodes true c.renumber_tree.new.tree = search rules in
    is_renumbered window c.requires.proper c.renumber_tree.new.tree c.in_ok-names.names all numbers
    all_are are table tree single
