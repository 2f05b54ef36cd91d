use Rattle.std.proofs.Common.{rules, ◌≡◌, sym, ap, subst}
use Rattle.pc_window.specs.Tree.{Tree, Undecided}
use Rattle.pc_window.specs.Names.{definitions_of}
use Rattle.pc_window.specs.StoredWindow.{tree_in}
use Rattle.pc_window.specs.models.Listing.{and_names}
use Rattle.pc_window.proofs.Walked.{sides_define}
use Rattle.pc_renumber.proofs.names.+add_definitions.Goals as goal

pub returns-in_ok-add_definitions-in-Test-2-clause-names : goal.returns-in_ok-add_definitions-in-Test-2-clause-names
returns-in_ok-add_definitions-in-Test-2-clause-names t c =
    let one = tree_in c.in-Test.yes.value in
    let other = tree_in c.in-Test.no.value in
    let found = c.args.names.now in
    let mid = c.add_definitions-in-Test.new.names in
    let new = c.add_definitions-in-Test-2.new.names in
    let is : tree_in c.args.tree.now ≡ Undecided c.in-Test.tag c.in-Test.origin c.in-Test.on one other = ap tree_in c.in-Test.is in
    let first : mid ≡ and_names found (definitions_of one) = search rules in
    let second : new ≡ and_names mid (definitions_of other) = search rules in
    subst (λ (tree : Tree). new ≡ and_names found (definitions_of tree)) (sym is) (sides_define found mid new c.in-Test.tag c.in-Test.origin c.in-Test.on one other first second)
