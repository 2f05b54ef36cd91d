use Rattle.std.proofs.Common.{rules, ◌≡◌, ◌∙◌, sym, ap, subst, ℕ, length}
use Rattle.pc_window.specs.Names.{parameters_of}
use Rattle.pc_window.specs.Opening.{TreeBelow}
use Rattle.pc_window.specs.StoredWindow.{tree_in}
use Rattle.pc_window.proofs.WindowsStored.{whole_in}
use Rattle.pc_fill.proofs.filling.fill.Goals as goal

pub parameters_of-requires : goal.parameters_of-requires
parameters_of-requires c =
    let window = c.args.window in
    let many : c.len.result ≡ length window.names.forms = search rules in
    subst (λ (n : ℕ). TreeBelow n (tree_in window.tree)) (sym many) (subst (TreeBelow (length window.names.forms)) (whole_in window.tree) c.requires.proper.names_below)

pub fill_from-requires-clause-parameters : goal.fill_from-requires-clause-parameters
fill_from-requires-clause-parameters c =
    let listed : c.as_slice.result.now ≡ parameters_of (tree_in c.args.window.tree) = search rules in
    listed ∙ ap parameters_of (sym (whole_in c.args.window.tree))
