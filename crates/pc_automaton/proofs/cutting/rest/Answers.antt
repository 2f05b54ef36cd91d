use Rattle.std.proofs.Common.{◌≡◌, rules}
use Rattle.pc_automaton.proofs.Cuts.{rest_of}
use Rattle.pc_automaton.proofs.cutting.rest.Goals as goal

pub returns-clause-window : goal.returns-clause-window
returns-clause-window c =
    let copied : c.in_ok-forms.forms ≡ c.args.names.now.forms = search rules in
    rest_of c.args.names.now c.in_ok-forms.forms c.args.limits c.args.inside c.args.tree copied c.requires
