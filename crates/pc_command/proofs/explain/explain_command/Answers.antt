-- The words are a command where `clap` takes them and SRC names a source.
use Rattle.std.proofs.Common.{◌∙◌, ap, sym}
use Rattle.std.proofs.lemmas.Result.{err_from_is_err_and}
use Rattle.clap.specs.Faults.{is_simple_and_free}
use Rattle.pc_command.specs.Matching.{matches_in}
use Rattle.pc_command.specs.Requests.{explain_request}
use Rattle.pc_command.specs.Words.{spelled}
use Rattle.pc_command.proofs.Commands.{exact_in, explain-refused, explain-taken, there}
use Rattle.pc_command.proofs.Whole.{explain_matches-whole}
use Rattle.pc_command.proofs.Programs.{explain_app_is_simple}
use Rattle.pc_command.proofs.explain.explain_command.Goals as goal

pub matches_of-requires : goal.matches_of-requires
matches_of-requires c = ap is_simple_and_free c.in_ok-explain_app.ensures.app ∙ explain_app_is_simple

pub command_in-requires : goal.command_in-requires
command_in-requires c =
    let taken = rw c.in_ok-explain_app.ensures.app at c.in_ok-matches.ensures in
    explain_matches-whole (spelled c.args.words.now) (matches_in c.in_ok-matches.matches) (there _ _ taken)

pub returns-in_err-matches-clause-exact : goal.returns-in_err-matches-clause-exact
returns-in_err-matches-clause-exact c =
    let p = err_from_is_err_and c.from_residual-in_err-matches.result c.from_residual-in_err-matches.ensures.1 in
    rw (p.1, p.2) (explain-refused c.in_err-matches.field-0.0 (spelled c.args.words.now) (rw c.in_ok-explain_app.ensures.app at c.in_err-matches.ensures))

pub returns-clause-exact : goal.returns-clause-exact
returns-clause-exact c =
    let taken = rw c.in_ok-explain_app.ensures.app at c.in_ok-matches.ensures in
    let is = explain-taken (spelled c.args.words.now) (matches_in c.in_ok-matches.matches) taken in
    rw c.ok_or.ensures.value (exact_in explain_request c.command_in.result _ (c.command_in.ensures.value ∙ sym is))
