-- The words are a command where `clap` takes them and SRC names a source.
use Rattle.std.proofs.Common.{◌∙◌, ap, sym}
use Rattle.std.proofs.lemmas.Result.{err_from_is_err_and}
use Rattle.clap.specs.Faults.{is_simple_and_free}
use Rattle.pc_command.specs.Matching.{matches_in}
use Rattle.pc_command.specs.Requests.{check_request}
use Rattle.pc_command.specs.Words.{spelled}
use Rattle.pc_command.proofs.Commands.{check-refused, check-taken, exact_in, there}
use Rattle.pc_command.proofs.Whole.{check_matches-whole}
use Rattle.pc_command.proofs.Programs.{check_app_is_simple}
use Rattle.pc_command.proofs.check.check_command.Goals as goal

pub matches_of-requires : goal.matches_of-requires
matches_of-requires c = ap is_simple_and_free c.in_ok-check_app.ensures.app ∙ check_app_is_simple

pub command_in-requires : goal.command_in-requires
command_in-requires c =
    let taken = rw c.in_ok-check_app.ensures.app at c.in_ok-matches.ensures in
    check_matches-whole (spelled c.args.words.now) (matches_in c.in_ok-matches.matches) (there _ _ taken)

pub returns-in_err-matches : goal.returns-in_err-matches
returns-in_err-matches c =
    let p = err_from_is_err_and c.from_residual-in_err-matches.result c.from_residual-in_err-matches.ensures.1 in
    rw (p.1, p.2) (check-refused c.in_err-matches.field-0.0 (spelled c.args.words.now) (rw c.in_ok-check_app.ensures.app at c.in_err-matches.ensures))

pub returns : goal.returns
returns c =
    let taken = rw c.in_ok-check_app.ensures.app at c.in_ok-matches.ensures in
    let is = check-taken (spelled c.args.words.now) (matches_in c.in_ok-matches.matches) taken in
    rw c.ok_or.ensures.value (exact_in check_request c.command_in.result _ (c.command_in.ensures ∙ sym is))
