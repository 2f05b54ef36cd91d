-- What `clap` promises of a parse is what is promised here.
use Rattle.std.proofs.lemmas.Result.{err_from_is_err_and}
use Rattle.clap.specs.Simple.{app_of}
use Rattle.pc_command.specs.Words.{spelled}
use Rattle.pc_command.proofs.Taken.{matches_taken-Err, matches_taken-Ok}
use Rattle.pc_command.proofs.arguments.matches_of.Goals as goal

pub returns : goal.returns
returns c =
    let parse = c.in_ok-try_get_matches_from in
    matches_taken-Ok (app_of c.args.command) (spelled c.args.words.now) parse.field-0 c.requires (parse.ensures.kinds c.requires) parse.ensures.matches

pub returns-in_err-try_get_matches_from : goal.returns-in_err-try_get_matches_from
returns-in_err-try_get_matches_from c =
    let p = err_from_is_err_and c.from_residual.result c.from_residual.ensures.1 in
    let parse = c.in_err-try_get_matches_from in
    rw (p.1, p.2) (matches_taken-Err (app_of c.args.command) (spelled c.args.words.now) parse.field-0.0 (parse.ensures.kinds c.requires))
