-- The words are a command where `clap` takes them.
use Rattle.std.proofs.Common.{◌∙◌, ap, sym}
use Rattle.std.proofs.lemmas.Result.{err_from_is_err_and}
use Rattle.std.specs.Prelude.{Option, Some, ok_or}
use Rattle.clap.specs.Faults.{is_simple_and_free}
use Rattle.pc_command.specs.Matching.{matches_in}
use Rattle.pc_command.specs.Requests.{SimulateRequest, simulate_request}
use Rattle.pc_command.specs.Words.{spelled}
use Rattle.pc_command.proofs.Commands.{simulate-refused, simulate-taken, there}
use Rattle.pc_command.proofs.Whole.{simulate_matches-whole}
use Rattle.pc_command.specs.declared.error.CommandError.TheVariants.{NoCommand}
use Rattle.pc_command.proofs.InRange.{simulate_command_of-range}
use Rattle.pc_command.proofs.Programs.{simulate_app_is_simple}
use Rattle.pc_command.proofs.simulate.simulate_command.Goals as goal

pub matches_of-requires : goal.matches_of-requires
matches_of-requires c = ap is_simple_and_free c.in_ok-simulate_app.ensures.app ∙ simulate_app_is_simple

pub command_in-requires : goal.command_in-requires
command_in-requires c =
    let taken = rw c.in_ok-simulate_app.ensures.app at c.in_ok-matches.ensures in
    simulate_matches-whole (spelled c.args.words.now) (matches_in c.in_ok-matches.matches) (there _ _ taken)

pub returns-in_err-matches-clause-exact : goal.returns-in_err-matches-clause-exact
returns-in_err-matches-clause-exact c =
    let p = err_from_is_err_and c.from_residual-in_err-matches.result c.from_residual-in_err-matches.ensures.1 in
    rw (p.1, p.2) (simulate-refused c.in_err-matches.field-0.0 (spelled c.args.words.now) (rw c.in_ok-simulate_app.ensures.app at c.in_err-matches.ensures))

pub returns-clause-exact : goal.returns-clause-exact
returns-clause-exact c =
    let taken = rw c.in_ok-simulate_app.ensures.app at c.in_ok-matches.ensures in
    let is = simulate-taken (spelled c.args.words.now) (matches_in c.in_ok-matches.matches) taken in
    ap (λ (o : Option SimulateRequest). ok_or o NoCommand) (is ∙ ap (λ (r : SimulateRequest). Some r) (sym c.command_in.ensures))

pub returns-clause-cycles : goal.returns-clause-cycles
returns-clause-cycles c =
    let taken = rw c.in_ok-simulate_app.ensures.app at c.in_ok-matches.ensures in
    let is = simulate-taken (spelled c.args.words.now) (matches_in c.in_ok-matches.matches) taken in
    simulate_command_of-range (spelled c.args.words.now) (simulate_request c.command_in.result) (is ∙ ap (λ (r : SimulateRequest). Some r) (sym c.command_in.ensures))
