-- A line that is given is one that the option takes, so it fits its type.
use Rattle.std.proofs.Common.{◌≡◌, ◌≤◌, ◌∙◌, arith, rules, sym}
use Rattle.std.specs.Prelude.{Some}
use Rattle.pc_command.specs.Matching.{matches_in}
use Rattle.pc_command.specs.Options.{loop_option, number_found}
use Rattle.pc_command.specs.models.Lines.{option_of}
use Rattle.pc_command.proofs.Lines.{loop-found}
use Rattle.pc_command.proofs.Ranges.{loop-between}
use Rattle.pc_command.proofs.explain.line_in.Goals as goal

pub number_found-requires : goal.number_found-requires
number_found-requires c = loop-found (option_of c.source_line.result) (matches_in c.args.matches.now) c.source_line.ensures c.requires.line

pub overflow_cast-result : goal.overflow_cast-result
overflow_cast-result c =
    let read : c.number_found.result ≡ Some c.in_ok-line.line = search rules in
    let is : number_found loop_option (matches_in c.args.matches.now) ≡ Some c.in_ok-line.line = rw (← c.source_line.ensures) (sym c.number_found.ensures ∙ read) in
    let most : c.in_ok-line.line ≤ 1048577 = (loop-between (matches_in c.args.matches.now) c.in_ok-line.line is).1 in
    omega (arith, most)
