-- The number that is read is the one of the definition.
use Rattle.std.proofs.Common.{◌∙◌}
use Rattle.clap.specs.Matches.{found_of}
use Rattle.clap.proofs.WalkLemmas.{one_text-rows}
use Rattle.pc_command.specs.Matching.{matches_in}
use Rattle.pc_command.specs.models.Lines.{option_of}
use Rattle.pc_command.proofs.Numbers.{number_found-read}
use Rattle.pc_command.proofs.number_option.OptionLine.number_found.Goals as goal

pub returns : goal.returns
returns c =
    let is : _ = one_text-rows (found_of c.args.matches.now) c.args.self.name.now in
    number_found-read (option_of c.args.self) (matches_in c.args.matches.now) c.get_one.result
    (record { none = λ e. c.get_one.ensures.none (is ∙ e); value = λ text e. c.get_one.ensures.value text (is ∙ e) }) c.requires
