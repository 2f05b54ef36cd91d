-- The number that is read is the one of the definition.
use Rattle.std.proofs.Common.{◌≡◌, ◌∙◌, sym, ap}
use Rattle.std.specs.Prelude.{Some, is_some}
use Rattle.clap.specs.Matches.{found_of}
use Rattle.clap.proofs.WalkLemmas.{one_text-rows}
use Rattle.pc_command.specs.Matching.{matches_in}
use Rattle.pc_command.specs.Options.{number_in}
use Rattle.pc_command.specs.models.Lines.{option_of}
use Rattle.pc_command.proofs.Numbers.{number_in-read}
use Rattle.pc_command.proofs.number_option.OptionLine.number_in.Goals as goal

pub unwrap-requires : goal.unwrap-requires
unwrap-requires c =
    let is : _ = one_text-rows (found_of c.args.matches.now) c.args.self.name.now in
    ap is_some (number_in-read (option_of c.args.self) (matches_in c.args.matches.now) c.get_one.result
    (record { none = λ e. c.get_one.ensures.none (is ∙ e); value = λ text e. c.get_one.ensures.value text (is ∙ e) }) c.requires)

pub returns : goal.returns
returns c =
    let is : _ = one_text-rows (found_of c.args.matches.now) c.args.self.name.now in
    let read = number_in-read (option_of c.args.self) (matches_in c.args.matches.now) c.get_one.result
    (record { none = λ e. c.get_one.ensures.none (is ∙ e); value = λ text e. c.get_one.ensures.value text (is ∙ e) }) c.requires in
    let same : Some c.unwrap.result ≡ Some (number_in (option_of c.args.self) (matches_in c.args.matches.now)) = sym c.unwrap.ensures ∙ read in
    cc
