-- The flag that is read is the one of the definition.
use Rattle.std.proofs.Common.{◌∙◌}
use Rattle.clap.specs.Matches.{found_of}
use Rattle.clap.proofs.WalkLemmas.{one_text-rows}
use Rattle.pc_command.specs.Matching.{matches_in}
use Rattle.pc_command.proofs.Flags.{flag_in-read}
use Rattle.pc_command.proofs.arguments.flag_in.Goals as goal

pub returns : goal.returns
returns c =
    let is : _ = one_text-rows (found_of c.args.matches.now) c.args.name.now in
    flag_in-read c.args.name.now (matches_in c.args.matches.now) c.get_flag.result c.requires
    (λ e. c.get_flag.ensures.value (is ∙ e)) (λ e. c.get_flag.ensures.other (is ∙ e))
