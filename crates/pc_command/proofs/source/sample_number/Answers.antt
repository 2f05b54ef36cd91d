-- What std reads of digits without a sign is what the definition takes them to spell.
use Rattle.std.proofs.Common.{◌≡◌, ◌∙◌, ◌==◌, sym, false, rules}
use Rattle.std.specs.Prelude.{slice_index}
use Rattle.pc_command.proofs.Sources.{sample_number_of-parses}
use Rattle.pc_command.proofs.source.sample_number.Goals as goal

pub returns : goal.returns
returns c =
    let unsigned : (slice_index c.args.digits.now 0 == 43) ≡ false = search rules in
    c.ok.ensures.value ∙ sym (sample_number_of-parses c.args.digits.now c.parse.result unsigned c.parse.ensures.value.0)
