use Rattle.std.proofs.Common.{◌∙◌, ap}
use Rattle.pc_machine.specs.MachineCode.{code_of}
use Rattle.pc_count.specs.Counts.{profile_of}
use Rattle.serde_json.specs.Written.{has_float}
use Rattle.pc_stat.proofs.Floats.{run-whole}
use Rattle.pc_stat.proofs.json.json_text.Goals as goal

pub line_text-requires : goal.line_text-requires
line_text-requires c = ap has_float c.in_ok-value.ensures ∙ run-whole (code_of c.args.code.now) (profile_of c.args.profile.now)
