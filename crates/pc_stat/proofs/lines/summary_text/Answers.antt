use Rattle.pc_machine.specs.MachineCode.{code_of}
use Rattle.pc_count.specs.Counts.{profile_of}
use Rattle.pc_stat.proofs.Costs.{few_cycles}
use Rattle.pc_stat.proofs.lines.summary_text.Goals as goal

pub push_work-requires : goal.push_work-requires
push_work-requires c = few_cycles (code_of c.args.code.now) (profile_of c.args.profile.now) c.requires
