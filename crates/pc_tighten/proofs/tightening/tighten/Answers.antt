use Rattle.pc_machine.specs.MachineCode.{code_of}
use Rattle.pc_tighten.proofs.Outcome.{code_tightened}
use Rattle.pc_tighten.proofs.tightening.tighten.Goals as goal

pub returns : goal.returns
returns c =
    code_tightened c.args.code.limits (code_of c.args.code) c.args.code.rows c.from_vec.result c.in_ok-rows.rows.items c.in_ok-rows.ensures c.from_vec.ensures c.requires
