use Rattle.pc_machine.specs.MachineCode.{code_of, rows_of}
use Rattle.pc_recolor.proofs.Recolored.{code_is_recolored}
use Rattle.pc_recolor.proofs.recoloring.recolored.Goals as goal

pub returns-in_ok-after-in-Some : goal.returns-in_ok-after-in-Some
returns-in_ok-after-in-Some c =
    let found = c.in_ok-rows.ensures in
    let anew = rw (c.in-Some.is, c.as_slice.ensures) at found in
    code_is_recolored c.args.most (code_of c.args.code.now) (code_of c.in_ok-after-in-Some.after) (rows_of c.in-Some.rows) c.in_ok-after-in-Some.ensures anew
