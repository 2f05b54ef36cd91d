use Rattle.std.proofs.Common.{rules, ◌≡◌}
use Rattle.std.specs.Prelude.{slice_get}
use Rattle.pc_machine.specs.MachineCode.{code_of}
use Rattle.pc_machine.specs.Flaws.{flaws_of}
use Rattle.pc_machine.proofs.Flaws.{first_flaw}
use Rattle.pc_machine.proofs.check.well_formed.Goals as goal

pub returns-clause-none : goal.returns-clause-none
returns-clause-none c =
    let first : c.err.result ≡ slice_get (flaws_of (code_of c.args.code.now)) 0 = search rules in
    first_flaw (code_of c.args.code.now) c.err.result first
