use Rattle.std.proofs.Common.{◌≡◌, ap}
use Rattle.pc_syntax.proofs.WithoutCalls.{same_without_calls}
use Rattle.pc_syntax.specs.Source.{SourceList, SourceProgram}
use Rattle.pc_syntax.proofs.program.Program.copy.Goals as goal

-- a copy with the same statements, calls included, is the same program
pub returns-clause-same : goal.returns-clause-same
returns-clause-same c =
    ap (λ (items : SourceList). record { items = items }) (same_without_calls c.in_ok-items.items c.args.self.now.items c.in_ok-items.ensures)
