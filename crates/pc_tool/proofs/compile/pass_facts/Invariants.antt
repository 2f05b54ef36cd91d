use Rattle.std.proofs.Common.{◌≡◌, map, take}
use Rattle.pc_report.specs.Report.{pass_of}
use Rattle.pc_tool.specs.Compilation.{counts_of}
use Rattle.pc_tool.proofs.compile.pass_facts.Given as goal

-- the facts of the passes so far
abbrev pub invariant-loop-pass : goal.invariant-loop-pass
invariant-loop-pass g l = map pass_of l.facts.items ≡ counts_of g.P.Pass.label g.P.Pass.changed (take l.pass-index l.passes)
