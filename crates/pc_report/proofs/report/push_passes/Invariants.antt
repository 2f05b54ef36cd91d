use Rattle.std.proofs.Common.{◌≡◌, ◌++◌, map, take, string_bytes}
use Rattle.std.specs.List.{flat_map}
use Rattle.pc_report.specs.Report.{pass_of, pass_line}
use Rattle.pc_report.proofs.report.push_passes.Given as goal

-- the lines of the passes so far stand after the text
abbrev pub invariant-loop-pass : goal.invariant-loop-pass
invariant-loop-pass l =
    string_bytes l.text ≡ string_bytes l.initial.text ++ flat_map pass_line (map pass_of (take l.pass-index l.passes))
