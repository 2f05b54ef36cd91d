use Rattle.std.proofs.Common.{◌≡◌, ◌++◌}
use Rattle.pc_emit.proofs.output.Output.all.Given as goal

-- the rows of copies so far stand after those of regions
abbrev pub invariant-loop-row : goal.invariant-loop-row
invariant-loop-row l = l.rows ≡ l.initial.rows ++ l.yielded
