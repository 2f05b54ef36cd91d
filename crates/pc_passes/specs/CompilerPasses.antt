-- The passes of the compiler as one type: each is called, counts and does what the pass in it is called, counts and does.
use Rattle.std.specs.Prelude.{ℕ, List, codes}
use Rattle.pc_forward.specs.Forwarded.{Forwards}
use Rattle.pc_ranges.specs.Ranged.{LeavesRanged}
use Rattle.pc_scalar.specs.Cleared.{WritesAreLive}
use Rattle.pc_scalar.specs.Copied.{NamesNoCopy}
use Rattle.pc_scalar.specs.Folded.{IsFolded}
use Rattle.pc_scalar.specs.Leaves.{Leaves}
use Rattle.pc_scalar.specs.Valued.{ComputesNoneAgain}
use Rattle.pc_passes.specs.Passes.{Doing}
use Rattle.pc_passes.specs.declared.compiler_pass.CompilerPass.{CompilerPass}
use Rattle.pc_passes.specs.declared.compiler_pass.CompilerPass.TheVariants.{Fold, Ranges, Copies, Values, Forward, Dead}

-- its name
abbrev pub label_of : CompilerPass → List ℕ
label_of (Fold pass) = codes "fold"
label_of (Ranges pass) = codes "ranges"
label_of (Copies pass) = codes "copies"
label_of (Values pass) = codes "values"
label_of (Forward pass) = codes "forward"
label_of (Dead pass) = codes "dead"

-- how many nodes it has changed or skipped so far
abbrev pub changed_of : CompilerPass → ℕ
changed_of (Fold pass) = pass.tally.changes
changed_of (Ranges pass) = pass.tally.changes
changed_of (Copies pass) = pass.tally.changes
changed_of (Values pass) = pass.tally.changes
changed_of (Forward pass) = pass.tally.changes
changed_of (Dead pass) = pass.tally.changes

-- how many times it has come to its end
abbrev pub runs_of : CompilerPass → ℕ
runs_of (Fold pass) = pass.tally.runs
runs_of (Ranges pass) = pass.tally.runs
runs_of (Copies pass) = pass.tally.runs
runs_of (Values pass) = pass.tally.runs
runs_of (Forward pass) = pass.tally.runs
runs_of (Dead pass) = pass.tally.runs

-- what it does
abbrev pub does_of : CompilerPass → Doing
does_of (Fold pass) = Leaves IsFolded
does_of (Ranges pass) = LeavesRanged
does_of (Copies pass) = Leaves NamesNoCopy
does_of (Values pass) = Leaves ComputesNoneAgain
does_of (Forward pass) = Forwards
does_of (Dead pass) = Leaves WritesAreLive
