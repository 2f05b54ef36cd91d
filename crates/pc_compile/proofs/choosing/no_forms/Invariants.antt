use Rattle.std.proofs.Common.{◌≡◌, None}
use Rattle.std.specs.Prelude.{replicate}
use Rattle.pc_compile.proofs.choosing.no_forms.Given as goal

abbrev pub invariant-loop : goal.invariant-loop
invariant-loop l = l.forms ≡ replicate l.counter None
