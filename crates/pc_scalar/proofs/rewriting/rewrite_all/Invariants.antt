use Rattle.std.proofs.Common.{◌≡◌, ◌<◌, ℕ, true}
use Rattle.std.specs.Prelude.{slice_index_or}
use Rattle.pc_scalar.specs.declared.before.Predecessor.TheVariants.{Nothing}
use Rattle.pc_scalar.specs.models.Rewriting.{begins, ChainFrom, Written, Rewrites}
use Rattle.pc_scalar.proofs.rewriting.rewrite_all.Given as goal

-- the nodes of the chains so far are rewritten
abbrev pub invariant-loop-head : goal.invariant-loop-head
invariant-loop-head l = record {
  rewrites : Rewrites l.flow l.rule l.nodes;
  written : (head : ℕ) → head < l.head → begins (slice_index_or l.table head Nothing) ≡ true → (at : ℕ) → ChainFrom l.flow head at → Written l.flow l.rule l.nodes at;
}
