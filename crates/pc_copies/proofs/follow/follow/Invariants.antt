use Rattle.std.proofs.Common.{◌≡◌, ◌+◌, length}
use Rattle.pc_copies.specs.models.Following.{sources_left, Following}
use Rattle.pc_copies.proofs.follow.follow.Given as goal

abbrev pub invariant-loop-sources : goal.invariant-loop-sources
invariant-loop-sources l = record {
  so_far : Following l.initial.sources l.sources l.first l.path l.at;
  counted : sources_left l.sources + length l.path ≡ sources_left l.initial.sources;
}

abbrev pub decreases-loop-sources : goal.decreases-loop-sources
decreases-loop-sources l = sources_left l.sources
