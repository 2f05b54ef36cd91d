use Rattle.std.proofs.Common.{◌≡◌, ◌≤◌, drop}
use Rattle.pc_machine.specs.Flaws.{lengths_flaws}
use Rattle.pc_word.specs.MachineLimits.{most_elements}
use Rattle.pc_machine.proofs.check.array_lengths.Given as goal

-- the flaws are those of the lengths that are left
abbrev pub invariant-loop-length : goal.invariant-loop-length
invariant-loop-length l = record {
  few : l.elements ≤ most_elements;
  left : lengths_flaws 0 l.lengths ≡ lengths_flaws l.elements (drop l.length-index l.lengths);
}
