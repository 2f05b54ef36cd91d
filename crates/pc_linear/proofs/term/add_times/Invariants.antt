use Rattle.std.proofs.Common.{◌≡◌, ◌+◌, ◌≤◌, drop, length}
use Rattle.arrayvec.specs.ArrayVec.{array_vec_len}
use Rattle.pc_linear.specs.Combine.{add_times}
use Rattle.pc_linear.proofs.term.add_times.Given as goal

-- there is room for the terms that are left, and adding them gives the sum
abbrev pub invariant-loop-term : goal.invariant-loop-term
invariant-loop-term l = record {
  room : array_vec_len l.terms + length (drop l.term-index l.more) ≤ 8;
  sum : add_times l.number (drop l.term-index l.more) l.terms.items ≡ add_times l.number l.more l.initial.terms.items;
}
