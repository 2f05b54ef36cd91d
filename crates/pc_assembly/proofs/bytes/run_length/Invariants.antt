use Rattle.std.proofs.Common.{◌≡◌, ◌+◌, drop}
use Rattle.std.specs.List.{prefix_len}
use Rattle.pc_assembly.specs.Bytes.{is_in}
use Rattle.pc_assembly.proofs.bytes.run_length.Given as goal

-- each byte before `at` is of the class
abbrev pub invariant-loop-at : goal.invariant-loop-at
invariant-loop-at l = l.at + prefix_len (is_in l.class) (drop l.at l.bytes) ≡ prefix_len (is_in l.class) l.bytes
