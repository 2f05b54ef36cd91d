use Rattle.std.proofs.Common.{◌≡◌, ◌++◌, ◌≤◌, length, take}
use Rattle.pc_canon.specs.Bytes.{natural_bytes}
use Rattle.pc_canon.proofs.number_bytes.write_digits.Given as goal

-- what is written so far, and then the digits that are left, is the whole; and what was there before stays
abbrev pub invariant-loop-rest : goal.invariant-loop-rest
invariant-loop-rest l = record {
  written : l.bytes.items ++ natural_bytes l.rest ≡ l.fn.bytes.items ++ natural_bytes l.natural;
  before : take (length l.fn.bytes.items) l.bytes.items ≡ l.fn.bytes.items;
  longer : length l.fn.bytes.items ≤ length l.bytes.items;
}

abbrev pub decreases-loop-rest : goal.decreases-loop-rest
decreases-loop-rest l = l.rest
