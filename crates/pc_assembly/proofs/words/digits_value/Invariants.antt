use Rattle.std.proofs.Common.{◌≡◌, ◌≤◌, drop}
use Rattle.pc_assembly.specs.Words.{digits_value}
use Rattle.pc_assembly.proofs.words.digits_value.Given as goal

-- the digits so far spell the value, which is not above the most
abbrev pub invariant-loop-digit : goal.invariant-loop-digit
invariant-loop-digit l = record {
  bound : l.value ≤ l.most;
  rest : digits_value l.most l.value (drop l.digit-index l.digits) ≡ digits_value l.most 0 l.digits;
}
