use Rattle.std.proofs.Common.{◌≡◌, ◌≤◌, drop}
use Rattle.pc_lexer.specs.Number.{digits_value, as_int, int_max}
use Rattle.pc_lexer.proofs.number.int_of_digits.Given as goal

-- the digits so far spell the value, which is an `int`
abbrev pub invariant-loop-byte : goal.invariant-loop-byte
invariant-loop-byte l = record {
  bound : l.value ≤ int_max;
  rest : as_int (digits_value l.base l.value (drop l.byte-index l.digits)) ≡ as_int (digits_value l.base 0 l.digits);
}
