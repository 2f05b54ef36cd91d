use Rattle.std.proofs.Common.{◌≡◌, ℕ, ◌+◌, ◌-◌, ◌<◌, ◌≤◌, length}
use Rattle.std.specs.Prelude.{map}
use Rattle.pc_word.specs.SourceLimits.{most_height}
use Rattle.pc_syntax.specs.UnitErasure.{function_of}
use Rattle.pc_parser.specs.models.UnitParser.{functions_at, unit_at}
use Rattle.pc_parser.proofs.Functions.{after_functions}
use Rattle.pc_parser.proofs.function.source_unit.Given as goal

-- the functions so far, and what goes on after them, are what is read from the beginning
abbrev pub invariant-loop-symbol : goal.invariant-loop-symbol
invariant-loop-symbol l = record {
  turns : ℕ;
  enough : length l.tokens < l.place + turns;
  same : unit_at l.tokens most_height ≡ after_functions (map function_of l.functions) l.height (functions_at l.tokens most_height turns l.place);
  low : l.height ≤ most_height;
  inside : l.place ≤ length l.tokens;
}

abbrev pub decreases-loop-symbol : goal.decreases-loop-symbol
decreases-loop-symbol l = length l.tokens - l.place
