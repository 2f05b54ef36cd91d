use Rattle.std.proofs.Common.{◌≡◌, map, take}
use Rattle.std.specs.Prelude.{string_bytes}
use Rattle.pc_names.specs.Spellings.{name_bytes, name_of}
use Rattle.pc_names.proofs.names.spelled_names.Given as goal

-- the names of the symbols so far
abbrev pub invariant-loop-symbol : goal.invariant-loop-symbol
invariant-loop-symbol l = map string_bytes l.found ≡ map (name_of (name_bytes l.names)) (take l.symbol-index l.symbols)
