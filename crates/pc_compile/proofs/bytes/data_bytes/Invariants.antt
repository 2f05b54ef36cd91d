use Rattle.std.proofs.Common.{◌≡◌, ◌+◌, drop}
use Rattle.pc_object.specs.Sizes.{initial_bytes}
use Rattle.pc_object.specs.declared.version.Version.TheVariants.{Ptv2}
use Rattle.pc_compile.proofs.bytes.data_bytes.Given as goal

abbrev pub invariant-loop-words : goal.invariant-loop-words
invariant-loop-words l = l.bytes + initial_bytes Ptv2 (drop l.words-index l.fn.initial) ≡ initial_bytes Ptv2 l.fn.initial
