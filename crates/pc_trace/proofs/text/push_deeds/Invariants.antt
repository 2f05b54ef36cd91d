use Rattle.std.proofs.Common.{◌≡◌, ◌++◌, take, string_bytes}
use Rattle.std.specs.List.{flat_map}
use Rattle.pc_trace.specs.TraceText.{deed_part}
use Rattle.pc_trace.proofs.text.push_deeds.Given as goal

-- the deeds so far stand after the text
abbrev pub invariant-loop-deed : goal.invariant-loop-deed
invariant-loop-deed l = string_bytes l.text ≡ string_bytes l.initial.text ++ flat_map deed_part (take l.deed-index l.deeds)
