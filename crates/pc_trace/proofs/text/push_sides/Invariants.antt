use Rattle.std.proofs.Common.{◌≡◌, ◌++◌, take, string_bytes}
use Rattle.std.specs.List.{flat_map}
use Rattle.pc_trace.specs.TraceText.{side_part}
use Rattle.pc_trace.proofs.text.push_sides.Given as goal

-- the sides so far stand after the text
abbrev pub invariant-loop-side : goal.invariant-loop-side
invariant-loop-side l = string_bytes l.text ≡ string_bytes l.initial.text ++ flat_map side_part (take l.side-index l.sides)
