use Rattle.std.proofs.Common.{◌≡◌, ◌++◌, take}
use Rattle.std.specs.List.{flat_map}
use Rattle.pc_assembly.specs.Assembled.{content_notes}
use Rattle.pc_assembly.proofs.pushing.push_notes.Given as goal

abbrev pub invariant-loop-line : goal.invariant-loop-line
invariant-loop-line l = l.out.items ≡ l.fn.out.items ++ flat_map (λ line. content_notes line.content) (take l.line-index l.lines)
