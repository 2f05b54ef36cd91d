-- The law of lines, which is the contract of a function of laws.rt that does nothing.
use Rattle.std.specs.Prelude.{◌≡◌, suc, length}
use Rattle.pc_syntax.specs.Source.{ResolvedProgram}
use Rattle.pc_check.specs.Sizes.{resolved_size}
use Rattle.pc_lines.specs.Lines.{lines_of}

-- each node of a program's flow graph but its end has a line
abbrev pub EachNodeHasALine : Type 0
EachNodeHasALine = (program : ResolvedProgram) → suc (length (lines_of program)) ≡ resolved_size program
