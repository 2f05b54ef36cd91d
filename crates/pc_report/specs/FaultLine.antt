-- The line by which a program tells a fault: one case a text.
use Rattle.std.specs.Prelude.{ℕ, List, ◌++◌, codes}
use Rattle.std.specs.Fmt.{decimal}
use Rattle.pc_machine.specs.declared.code.Flaw.TheVariants as flaw
use Rattle.pc_machine.specs.declared.code.Flaw.{Flaw}
use Rattle.pc_word.specs.declared.item.MachineFault.{MachineFault}
use Rattle.pc_word.specs.declared.item.MachineFault.TheVariants.{StoreOutOfRange, StoredTwice, ReadPastEnd}
use Rattle.pc_word.specs.declared.item.TrapKind.{TrapKind}
use Rattle.pc_word.specs.declared.item.TrapKind.TheVariants.{DivideByZero, OutOfBounds, EndOfInput}
use Rattle.pc_report.specs.declared.fault.Speaker.{Speaker}
use Rattle.pc_report.specs.declared.fault.Speaker.TheVariants.{Pcc, Pvm, Pview, Pstat, Pasm, Pcheck, Pexplain}
use Rattle.pc_report.specs.declared.fault.LineFault.{LineFault}
use Rattle.pc_report.specs.declared.fault.LineFault.TheVariants as at_line
use Rattle.pc_report.specs.declared.fault.SourceFault.{SourceFault}
use Rattle.pc_report.specs.declared.fault.SourceFault.TheVariants as source
use Rattle.pc_report.specs.declared.fault.ObjectFault.{ObjectFault}
use Rattle.pc_report.specs.declared.fault.ObjectFault.TheVariants as object
use Rattle.pc_report.specs.declared.fault.InputFault.{InputFault}
use Rattle.pc_report.specs.declared.fault.InputFault.TheVariants as input
use Rattle.pc_report.specs.declared.fault.ToolFault.{ToolFault}
use Rattle.pc_report.specs.declared.fault.ToolFault.TheVariants as tool
use Rattle.pc_word.specs.Line.{line}

-- the name of a program
abbrev pub speaker_text : Speaker → List ℕ
speaker_text Pcc = codes "pcc"
speaker_text Pvm = codes "pvm"
speaker_text Pview = codes "pview"
speaker_text Pstat = codes "pstat"
speaker_text Pasm = codes "pasm"
speaker_text Pcheck = codes "pcheck"
speaker_text Pexplain = codes "pexplain"

-- how a program is called
abbrev pub usage_text : Speaker → List ℕ
usage_text Pcc = codes "usage: pcc SRC -o OBJ [--ops N] [--tests N] [--mem N] [--window N] [--rows N] [--report]"
usage_text Pvm = codes "usage: pvm OBJ [--cycles N]"
usage_text Pview = codes "usage: pview OBJ [--dot]"
usage_text Pstat = codes "usage: pstat OBJ [--cycles N] [--rows | --trace N | --dot | --json]"
usage_text Pasm = codes "usage: pasm TEXT -o OBJ"
usage_text Pcheck = codes "usage: pcheck SRC OBJ CERT [--make] [--why]"
usage_text Pexplain = codes "usage: pexplain SRC [--ops N] [--tests N] [--mem N] [--window N] [--rows N] [--loop LINE] [--dot | --json]"

-- what is wrong at a line of a source
abbrev pub line_fault_text : LineFault → List ℕ
line_fault_text at_line.BadLiteral = codes "bad literal"
line_fault_text at_line.OpenComment = codes "open comment"
line_fault_text at_line.Syntax = codes "syntax"
line_fault_text at_line.NestedTooDeep = codes "nested too deep"
line_fault_text at_line.Undeclared = codes "undeclared"
line_fault_text at_line.DeclaredTwice = codes "declared twice"
line_fault_text at_line.NotArray = codes "not an array"
line_fault_text at_line.NotScalar = codes "not a scalar"
line_fault_text at_line.BadSize = codes "bad size"
line_fault_text at_line.OutsideLoop = codes "outside a loop"
line_fault_text at_line.TooManyScalars = codes "too many scalars"
line_fault_text at_line.TooManyArrays = codes "too many arrays"
line_fault_text at_line.TooManyElements = codes "too many elements"
line_fault_text at_line.TooManyValues = codes "too many values"
line_fault_text at_line.ExpressionTooDeep = codes "expression too deep"
line_fault_text at_line.FunctionTwice = codes "function twice"
line_fault_text at_line.EarlyReturn = codes "early return"
line_fault_text at_line.ArrayInFunction = codes "array in function"
line_fault_text at_line.LooseJump = codes "jump outside a loop"
line_fault_text at_line.NoFunction = codes "no such function"
line_fault_text at_line.WrongArguments = codes "wrong number of arguments"

-- what is wrong with a source
abbrev pub source_fault_text : SourceFault → List ℕ
source_fault_text source.TooLong = codes "longer than 1048576 bytes"
source_fault_text (source.BadByte offset) = codes "bad byte at offset " ++ decimal offset
source_fault_text source.TooManyTokens = codes "too many tokens"
source_fault_text (source.TooLarge number) = codes "too large: " ++ (decimal number ++ codes " nodes")
source_fault_text source.InlinedTooBig = codes "inlined program too big"
source_fault_text source.InlinedTooHigh = codes "inlined program too high"
source_fault_text (source.AtLine what at) = line_fault_text what ++ (codes " at line " ++ decimal at)

-- the name of a flaw of a field
abbrev pub flaw_text : Flaw → List ℕ
flaw_text flaw.HeaderLimit = codes "HeaderLimit"
flaw_text flaw.ArrayCount = codes "ArrayCount"
flaw_text flaw.ArrayLength = codes "ArrayLength"
flaw_text flaw.Elements = codes "Elements"
flaw_text flaw.Registers = codes "Registers"
flaw_text flaw.DataCount = codes "DataCount"
flaw_text flaw.DataTail = codes "DataTail"
flaw_text flaw.Version = codes "Version"
flaw_text flaw.RowCount = codes "RowCount"
flaw_text flaw.Tag = codes "Tag"
flaw_text flaw.Operator = codes "Operator"
flaw_text flaw.OperandTag = codes "OperandTag"
flaw_text flaw.Register = codes "Register"
flaw_text flaw.Array = codes "Array"
flaw_text flaw.Target = codes "Target"
flaw_text flaw.Trap = codes "Trap"
flaw_text flaw.DestTwice = codes "DestTwice"
flaw_text flaw.EffectTwice = codes "EffectTwice"
flaw_text flaw.TooManyOps = codes "TooManyOps"
flaw_text flaw.TooManyTests = codes "TooManyTests"
flaw_text flaw.TooManyMem = codes "TooManyMem"
flaw_text flaw.Choice = codes "Choice"

-- what is wrong with an object
abbrev pub object_fault_text : ObjectFault → List ℕ
object_fault_text object.TooLong = codes "longer than 16777216 bytes"
object_fault_text object.BadMagic = codes "bad magic"
object_fault_text (object.Truncated offset) = codes "truncated at offset " ++ decimal offset
object_fault_text (object.BadField offset kind) = codes "bad field at offset " ++ (decimal offset ++ (codes ": " ++ flaw_text kind))
object_fault_text (object.Trailing offset) = codes "trailing bytes at offset " ++ decimal offset

-- what is wrong with an input
abbrev pub input_fault_text : InputFault → List ℕ
input_fault_text input.TooLong = codes "longer than 16777216 bytes"
input_fault_text (input.NotNumber offset) = codes "not a number at offset " ++ decimal offset

-- why a machine could not run a row
abbrev pub machine_fault_text : MachineFault → List ℕ
machine_fault_text StoreOutOfRange = codes "store out of range"
machine_fault_text StoredTwice = codes "element stored twice"
machine_fault_text ReadPastEnd = codes "read past end"

-- why a program was stopped
abbrev pub trap_text : TrapKind → List ℕ
trap_text DivideByZero = codes "divide by zero"
trap_text OutOfBounds = codes "out of bounds"
trap_text EndOfInput = codes "end of input"

-- that a program failed to read a file, or what else has this name
abbrev pub read_failed_text : Speaker → List ℕ → List ℕ
read_failed_text who name = speaker_text who ++ (codes ": read failed: " ++ name)

-- that a program failed to write a file, or what else has this name
abbrev pub write_failed_text : Speaker → List ℕ → List ℕ
write_failed_text who name = speaker_text who ++ (codes ": write failed: " ++ name)

-- a fault in words
abbrev pub tool_fault_text : ToolFault → List ℕ
tool_fault_text (tool.NoMemory who) = speaker_text who ++ codes ": out of memory"
tool_fault_text (tool.Usage who) = usage_text who
tool_fault_text (tool.ReadFile who name) = read_failed_text who name.now
tool_fault_text (tool.ReadInput who) = read_failed_text who (codes "input")
tool_fault_text (tool.Source who fault) = speaker_text who ++ (codes ": source: " ++ source_fault_text fault)
tool_fault_text (tool.Object who fault) = speaker_text who ++ (codes ": object: " ++ object_fault_text fault)
tool_fault_text (tool.Input who fault) = speaker_text who ++ (codes ": input: " ++ input_fault_text fault)
tool_fault_text (tool.WriteFile who name) = write_failed_text who name.now
tool_fault_text (tool.WriteOutput who) = write_failed_text who (codes "output")
tool_fault_text (tool.Budget number) = codes "pvm: budget of " ++ (decimal number ++ codes " cycles spent")
tool_fault_text (tool.Machine fault) = codes "pvm: machine fault: " ++ machine_fault_text fault
tool_fault_text (tool.Trap kind at) = codes "pvm: trap: " ++ (trap_text kind ++ (codes " at line " ++ decimal at))

-- the line that tells a fault
abbrev pub fault_line : ToolFault → List ℕ
fault_line fault = line (tool_fault_text fault)
