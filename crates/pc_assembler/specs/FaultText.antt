-- The line by which the assembler tells a fault: one case a text.
use Rattle.std.specs.Prelude.{ℕ, List, [], ◌∷◌, ◌++◌, codes}
use Rattle.std.specs.Fmt.{decimal}
use Rattle.pc_word.specs.Line.{line}
use Rattle.pc_assembly.specs.declared.error.Place.{Place}
use Rattle.pc_assembly.specs.declared.error.Expected.{Expected}
use Rattle.pc_assembly.specs.declared.error.Expected.TheVariants as expect
use Rattle.pc_assembly.specs.Spelling.{word_spelling, mark_byte}
use Rattle.pc_report.specs.declared.fault.ObjectFault.{ObjectFault}
use Rattle.pc_report.specs.declared.fault.ObjectFault.TheVariants as object
use Rattle.pc_report.specs.declared.fault.Speaker.TheVariants.{Pasm}
use Rattle.pc_report.specs.declared.fault.ToolFault.TheVariants as tool
use Rattle.pc_report.specs.FaultLine.{fault_line, object_fault_text}
use Rattle.pc_assembler.specs.declared.fault.AssemblerFault.{AssemblerFault}
use Rattle.pc_assembler.specs.declared.fault.AssemblerFault.TheVariants.{NoMemory, Usage, ReadText, Text, WriteObject}
use Rattle.pc_assembler.specs.declared.fault.TextFault.{TextFault}
use Rattle.pc_assembler.specs.declared.fault.TextFault.TheVariants as fault

-- a word between quotation marks
abbrev pub quoted : List ℕ → List ℕ
quoted word = codes "'" ++ (word ++ codes "'")

-- what a listing was to go on with
abbrev pub expected_text : Expected → List ℕ
expected_text (expect.Word word) = quoted (word_spelling word)
expected_text (expect.Mark mark) = quoted (mark_byte mark ∷ [])
expected_text expect.Limit = codes "a number up to 255"
expected_text expect.Number = codes "a number up to 4294967295"
expected_text expect.RegisterCount = codes "a number up to 65535"
expected_text expect.Register = codes "a register"
expected_text expect.Array = codes "an array"
expected_text expect.Element = codes "the next element of an array"
expected_text expect.Literal = codes "a word"
expected_text expect.Operand = codes "a register or a word"
expected_text expect.Operator = codes "an operator"
expected_text expect.Part = codes "an item, a test or a leaf"
expected_text expect.NoTest = codes "an item or a leaf"
expected_text expect.TrapKind = codes "a kind of trap"
expected_text expect.RowNumber = codes "the number of the next row"
expected_text expect.RowOrName = codes "'row' or the name of a row"
expected_text expect.RowName = codes "a name that a row has"
expected_text expect.NewName = codes "a name that no row before has"
expected_text expect.Form = codes "a form of a loop"
expected_text expect.Reason = codes "what decided the form"
expected_text expect.LineEnd = codes "the end of the line"
expected_text expect.TextEnd = codes "the end of the text"

-- a place in a text
abbrev pub place_text : Place → List ℕ
place_text at = codes "line " ++ (decimal at.line ++ (codes ", column " ++ decimal at.column))

-- that a listing was to go on so
abbrev pub listing_words : Expected → List ℕ
listing_words expected = codes "listing: expected " ++ expected_text expected

-- what is wrong with the object of a listing
abbrev pub object_words : ObjectFault → List ℕ
object_words what = codes "object: " ++ object_fault_text what

-- why a text is refused
abbrev pub text_fault_text : TextFault → List ℕ
text_fault_text fault.TooLong = codes "listing: longer than 4294967296 bytes"
text_fault_text (fault.Unexpected at expected) = listing_words expected ++ (codes " at " ++ place_text at)
text_fault_text (fault.Object at what) = object_words what ++ (codes ", from " ++ place_text at)
text_fault_text fault.ObjectTooLong = object_words object.TooLong

-- the line that tells it
abbrev pub text_fault_line : TextFault → List ℕ
text_fault_line what = line (codes "pasm: " ++ text_fault_text what)

-- the line that tells a fault
abbrev pub assembler_line : AssemblerFault → List ℕ
assembler_line NoMemory = fault_line (tool.NoMemory Pasm)
assembler_line Usage = fault_line (tool.Usage Pasm)
assembler_line (ReadText name) = fault_line (tool.ReadFile Pasm name)
assembler_line (Text what) = text_fault_line what
assembler_line (WriteObject name) = fault_line (tool.WriteFile Pasm name)
