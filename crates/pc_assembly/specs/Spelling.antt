-- How the words and marks of a listing are spelled.
use Rattle.std.specs.Prelude.{ℕ, List, codes}
use Rattle.pc_assembly.specs.declared.spelling.Word.{Word}
use Rattle.pc_assembly.specs.declared.spelling.Word.TheVariants as word
use Rattle.pc_assembly.specs.declared.spelling.Mark.{Mark}
use Rattle.pc_assembly.specs.declared.spelling.Mark.TheVariants as mark

-- a word by its letters
abbrev pub word_spelling : Word → List ℕ
word_spelling word.Limits = codes "limits"
word_spelling word.Of = codes "of"
word_spelling word.A = codes "a"
word_spelling word.Row = codes "row"
word_spelling word.Items = codes "items"
word_spelling word.Tests = codes "tests"
word_spelling word.Loads = codes "loads"
word_spelling word.And = codes "and"
word_spelling word.Stores = codes "stores"
word_spelling word.Arrays = codes "arrays"
word_spelling word.None = codes "none"
word_spelling word.Registers = codes "registers"
word_spelling word.R = codes "r"
word_spelling word.Yes = codes "yes"
word_spelling word.No = codes "no"
word_spelling word.If = codes "if"
word_spelling word.Goto = codes "goto"
word_spelling word.Stop = codes "stop"
word_spelling word.Trap = codes "trap"
word_spelling word.At = codes "at"
word_spelling word.Line = codes "line"
word_spelling word.Print = codes "print"
word_spelling word.Read = codes "read"
word_spelling word.More = codes "more"
word_spelling word.Below = codes "below"
word_spelling word.Divide = codes "divide"
word_spelling word.By = codes "by"
word_spelling word.Zero = codes "zero"
word_spelling word.Out = codes "out"
word_spelling word.Bounds = codes "bounds"
word_spelling word.End = codes "end"
word_spelling word.Input = codes "input"
word_spelling word.Loop = codes "loop"
word_spelling word.Pipelined = codes "pipelined"
word_spelling word.Packed = codes "packed"
word_spelling word.Plain = codes "plain"
word_spelling word.Rows = codes "rows"
word_spelling word.Live = codes "live"
word_spelling word.Bytes = codes "bytes"
word_spelling word.Window = codes "window"

-- a mark by its byte
abbrev pub mark_byte : Mark → ℕ
mark_byte mark.Colon = 58
mark_byte mark.Comma = 44
mark_byte mark.Semicolon = 59
mark_byte mark.Equals = 61
mark_byte mark.OpenBracket = 91
mark_byte mark.CloseBracket = 93
mark_byte mark.OpenParenthesis = 40
mark_byte mark.CloseParenthesis = 41
