-- An object as a text to be read: its limits, arrays and their data, its rows, and its notes.
use Rattle.std.specs.Prelude.{ℕ, zero, suc, if◌then◌else◌, nat_eq, List, [], ◌∷◌, ◌++◌, length, map, codes, Option, Some, None, slice_get}
use Rattle.std.specs.List.{count_by, flat_map}
use Rattle.std.specs.Fmt.{decimal}
use Rattle.pc_word.specs.Line.{line}
use Rattle.pc_word.specs.Items.{is_memory}
use Rattle.pc_word.specs.Row.{items_of, tests_of}
use Rattle.pc_word.specs.declared.item.Limits.{Limits}
use Rattle.pc_machine.specs.MachineCode.{CodeRow, RowCode}
use Rattle.pc_machine.specs.Registers.{few_registers}
use Rattle.pc_object.specs.ObjectText.{CodeWithNotes}
use Rattle.pc_report.specs.Report.{note_words}
use Rattle.pc_view.specs.DataLines.{all_data_lines}
use Rattle.pc_view.specs.Leading.{rows_leading_to}
use Rattle.pc_view.specs.Tally.{RunTally, cycle_words}
use Rattle.pc_view.specs.Tree.{tree_lines}

-- ---- lists in a line

-- what stands in front of an element of a list by its number: a blank in front of the first, a comma and a blank in front of another
abbrev pub separator : ℕ → List ℕ
separator zero = codes " "
separator (suc number) = codes ", "

-- the arrays, numbered from `number` on, with their lengths
abbrev pub arrays_from : ℕ → List ℕ → List ℕ
arrays_from number [] = []
arrays_from number (length ∷ rest) =
    separator number ++ (codes "a" ++ (decimal number ++ (codes "[" ++ (decimal length ++ (codes "]" ++ arrays_from (suc number) rest)))))

-- the arrays, if there are any
abbrev pub array_words : List ℕ → List ℕ
array_words [] = codes "; arrays: none"
array_words (length ∷ rest) = codes "; arrays:" ++ arrays_from 0 (length ∷ rest)

-- numbers of rows, of which the first is the element `place` of its list
abbrev pub row_numbers_from : ℕ → List ℕ → List ℕ
row_numbers_from place [] = []
row_numbers_from place (number ∷ rest) = separator place ++ (decimal number ++ row_numbers_from (suc place) rest)

-- the rows that lead to a row, if there are any
abbrev pub leading_words : List ℕ → List ℕ
leading_words [] = codes "; from rows: none"
leading_words (number ∷ rest) = codes "; from rows:" ++ row_numbers_from 0 (number ∷ rest)

-- ---- lines

-- how many items, tests, and loads and stores a row may have
unfoldable pub limit_words : Limits → List ℕ
limit_words limits =
    codes "limits of a row: " ++ (decimal limits.ops ++ (codes " items, " ++ (decimal limits.tests ++ (codes " tests, "
    ++ (decimal limits.mem ++ codes " loads and stores")))))

-- how many registers there are, where these are not the fewer
abbrev pub register_words : ℕ → List ℕ
register_words registers = if nat_eq registers few_registers then [] else codes "; registers: " ++ decimal registers

-- the limits, the arrays and the registers
abbrev pub limits_line : RowCode → List ℕ
limits_line code = limit_words code.limits ++ (array_words code.arrays ++ register_words code.registers)

-- the number of a row, and how many items, tests, and loads and stores it has of how many it may have
unfoldable pub count_words : Limits → ℕ → CodeRow → List ℕ
count_words limits number row =
    codes "row " ++ (decimal number ++ (codes ": " ++ (decimal (length (items_of row)) ++ (codes " of " ++ (decimal limits.ops ++ (codes " items, "
    ++ (decimal (length (tests_of row)) ++ (codes " of " ++ (decimal limits.tests ++ (codes " tests, "
    ++ (decimal (count_by is_memory (items_of row)) ++ (codes " of " ++ (decimal limits.mem ++ codes " loads and stores")))))))))))))

-- that, which rows lead to it, and how often it ran, where that is told
abbrev pub heading : Option RunTally → Limits → ℕ → CodeRow → List ℕ → List ℕ
heading told limits number row leading = count_words limits number row ++ (leading_words leading ++ cycle_words told number)

-- a row of a code: its heading, and its tree after four blanks
abbrev pub row_lines : Option RunTally → RowCode → ℕ → CodeRow → List (List ℕ)
row_lines told code number row =
    heading told code.limits number row (rows_leading_to number 0 code.rows)
    ∷ tree_lines told number 0 (codes "    ") (codes "    ") row

-- rows of a code, numbered from `number` on
abbrev pub rows_lines : Option RunTally → RowCode → ℕ → List CodeRow → List (List ℕ)
rows_lines told code number [] = []
rows_lines told code number (row ∷ rest) = row_lines told code number row ++ rows_lines told code (suc number) rest

-- the lines of an object, with how often its rows ran and their leaves were taken, where that is told
abbrev pub listing_lines : Option RunTally → CodeWithNotes → List (List ℕ)
listing_lines told object =
    limits_line object.code
    ∷ (all_data_lines 0 object.code.initial ++ (rows_lines told object.code 0 object.code.rows ++ map note_words object.notes))

-- ---- the text

-- lines, each with a line feed after it
abbrev pub lines_text : List (List ℕ) → List ℕ
lines_text lines = flat_map line lines

-- the text of an object
abbrev pub listing_text : CodeWithNotes → List ℕ
listing_text object = lines_text (listing_lines None object)

-- the text of an object that was run, with how often each row ran and each of its leaves was taken
abbrev pub tallied_listing_text : RunTally → CodeWithNotes → List ℕ
tallied_listing_text tally object = lines_text (listing_lines (Some tally) object)

-- the text of one row of a code, by its number, if it is there
abbrev pub found_row_text : RowCode → ℕ → Option CodeRow → List ℕ
found_row_text code number (Some row) = lines_text (row_lines None code number row)
found_row_text code number None = []

-- the text of the row with a number, or nothing where the code has no such row
abbrev pub row_text : RowCode → ℕ → List ℕ
row_text code number = found_row_text code number (slice_get code.rows number)
