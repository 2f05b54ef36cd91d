-- The reading of the parts of a row: items, tests and leaves, in the notation of listings.
use Rattle.std.specs.Prelude.{ℕ, if◌then◌else◌, List, Result, Ok}
use Rattle.pc_word.specs.declared.item.Item.{Item}
use Rattle.pc_word.specs.declared.item.TrapKind.{TrapKind}
use Rattle.pc_word.specs.declared.item.TrapKind.TheVariants.{DivideByZero, OutOfBounds, EndOfInput}
use Rattle.pc_machine.specs.declared.tree.Leaf.{Leaf}
use Rattle.pc_machine.specs.declared.tree.Leaf.TheVariants.{Goto, Stop, Trap}
use Rattle.pc_assembly.specs.declared.bytes.Class.TheVariants as class
use Rattle.pc_assembly.specs.declared.spelling.Word.{Word}
use Rattle.pc_assembly.specs.declared.spelling.Word.TheVariants as word
use Rattle.pc_assembly.specs.declared.spelling.Mark.TheVariants as mark
use Rattle.pc_assembly.specs.declared.error.Complaint.{Complaint}
use Rattle.pc_assembly.specs.declared.error.Expected.TheVariants as expect
use Rattle.pc_assembly.specs.declared.part.Part.{Part}
use Rattle.pc_assembly.specs.declared.part.Part.TheVariants as part
use Rattle.pc_assembly.specs.Bytes.{after_run}
use Rattle.pc_assembly.specs.Words.{◌>>=◌, complain, unblank, is_next, word_at, mark_at, number_or, number_at}
use Rattle.pc_assembly.specs.Names.{Names, name_here, row_named}
use Rattle.pc_assembly.specs.Operands.{operand_at}
use Rattle.pc_assembly.specs.Items.{assignment_here, store_here, print_at}

-- the greatest number of four bytes
abbrev pub most_number : ℕ
most_number = 4294967295

-- what stands after `if`
unfoldable pub test_at : List ℕ → Result (Part × List ℕ) Complaint
test_at bytes = do
  on ← operand_at bytes
  Ok (part.Test on.0, on.1)

-- the row with the number that stands after the word `row`
unfoldable pub numbered_row : List ℕ → Result (ℕ × List ℕ) Complaint
numbered_row bytes = number_at most_number expect.Number (after_run class.Letter bytes)

-- the row with the name that stands here
unfoldable pub named_row : Names → List ℕ → Result (ℕ × List ℕ) Complaint
named_row names bytes = do
  name ← name_here bytes
  number_or bytes expect.RowName (row_named names name.0) name.1

-- the row to which a goto leads
unfoldable pub target_here : Names → List ℕ → Result (ℕ × List ℕ) Complaint
target_here names bytes = if is_next word.Row bytes then numbered_row bytes else named_row names bytes

-- what stands after `goto`
unfoldable pub goto_at : Names → List ℕ → Result (Leaf × List ℕ) Complaint
goto_at names bytes = do
  row ← target_here names (unblank bytes)
  Ok (Goto row.0, row.1)

-- a kind of trap whose first word stands here, and two further words
abbrev pub kind_by : TrapKind → Word → Word → List ℕ → Result (TrapKind × List ℕ) Complaint
kind_by kind second third bytes = do
  middle ← word_at second (after_run class.Letter bytes)
  rest ← word_at third middle
  Ok (kind, rest)

-- why a run is stopped
unfoldable pub trap_kind_here : List ℕ → Result (TrapKind × List ℕ) Complaint
trap_kind_here bytes =
    if is_next word.Divide bytes then kind_by DivideByZero word.By word.Zero bytes
    else (if is_next word.Out bytes then kind_by OutOfBounds word.Of word.Bounds bytes
    else (if is_next word.End bytes then kind_by EndOfInput word.Of word.Input bytes
    else complain bytes expect.TrapKind))

-- what stands after `trap`
unfoldable pub trap_at : List ℕ → Result (Leaf × List ℕ) Complaint
trap_at bytes = do
  colon ← mark_at mark.Colon bytes
  kind ← trap_kind_here (unblank colon)
  at ← word_at word.At kind.1
  rest ← word_at word.Line at
  line ← number_at most_number expect.Number rest
  Ok (Trap kind.0 line.0, line.1)

-- a leaf; anything else is no part of a row
unfoldable pub leaf_here : Names → List ℕ → Result (Leaf × List ℕ) Complaint
leaf_here names bytes =
    if is_next word.Goto bytes then goto_at names (after_run class.Letter bytes)
    else (if is_next word.Stop bytes then Ok (Stop, after_run class.Letter bytes)
    else (if is_next word.Trap bytes then trap_at (after_run class.Letter bytes)
    else complain bytes expect.Part))

-- an item as a part of a row
abbrev pub item_part : Result (Item × List ℕ) Complaint → Result (Part × List ℕ) Complaint
item_part read = read >>= λ item. Ok (part.Item item.0, item.1)

-- a leaf as a part of a row
abbrev pub leaf_part : Result (Leaf × List ℕ) Complaint → Result (Part × List ℕ) Complaint
leaf_part read = read >>= λ leaf. Ok (part.Leaf leaf.0, leaf.1)

-- a part of a row, by the names of the rows
unfoldable pub part_here : Names → List ℕ → Result (Part × List ℕ) Complaint
part_here names bytes =
    if is_next word.R bytes then item_part (assignment_here bytes)
    else (if is_next word.A bytes then item_part (store_here bytes)
    else (if is_next word.Print bytes then item_part (print_at (after_run class.Letter bytes))
    else (if is_next word.If bytes then test_at (after_run class.Letter bytes)
    else leaf_part (leaf_here names bytes))))
