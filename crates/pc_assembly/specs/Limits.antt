-- The reading of a listing's first line: the limits of a row, the arrays and the registers.
use Rattle.std.specs.Prelude.{ℕ, zero, suc, if◌then◌else◌, List, [], ◌∷◌, ◌++◌, length, Result, Ok}
use Rattle.pc_word.specs.declared.item.Limits.{Limits}
use Rattle.pc_machine.specs.Registers.{few_registers}
use Rattle.pc_assembly.specs.declared.bytes.Class.TheVariants as class
use Rattle.pc_assembly.specs.declared.spelling.Word.TheVariants as word
use Rattle.pc_assembly.specs.declared.spelling.Mark.TheVariants as mark
use Rattle.pc_assembly.specs.declared.error.Complaint.{Complaint}
use Rattle.pc_assembly.specs.declared.error.Expected.TheVariants as expect
use Rattle.pc_assembly.specs.Bytes.{after_run}
use Rattle.pc_assembly.specs.Words.{◌>>=◌, ◌>>◌, complain, unblank, is_next, is_mark}
use Rattle.pc_assembly.specs.Words.{word_here, word_at, mark_at, number_at, number_is, end_at}
use Rattle.pc_assembly.specs.Parts.{most_number}

-- `limits of a row:`
unfoldable pub title_at : List ℕ → Result (List ℕ) Complaint
title_at bytes = do
  limits ← word_at word.Limits bytes
  of ← word_at word.Of limits
  a ← word_at word.A of
  row ← word_at word.Row a
  mark_at mark.Colon row

-- `loads and stores`
unfoldable pub memory_at : List ℕ → Result (List ℕ) Complaint
memory_at bytes = do
  loads ← word_at word.Loads bytes
  both ← word_at word.And loads
  word_at word.Stores both

-- a number of items, tests, or loads and stores
unfoldable pub limit_at : List ℕ → Result (ℕ × List ℕ) Complaint
limit_at bytes = number_at 255 expect.Limit bytes

-- how many items, tests, and loads and stores a row may have
unfoldable pub limits_at : List ℕ → Result (Limits × List ℕ) Complaint
limits_at bytes = do
  title ← title_at bytes
  ops ← limit_at title
  items ← word_at word.Items ops.1
  comma ← mark_at mark.Comma items
  tests ← limit_at comma
  named ← word_at word.Tests tests.1
  second ← mark_at mark.Comma named
  mem ← limit_at second
  rest ← memory_at mem.1
  Ok (record { ops = ops.0; tests = tests.0; mem = mem.0 }, rest)

-- the array with this number and its length, `a0[64]`
unfoldable pub length_at : ℕ → List ℕ → Result (ℕ × List ℕ) Complaint
length_at number bytes = do
  a ← word_here expect.Array word.A (unblank bytes)
  named ← number_is 255 number expect.Array a
  bracket ← mark_at mark.OpenBracket named
  elements ← number_at most_number expect.Number bracket
  rest ← mark_at mark.CloseBracket elements.1
  Ok (elements.0, rest)

-- after an array: a comma and further arrays, or nothing more
abbrev pub more_lengths : (List ℕ → Result (List ℕ × List ℕ) Complaint) → List ℕ → List ℕ → Result (List ℕ × List ℕ) Complaint
more_lengths further lengths bytes = if is_mark mark.Comma bytes then mark_at mark.Comma bytes >>= further else Ok (lengths, bytes)

-- arrays, after those of these lengths; at most so many
unfoldable pub lengths_from : ℕ → List ℕ → List ℕ → Result (List ℕ × List ℕ) Complaint
lengths_from zero before bytes = complain bytes expect.LineEnd
lengths_from (suc room) before bytes = do
  elements ← length_at (length before) bytes
  more_lengths (lengths_from room (before ++ elements.0 ∷ [])) (before ++ elements.0 ∷ []) (unblank elements.1)

-- `none`, or arrays by their numbers, of which there may be 255
unfoldable pub lengths_here : List ℕ → Result (List ℕ × List ℕ) Complaint
lengths_here bytes = if is_next word.None bytes then Ok ([], after_run class.Letter bytes) else lengths_from 255 [] bytes

-- the arrays: `; arrays:`, and what there are
unfoldable pub arrays_at : List ℕ → Result (List ℕ × List ℕ) Complaint
arrays_at bytes = do
  semicolon ← mark_at mark.Semicolon bytes
  arrays ← word_at word.Arrays semicolon
  colon ← mark_at mark.Colon arrays
  lengths_here (unblank colon)

-- a number of registers
unfoldable pub stated_registers : List ℕ → Result (ℕ × List ℕ) Complaint
stated_registers bytes = do
  semicolon ← mark_at mark.Semicolon bytes
  registers ← word_at word.Registers semicolon
  colon ← mark_at mark.Colon registers
  number_at 65535 expect.RegisterCount colon

-- the number of registers: `; registers: 256`, or nothing where there are the fewer; a comment that begins with `;` may not stand here
unfoldable pub registers_here : List ℕ → Result (ℕ × List ℕ) Complaint
registers_here bytes = if is_mark mark.Semicolon bytes then stated_registers bytes else Ok (few_registers, bytes)

-- what the first line says
pub record Header : Type 0 where
  pub limits : Limits
  pub arrays : List ℕ
  pub registers : ℕ

-- the first line
unfoldable pub header_at : List ℕ → Result Header Complaint
header_at bytes = do
  limits ← limits_at bytes
  arrays ← arrays_at limits.1
  registers ← registers_here (unblank arrays.1)
  end_at registers.1
  Ok (record { limits = limits.0; arrays = arrays.0; registers = registers.0 })
