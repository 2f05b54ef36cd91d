-- The reading of registers, arrays, literals, operands and operators.
use Rattle.std.specs.Prelude.{ℕ, ℤ, pos, neg_ℤ, if◌then◌else◌, ◌==◌, bytes_eq, List, [], ◌∷◌, find, Option, Some, None, Result, Ok}
use Rattle.pc_word.specs.declared.item.OpCode.{OpCode}
use Rattle.pc_word.specs.declared.item.OpCode.TheVariants as ops
use Rattle.pc_word.specs.declared.item.Operand.{Operand}
use Rattle.pc_word.specs.declared.item.Operand.TheVariants.{Name, Lit}
use Rattle.pc_object.specs.Reading.{operators}
use Rattle.pc_view.specs.Words.{operator_words}
use Rattle.pc_assembly.specs.declared.bytes.Class.TheVariants as class
use Rattle.pc_assembly.specs.declared.spelling.Word.TheVariants as word
use Rattle.pc_assembly.specs.declared.error.Complaint.{Complaint}
use Rattle.pc_assembly.specs.declared.error.Expected.{Expected}
use Rattle.pc_assembly.specs.declared.error.Expected.TheVariants as expect
use Rattle.pc_assembly.specs.Bytes.{run, after_run}
use Rattle.pc_assembly.specs.Words.{◌>>=◌, complain, unblank, is_next, word_here, number_here}

-- a register: `r`, and its number right after it
unfoldable pub register_here : List ℕ → Result (ℕ × List ℕ) Complaint
register_here bytes = do
  rest ← word_here expect.Register word.R bytes
  number_here 255 expect.Register rest

-- an array: `a`, and its number right after it
unfoldable pub array_here : List ℕ → Result (ℕ × List ℕ) Complaint
array_here bytes = do
  rest ← word_here expect.Array word.A bytes
  number_here 255 expect.Array rest

-- the word whose digits stand after `-`
unfoldable pub negative_here : Expected → List ℕ → Result (ℤ × List ℕ) Complaint
negative_here expected bytes = do
  number ← number_here 2147483648 expected bytes
  Ok (neg_ℤ (pos number.0), number.1)

-- the word whose digits stand here
unfoldable pub positive_here : Expected → List ℕ → Result (ℤ × List ℕ) Complaint
positive_here expected bytes = do
  number ← number_here 2147483647 expected bytes
  Ok (pos number.0, number.1)

-- a word in decimal digits, with `-` before them where it is negative
unfoldable pub literal_here : Expected → List ℕ → Result (ℤ × List ℕ) Complaint
literal_here expected [] = positive_here expected []
literal_here expected (byte ∷ bytes) = if byte == 45 then negative_here expected bytes else positive_here expected (byte ∷ bytes)

-- a register that is read
abbrev pub name_here : List ℕ → Result (Operand × List ℕ) Complaint
name_here bytes = do
  register ← register_here bytes
  Ok (Name register.0, register.1)

-- a word that is read
abbrev pub value_here : List ℕ → Result (Operand × List ℕ) Complaint
value_here bytes = do
  value ← literal_here expect.Operand bytes
  Ok (Lit value.0, value.1)

-- a register or a word
unfoldable pub operand_here : List ℕ → Result (Operand × List ℕ) Complaint
operand_here bytes = if is_next word.R bytes then name_here bytes else value_here bytes

-- the same after blanks
abbrev pub operand_at : List ℕ → Result (Operand × List ℕ) Complaint
operand_at bytes = operand_here (unblank bytes)

-- the operator that is spelled so
unfoldable pub operator_of : List ℕ → Option OpCode
operator_of spelling = find (λ op. bytes_eq (operator_words op) spelling) operators

-- an operator that stands where these bytes begin and is followed by the others, or the complaint that there is none
abbrev pub operator_or : List ℕ → Option OpCode → List ℕ → Result (OpCode × List ℕ) Complaint
operator_or bytes None rest = complain bytes expect.Operator
operator_or bytes (Some op) rest = Ok (op, rest)

-- an operator: the word `below`, or as many signs as stand there
unfoldable pub operator_here : List ℕ → Result (OpCode × List ℕ) Complaint
operator_here bytes =
    if is_next word.Below bytes then Ok (ops.Below, after_run class.Letter bytes)
    else operator_or bytes (operator_of (run class.Sign bytes)) (after_run class.Sign bytes)
